use Rattle.std.proofs.Common.{◌≡◌, drop, map}
use Rattle.std.specs.List.{list_any}
use Rattle.std.specs.Str.{bytes_eq}
use Rattle.sdv_verdict.proofs.allowed.Allowed.names.Given as goal

-- none of the kinds so far is the word
abbrev pub invariant-loop-kind : goal.invariant-loop-kind
invariant-loop-kind l = list_any (λ kind. bytes_eq kind l.word) (map (λ kind. kind.now) (drop l.kind-index l.self.kinds.now))
    ≡ list_any (λ kind. bytes_eq kind l.word) (map (λ kind. kind.now) l.self.kinds.now)
