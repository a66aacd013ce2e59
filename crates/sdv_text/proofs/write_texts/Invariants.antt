use Rattle.std.proofs.Common.{flat_map, take, Bor, List, ℕ}
use Rattle.std.specs.Io.KnownBytes.{Appends}
use Rattle.sdv_text.proofs.write_texts.Given as goal

-- the texts before this one are written
abbrev pub invariant-loop-text : goal.invariant-loop-text
invariant-loop-text g l =
    Appends (g.W.Write.contents l.fn.out) (g.W.Write.contents l.out) (flat_map (λ (text : Bor (List ℕ)). text.now) (take l.text-index l.texts))
