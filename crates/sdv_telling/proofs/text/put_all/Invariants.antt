use Rattle.std.proofs.Common.{◌≡◌, ◌++◌, drop, flat_map}
use Rattle.sdv_telling.proofs.text.put_all.Given as goal

-- what is written, and what is still to be, are all
abbrev pub invariant-loop-words : goal.invariant-loop-words
invariant-loop-words l =
    l.text.items ++ flat_map (λ w. w.now) (drop l.words-index l.pieces) ≡ l.fn.text.items ++ flat_map (λ w. w.now) l.pieces
