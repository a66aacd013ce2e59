use Rattle.std.proofs.Common.{◌≡◌, ◌++◌, drop}
use Rattle.sdv_emit.specs.CText.{word_lines}
use Rattle.sdv_emit.proofs.words.put_words.Given as goal

-- what is written, and what is still to be, are all
abbrev pub invariant-loop-number : goal.invariant-loop-number
invariant-loop-number l =
    l.text.items ++ word_lines l.number (drop l.number l.words) ≡ l.fn.text.items ++ word_lines 0 l.words
