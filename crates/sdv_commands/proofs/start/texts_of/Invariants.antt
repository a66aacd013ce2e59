use Rattle.std.proofs.Common.{◌≡◌, map, take}
use Rattle.std.specs.Prelude.{string_bytes}
use Rattle.clap.specs.Walk.{texts}
use Rattle.sdv_commands.proofs.start.texts_of.Given as goal

-- the words so far are there
abbrev pub invariant-loop-word : goal.invariant-loop-word
invariant-loop-word l = texts l.all.items ≡ map string_bytes (take l.word-index l.words)
