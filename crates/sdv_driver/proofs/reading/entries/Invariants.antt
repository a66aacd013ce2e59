use Rattle.std.proofs.Common.{◌≡◌}
use Rattle.sdv_script.specs.Place.{names_of, progress_of, texts, tokens_at}
use Rattle.sdv_driver.specs.Reading.{read_entries, read_all_entries}
use Rattle.sdv_driver.specs.Views.{entries_of}
use Rattle.sdv_driver.proofs.EntryLaws.{behind}
use Rattle.sdv_driver.proofs.reading.entries.Given as goal

-- the entries that were read, before those that are still to be read, are all
abbrev pub invariant-loop-left : goal.invariant-loop-left
invariant-loop-left l =
    behind (entries_of l.read.items) (read_entries l._left (names_of l.names) (texts l.words.items) (progress_of l.from))
    ≡ read_all_entries (names_of l.fn.names) (tokens_at l.fn.at)
