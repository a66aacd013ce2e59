use Rattle.clap.specs.Walk.{texts}
use Rattle.sdv_search.specs.Table.{fails}
use Rattle.sdv_commands.specs.Sweep.{SweptUpTo}
use Rattle.sdv_commands.proofs.sweeping.tables.Given as goal

-- whether something was found beside the cards so far
abbrev pub invariant-loop-card : goal.invariant-loop-card
invariant-loop-card g l =
    SweptUpTo (g.S.Store.known l.files) l.given.script.now l.given.input.now (texts l.names.more_cards.items) l.card-index (fails l.first) l.is_found
