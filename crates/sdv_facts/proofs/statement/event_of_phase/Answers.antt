use Rattle.std.proofs.Common.{rules}
use Rattle.sdv_facts.proofs.statement.event_of_phase.Goals as goal

pub returns-in-GiveBlocks : goal.returns-in-GiveBlocks
returns-in-GiveBlocks c = search rules
