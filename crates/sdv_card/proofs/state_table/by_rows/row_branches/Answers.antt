use Rattle.std.proofs.Common.{rules, arith}
use Rattle.std.proofs.lemmas.Grind.{common_steps}
use Rattle.sdv_card.proofs.state_table.by_rows.row_branches.Goals as goal

pub with_seen-requires : goal.with_seen-requires
with_seen-requires g c = search rules

pub with_seen-requires-in-NotAddressed : goal.with_seen-requires-in-NotAddressed
with_seen-requires-in-NotAddressed g c = search rules

pub with_seen-requires-in-NotAddressed-2 : goal.with_seen-requires-in-NotAddressed-2
with_seen-requires-in-NotAddressed-2 g c = search rules

pub add_lost-requires : goal.add_lost-requires
add_lost-requires g c = search rules

pub statuses-requires : goal.statuses-requires
statuses-requires g c = search rules

pub add_lost-requires-in-NewAddress : goal.add_lost-requires-in-NewAddress
add_lost-requires-in-NewAddress g c = search rules

pub statuses-requires-in-NewAddress : goal.statuses-requires-in-NewAddress
statuses-requires-in-NewAddress g c = grind (arith, common_steps)

pub add_lost-requires-in-Contents : goal.add_lost-requires-in-Contents
add_lost-requires-in-Contents g c = search rules

pub with_seen-requires-in-Contents : goal.with_seen-requires-in-Contents
with_seen-requires-in-Contents g c = search rules

pub add_lost-requires-in-Conditions : goal.add_lost-requires-in-Conditions
add_lost-requires-in-Conditions g c = search rules

pub with_conditions-requires : goal.with_conditions-requires
with_conditions-requires g c = search rules

pub returns-in-Absent-clause-items : goal.returns-in-Absent-clause-items
returns-in-Absent-clause-items g c = search rules

pub returns-in-Absent-clause-few : goal.returns-in-Absent-clause-few
returns-in-Absent-clause-few g c = search rules

pub returns-in-NotAddressed-clause-items : goal.returns-in-NotAddressed-clause-items
returns-in-NotAddressed-clause-items g c = grind (arith, common_steps)

pub returns-in-NotAddressed-clause-few : goal.returns-in-NotAddressed-clause-few
returns-in-NotAddressed-clause-few g c = search rules

pub returns-in-CardStatus-clause-items : goal.returns-in-CardStatus-clause-items
returns-in-CardStatus-clause-items g c = grind (arith, common_steps)

pub returns-in-CardStatus-clause-few : goal.returns-in-CardStatus-clause-few
returns-in-CardStatus-clause-few g c = search rules

pub returns-in-NewAddress-clause-items : goal.returns-in-NewAddress-clause-items
returns-in-NewAddress-clause-items g c = grind (arith, common_steps)

pub returns-in-NewAddress-clause-few : goal.returns-in-NewAddress-clause-few
returns-in-NewAddress-clause-few g c = grind (arith, common_steps)

pub returns-in-Contents-clause-items : goal.returns-in-Contents-clause-items
returns-in-Contents-clause-items g c = grind (arith, common_steps)

pub returns-in-Contents-clause-few : goal.returns-in-Contents-clause-few
returns-in-Contents-clause-few g c = search rules

pub returns-in-Conditions-clause-items : goal.returns-in-Conditions-clause-items
returns-in-Conditions-clause-items g c = grind (arith, common_steps)

pub returns-in-Conditions-clause-few : goal.returns-in-Conditions-clause-few
returns-in-Conditions-clause-few g c = search rules
