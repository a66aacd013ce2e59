use Rattle.std.proofs.Common.{arith, rules}
use Rattle.std.proofs.lemmas.Grind.{common_steps}
use Rattle.sdv_card.proofs.state_table.by_rows.add_lost.Goals as goal

pub slice_bounds-with_seen-end : goal.slice_bounds-with_seen-end
slice_bounds-with_seen-end g c = search rules

pub with_seen-requires : goal.with_seen-requires
with_seen-requires g c = search rules

pub taken-requires : goal.taken-requires
taken-requires g c κs = search rules

pub as_slice-requires : goal.as_slice-requires
as_slice-requires g c = search rules

pub with_seen-requires-2 : goal.with_seen-requires-2
with_seen-requires-2 g c = search rules

pub response-requires : goal.response-requires
response-requires g c = search rules

pub slice_bounds-stayed-end : goal.slice_bounds-stayed-end
slice_bounds-stayed-end g c = search rules

pub stayed-stay-requires : goal.stayed-stay-requires
stayed-stay-requires g c = search rules

pub as_slice-requires-in-CardStatus : goal.as_slice-requires-in-CardStatus
as_slice-requires-in-CardStatus g c = search rules

pub with_seen-requires-in-CardStatus : goal.with_seen-requires-in-CardStatus
with_seen-requires-in-CardStatus g c = search rules

pub returns-in-CardStatus-clause-items : goal.returns-in-CardStatus-clause-items
returns-in-CardStatus-clause-items g c = grind (arith, common_steps)

pub returns-in-CardStatus-clause-few : goal.returns-in-CardStatus-clause-few
returns-in-CardStatus-clause-few g c = search rules

pub returns-in-Absent : goal.returns-in-Absent
returns-in-Absent g c = grind (arith, common_steps)
