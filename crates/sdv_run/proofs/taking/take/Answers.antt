use Rattle.std.proofs.Common.{rules, map}
use Rattle.sdv_card.specs.ScriptEvent.{Answered}
use Rattle.sdv_graph.specs.Graph.{seen_case}
use Rattle.sdv_run.specs.Standing.{host_of}
use Rattle.sdv_run.proofs.Takes.{narrow_way, narrow_end, led_end, took_end}
use Rattle.sdv_run.proofs.taking.take.Goals as goal

pub go_to-requires : goal.go_to-requires
go_to-requires c =
    let standing = c.args.standing.now in
    let event = rw c.in-Send.is at c.requires.event in
    let narrow = rw c.in-Send.is at c.requires.narrow in
    let fits = narrow_way standing.host.kind c.in-Send.command (map seen_case c.in-Send.cases.items) c.in-Send.other standing.turns.items
    (host_of standing.host) event narrow (Answered c.in-Answered.answer) in
    search (rules, fits, c.way.ensures, c.take_answer.ensures.kind, c.deref.ensures)

pub go_on-requires : goal.go_on-requires
go_on-requires c =
    let standing = c.args.standing.now in
    narrow_end standing.host.kind c.in-Phase.phase c.in-Phase.well c.in-Phase.other standing.turns.items (host_of standing.host)
    (rw c.in-Phase.is at c.requires.narrow) c.in_ok-ended_well-in-Phase.ended_well

pub returns-in_ok-ended_well-in-Phase-clause-took :
    goal.returns-in_ok-ended_well-in-Phase-clause-took
returns-in_ok-ended_well-in-Phase-clause-took c =
    let standing = c.args.standing.now in
    rw (c.in-Phase.is, c.go_on.ensures.stand)
    (took_end standing.host.kind c.in-Phase.phase c.in-Phase.well c.in-Phase.other standing.turns.items (host_of standing.host) c.args.returned.now
    (host_of c.take_phase.new.host) c.in_ok-ended_well-in-Phase.ended_well c.in_ok-ended_well-in-Phase.ensures.taken)

pub returns-in_ok-ended_well-in-Phase-clause-led :
    goal.returns-in_ok-ended_well-in-Phase-clause-led
returns-in_ok-ended_well-in-Phase-clause-led c =
    let standing = c.args.standing.now in
    rw (c.in-Phase.is, c.go_on.ensures.stand)
    (led_end standing.host.kind c.in-Phase.phase c.in-Phase.well c.in-Phase.other standing.turns.items (host_of standing.host) (host_of c.take_phase.new.host)
    c.in_ok-ended_well-in-Phase.ended_well)
