use Rattle.std.proofs.Common.{◌++◌, ◌+◌, List, drop, subst, sym}
use Rattle.std.proofs.Math.ListN.{drop_of_length-le}
use Rattle.sdv_telling.specs.Statements.{Text}
use Rattle.sdv_audit.specs.declared.notes.Topic.{Topic}
use Rattle.sdv_audit.specs.Notes.{HasNotes, notes_at}
use Rattle.sdv_audit.proofs.NoteLaws.{NotesBefore, all_noted, from_place, one_noted}
use Rattle.sdv_audit.proofs.notes.notes_text.Goals as goal

pub loop-topic-init : goal.loop-topic-init
loop-topic-init c rest told =
    let at = c.args.at in
    subst (λ (t : Text). HasNotes at.style (notes_at at.style at.number at.line.now at.premises c.args.found.now c.args.topics.now) (t ++ rest))
    (sym c.new-text.ensures.items) told

pub loop-topic-preserved : goal.loop-topic-preserved
loop-topic-preserved c =
    let at = c.args.at in
    let topics = c.args.topics.now in
    let i = c.loop-topic.topic-index in
    let added = c.in_ok-put_topic.ensures in
    one_noted at.style at.number at.line.now at.premises c.args.found.now topics (drop (i + 1) topics) _ c.loop-topic.text.items c.put_topic.new.text.items added.0
    added.1 added.2
    (subst (λ (left : List Topic). NotesBefore at.style at.number at.line.now at.premises c.args.found.now topics left c.loop-topic.text.items)
    (from_place topics i _ c.loop-topic-test.true) c.loop-topic.invariant)

pub returns : goal.returns
returns c =
    let at = c.args.at in
    let topics = c.args.topics.now in
    all_noted at.style at.number at.line.now at.premises c.args.found.now topics c.loop-topic.text.items
    (subst (λ (left : List Topic). NotesBefore at.style at.number at.line.now at.premises c.args.found.now topics left c.loop-topic.text.items)
    (drop_of_length-le topics c.loop-topic-test.false) c.loop-topic.invariant)
