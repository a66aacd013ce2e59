use Rattle.std.proofs.Common.{◌≡◌, ◌∙◌, ap, Err, List, map, option_map, rules, subst}
use Rattle.sdv_telling.specs.Statements.{Text}
use Rattle.sdv_decode.specs.Decoded.{at_first}
use Rattle.sdv_decode.proofs.ReadLaws.{SoFar, ends, lacks_on, left_from, none_left, passed_on, stopped_on}
use Rattle.sdv_decode.proofs.decoding.decode_lines.Goals as goal

pub returns-in-Stopped-clause-reads : goal.returns-in-Stopped-clause-reads
returns-in-Stopped-clause-reads c =
    stopped_on c.args.form (at_first c.args.graph.now (option_map (λ bytes. bytes.now) c.args.given)) (map (λ line. line.items) c.args.lines.now) _ _ _ _ _ _ _
    c.loop-place.reading _ c.loop-place.invariant.so_far
    (left_from (λ line. line.items) c.args.lines.now c.loop-place.place c.index-lines-place.result c.loop-place-test.true c.index-lines-place.is)
    c.loop-place.invariant.form c.as_slice.ensures.value (ap (map (λ line. line.items)) c.lines_behind-behind.ensures) c.in_ok-take.field-0 c.in_ok-take.ensures.steps c.in-Stopped.off c.in-Stopped.is

pub loop-place-preserved : goal.loop-place-preserved
loop-place-preserved c = record {
  form = c.in_ok-take.ensures.form ∙ c.loop-place.invariant.form;
  so_far = passed_on c.args.form (at_first c.args.graph.now (option_map (λ bytes. bytes.now) c.args.given)) (map (λ line. line.items) c.args.lines.now) _ _ _ _ _ _ _
      c.loop-place.reading _ c.loop-place.invariant.so_far
      (left_from (λ line. line.items) c.args.lines.now c.loop-place.place c.index-lines-place.result c.loop-place-test.true c.index-lines-place.is)
      c.loop-place.invariant.form c.as_slice.ensures.value (ap (map (λ line. line.items)) c.lines_behind-behind.ensures) c.in_ok-take.field-0 c.in_ok-take.ensures.steps c.in-Passed.is;
}

pub returns-clause-reads : goal.returns-clause-reads
returns-clause-reads c =
    let first = at_first c.args.graph.now (option_map (λ bytes. bytes.now) c.args.given) in
    let all = map (λ line. line.items) c.args.lines.now in
    let none = none_left (λ line. line.items) c.args.lines.now c.loop-place.place c.loop-place-test.false in
    ends c.args.form first all c.loop-place.text.items c.loop-place.reading
    (subst (λ (left : List Text). SoFar c.args.form first all left c.loop-place.text.items c.loop-place.reading) none c.loop-place.invariant.so_far)

pub returns-in_err-take-clause-room : goal.returns-in_err-take-clause-room
returns-in_err-take-clause-room c =
    let is : c.from_residual-in_err-take.result ≡ Err c.in_err-take.field-0.0 = search rules in
    rw is (λ room.
    lacks_on c.args.form (at_first c.args.graph.now (option_map (λ bytes. bytes.now) c.args.given)) (map (λ line. line.items) c.args.lines.now) _ _ _ _ _ _
    c.loop-place.reading c.loop-place.invariant.so_far
    (left_from (λ line. line.items) c.args.lines.now c.loop-place.place c.index-lines-place.result c.loop-place-test.true c.index-lines-place.is)
    c.as_slice.ensures.value (ap (map (λ line. line.items)) c.lines_behind-behind.ensures) (c.in_err-take.ensures.room room))
