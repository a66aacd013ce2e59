use Rattle.std.proofs.Common.{◌≡◌, ◌∙◌, ap, Err, List, map, option_map, rules, subst}
use Rattle.sdv_telling.specs.Statements.{Text}
use Rattle.sdv_decode.specs.Decoded.{at_first}
use Rattle.sdv_decode.proofs.LinedLaws.{PutSoFar, ends, lacks_on, put_off, put_on}
use Rattle.sdv_decode.proofs.ReadLaws.{left_from, none_left}
use Rattle.sdv_decode.proofs.lined.put_in_lines.Goals as goal

pub returns-in-Stopped-clause-puts : goal.returns-in-Stopped-clause-puts
returns-in-Stopped-clause-puts c =
    put_off (at_first c.args.graph.now (option_map (λ bytes. bytes.now) c.args.given)) (map (λ line. line.items) c.args.lines.now) _ _ _ _ _ _ _ _
    c.loop-place.reading _ c.loop-place.invariant.so_far
    (left_from (λ line. line.items) c.args.lines.now c.loop-place.place c.index-lines-place.result c.loop-place-test.true c.index-lines-place.is)
    c.loop-place.invariant.form c.as_slice-line.ensures.value (ap (map (λ line. line.items)) c.lines_behind-behind.ensures)
    c.in_ok-take.field-0 c.in_ok-take.ensures.steps c.in-Stopped.off _ c.in-Stopped.is c.in_ok-put_line-in-Stopped.ensures

pub loop-place-preserved : goal.loop-place-preserved
loop-place-preserved c = record {
  form = c.in_ok-take.ensures.form ∙ c.loop-place.invariant.form;
  so_far = put_on (at_first c.args.graph.now (option_map (λ bytes. bytes.now) c.args.given)) (map (λ line. line.items) c.args.lines.now) _ _ _ _ _ _ _ _
      c.loop-place.reading _ c.loop-place.invariant.so_far
      (left_from (λ line. line.items) c.args.lines.now c.loop-place.place c.index-lines-place.result c.loop-place-test.true c.index-lines-place.is)
      c.loop-place.invariant.form c.as_slice-line.ensures.value (ap (map (λ line. line.items)) c.lines_behind-behind.ensures)
      c.in_ok-take.field-0 c.in_ok-take.ensures.steps _ _ _ c.in-Passed.is c.lines-before.ensures c.lines.ensures c.in_ok-put_behind-in-Passed.ensures;
}

pub returns-clause-puts : goal.returns-clause-puts
returns-clause-puts c =
    let first = at_first c.args.graph.now (option_map (λ bytes. bytes.now) c.args.given) in
    let all = map (λ line. line.items) c.args.lines.now in
    let none = none_left (λ line. line.items) c.args.lines.now c.loop-place.place c.loop-place-test.false in
    ends first all c.loop-place.text.items c.loop-place.reading
    (subst (λ (left : List Text). PutSoFar first all left c.loop-place.text.items c.loop-place.reading) none c.loop-place.invariant.so_far)

pub returns-in_err-take-clause-room : goal.returns-in_err-take-clause-room
returns-in_err-take-clause-room c =
    let is : c.from_residual-in_err-take.result ≡ Err c.in_err-take.field-0.0 = search rules in
    rw is (λ room.
    lacks_on (at_first c.args.graph.now (option_map (λ bytes. bytes.now) c.args.given)) (map (λ line. line.items) c.args.lines.now) _ _ _ _ _ _
    c.loop-place.reading c.loop-place.invariant.so_far
    (left_from (λ line. line.items) c.args.lines.now c.loop-place.place c.index-lines-place.result c.loop-place-test.true c.index-lines-place.is)
    c.as_slice-line.ensures.value (ap (map (λ line. line.items)) c.lines_behind-behind.ensures) (c.in_err-take.ensures.room room))
