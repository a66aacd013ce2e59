use Rattle.std.proofs.Common.{◌∙◌, None, sym, arith}
use Rattle.std.proofs.lemmas.Result.{err_from_is_err_and}
use Rattle.sdv_check.specs.Reading.{begins_shape, read_rising}
use Rattle.sdv_facts.specs.CertificateText.{shape_written}
use Rattle.sdv_check.proofs.Codes.{IsNext, rising_takes}
use Rattle.sdv_check.proofs.Rising.{rising}
use Rattle.sdv_check.proofs.Lists.{each_more, each_full, each_fails, each_done, each_takes}
use Rattle.sdv_check.proofs.text.points.shapes.Goals as goal

pub returns-in_err-shape-clause-read : goal.returns-in_err-shape-clause-read
returns-in_err-shape-clause-read c =
    let p = err_from_is_err_and c.from_residual.result c.from_residual.ensures.1 in
    rw (p.1, p.2) (each_fails begins_shape read_rising c.in_err-shape.field-0.0 c.args.room c.loop-last.shapes.items c.loop-last.last c.loop-last.at.rest.now _
    (sym c.begins_shape.ensures ∙ c.loop-last-test.true) c.in_err-shape.ensures c.loop-last.invariant.1)

pub returns-then-len-room-clause-read : goal.returns-then-len-room-clause-read
returns-then-len-room-clause-read c =
    each_full begins_shape read_rising c.args.room c.loop-last.shapes.items c.loop-last.last c.loop-last.at.rest.now _
    (sym c.begins_shape.ensures ∙ c.loop-last-test.true) (omega arith) c.loop-last.invariant.1

pub loop-last-preserved : goal.loop-last-preserved
loop-last-preserved c = (
  grind arith,
  rw c.in_ok-push.ensures.items
      (each_more begins_shape read_rising c.args.room c.loop-last.shapes.items c.loop-last.last c.loop-last.at.rest.now c.in_ok-shape.shape
      c.next_shape.new.at.rest.now _ (sym c.begins_shape.ensures ∙ c.loop-last-test.true) (omega arith) c.in_ok-shape.ensures c.loop-last.invariant.1),
)

pub returns-clause-read : goal.returns-clause-read
returns-clause-read c =
    each_done begins_shape read_rising c.args.room c.loop-last.shapes.items c.loop-last.last c.loop-last.at.rest.now _
    (sym c.begins_shape.ensures ∙ c.loop-last-test.false) c.loop-last.invariant.1

pub returns-clause-rising : goal.returns-clause-rising
returns-clause-rising c ok =
    let read = each_done begins_shape read_rising c.args.room c.loop-last.shapes.items c.loop-last.last c.loop-last.at.rest.now _
    (sym c.begins_shape.ensures ∙ c.loop-last-test.false) c.loop-last.invariant.1 in
    rising None c.loop-last.shapes.items
    (each_takes begins_shape read_rising shape_written IsNext rising_takes c.args.room None c.args.at.now.rest.now c.loop-last.shapes.items c.loop-last.at.rest.now
    read).2
