use Rattle.std.proofs.Common.{◌∙◌, sym}
use Rattle.sdv_script.proofs.NameLaws.{text_here, text_next, text_end}
use Rattle.sdv_script.proofs.expect.place_of.Goals as goal

pub returns-then-eq : goal.returns-then-eq
returns-then-eq c =
    sym (text_here c.loop-i.i c.args.name.now c.args.names.now _ c.loop-i-test.true (sym c.eq.ensures ∙ c.if-eq.true)) ∙ c.loop-i.invariant

pub loop-i-preserved : goal.loop-i-preserved
loop-i-preserved c =
    text_next c.loop-i.i c.args.name.now c.args.names.now _ c.loop-i-test.true (sym c.eq.ensures ∙ c.if-eq.false) ∙ c.loop-i.invariant

pub returns : goal.returns
returns c =
    sym (text_end c.loop-i.i c.args.name.now c.args.names.now c.loop-i.auto.i-end c.loop-i-test.false) ∙ c.loop-i.invariant
