use Rattle.std.proofs.Common.{◌≡◌, ◌∙◌, sym, subst, ℕ, arith, false, length, drop}
use Rattle.std.proofs.Math.Seq.{drop-length}
use Rattle.sdv_script.specs.Tokens.{after_gap}
use Rattle.sdv_script.proofs.TokensLaws.{gap_stops, gap_goes_on, gap_end}
use Rattle.sdv_script.proofs.cursor.gap_len.Goals as goal

pub returns-in-None-clause-gap : goal.returns-in-None-clause-gap
returns-in-None-clause-gap c = sym (gap_stops c.loop-i.in_comment c.loop-i.i c.args.text.now (omega arith) (cc)) ∙ c.loop-i.invariant

pub loop-i-preserved : goal.loop-i-preserved
loop-i-preserved c = gap_goes_on c.loop-i.in_comment c.in-Some.goes_on c.loop-i.i c.args.text.now (omega arith) (cc) ∙ c.loop-i.invariant

pub returns-clause-gap : goal.returns-clause-gap
returns-clause-gap c =
    let end : c.loop-i.i ≡ length c.args.text.now = omega arith in
    drop-length c.args.text.now
    ∙ sym (gap_end c.loop-i.in_comment c.args.text.now)
    ∙ subst (λ (i : ℕ). after_gap c.loop-i.in_comment (drop i c.args.text.now) ≡ after_gap false c.args.text.now) end c.loop-i.invariant
