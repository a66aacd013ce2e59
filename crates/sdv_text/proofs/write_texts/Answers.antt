use Rattle.std.proofs.Common.{◌≤◌, rules, arith, flat_map, length, subst, take_all, Bor, List, ℕ}
use Rattle.std.specs.Io.KnownBytes.{Appends}
use Rattle.sdv_text.proofs.WrittenLaws.{appends_none, text_failed, text_written}
use Rattle.sdv_text.proofs.write_texts.Goals as goal

pub loop-text-init : goal.loop-text-init
loop-text-init g c = appends_none (g.W.Write.contents c.args.out.now)

pub returns-in_err-write_text : goal.returns-in_err-write_text
returns-in_err-write_text g c =
    let failed = text_failed
    (λ (text : Bor (List ℕ)). text.now) _ _ _ c.args.texts.now c.loop-text.text-index _ c.loop-text-test.true c.loop-text.invariant
    c.in_err-write_text.ensures in
    search rules

pub loop-text-preserved : goal.loop-text-preserved
loop-text-preserved g c =
    text_written (λ (text : Bor (List ℕ)). text.now) _ _ _ c.args.texts.now c.loop-text.text-index _ c.loop-text-test.true c.loop-text.invariant
    c.in_ok-write_text.ensures

pub returns : goal.returns
returns g c =
    let end : length c.args.texts.now ≤ c.loop-text.text-index = omega (arith, c.loop-text-test.false) in
    subst (λ (l : List (Bor (List ℕ))). Appends (g.W.Write.contents c.args.out.now) (g.W.Write.contents c.loop-text.out)
    (flat_map (λ (text : Bor (List ℕ)). text.now) l))
    (take_all c.loop-text.text-index c.args.texts.now end) c.loop-text.invariant
