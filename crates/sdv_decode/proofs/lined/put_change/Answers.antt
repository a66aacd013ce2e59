use Rattle.std.proofs.Common.{◌≡◌, ◌∙◌, ◌++◌, false, sym, rules, subst}
use Rattle.std.specs.Prelude.{OnOk}
use Rattle.sdv_telling.specs.Statements.{Text}
use Rattle.sdv_card.specs.Modes.{same_width}
use Rattle.sdv_decode.specs.Lined.{change}
use Rattle.sdv_decode.proofs.LinedLaws.{changed}
use Rattle.sdv_decode.proofs.lined.put_change.Goals as goal

pub returns : goal.returns
returns c =
    let other : same_width c.args.before c.args.now ≡ false = search rules in
    let words : c.line_of.result.now ≡ change c.args.before c.args.now = c.line_of.ensures ∙ sym (changed c.args.before c.args.now other) in
    subst (λ (words : Text). OnOk c.put.result (c.put.new.text.items ≡ c.args.text.now.items ++ words)) words c.put.ensures
