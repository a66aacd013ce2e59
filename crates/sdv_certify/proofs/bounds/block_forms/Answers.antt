-- The forms are those of the statements, turned round.
use Rattle.std.proofs.Common.{rules, ◌≡◌, map, reverse, All, IfOk, IfErr, ◌∙◌, subst}
use Rattle.sdv_graph.specs.Tree.{statements_of}
use Rattle.sdv_certify.specs.Forms.{forms_of, full_form, FormInLimits}
use Rattle.sdv_certify.specs.declared.fault.CertifyFault.{CertifyFault}
use Rattle.sdv_certify.specs.declared.fault.CertifyFault.TheVariants.{TooMany}
use Rattle.sdv_certify.proofs.TurnLaws.{in_order}
use Rattle.sdv_certify.proofs.bounds.block_forms.Goals as goal

pub returns-clause-forms : goal.returns-clause-forms
returns-clause-forms c =
    let raw : map full_form c.put_block.new.forms.items ≡ reverse (map full_form (forms_of (statements_of c.args.block.now))) = search rules in
    let same = in_order c.put_block.new.forms.items (forms_of (statements_of c.args.block.now)) c.deref.result.now raw
    (c.deref.ensures.value ∙ c.reverse.ensures.items) in
    subst (λ l. IfOk c.within_limits.result (λ w. w.items ≡ l)) same c.within_limits.ensures.forms

pub returns-clause-too_many : goal.returns-clause-too_many
returns-clause-too_many c =
    let raw : map full_form c.put_block.new.forms.items ≡ reverse (map full_form (forms_of (statements_of c.args.block.now))) = search rules in
    let same = in_order c.put_block.new.forms.items (forms_of (statements_of c.args.block.now)) c.deref.result.now raw
    (c.deref.ensures.value ∙ c.reverse.ensures.items) in
    subst (λ l. IfErr c.within_limits.result (λ (e : CertifyFault). e ≡ TooMany → All FormInLimits l → ⊥)) same c.within_limits.ensures.too_many
