use Rattle.std.proofs.Common.{◌≡◌, ◌++◌, ◌∙◌, ap, append_assoc, subst, sym}
use Rattle.std.specs.Prelude.{codes}
use Rattle.sdv_telling.specs.Statements.{Text}
use Rattle.sdv_decode.specs.Decoded.{IsFramed}
use Rattle.sdv_decode.specs.declared.form.Form.{Form}
use Rattle.sdv_decode.proofs.decoding.framed.Goals as goal

joined : (head mid text body end : Text) → mid ≡ head ++ body → text ≡ mid ++ end → text ≡ head ++ (body ++ end)
joined head mid text body end p q = q ∙ (ap (λ (t : Text). t ++ end) p ∙ append_assoc head body end)

pub returns-in_ok-put-in-Picture : goal.returns-in_ok-put-in-Picture
returns-in_ok-put-in-Picture c =
    subst (λ (form : Form). IsFramed form c.args.told.items c.put.new.text.items) (sym c.in-Picture.is) (
      c.in_ok-text-in-Picture.text.items,
      joined c.in_ok-text-in-Picture.text.items c.extend_from_slice.new.self.items c.put.new.text.items c.args.told.items (codes "</svg>\n")
          (c.in_ok-extend_from_slice-in-Picture.ensures.items ∙ ap (λ (t : Text). c.in_ok-text-in-Picture.text.items ++ t) c.deref.ensures.value)
          c.in_ok-put-in-Picture.ensures,
    )
