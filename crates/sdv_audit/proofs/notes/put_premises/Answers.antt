use Rattle.std.proofs.Common.{◌++◌, ap, ◌∙◌, append_assoc}
use Rattle.std.specs.Prelude.{codes}
use Rattle.std.proofs.lemmas.Result.{on_ok_weaker}
use Rattle.sdv_audit.specs.Notes.{json_member}
use Rattle.sdv_audit.proofs.notes.put_premises.Goals as goal

pub returns : goal.returns
returns c =
    let t = c.args.text.now.items in
    let any_state = json_member (codes ",\"any_state\":") c.args.premises.any_state in
    let bounded = json_member (codes ",\"bounded\":") c.args.premises.bounded in
    let outside = json_member (codes ",\"outside_before\":") c.args.premises.outside_before in
    on_ok_weaker c.put_bool-3.result
    (λ added. added
    ∙ (ap (λ l. l ++ outside) (c.in_ok-put_bool-2.ensures ∙ ap (λ l. l ++ bounded) c.in_ok-put_bool.ensures)
    ∙ (append_assoc (t ++ any_state) bounded outside ∙ append_assoc t any_state (bounded ++ outside))))
    c.put_bool-3.ensures
