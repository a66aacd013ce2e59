use Rattle.std.proofs.Common.{◌++◌, ap, ◌∙◌, append_assoc}
use Rattle.std.specs.Prelude.{codes}
use Rattle.std.proofs.lemmas.Result.{on_ok_weaker}
use Rattle.sdv_audit.specs.Notes.{count_and}
use Rattle.sdv_audit.proofs.notes.put_plain_rest.Goals as goal

pub returns : goal.returns
returns c =
    let t = c.args.text.now.items in
    let outside = count_and c.args.tally.outside (codes " outside, ") in
    let lost = count_and c.args.tally.lost (codes " not followed, ") in
    let left_out = count_and c.args.left_out (codes " left out\n") in
    on_ok_weaker c.put_counted-3.result
    (λ added. added
    ∙ (ap (λ l. l ++ left_out) (c.in_ok-put_counted-2.ensures ∙ ap (λ l. l ++ lost) c.in_ok-put_counted.ensures)
    ∙ (append_assoc (t ++ outside) lost left_out ∙ append_assoc t outside (lost ++ left_out))))
    c.put_counted-3.ensures
