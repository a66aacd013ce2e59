use Rattle.std.proofs.Common.{◌≡◌, ◌∙◌, false, rules}
use Rattle.std.proofs.lemmas.Result.{on_ok_weaker}
use Rattle.sdv_decode.specs.LineWords.{told}
use Rattle.sdv_decode.proofs.line_words.put_stray.Goals as goal

pub returns : goal.returns
returns c =
    let same : c.deref-2.result.now ≡ c.in_ok-told.told.items = search rules in
    let told_is : c.deref-2.result.now ≡ told false c.args.line.now = same ∙ c.in_ok-told.ensures in
    on_ok_weaker c.put_line.result (λ added. (c.deref-3.result.now, rw told_is at added)) c.put_line.ensures
