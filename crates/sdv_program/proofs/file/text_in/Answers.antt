use Rattle.std.proofs.Common.{◌≡◌, inr, ℕ, List, Result, Ok, Err, IfErr}
use Rattle.std.specs.Prelude.{IsOk, IsUtf8, is_ok}
use Rattle.sdv_program.specs.Files.{Files}
use Rattle.sdv_program.proofs.file.text_in.Goals as goal

-- bytes that were not read as a text
unread_text : {X Y E F : Type 0} (read : Result X E) (r : Result Y F) (bytes : List ℕ) (P : F → Type 0) → is_ok r ≡ is_ok read
    → (IsUtf8 bytes → IsOk read) → (¬ IsUtf8 bytes → (fault : F) → P fault) → IfErr r P
unread_text read (Ok y) bytes P same succeeds says = tt
unread_text (Ok x) (Err f) bytes P same succeeds says = absurd (cc same)
unread_text (Err e) (Err f) bytes P same succeeds says = says (λ utf8. absurd (cc (succeeds utf8))) f

pub returns-clause-no_text : goal.returns-clause-no_text
returns-clause-no_text g c =
    let files : Files = g.S.Store.known c.args.files.now in
    let bytes = c.in_ok-bytes.bytes in
    unread_text c.from_utf8.result c.map_err.result bytes.items _ c.map_err.ensures.variant c.from_utf8.ensures.succeeds
    (λ not_utf8 fault is. inr (bytes.items, c.in_ok-bytes.ensures.given, not_utf8))
