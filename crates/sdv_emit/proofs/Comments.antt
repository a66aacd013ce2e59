-- A comment is read as a space.
use Rattle.std.proofs.Common.{◌≡◌, ℕ, Bool, true, false, [], ◌∷◌, ◌++◌, refl, ap, ◌∙◌, append_assoc}
use Rattle.std.specs.Prelude.{if◌then◌else◌}
use Rattle.hex.specs.Hex.{encode_lower}
use Rattle.sdv_emit.specs.CText.{Text, is_plain, plain_byte, plain, comment}
use Rattle.sdv_emit.specs.Reading.{Comment, Code, uncommented}
use Rattle.sdv_emit.specs.declared.text.TheConstants.{COMMENT_START, COMMENT_END, ESCAPE}
use Rattle.sdv_emit.proofs.Bytes.{differs, in_comment, digits_in_comment}

-- the bytes of a comment, by whether they stand for themselves
byte_skipped : (b : ℕ) (rest : Text) (stands : Bool) → is_plain b ≡ stands
    → uncommented Comment ((if stands then b ∷ [] else ESCAPE.now ++ encode_lower (b ∷ [])) ++ rest) ≡ uncommented Comment rest
byte_skipped b rest true is = in_comment b rest (differs is_plain b 42 is refl)
byte_skipped b rest false is =
    in_comment 92 (120 ∷ (encode_lower (b ∷ []) ++ rest)) refl
    ∙ (in_comment 120 (encode_lower (b ∷ []) ++ rest) refl ∙ digits_in_comment (b ∷ []) rest)

bytes_skipped : (body rest : Text) → uncommented Comment (plain body ++ rest) ≡ uncommented Comment rest
bytes_skipped [] rest = refl
bytes_skipped (b ∷ body) rest =
    ap (uncommented Comment) (append_assoc (plain_byte b) (plain body) rest)
    ∙ (byte_skipped b (plain body ++ rest) (is_plain b) refl ∙ bytes_skipped body rest)

begun : (rest : Text) → uncommented Code (COMMENT_START.now ++ rest) ≡ 32 ∷ uncommented Comment rest
unfolding uncommented
begun rest = refl

ended : (rest : Text) → uncommented Comment (COMMENT_END.now ++ rest) ≡ uncommented Code rest
unfolding uncommented
ended rest = refl

pub comment_is_space : (body rest : Text) → uncommented Code (comment body ++ rest) ≡ 32 ∷ uncommented Code rest
comment_is_space body rest =
    ap (uncommented Code) (append_assoc COMMENT_START.now (plain body ++ COMMENT_END.now) rest)
    ∙ (begun ((plain body ++ COMMENT_END.now) ++ rest)
    ∙ ap (λ (t : Text). 32 ∷ t)
    (ap (uncommented Comment) (append_assoc (plain body) COMMENT_END.now rest) ∙ (bytes_skipped body (COMMENT_END.now ++ rest) ∙ ended rest)))
