-- What the text of an answer tells, and what it does not.
use Rattle.std.proofs.Common.{◌≡◌, ℕ, ◌*◌, true, false, nat_eq, List, ◌++◌, length, take, drop, Some, None, Result, Ok, Err, refl, sym, ap, ◌∙◌, subst}
use Rattle.std.specs.Prelude.{◌≢◌, MatchResult}
use Rattle.std.specs.Cmp.Lexicographic.{pointwise}
use Rattle.hex.specs.declared.error.FromHexError.{FromHexError}
use Rattle.hex.specs.Hex.{decode_sized}
use Rattle.hex.proofs.HexLemmas.{decode_of-ok, decode_sized-ok, decode_sized-twice}
use Rattle.sdv_text.specs.Fronts.{after}
use Rattle.sdv_text.proofs.FrontLaws.{after_some, after_none, after_takes, after_again, some_is}
use Rattle.sdv_frames.specs.declared.reply.Expect.{Expect}
use Rattle.sdv_frames.specs.declared.reply.Expect.TheVariants as expects
use Rattle.sdv_frames.specs.declared.reply.Reply.{Reply}
use Rattle.sdv_card.specs.declared.answer.Answer.{Answer}
use Rattle.sdv_card.specs.declared.answer.Answer.TheVariants as answers
use Rattle.sdv_lines.specs.Texts.{AreDigits}
use Rattle.sdv_lines.specs.Answers.{IsReplyOf, SaysLost, TellsReply, TellsAnswer}

-- FORMATS

-- what follows the name of a format
pub prefixed : (format text digits : List ℕ) → pointwise nat_eq (take (length format) text) format ≡ true
    → digits ≡ drop (length format) text → text ≡ format ++ digits
prefixed format text digits t e = after_takes format text digits (after_some format text t ∙ ap Some (sym e))

pub not_prefixed : (format text bytes : List ℕ) → pointwise nat_eq (take (length format) text) format ≡ false
    → IsReplyOf format bytes text → ⊥
not_prefixed format text bytes f r =
    let some : after format text ≡ Some r.digits = ap (after format) r.split ∙ after_again format r.digits in
    let clash : None ≡ Some r.digits = sym (after_none format text f) ∙ some in
    absurd (cc)

-- DIGITS

-- what was decoded
pub decoded : (digits out : List ℕ) (n : ℕ) (d : Result (List ℕ) FromHexError) (r : Result (Unit {0}) FromHexError) → decode_sized digits n ≡ d
    → MatchResult d (λ bytes. (r ≡ Ok tt) × (out ≡ bytes)) (λ e. r ≡ Err e) → r ≡ Ok tt → AreDigits digits out
decoded digits out n (Ok bytes) r is m ok =
    sym (decode_sized-twice digits n (decode_sized-ok digits n bytes is)) ∙ is ∙ ap Ok (sym m.1)
decoded digits out n (Err e) r is m ok = absurd (cc)

-- what was not
pub undecoded : (digits out bytes : List ℕ) (n : ℕ) (d : Result (List ℕ) FromHexError) (r : Result (Unit {0}) FromHexError) (fault : FromHexError)
    → decode_sized digits n ≡ d → MatchResult d (λ bytes. (r ≡ Ok tt) × (out ≡ bytes)) (λ e. r ≡ Err e) → r ≡ Err fault
    → length bytes ≡ n → AreDigits digits bytes → ⊥
undecoded digits out bytes n (Ok other) r fault is m err len are = absurd (cc)
undecoded digits out bytes n (Err e) r fault is m err len are =
    let twice : length digits ≡ 2 * n = (decode_of-ok digits bytes are).2 ∙ ap (λ k. 2 * k) len in
    let clash : Ok bytes ≡ Err e = sym are ∙ sym (decode_sized-twice digits n twice) ∙ is in
    absurd (cc)

pub not_decoded : (format text digits out bytes : List ℕ) (n : ℕ) (d : Result (List ℕ) FromHexError) (r : Result (Unit {0}) FromHexError)
    (fault : FromHexError) → text ≡ format ++ digits → decode_sized digits n ≡ d
    → MatchResult d (λ bytes. (r ≡ Ok tt) × (out ≡ bytes)) (λ e. r ≡ Err e) → r ≡ Err fault → length bytes ≡ n
    → IsReplyOf format bytes text → ⊥
not_decoded format text digits out bytes n d r fault t is m err len reply =
    let same : reply.digits ≡ digits =
    some_is reply.digits digits (sym (after_again format reply.digits) ∙ ap (after format) (sym reply.split ∙ t) ∙ after_again format digits) in
    undecoded digits out bytes n d r fault is m err len (subst (λ l. AreDigits l bytes) same reply.are)

-- WORDS

-- a response that was waited for and is told by no word and no format
pub not_told : (expect : Expect) (text : List ℕ) → (SaysLost text → ⊥)
    → ((reply : Reply) → TellsReply expect reply text → ⊥) → expect ≢ expects.Nothing → (answer : Answer) → TellsAnswer expect answer text → ⊥
not_told expects.Nothing text l r n answer t = n refl
not_told (expects.R1 i) text l r n answers.Sent t = t
not_told (expects.R1 i) text l r n answers.TimeOut t = l t
not_told (expects.R1 i) text l r n (answers.Damaged fault) t = t
not_told (expects.R1 i) text l r n (answers.Reply reply) t = r reply t
not_told expects.R2 text l r n answers.Sent t = t
not_told expects.R2 text l r n answers.TimeOut t = l t
not_told expects.R2 text l r n (answers.Damaged fault) t = t
not_told expects.R2 text l r n (answers.Reply reply) t = r reply t
not_told expects.R3 text l r n answers.Sent t = t
not_told expects.R3 text l r n answers.TimeOut t = l t
not_told expects.R3 text l r n (answers.Damaged fault) t = t
not_told expects.R3 text l r n (answers.Reply reply) t = r reply t
not_told expects.R6 text l r n answers.Sent t = t
not_told expects.R6 text l r n answers.TimeOut t = l t
not_told expects.R6 text l r n (answers.Damaged fault) t = t
not_told expects.R6 text l r n (answers.Reply reply) t = r reply t
not_told expects.R7 text l r n answers.Sent t = t
not_told expects.R7 text l r n answers.TimeOut t = l t
not_told expects.R7 text l r n (answers.Damaged fault) t = t
not_told expects.R7 text l r n (answers.Reply reply) t = r reply t
