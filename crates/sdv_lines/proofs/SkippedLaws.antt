-- A reader that skips what a board says before its first answer skips no answer.
use Rattle.std.proofs.Common.{◌≡◌, ℕ, zero, suc, ◌<◌, ◌≤◌, ◌+◌, ◌-◌, ◌*◌, ◌==◌, ◌||◌, Bool, true, false, List, [], ◌∷◌, ◌++◌, length, Some, refl, sym, ap, ◌∙◌, subst, append_assoc, arith, inl, inr}
use Rattle.std.proofs.lemmas.Bool.{eq-eqb, eqb-true}
use Rattle.std.proofs.lemmas.List.{append-nil, length-append}
use Rattle.std.specs.Prelude.{is_ok}
use Rattle.std.specs.Int.{w32, to_be_bytes}
use Rattle.std.specs.List.{AllByRecursion}
use Rattle.hex.proofs.HexLemmas.{decode_of-ok, decode_sized-twice}
use Rattle.sdv_text.specs.Fronts.{after, is_word}
use Rattle.sdv_text.proofs.FrontLaws.{after_again}
use Rattle.sdv_frames.specs.declared.reply.Expect.{Expect}
use Rattle.sdv_frames.specs.declared.reply.Expect.TheVariants as expects
use Rattle.sdv_frames.specs.declared.reply.Reply.{Reply}
use Rattle.sdv_frames.specs.declared.reply.Reply.TheVariants.{R1, R2, R3, R6, R7}
use Rattle.sdv_card.specs.declared.answer.Answer.{Answer}
use Rattle.sdv_card.specs.declared.answer.Answer.TheVariants as answers
use Rattle.sdv_card.specs.declared.answer.DataEnd.TheVariants as ends
use Rattle.sdv_card.specs.declared.answer.WaitEnd.TheVariants as waits
use Rattle.sdv_card.specs.Port.{Call, Exchange, DataIn, DataInRegister, DataOut, WaitWhileBusy}
use Rattle.sdv_card.specs.ScriptEvent.{Return, Answered, BlocksIn, RegisterIn, BlocksOut, Waited}
use Rattle.sdv_lines.specs.declared.line.TheConstants.{LONGEST}
use Rattle.sdv_lines.specs.declared.words.TheConstants as words
use Rattle.sdv_lines.specs.Answers.{Answers, IsAnswer, IsReplyOf, IsWordOf, SaysLost, TellsAnswer, TellsReply}
use Rattle.sdv_lines.specs.Noise.{IsNoise, is_answer, is_response, are_digits, quieted}
use Rattle.sdv_lines.specs.Texts.{AreDigits, IsLine, IsText, lines_of, trimmed, trims}
use Rattle.sdv_lines.proofs.HeardLaws.{first_line, nonempty}
use Rattle.sdv_lines.proofs.NoiseLaws.{quieted_none, quieted_more, quieted_skips, quieted_finds}

-- THE FORMS OF AN ANSWER

or_true : (b : Bool) → b || true ≡ true
or_true true = refl
or_true false = refl

is_own : (word : List ℕ) → is_word word word ≡ true
is_own [] = refl
is_own (w ∷ ws) = rw (eq-eqb w w refl) (is_own ws)

own : (word text : List ℕ) → text ≡ word → is_word word text ≡ true
own word text e = subst (λ l. is_word word l ≡ true) (sym e) (is_own word)

-- the digits of as many bytes
digits_fit : (count : ℕ) (bytes digits : List ℕ) → length bytes ≡ count → AreDigits digits bytes → are_digits count (Some digits) ≡ true
digits_fit count bytes digits size are =
    let twice : length digits ≡ 2 * count = (decode_of-ok digits bytes are).2 ∙ ap (λ n. 2 * n) size in
    ap is_ok (decode_sized-twice digits count twice ∙ are)

response_of : (format bytes text : List ℕ) (count : ℕ) → length bytes ≡ count → IsReplyOf format bytes text → is_response format count text ≡ true
response_of format bytes text count size reply =
    let behind : after format text ≡ Some reply.digits = ap (after format) reply.split ∙ after_again format reply.digits in
    ap (are_digits count) behind ∙ digits_fit count bytes reply.digits size reply.are

word_of : (format text : List ℕ) (word : ℕ) → IsWordOf format word text → is_response format 4 text ≡ true
word_of format text word told = response_of format (to_be_bytes w32 word) text 4 refl told.reply

-- each form is one of an answer's first line
nothing_is : (text : List ℕ) → text ≡ words.NOTHING.now → is_answer text ≡ true
unfolding is_answer
nothing_is text e = rw (own words.NOTHING.now text e) refl

timeout_is : (text : List ℕ) → text ≡ words.TIMEOUT.now → is_answer text ≡ true
unfolding is_answer
timeout_is text e = simp (own words.TIMEOUT.now text e, or_true)

damaged_is : (text : List ℕ) → text ≡ words.DAMAGED.now → is_answer text ≡ true
unfolding is_answer
damaged_is text e = simp (own words.DAMAGED.now text e, or_true)

ok_is : (text : List ℕ) → text ≡ words.OK.now → is_answer text ≡ true
unfolding is_answer
ok_is text e = simp (own words.OK.now text e, or_true)

cut_is : (text : List ℕ) → text ≡ words.CUT.now → is_answer text ≡ true
unfolding is_answer
cut_is text e = simp (own words.CUT.now text e, or_true)

late_is : (text : List ℕ) → text ≡ words.LATE.now → is_answer text ≡ true
unfolding is_answer
late_is text e = simp (own words.LATE.now text e, or_true)

r1_is : (text : List ℕ) (word : ℕ) → IsWordOf words.R1_CAME.now word text → is_answer text ≡ true
unfolding is_answer
r1_is text word t = simp (word_of words.R1_CAME.now text word t, or_true)

r2_is : (text register : List ℕ) → length register ≡ 15 → IsReplyOf words.R2_CAME.now register text → is_answer text ≡ true
unfolding is_answer
r2_is text register size t = simp (response_of words.R2_CAME.now register text 15 size t, or_true)

r3_is : (text : List ℕ) (word : ℕ) → IsWordOf words.R3_CAME.now word text → is_answer text ≡ true
unfolding is_answer
r3_is text word t = simp (word_of words.R3_CAME.now text word t, or_true)

r6_is : (text : List ℕ) (word : ℕ) → IsWordOf words.R6_CAME.now word text → is_answer text ≡ true
unfolding is_answer
r6_is text word t = simp (word_of words.R6_CAME.now text word t, or_true)

r7_is : (text : List ℕ) (word : ℕ) → IsWordOf words.R7_CAME.now word text → is_answer text ≡ true
unfolding is_answer
r7_is text word t = simp (word_of words.R7_CAME.now text word t, or_true)

lost_is : (text : List ℕ) → SaysLost text → is_answer text ≡ true
lost_is text (inl e) = timeout_is text e
lost_is text (inr e) = damaged_is text e

reply_is : (expect : Expect) (reply : Reply) (text : List ℕ) → TellsReply expect reply text → is_answer text ≡ true
reply_is (expects.R1 wanted) (R1 index status) text t = r1_is text status t.1
reply_is expects.R2 (R2 register) text t = r2_is text register t.0 t.1
reply_is expects.R3 (R3 ocr) text t = r3_is text ocr t
reply_is expects.R6 (R6 word) text t = r6_is text word t
reply_is expects.R7 (R7 word) text t = r7_is text word t
reply_is expect reply text t = absurd t

answer_is : (expect : Expect) (answer : Answer) (text : List ℕ) → TellsAnswer expect answer text → is_answer text ≡ true
answer_is expects.Nothing answers.Sent text t = nothing_is text t
answer_is expects.Nothing answer text t = absurd t
answer_is expect answers.Sent text t = absurd t
answer_is expect answers.TimeOut text t = lost_is text t
answer_is expect (answers.Damaged fault) text t = absurd t
answer_is expect (answers.Reply reply) text t = reply_is expect reply text t

-- the first line of an answer has such a form
first_is : (call : Call) (text : List ℕ) (texts : List (List ℕ)) (returned : Return) → IsAnswer call (text ∷ texts) returned → is_answer text ≡ true
first_is (Exchange command expect) text [] (Answered answer) a = answer_is expect answer text a
first_is (DataIn lines count) text texts (BlocksIn ends.Ok blocks) a = ok_is text a.0
first_is (DataIn lines count) text [] (BlocksIn ends.Cut blocks) a = cut_is text a.0
first_is (DataInRegister lines count) text (digits ∷ []) (RegisterIn ends.Ok bytes) a = ok_is text a.0
first_is (DataInRegister lines count) text [] (RegisterIn ends.Cut bytes) a = cut_is text a.0
first_is (DataOut lines blocks) text [] (BlocksOut ends.Ok) a = ok_is text a
first_is (DataOut lines blocks) text [] (BlocksOut ends.Cut) a = cut_is text a
first_is WaitWhileBusy text [] (Waited waits.Ok) a = ok_is text a
first_is WaitWhileBusy text [] (Waited waits.Late) a = late_is text a
first_is call text texts returned a = absurd a

-- ONE LINE

other_byte : (byte : ℕ) (b : Bool) → (byte == 10) ≡ b → (byte ≡ 10 → ⊥) → b ≡ false
other_byte byte true e other = absurd (other (eqb-true byte 10 e))
other_byte byte false e other = refl

-- the bytes of a line are held
held_on : (most : ℕ) (held text bytes : List ℕ) → 0 < most → IsText text → length held + length text ≤ LONGEST
    → quieted most held (text ++ 10 ∷ bytes) ≡ quieted most (held ++ text) (10 ∷ bytes)
held_on most held [] bytes some is short = ap (λ h. quieted most h (10 ∷ bytes)) (sym (append-nil held))
held_on most held (x ∷ text) bytes some is short =
    let fits : length held ≤ LONGEST = omega (arith, short) in
    let more : length (held ++ x ∷ []) + length text ≤ LONGEST = omega (arith, short, length-append held (x ∷ [])) in
    quieted_more most held x (text ++ 10 ∷ bytes) some fits (other_byte x (x == 10) refl is.0)
    ∙ held_on most (held ++ x ∷ []) text bytes some is.1 more
    ∙ ap (λ h. quieted most h (10 ∷ bytes)) (append_assoc held (x ∷ []) text)

-- one that is noise is skipped
skipped : (most : ℕ) (text bytes : List ℕ) → 0 < most → IsNoise text → quieted most [] (text ++ 10 ∷ bytes) ≡ quieted (most - 1) [] bytes
skipped most text bytes some noise =
    held_on most [] text bytes some noise.0.0 (omega (arith, noise.0.1)) ∙ quieted_skips most text 10 bytes some noise.0.1 refl noise.1

-- the first one of an answer is not
kept : (most : ℕ) (text bytes : List ℕ) → IsLine text → is_answer (trimmed text) ≡ true → quieted most [] (text ++ 10 ∷ bytes) ≡ text ++ 10 ∷ bytes
kept zero text bytes line is = quieted_none [] (text ++ 10 ∷ bytes)
kept (suc most) text bytes line is =
    let some : 0 < suc most = omega arith in
    held_on (suc most) [] text bytes some line.0 (omega (arith, line.1)) ∙ quieted_finds (suc most) text 10 bytes some line.1 refl is

-- ALL LINES

answer_kept : (most : ℕ) (texts : List (List ℕ)) (rest : List ℕ) (call : Call) (returned : Return) → Answers call texts returned
    → quieted most [] (lines_of texts ++ rest) ≡ lines_of texts ++ rest
answer_kept most [] rest call returned answer = absurd (nonempty call returned answer.says)
answer_kept most (text ∷ texts) rest call returned answer =
    let split = first_line text texts rest (lines_of (text ∷ texts) ++ rest) refl in
    let is = first_is call (trimmed text) (trims texts) returned answer.says in
    ap (quieted most []) split ∙ kept most text (lines_of texts ++ rest) answer.lines.0 is ∙ sym split

pub skips_noise : (most : ℕ) (noise texts : List (List ℕ)) (rest : List ℕ) (call : Call) (returned : Return) → AllByRecursion IsNoise noise
    → length noise ≤ most → Answers call texts returned → quieted most [] (lines_of noise ++ (lines_of texts ++ rest)) ≡ lines_of texts ++ rest
skips_noise most [] texts rest call returned are few answer = answer_kept most texts rest call returned answer
skips_noise most (text ∷ noise) texts rest call returned are few answer =
    let bytes = lines_of texts ++ rest in
    let split = first_line text noise bytes (lines_of (text ∷ noise) ++ bytes) refl in
    let some : 0 < most = omega (arith, few) in
    let fewer : length noise ≤ most - 1 = omega (arith, few) in
    ap (quieted most []) split ∙ skipped most text (lines_of noise ++ bytes) some are.0
    ∙ skips_noise (most - 1) noise texts rest call returned are.1 fewer answer
