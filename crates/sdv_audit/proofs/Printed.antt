-- Each part of a line that is printed is read again, and so is the line.
use Rattle.std.proofs.Common.{lit<, ◌*◌, rules, ◌≡◌, ℕ, zero, suc, ◌+◌, ◌^◌, ◌<◌, ◌≤◌, true, false, nat_le, nat_lt, List, [], ◌∷◌, ◌++◌, length, take, drop, Some, Ok, decimal, refl, sym, ap, ◌∙◌, arith, take_at, drop_at, append_assoc, length-append}
use Rattle.std.specs.Prelude.{codes}
use Rattle.std.specs.List.{prefix_len}
use Rattle.std.specs.Str.{all_ascii_digits}
use Rattle.std.specs.Int.{w32, to_be_bytes, from_be_bytes}
use Rattle.std.proofs.lemmas.Bool.{and_parts, le-leb}
use Rattle.std.proofs.lemmas.Bool.Decides.{nat_tests}
use Rattle.std.proofs.lemmas.Fmt.{decimal_digit, digits_decimal, digits_value-decimal, decimal_nonempty}
use Rattle.std.proofs.lemmas.Nat.{from_be_bytes-to_be_bytes_4}
use Rattle.std.proofs.lemmas.Str.Parse.{IsNumeralModel, numerals_by_fold, tells_all_ascii_digits}
use Rattle.hex.specs.Hex.{IsBytes, lower_digits, encode_lower, decode_sized}
use Rattle.hex.proofs.HexLemmas.{decode_of-encode_lower, decode_sized-twice, length-encode_with}
use Rattle.sdv_text.proofs.FrontLaws.{run_is}
use Rattle.sdv_text.specs.Fronts.{is_digit, run, number_after}
use Rattle.sdv_frames.specs.declared.reply.Reply.{Reply}
use Rattle.sdv_frames.specs.declared.reply.Reply.TheVariants.{R1, R2, R3, R6, R7}
use Rattle.sdv_card.specs.declared.state.Width.TheVariants.{One, Four, Eight}
use Rattle.sdv_card.specs.declared.answer.Answer.{Answer}
use Rattle.sdv_card.specs.declared.answer.Answer.TheVariants.{Sent, TimeOut, Reply as Replied, Damaged}
use Rattle.sdv_card.specs.declared.answer.DataEnd.{DataEnd}
use Rattle.sdv_card.specs.declared.answer.DataEnd.TheVariants.{Ok as Whole, Cut}
use Rattle.sdv_card.specs.declared.answer.WaitEnd.TheVariants.{Ok as Over, Late}
use Rattle.sdv_audit.specs.declared.line.TraceLine.TheVariants.{Exchange, BlocksIn, RegisterIn, BlocksOut, Wait, Lines, Running, End}
use Rattle.sdv_audit.specs.Reading.{figure, read_number, word_and, read_word, last_word, last_register, bytes_or_none, read_reply, read_answer, read_index, read_argument, read_exchange, read_data_end, read_phase, read_wait, read_lines, read_end, read_other, read_data, read_line}
use Rattle.sdv_trace.specs.Trace.{word_text, reply_text, answer_text, end_text}
use Rattle.sdv_audit.specs.Spelling.{IsReplyTo, IsAnswerTo, LinesAreRead}

-- NUMBERS

own : IsNumeralModel (λ ds. all_ascii_digits ds ≡ true) (number_after 0)
unfolding number_after
own = numerals_by_fold _ tells_all_ascii_digits number_after (search rules)

run_again : (ds : List ℕ) (rest : List ℕ) → all_ascii_digits ds ≡ true → prefix_len is_digit (ds ++ 32 ∷ rest) ≡ length ds
run_again [] rest all = refl
run_again (d ∷ ds) rest all =
    let parts = and_parts (is_digit d) (all_ascii_digits ds) all in
    let more = run_again ds rest parts.1 in
    rw parts.0 (omega (arith, more))

-- with a space behind it
number_again : (n : ℕ) (rest : List ℕ) → n ≤ 65535 → read_number (decimal n ++ 32 ∷ rest) ≡ Some (n, 32 ∷ rest)
unfolding read_number
number_again n rest le =
    let lt : n < 2 ^ 64 = omega arith in
    let count : run is_digit (decimal n ++ 32 ∷ rest) ≡ length (decimal n) =
    run_is (decimal n ++ 32 ∷ rest) ∙ run_again (decimal n) rest (digits_decimal own n lt) in
    let value : number_after 0 (decimal n) ≡ n = digits_value-decimal own n lt in
    let some : nat_lt 0 (length (decimal n)) ≡ true = (let nonempty = decimal_nonempty n lt in grind (arith, nat_tests)) in
    let small : nat_le n 65535 ≡ true = le-leb n 65535 le in
    let front : figure (take (run is_digit (decimal n ++ 32 ∷ rest)) (decimal n ++ 32 ∷ rest)) (drop (run is_digit (decimal n ++ 32 ∷ rest)) (decimal n ++ 32 ∷ rest))
    ≡ figure (decimal n) (32 ∷ rest) =
    rw (take_at (decimal n) (32 ∷ rest) _ (sym count), drop_at (decimal n) (32 ∷ rest) _ (sym count)) refl in
    front ∙ rw (some, value, small) refl

-- WORDS

four : (n : ℕ) → IsBytes (to_be_bytes w32 n)
four n zero = omega arith
four n (suc zero) = omega arith
four n (suc (suc zero)) = omega arith
four n (suc (suc (suc zero))) = omega arith
four n (suc (suc (suc (suc i)))) = omega arith

word_length : (n : ℕ) → length (word_text n) ≡ 8
word_length n = length-encode_with lower_digits (to_be_bytes w32 n)

word_decoded : (n : ℕ) → decode_sized (word_text n) 4 ≡ Ok (to_be_bytes w32 n)
word_decoded n = decode_sized-twice (word_text n) 4 (word_length n) ∙ decode_of-encode_lower (to_be_bytes w32 n) (four n)

not_short : (n : ℕ) (rest : List ℕ) → nat_lt (length (word_text n ++ rest)) 8 ≡ false
not_short n rest = let len : length (word_text n ++ rest) ≡ 8 + length rest = length-append (word_text n) rest ∙ ap (λ m. m + length rest) (word_length n)
    in rw len (grind (arith, nat_tests))

word_again : (n : ℕ) (rest : List ℕ) → n < 2 ^ 32 → read_word (word_text n ++ rest) ≡ Some (n, rest)
unfolding read_word
word_again n rest lt =
    let value : from_be_bytes w32 (to_be_bytes w32 n) ≡ n = from_be_bytes-to_be_bytes_4 n lt in
    let front : word_and (decode_sized (take 8 (word_text n ++ rest)) 4) (drop 8 (word_text n ++ rest)) ≡ word_and (decode_sized (word_text n) 4) rest =
    rw (take_at (word_text n) rest 8 (word_length n), drop_at (word_text n) rest 8 (word_length n)) refl in
    rw (not_short n rest) (front ∙ (ap (λ r. word_and r rest) (word_decoded n) ∙ ap (λ (v : ℕ). Some (v, rest)) value))

append_nothing : (xs : List ℕ) → xs ++ [] ≡ xs
append_nothing [] = refl
append_nothing (x ∷ xs) = ap (λ l. x ∷ l) (append_nothing xs)

last_again : (n : ℕ) → n < 2 ^ 32 → last_word (word_text n) ≡ Some n
last_again n lt =
    let read : read_word (word_text n) ≡ Some (n, []) = ap read_word (sym (append_nothing (word_text n))) ∙ word_again n [] lt in
    rw read refl

register_again : (bytes : List ℕ) → length bytes ≡ 15 → IsBytes bytes → last_register (encode_lower bytes) ≡ Some bytes
register_again bytes len fits =
    let long : length (encode_lower bytes) ≡ 30 = length-encode_with lower_digits bytes ∙ ap (λ n. 2 * n) len in
    let decoded : decode_sized (encode_lower bytes) 15 ≡ Ok bytes = decode_sized-twice (encode_lower bytes) 15 long ∙ decode_of-encode_lower bytes fits in
    ap bytes_or_none decoded

-- WHAT CAME OF A COMMAND

reply_again : (index : ℕ) (reply : Reply) → IsReplyTo index reply → read_reply index (reply_text reply) ≡ Some reply
unfolding read_reply
reply_again index (R1 repeated status) is = rw (last_again status is.1, sym is.0) refl
reply_again index (R2 register) is = rw (register_again register is.0 is.1) refl
reply_again index (R3 ocr) is = rw (last_again ocr is) refl
reply_again index (R6 word) is = rw (last_again word is) refl
reply_again index (R7 word) is = rw (last_again word is) refl

answer_again : (index : ℕ) (answer : Answer) → IsAnswerTo index answer → read_answer index (answer_text answer) ≡ Ok answer
unfolding read_answer
answer_again index Sent is = refl
answer_again index TimeOut is = refl
answer_again index (Replied (R1 repeated status)) is = rw (reply_again index (R1 repeated status) is) refl
answer_again index (Replied (R2 register)) is = rw (reply_again index (R2 register) is) refl
answer_again index (Replied (R3 ocr)) is = rw (reply_again index (R3 ocr) is) refl
answer_again index (Replied (R6 word)) is = rw (reply_again index (R6 word) is) refl
answer_again index (Replied (R7 word)) is = rw (reply_again index (R7 word) is) refl
answer_again index (Damaged fault) is = absurd is

-- COMMANDS

index_again : (n : ℕ) (rest : List ℕ) → n ≤ 63 → read_index (decimal n ++ 32 ∷ rest) ≡ Ok (n, rest)
unfolding read_index
index_again n rest le =
    let small : nat_le n 63 ≡ true = le-leb n 63 le in
    rw (number_again n rest (omega arith), small) refl

argument_again : (n : ℕ) (rest : List ℕ) → n < 2 ^ 32 → read_argument (word_text n ++ 32 ∷ rest) ≡ Ok (n, rest)
unfolding read_argument
argument_again n rest lt = rw (word_again n (32 ∷ rest) lt) refl

exchange_again : (index argument : ℕ) (answer : Answer) → index ≤ 63 → argument < 2 ^ 32 → IsAnswerTo index answer →
    read_exchange (decimal index ++ 32 ∷ (word_text argument ++ 32 ∷ answer_text answer)) ≡ Ok (Exchange (record { index = index; argument = argument }) answer)
unfolding read_exchange
exchange_again index argument answer le lt is =
    rw (index_again index (word_text argument ++ 32 ∷ answer_text answer) le, argument_again argument (answer_text answer) lt, answer_again index answer is) refl

-- PHASES

phase_again : (count : ℕ) (end : DataEnd) → count ≤ 65535 → read_phase (decimal count ++ end_text end) ≡ Ok (count, end)
unfolding read_phase read_data_end
phase_again count Whole le = rw (number_again count (codes "ok") le) refl
phase_again count Cut le = rw (number_again count (codes "cut") le) refl

-- LINES

shaped : (index argument : ℕ) (answer : List ℕ) → (codes "CMD" ++ (decimal index ++ (codes " " ++ (word_text argument ++ codes " ")))) ++ answer
    ≡ codes "CMD" ++ (decimal index ++ 32 ∷ (word_text argument ++ 32 ∷ answer))
shaped index argument answer = simp append_assoc

pub lines_are_read : LinesAreRead
unfolding read_line read_data read_other read_wait read_lines read_end
lines_are_read (Exchange command answer) is =
    ap read_line (shaped command.index command.argument (answer_text answer))
    ∙ exchange_again command.index command.argument answer is.0 is.1 is.2
lines_are_read (BlocksIn count end) is = rw (phase_again count end is) refl
lines_are_read (RegisterIn count end) is = rw (phase_again count end is) refl
lines_are_read (BlocksOut count end) is = rw (phase_again count end is) refl
lines_are_read (Wait Over) is = refl
lines_are_read (Wait Late) is = refl
lines_are_read (Lines One) is = ap (λ (l : List ℕ). read_line (codes "LINES " ++ l)) (decimal_digit 1 (lit< tt))
lines_are_read (Lines Four) is = ap (λ (l : List ℕ). read_line (codes "LINES " ++ l)) (decimal_digit 4 (lit< tt))
lines_are_read (Lines Eight) is = ap (λ (l : List ℕ). read_line (codes "LINES " ++ l)) (decimal_digit 8 (lit< tt))
lines_are_read (Running rca lines) is = absurd is
lines_are_read End is = refl
