-- No line that is printed ends with white space, or is a comment.
use Rattle.std.proofs.Common.{lit<, ◌≡◌, ℕ, zero, suc, ◌-◌, Bool, true, false, not, ◌&&◌, ◌/◌, ◌%◌, List, [], ◌∷◌, ◌++◌, length, take, reverse, Ok, decimal, refl, sym, ap, subst, ◌∙◌, arith}
use Rattle.std.specs.Prelude.{codes, slice_index}
use Rattle.std.specs.Char.{is_ascii_whitespace}
use Rattle.std.specs.List.{prefix_len, suffix_len}
use Rattle.std.proofs.Math.Seq.{take-length}
use Rattle.std.proofs.lemmas.Fmt.{decimal_digit}
use Rattle.std.proofs.lemmas.List.{reverse-append}
use Rattle.hex.specs.Hex.{lower_digits, encode_with, encode_lower}
use Rattle.sdv_card.specs.declared.answer.Answer.{Answer}
use Rattle.sdv_card.specs.declared.answer.Answer.TheVariants.{Sent, TimeOut, Reply as Replied, Damaged}
use Rattle.sdv_card.specs.declared.answer.DataEnd.{DataEnd}
use Rattle.sdv_card.specs.declared.answer.DataEnd.TheVariants.{Ok as Whole, Cut}
use Rattle.sdv_card.specs.declared.answer.WaitEnd.TheVariants.{Ok as Over, Late}
use Rattle.sdv_card.specs.declared.state.Width.TheVariants.{One, Four, Eight}
use Rattle.sdv_frames.specs.declared.reply.Reply.TheVariants.{R1, R2, R3, R6, R7}
use Rattle.sdv_trace.specs.Trace.{answer_text, command_text, end_text, word_text}
use Rattle.sdv_audit.specs.declared.line.TraceLine.{TraceLine}
use Rattle.sdv_audit.specs.declared.line.TraceLine.TheVariants.{Exchange, BlocksIn, RegisterIn, BlocksOut, Wait, Lines, Running, End}
use Rattle.sdv_audit.specs.declared.texts.Said.TheVariants.{Line}
use Rattle.sdv_audit.specs.Spelling.{IsLine, IsAnswerTo, line_text}
use Rattle.sdv_audit.specs.Texts.{is_comment, line_said, read_said, said_of, trimmed}
use Rattle.sdv_card.proofs.Members.{and_left, and_right}
use Rattle.sdv_audit.proofs.Courses.{not_is}
use Rattle.sdv_audit.proofs.Printed.{lines_are_read}

-- the last byte is no white space
pub record EndsSolid (text : List ℕ) : Type 0 where
  pub last : ℕ
  pub front : List ℕ
  pub is : reverse text ≡ last ∷ front
  pub solid : is_ascii_whitespace last ≡ false

solid_behind : (front back : List ℕ) → EndsSolid back → EndsSolid (front ++ back)
solid_behind front back s = record {
  last = s.last;
  front = s.front ++ reverse front;
  is = reverse-append front back ∙ ap (λ l. l ++ reverse front) s.is;
  solid = s.solid;
}

nothing_trimmed : (text : List ℕ) → EndsSolid text → trimmed text ≡ text
nothing_trimmed text s =
    let none : suffix_len is_ascii_whitespace text ≡ 0 = ap (prefix_len is_ascii_whitespace) s.is ∙ rw s.solid refl in
    let all : length text - suffix_len is_ascii_whitespace text ≡ length text = omega (arith, none) in
    ap (λ n. take n text) all ∙ take-length text

-- HEXADECIMAL DIGITS

abbrev are_solid : List ℕ → Bool
are_solid [] = true
are_solid (b ∷ bs) = not (is_ascii_whitespace b) && are_solid bs

index_solid : (digits : List ℕ) → are_solid digits ≡ true → (i : ℕ) → is_ascii_whitespace (slice_index digits i) ≡ false
index_solid [] all i = refl
index_solid (d ∷ ds) all zero = not_is (is_ascii_whitespace d) (and_left (not (is_ascii_whitespace d)) (are_solid ds) all)
index_solid (d ∷ ds) all (suc i) = index_solid ds (and_right (not (is_ascii_whitespace d)) (are_solid ds) all) i

digit_solid : (i : ℕ) → is_ascii_whitespace (slice_index lower_digits i) ≡ false
digit_solid i = index_solid lower_digits refl i

hex_solid : (byte : ℕ) (bytes : List ℕ) → EndsSolid (encode_lower (byte ∷ bytes))
unfolding encode_with
hex_solid byte [] = record {
  last = slice_index lower_digits (byte % 16);
  front = slice_index lower_digits (byte / 16) ∷ [];
  is = refl;
  solid = digit_solid (byte % 16);
}
hex_solid byte (next ∷ bytes) =
    solid_behind (slice_index lower_digits (byte / 16) ∷ slice_index lower_digits (byte % 16) ∷ []) (encode_lower (next ∷ bytes)) (hex_solid next bytes)

word_solid : (n : ℕ) → EndsSolid (word_text n)
word_solid n = hex_solid _ _

register_solid : (bytes : List ℕ) → length bytes ≡ 15 → EndsSolid (encode_lower bytes)
register_solid [] e = absurd (let f : 0 ≡ 15 = e in omega (arith, f))
register_solid (byte ∷ bytes) e = hex_solid byte bytes

-- LINES

answer_solid : (index : ℕ) (answer : Answer) → IsAnswerTo index answer → EndsSolid (answer_text answer)
answer_solid index Sent is = record { last = 45; front = []; is = refl; solid = refl }
answer_solid index TimeOut is = record { last = 116; front = reverse (codes "timeou"); is = refl; solid = refl }
answer_solid index (Replied (R1 repeated status)) is = solid_behind (codes "R1 ") (word_text status) (word_solid status)
answer_solid index (Replied (R2 register)) is = solid_behind (codes "R2 ") (encode_lower register) (register_solid register is.0)
answer_solid index (Replied (R3 ocr)) is = solid_behind (codes "R3 ") (word_text ocr) (word_solid ocr)
answer_solid index (Replied (R6 word)) is = solid_behind (codes "R6 ") (word_text word) (word_solid word)
answer_solid index (Replied (R7 word)) is = solid_behind (codes "R7 ") (word_text word) (word_solid word)
answer_solid index (Damaged fault) is = absurd is

end_solid : (end : DataEnd) → EndsSolid (end_text end)
end_solid Whole = record { last = 107; front = reverse (codes " o"); is = refl; solid = refl }
end_solid Cut = record { last = 116; front = reverse (codes " cu"); is = refl; solid = refl }

phase_solid : (word : List ℕ) (count : ℕ) (end : DataEnd) → EndsSolid (word ++ (codes " " ++ (decimal count ++ end_text end)))
phase_solid word count end =
    solid_behind word _ (solid_behind (codes " ") _ (solid_behind (decimal count) (end_text end) (end_solid end)))

lines_solid : (n digit : ℕ) → decimal n ≡ digit ∷ [] → is_ascii_whitespace digit ≡ false → EndsSolid (codes "LINES " ++ decimal n)
lines_solid n digit is solid =
    solid_behind (codes "LINES ") (decimal n) (subst EndsSolid (sym is) (record { last = digit; front = []; is = refl; solid = solid }))

line_solid : (line : TraceLine) → IsLine line → EndsSolid (line_text line)
line_solid (Exchange command answer) is = solid_behind (command_text command) (answer_text answer) (answer_solid command.index answer is.2)
line_solid (BlocksIn count end) is = phase_solid (codes "IN") count end
line_solid (RegisterIn count end) is = phase_solid (codes "REG") count end
line_solid (BlocksOut count end) is = phase_solid (codes "OUT") count end
line_solid (Wait Over) is = record { last = 107; front = reverse (codes "WAIT o"); is = refl; solid = refl }
line_solid (Wait Late) is = record { last = 101; front = reverse (codes "WAIT lat"); is = refl; solid = refl }
line_solid (Lines One) is = lines_solid 1 49 (decimal_digit 1 (lit< tt)) refl
line_solid (Lines Four) is = lines_solid 4 52 (decimal_digit 4 (lit< tt)) refl
line_solid (Lines Eight) is = lines_solid 8 56 (decimal_digit 8 (lit< tt)) refl
line_solid (Running rca lines) is = absurd is
line_solid End is = record { last = 101; front = reverse (codes "don"); is = refl; solid = refl }

no_comment : (line : TraceLine) → is_comment (line_text line) ≡ false
no_comment (Exchange command answer) = refl
no_comment (BlocksIn count end) = refl
no_comment (RegisterIn count end) = refl
no_comment (BlocksOut count end) = refl
no_comment (Wait Over) = refl
no_comment (Wait Late) = refl
no_comment (Lines width) = refl
no_comment (Running rca lines) = refl
no_comment End = refl

-- what is printed says the line
pub lines_are_said : (line : TraceLine) → IsLine line → read_said (line_text line) ≡ Ok (Line line)
lines_are_said line is =
    ap said_of (nothing_trimmed (line_text line) (line_solid line is))
    ∙ (rw (no_comment line) (ap line_said (lines_are_read line is)))
