use Rattle.std.proofs.Common.{◌≡◌, ◌≤◌, ◌*◌, arith, rules, refl, sym, subst, length}
use Rattle.hex.proofs.HexLemmas.{decode_of-ok}
use Rattle.sdv_lines.specs.Texts.{AreDigits, trimmed}
use Rattle.sdv_lines.proofs.AnswerLaws.{decoded, undecoded}
use Rattle.sdv_lines.proofs.LineLaws.{trimmed_fits}
use Rattle.sdv_lines.proofs.DigitLaws.{no_digits, wrong_digits}
use Rattle.sdv_lines.proofs.digits.read_digits.Goals as goal

pub returns-in_err-read_line : goal.returns-in_err-read_line
returns-in_err-read_line g c =
    let none = no_digits (length c.args.bytes.now) (g.R.Read.remaining c.args.reader.now) (g.R.Read.remaining c.read_line.new.reader)
    c.in_err-read_line.field-0.0 c.in_err-read_line.ensures.0 in
    search rules

pub returns-in-Ok : goal.returns-in-Ok
returns-in-Ok g c =
    let read = c.in_ok-read_line.ensures in
    let text = c.read_line.new.line.text.items in
    let out = c.decode_to_slice.new.out in
    let are : AreDigits (trimmed text) out = subst (λ l. AreDigits l out) c.words.ensures
    (decoded c.words.result.now out _ _ _ refl c.decode_to_slice.ensures.value c.in-Ok.is) in
    let twice : length (trimmed text) ≡ 2 * length out = (decode_of-ok (trimmed text) out are).2 in
    let fits : length (trimmed text) ≤ length text = trimmed_fits text in
    let short : length out ≤ 512 = omega (arith, twice, fits, read.0.1) in
    (record { text = text; line = read.0; are = are; short = short; read = read.1 }, search rules)

pub returns-in-Err : goal.returns-in-Err
returns-in-Err g c =
    let read = c.in_ok-read_line.ensures in
    wrong_digits (length c.args.bytes.now) (g.R.Read.remaining c.args.reader.now) (g.R.Read.remaining c.read_line.new.reader)
    c.read_line.new.line.text.items read.0 read.1
    (λ bytes are len. undecoded c.words.result.now c.decode_to_slice.new.out bytes _ _ _ c.in-Err.field-0 refl
    c.decode_to_slice.ensures.value c.in-Err.is len (subst (λ l. AreDigits l bytes) (sym c.words.ensures) are))
