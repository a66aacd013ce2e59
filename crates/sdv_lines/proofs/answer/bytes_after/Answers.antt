use Rattle.std.proofs.Common.{rules, ◌≡◌, ◌∙◌, ℕ, List, length, refl, sym}
use Rattle.sdv_lines.specs.Answers.{IsReplyOf}
use Rattle.sdv_lines.proofs.AnswerLaws.{prefixed, not_prefixed, decoded, not_decoded}
use Rattle.std.proofs.lemmas.List.{length-replicate}
use Rattle.sdv_lines.proofs.answer.bytes_after.Goals as goal

pub returns-in_err-digits : goal.returns-in_err-digits
returns-in_err-digits g c =
    let none : (bytes : List ℕ) → length bytes ≡ g.row.N → IsReplyOf c.args.format.now bytes c.args.text.now → ⊥ =
    λ bytes len r. not_prefixed c.args.format.now c.args.text.now bytes c.in_err-digits.ensures.cases r in
    search rules

pub returns-in-Ok : goal.returns-in-Ok
returns-in-Ok g c =
    let front = c.in_ok-digits.ensures.cases in
    let digits = c.in_ok-digits.digits.now in
    record {
      digits = digits;
      split = prefixed c.args.format.now c.args.text.now digits front.0 front.1;
      are = decoded digits c.decode_to_slice.new.out _ _ _ refl c.decode_to_slice.ensures.value c.in-Ok.is;
    }

pub returns-in-Err : goal.returns-in-Err
returns-in-Err g c =
    let front = c.in_ok-digits.ensures.cases in
    let digits = c.in_ok-digits.digits.now in
    λ bytes len r.
    not_decoded c.args.format.now c.args.text.now digits c.decode_to_slice.new.out bytes _ _ _ c.in-Err.field-0
    (prefixed c.args.format.now c.args.text.now digits front.0 front.1) refl c.decode_to_slice.ensures.value c.in-Err.is (len ∙ sym (length-replicate g.row.N 0)) r
