-- The line that is wrong, one line further.
use Rattle.std.proofs.Common.{◌≡◌, ℕ, zero, suc, ◌+◌, ◌-◌, ◌<◌, Some, refl, ap, sym, ◌∙◌, arith}
use Rattle.sdv_explain.specs.declared.describing.field.Field.{Field}
use Rattle.sdv_telling.specs.Statements.{Text}
use Rattle.sdv_explain.specs.Misfits.{misfit_at, misfit_from, step}

more : (lines number : ℕ) (f next : Field) (text rest : Text) → step f text ≡ Some (next, rest) →
    misfit_from (suc lines) number f text ≡ misfit_from lines (number + 1) next rest
more lines number f next text rest e = rw (e, misfit_from) refl

-- the first line says what it is to
pub goes_on : (lines number : ℕ) (f next : Field) (text rest : Text) → 0 < lines → step f text ≡ Some (next, rest) →
    misfit_from lines number f text ≡ misfit_from (lines - 1) (number + 1) next rest
goes_on zero number f next text rest lt e = absurd (omega (arith, lt))
goes_on (suc lines) number f next text rest lt e =
    let p : lines ≡ suc lines - 1 = omega arith in
    more lines number f next text rest e ∙ ap (λ n. misfit_from n (number + 1) next rest) p

-- no line is left
pub stops : (lines number last : ℕ) (f : Field) (text : Text) → lines ≡ 0 → number ≡ last →
    misfit_at last f text ≡ misfit_from lines number f text
stops lines number last f text none is =
    ap (λ n. misfit_at n f text) (sym is) ∙ ap (λ n. misfit_from n number f text) (sym none)
