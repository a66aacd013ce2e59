-- What was written, where the answer of a function is as good as the writing, and what stands after a fault.
use Rattle.std.proofs.Common.{◌≡◌, ◌∙◌, true, false, inl, inr, ℕ, List, [], ◌++◌, Option, Some, None, length, Result, Ok, Err, IfErr, OnOk, append-nil, length-append, ap, sym, arith}
use Rattle.std.specs.Prelude.{is_ok, is_err}
use Rattle.std.specs.Io.KnownBytes.{Appends, Keeps}
use Rattle.sdv_text.specs.Written.{AppendsPart, Writes}
use Rattle.clap.specs.Words.{Text}
use Rattle.sdv_program.specs.Fault.{Says, SaysSo, WritesLine}
use Rattle.sdv_program.specs.declared.fault.Fault.{Fault}
use Rattle.sdv_program.specs.declared.fault.Fault.TheVariants.{Output}

module _ {E : Type 0} (before after : Option (List ℕ)) (text : List ℕ) where
  -- what was written, where the answer is as good as the writing
  pub whole : (w : Result (Unit {0}) E) (r : Result (Unit {0}) Fault) → is_ok r ≡ is_ok w → Writes before after w text → OnOk r (Appends before after text)
  whole (Ok u) (Ok v) same writes = writes
  whole (Err e) (Ok v) same writes = cc
  whole w (Err f) same writes = tt

  pub in_part : (w : Result (Unit {0}) E) (r : Result (Unit {0}) Fault) → is_ok r ≡ is_ok w → Writes before after w text
      → IfErr r (λ _. AppendsPart before after text)
  in_part w (Ok v) same writes = tt
  in_part (Ok u) (Err f) same writes = cc
  in_part (Err e) (Err f) same writes = writes

-- by whether the writing failed
module _ {E : Type 0} (before after : Option (List ℕ)) (text : List ℕ) where
  pub written : (w : Result (Unit {0}) E) → is_err w ≡ false → Writes before after w text → Appends before after text
  written (Ok u) none writes = writes
  written (Err e) none writes = cc

  pub written_in_part : (w : Result (Unit {0}) E) → is_err w ≡ true → Writes before after w text → AppendsPart before after text
  written_in_part (Ok u) failed writes = cc
  written_in_part (Err e) failed writes = writes

pub if_err : {T : Type 0} (r : Result T Fault) (P Q : Fault → Type 0) → IfErr r P → ((fault : Fault) → P fault → Q fault) → IfErr r Q
if_err (Ok x) P Q is step = tt
if_err (Err fault) P Q is step = step fault is

-- nothing is said of a failed output
pub nothing_said : (before after : Option (List ℕ)) → Says Output before after → Keeps before after
nothing_said before after (inl whole) = kept before after whole
  where
    kept : (before after : Option (List ℕ)) → Appends before after [] → Keeps before after
    kept None after same = tt
    kept (Some xs) None same = absurd same
    kept (Some xs) (Some ys) same = same ∙ append-nil xs
nothing_said before after (inr part) =
    let long : length (part.0 ++ part.1) ≡ 0 = ap length (sym part.2) in
    absurd (omega (arith, long, length-append part.0 part.1, part.3))

-- what was said, whether or not the writer failed
pub said : {E : Type 0} (line : Option Text) (before after : Option (List ℕ)) (w : Result (Unit {0}) E)
    → WritesLine line before after w → SaysSo line before after
said None before after (Ok u) writes = (writes.0, inl writes.1)
said None before after (Err e) writes = (writes.0, inr writes.1)
said (Some line) before after (Ok u) writes = inl writes
said (Some line) before after (Err e) writes = inr writes
