-- Lists of items: what is read is what was written, what was written is read again, and how a loop goes over them.
use Rattle.std.proofs.Common.{◌≡◌, ℕ, zero, suc, ◌-◌, ◌<◌, ◌≤◌, Bool, true, false, List, [], ◌∷◌, ◌++◌, length, Option, Some, None, inl, inr, refl, sym, ap, subst, ◌∙◌, append_assoc, arith, length-append}
use Rattle.std.proofs.lemmas.List.{append-nil}
use Rattle.sdv_text.proofs.FrontLaws.{bind_some, some_is, either}
use Rattle.sdv_text.specs.Fronts.{◌>>=◌, Read}
use Rattle.sdv_facts.specs.CertificateText.{each_written}
use Rattle.sdv_check.specs.declared.text.fault.CertFault.{CertFault}
use Rattle.sdv_check.specs.declared.text.fault.CertFault.TheVariants.{Header, Syntax, Order, Limit, Memory}
use Rattle.sdv_check.specs.Reading.{Fails, read_each, ends_item}

-- each item stands in a relation with the one before it
abbrev pub Each : {A : Type 0} → (Option A → A → Type 0) → Option A → List A → Type 0
Each Q last [] = Unit {0}
Each Q last (x ∷ xs) = Q last x × Each Q (Some x) xs

pub fails_none : {Y : Type 0} (f : CertFault) (read : Option Y) → read ≡ None → Fails f read
fails_none Header read e = e
fails_none (Syntax line) read e = e
fails_none (Order line) read e = e
fails_none Limit read e = e
fails_none Memory read e = tt

-- where a part fails, what needs it fails
pub fails_with : {X Y : Type 0} (f : CertFault) (part : Option X) (whole : Option Y) → Fails f part → (part ≡ None → whole ≡ None) → Fails f whole
fails_with Header part whole e h = h e
fails_with (Syntax line) part whole e h = h e
fails_with (Order line) part whole e h = h e
fails_with Limit part whole e h = h e
fails_with Memory part whole e h = tt

module _ {A : Type 0} (begins : List ℕ → Bool) (item : Option A → List ℕ → Read A) where
  -- A LOOP: what was read before, and what is still read

  abbrev pub with_front : List A → Read (List A) → Read (List A)
  with_front front read = read >>= λ x. Some (front ++ x.0, x.1)

  regroup : (front : List A) (x : A) (read : Read (List A)) → with_front front (read >>= λ xs. Some (x ∷ xs.0, xs.1)) ≡ with_front (front ++ x ∷ []) read
  regroup front x (Some xs) = ap (λ (l : List A). Some (l, xs.1)) (sym (append_assoc front (x ∷ []) xs.0))
  regroup front x None = refl

  abbrev pub left : (room : ℕ) → List A → Option A → List ℕ → Read (List A)
  left room front last bs = with_front front (read_each begins item (room - length front) last bs)

  pub each_more : (room : ℕ) (front : List A) (last : Option A) (bs : List ℕ) (x : A) (after : List ℕ) (total : Read (List A)) → begins bs ≡ true
      → length front < room → item last bs ≡ Some (x, after)
      → left room front last bs ≡ total → left room (front ++ x ∷ []) (Some x) after ≡ total
  unfolding read_each
  each_more room front last bs x after total on lt e so_far =
      let more : room - length front ≡ suc (room - length (front ++ x ∷ [])) = omega (arith, length-append front (x ∷ [])) in
      let one : left room front last bs ≡ left room (front ++ x ∷ []) (Some x) after =
      rw (more, on, e) (regroup front x (read_each begins item (room - length (front ++ x ∷ [])) (Some x) after)) in
      sym one ∙ so_far

  pub each_full : (room : ℕ) (front : List A) (last : Option A) (bs : List ℕ) (total : Read (List A)) → begins bs ≡ true → room ≤ length front
      → left room front last bs ≡ total → total ≡ None
  unfolding read_each
  each_full room front last bs total on le so_far =
      let none : room - length front ≡ 0 = omega arith in
      let one : left room front last bs ≡ None = rw (none, on) refl in
      sym so_far ∙ one

  stops : (room : ℕ) (last : Option A) (bs : List ℕ) → begins bs ≡ true → item last bs ≡ None → read_each begins item room last bs ≡ None
  unfolding read_each
  stops zero last bs on e = rw on refl
  stops (suc room) last bs on e = rw (on, e) refl

  pub each_fails : (f : CertFault) (room : ℕ) (front : List A) (last : Option A) (bs : List ℕ) (total : Read (List A)) → begins bs ≡ true
      → Fails f (item last bs) → left room front last bs ≡ total → Fails f total
  each_fails f room front last bs total on e so_far =
      fails_with f (item last bs) total e (λ none. sym so_far ∙ ap (with_front front) (stops (room - length front) last bs on none))

  ends_at : (room : ℕ) (last : Option A) (bs : List ℕ) → begins bs ≡ false → read_each begins item room last bs ≡ Some ([], bs)
  unfolding read_each
  ends_at zero last bs off = rw off refl
  ends_at (suc room) last bs off = rw off refl

  pub each_done : (room : ℕ) (front : List A) (last : Option A) (bs : List ℕ) (total : Read (List A)) → begins bs ≡ false → left room front last bs ≡ total
      → total ≡ Some (front, bs)
  each_done room front last bs total off so_far =
      sym so_far ∙ ap (with_front front) (ends_at (room - length front) last bs off) ∙ ap (λ (l : List A). Some (l, bs)) (append-nil front)

  -- THE LAWS

  module _ (written : A → List ℕ → List ℕ) (Q : Option A → A → Type 0) where
    pub each_takes : ((last : Option A) (bs : List ℕ) (x : A) (rest : List ℕ) → item last bs ≡ Some (x, rest) → (bs ≡ written x rest) × Q last x)
        → (room : ℕ) (last : Option A) (bs : List ℕ) (xs : List A) (rest : List ℕ) → read_each begins item room last bs ≡ Some (xs, rest)
        → (bs ≡ each_written written xs rest) × (length xs ≤ room) × Each Q last xs
    unfolding read_each
    each_takes takes zero last bs xs rest e =
        elim (either (begins bs)) [
          | inl on ↦ absurd (let e' = rw on at e in cc)
          | inr off ↦
              let e' = rw off at e in
              let same = some_is ([], bs) (xs, rest) e' in
              subst (λ (y : List A × List ℕ). (bs ≡ each_written written y.0 y.1) × (length y.0 ≤ 0) × Each Q last y.0) same (refl, omega arith, tt)
        ]
    each_takes takes (suc room) last bs xs rest e =
        elim (either (begins bs)) [
          | inl on ↦
              let e' = rw on at e in
              let a = bind_some (item last bs) (λ x. read_each begins item room (Some x.0) x.1 >>= λ ys. Some (x.0 ∷ ys.0, ys.1)) (xs, rest) e' in
              let b = bind_some (read_each begins item room (Some a.0.0) a.0.1) (λ ys. Some (a.0.0 ∷ ys.0, ys.1)) (xs, rest) a.2 in
              let same = some_is (a.0.0 ∷ b.0.0, b.0.1) (xs, rest) b.2 in
              let first = takes last bs a.0.0 a.0.1 a.1 in
              let more = each_takes takes room (Some a.0.0) a.0.1 b.0.0 b.0.1 b.1 in
              subst (λ (y : List A × List ℕ). (bs ≡ each_written written y.0 y.1) × (length y.0 ≤ suc room) × Each Q last y.0) same
              (first.0 ∙ ap (written a.0.0) more.0, omega (arith, more.1), (first.1, more.2))
          | inr off ↦
              let e' = rw off at e in
              let same = some_is ([], bs) (xs, rest) e' in
              subst (λ (y : List A × List ℕ). (bs ≡ each_written written y.0 y.1) × (length y.0 ≤ suc room) × Each Q last y.0) same (refl, omega arith, tt)
        ]

    pub each_ends : ((x : A) (rest : List ℕ) → ends_item (written x rest) ≡ true) → (xs : List A) (rest : List ℕ) → ends_item rest ≡ true
        → ends_item (each_written written xs rest) ≡ true
    each_ends ends [] rest end = end
    each_ends ends (x ∷ xs) rest end = ends x (each_written written xs rest)

    pub each_again : ((last : Option A) (x : A) (rest : List ℕ) → Q last x → ends_item rest ≡ true → item last (written x rest) ≡ Some (x, rest))
        → ((last : Option A) (x : A) (rest : List ℕ) → Q last x → begins (written x rest) ≡ true)
        → ((x : A) (rest : List ℕ) → ends_item (written x rest) ≡ true)
        → (room : ℕ) (last : Option A) (xs : List A) (rest : List ℕ) → Each Q last xs → length xs ≤ room → ends_item rest ≡ true → begins rest ≡ false
        → read_each begins item room last (each_written written xs rest) ≡ Some (xs, rest)
    unfolding read_each
    each_again again on ends room last [] rest each le end off = ends_at room last rest off
    each_again again on ends zero last (x ∷ xs) rest each le end off = absurd (omega arith)
    each_again again on ends (suc room) last (x ∷ xs) rest each le end off =
        let first = again last x (each_written written xs rest) each.0 (each_ends ends xs rest end) in
        let more = each_again again on ends room (Some x) xs rest each.1 (omega arith) end off in
        rw (on last x (each_written written xs rest) each.0, first, more) refl
