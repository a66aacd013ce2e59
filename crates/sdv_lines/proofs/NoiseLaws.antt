-- What is left of bytes without the lines before the first answer.
use Rattle.std.proofs.Common.{◌≡◌, ℕ, zero, suc, ◌<◌, ◌≤◌, ◌+◌, ◌-◌, ◌==◌, ◌&&◌, nat_lt, not, if◌then◌else◌, Bool, true, false, List, [], ◌∷◌, ◌++◌, length, Option, Some, None, refl, sym, ap, ◌∙◌, subst, append_assoc, arith}
use Rattle.std.proofs.lemmas.Bool.{le-ltb, lt-ltb, ltb-true, ltb-false, eqb-true, eqb-false}
use Rattle.std.proofs.lemmas.List.{append-nil}
use Rattle.std.specs.Prelude.{Result, Ok, Err, slice_set, take}
use Rattle.std.specs.Io.KnownBytes.{Consumes, IsAtEnd, Keeps, ReadConsumes}
use Rattle.sdv_lines.specs.declared.line.TheConstants.{LONGEST}
use Rattle.sdv_lines.specs.Noise.{is_answer, quieted, quiets}
use Rattle.sdv_lines.specs.Texts.{trimmed}

both_ap : {A B C : Type 0} (f : A → B → C) {a a' : A} {b b' : B} → a ≡ a' → b ≡ b' → f a b ≡ f a' b'
both_ap f {a} {a'} {b} {b'} p q = ap (λ x. f x b) p ∙ ap (f a') q

pub clash : {A : Type 0} (b : Bool) → b ≡ true → b ≡ false → A
clash true t f = absurd (cc f)
clash false t f = absurd (cc t)

not_zero_at : (n : ℕ) (b : Bool) → (n == 0) ≡ b → 0 < n → b ≡ false
not_zero_at n true e some = absurd (omega (arith, eqb-true n 0 e, some))
not_zero_at n false e some = refl

not_zero : (n : ℕ) → 0 < n → (n == 0) ≡ false
not_zero n some = not_zero_at n (n == 0) refl some

-- no line may be skipped
pub quieted_none : (held bytes : List ℕ) → quieted 0 held bytes ≡ held ++ bytes
unfolding quieted
quieted_none held [] = sym (append-nil held)
quieted_none held (byte ∷ bytes) = refl

-- a line is longer than any of the protocol
pub quieted_long : (most : ℕ) (held bytes : List ℕ) → 0 < most → LONGEST < length held → quieted most held bytes ≡ held ++ bytes
unfolding quieted
quieted_long most held [] some long = sym (append-nil held)
quieted_long most held (byte ∷ bytes) some long = rw (not_zero most some, lt-ltb LONGEST (length held) long) refl

-- one more byte of a line
pub quieted_more : (most : ℕ) (held : List ℕ) (byte : ℕ) (bytes : List ℕ) → 0 < most → length held ≤ LONGEST → (byte == 10) ≡ false
    → quieted most held (byte ∷ bytes) ≡ quieted most (held ++ byte ∷ []) bytes
unfolding quieted
quieted_more most held byte bytes some short other = rw (not_zero most some, le-ltb LONGEST (length held) short, other) refl

-- the end of a line that is none of an answer
pub quieted_skips : (most : ℕ) (held : List ℕ) (byte : ℕ) (bytes : List ℕ) → 0 < most → length held ≤ LONGEST → (byte == 10) ≡ true
    → is_answer (trimmed held) ≡ false → quieted most held (byte ∷ bytes) ≡ quieted (most - 1) [] bytes
unfolding quieted
quieted_skips most held byte bytes some short end noise = rw (not_zero most some, le-ltb LONGEST (length held) short, end, noise) refl

-- the end of the first answer's first line
pub quieted_finds : (most : ℕ) (held : List ℕ) (byte : ℕ) (bytes : List ℕ) → 0 < most → length held ≤ LONGEST → (byte == 10) ≡ true
    → is_answer (trimmed held) ≡ true → quieted most held (byte ∷ bytes) ≡ held ++ byte ∷ bytes
unfolding quieted
quieted_finds most held byte bytes some short end answer = rw (not_zero most some, le-ltb LONGEST (length held) short, end, answer) refl

-- ONE BYTE

-- what a reader holds of a line after one more byte
taken_at : (most most' : ℕ) (held held' : List ℕ) (byte : ℕ) (ends answer : Bool) → 0 < most → length held ≤ LONGEST → (byte == 10) ≡ ends
    → is_answer (trimmed held) ≡ answer → (ends && not answer ≡ true → (most' ≡ most - 1) × (held' ≡ []))
    → (ends && not answer ≡ false → (most' ≡ (if ends then 0 else most)) × (held' ≡ held ++ byte ∷ []))
    → (bytes : List ℕ) → quieted most' held' bytes ≡ quieted most held (byte ∷ bytes)
taken_at most most' held held' byte true true some short e a skipped held_on bytes =
    let now = held_on refl in
    both_ap (λ m h. quieted m h bytes) now.0 now.1 ∙ quieted_none (held ++ byte ∷ []) bytes ∙ append_assoc held (byte ∷ []) bytes
    ∙ sym (quieted_finds most held byte bytes some short e a)
taken_at most most' held held' byte true false some short e a skipped held_on bytes =
    let now = skipped refl in
    both_ap (λ m h. quieted m h bytes) now.0 now.1 ∙ sym (quieted_skips most held byte bytes some short e a)
taken_at most most' held held' byte false answer some short e a skipped held_on bytes =
    let now = held_on refl in
    both_ap (λ m h. quieted m h bytes) now.0 now.1 ∙ sym (quieted_more most held byte bytes some short e)

pub taken : (most most' : ℕ) (held held' : List ℕ) (byte : ℕ) → 0 < most → length held ≤ LONGEST
    → ((byte == 10) && not (is_answer (trimmed held)) ≡ true → (most' ≡ most - 1) × (held' ≡ []))
    → ((byte == 10) && not (is_answer (trimmed held)) ≡ false → (most' ≡ (if byte == 10 then 0 else most)) × (held' ≡ held ++ byte ∷ []))
    → (bytes : List ℕ) → quieted most' held' bytes ≡ quieted most held (byte ∷ bytes)
taken most most' held held' byte some short s h bytes =
    taken_at most most' held held' byte (byte == 10) (is_answer (trimmed held)) some short refl refl s h bytes

-- KNOWN BYTES

-- one byte of the reader went into the line
pub quiets_taken : (most most' : ℕ) (held held' : List ℕ) (byte : ℕ) (known known' : Option (List ℕ)) → Consumes known known' (byte ∷ [])
    → ((bytes : List ℕ) → quieted most' held' bytes ≡ quieted most held (byte ∷ bytes)) → Keeps (quiets most held known) (quiets most' held' known')
quiets_taken most most' held held' byte None known' c q = tt
quiets_taken most most' held held' byte (Some xs) None c q = absurd c
quiets_taken most most' held held' byte (Some xs) (Some ys) c q = q ys ∙ ap (quieted most held) (sym c)

pub keeps_same : (known : Option (List ℕ)) → Keeps known known
keeps_same None = tt
keeps_same (Some xs) = refl

pub keeps_both : (a b c : Option (List ℕ)) → Keeps a b → Keeps b c → Keeps a c
keeps_both None b c k l = tt
keeps_both (Some xs) None c k l = absurd k
keeps_both (Some xs) (Some ys) None k l = absurd l
keeps_both (Some xs) (Some ys) (Some zs) k l = l ∙ k

-- the reader failed
pub quiets_kept : (most : ℕ) (held : List ℕ) (known known' : Option (List ℕ)) → Keeps known known' → Keeps (quiets most held known) (quiets most held known')
quiets_kept most held None known' k = tt
quiets_kept most held (Some xs) None k = absurd k
quiets_kept most held (Some xs) (Some ys) k = ap (quieted most held) k

-- no byte is left
pub quiets_ended : (most : ℕ) (held : List ℕ) (known known' : Option (List ℕ)) → Consumes known known' [] → IsAtEnd known'
    → Keeps (quiets most held known) (quiets 0 held known')
unfolding quieted
quiets_ended most held None known' c e = tt
quiets_ended most held (Some xs) None c e = absurd c
quiets_ended most held (Some xs) (Some ys) c e = ap (quieted 0 held) e ∙ sym (ap (quieted most held) (c ∙ e))

-- a line is longer than any of the protocol, or no line may be skipped
longer_at : (n m : ℕ) (b : Bool) → nat_lt m n ≡ b → (n < m + 1 → ⊥) → m < n
longer_at n m true e closed = ltb-true m n e
longer_at n m false e closed = absurd (closed (omega (arith, ltb-false m n e)))

pub quiets_closed : (most : ℕ) (held : List ℕ) (known : Option (List ℕ)) → ((0 < most) × (length held < LONGEST + 1) → ⊥)
    → Keeps (quiets most held known) (quiets 0 held known)
quiets_closed most held None closed = tt
quiets_closed zero held (Some xs) closed = refl
quiets_closed (suc most) held (Some xs) closed =
    let some : 0 < suc most = omega arith in
    let long : LONGEST < length held = longer_at (length held) LONGEST (nat_lt LONGEST (length held)) refl (λ short. closed (some, short)) in
    quieted_none held xs ∙ sym (quieted_long (suc most) held xs some long)

-- HANDED ON

-- a byte that was held
pub quiets_given : (held held' : List ℕ) (byte : ℕ) (known : Option (List ℕ)) → held ≡ byte ∷ held'
    → Consumes (quiets 0 held known) (quiets 0 held' known) (byte ∷ [])
quiets_given held held' byte None e = tt
quiets_given held held' byte (Some xs) e =
    quieted_none held xs ∙ ap (λ l. l ++ xs) e ∙ ap (λ l. byte ∷ l) (sym (quieted_none held' xs))

-- nothing is held
pub quiets_passed : (held : List ℕ) (known known' : Option (List ℕ)) (front : List ℕ) → held ≡ [] → Consumes known known' front
    → Consumes (quiets 0 held known) (quiets 0 held known') front
quiets_passed held None known' front e c = tt
quiets_passed held (Some xs) None front e c = absurd c
quiets_passed held (Some xs) (Some ys) front e c =
    quieted_none held xs ∙ ap (λ l. l ++ xs) e ∙ c ∙ ap (λ l. front ++ l) (sym (quieted_none held ys ∙ ap (λ l. l ++ ys) e))

consumes_kept : (a b c : Option (List ℕ)) (front : List ℕ) → Keeps a b → Consumes b c front → Consumes a c front
consumes_kept None b c front k d = tt
consumes_kept (Some xs) None c front k d = absurd k
consumes_kept (Some xs) (Some ys) None front k d = absurd d
consumes_kept (Some xs) (Some ys) (Some zs) front k d = sym k ∙ d

ended_still : (held : List ℕ) (known : Option (List ℕ)) → held ≡ [] → IsAtEnd known → IsAtEnd (quiets 0 held known)
ended_still held None e end = tt
ended_still held (Some xs) e end = quieted_none held xs ∙ both_ap (λ h l. h ++ l) e end

-- A READ

empty : (xs : List ℕ) → (length xs == 0) ≡ true → xs ≡ []
empty [] e = refl
empty (x ∷ xs) e = absurd (omega (arith, eqb-true (length (x ∷ xs)) 0 e))

-- the reader's own, where nothing is held
pub read_on : {E : Type 0} (first : Option (List ℕ)) (most : ℕ) (held : List ℕ) (known known' : Option (List ℕ)) (r : Result ℕ E) (buf : List ℕ)
    → Keeps first (quiets most held known) → most ≡ 0 → (length held == 0) ≡ true → ReadConsumes known known' r buf
    → ReadConsumes first (quiets most held known') r buf
read_on {E} first most held known known' (Ok n) buf k m e c =
    let none = empty held e in
    let all : ReadConsumes {E = E} first (quiets 0 held known') (Ok n) buf = (
      consumes_kept first (quiets 0 held known) (quiets 0 held known') (take n buf) (subst (λ z. Keeps first (quiets z held known)) m k)
          (quiets_passed held known known' (take n buf) none c.0),
      λ z some. ended_still held known' none (c.1 z some),
    ) in
    subst (λ z. ReadConsumes {E = E} first (quiets z held known') (Ok n) buf) (sym m) all
read_on {E} first most held known known' (Err e') buf k m e c = keeps_both first (quiets most held known) (quiets most held known') k (quiets_kept most held known known' c)

first_set : (buf : List ℕ) (byte : ℕ) → (length buf == 0) ≡ false → take 1 (slice_set buf 0 byte) ≡ byte ∷ []
first_set [] byte some = absurd (eqb-false 0 0 some refl)
first_set (x ∷ xs) byte some = refl

-- a byte that was held
pub read_held : (first : Option (List ℕ)) (most most' : ℕ) (held held' : List ℕ) (byte : ℕ) (known : Option (List ℕ)) (buf : List ℕ)
    → Keeps first (quiets most held known) → most ≡ 0 → most' ≡ most → held ≡ byte ∷ held' → (length buf == 0) ≡ false
    → Consumes first (quiets most' held' known) (take 1 (slice_set buf 0 byte))
read_held first most most' held held' byte known buf k m m' h some =
    let one : Consumes first (quiets 0 held' known) (byte ∷ []) =
    consumes_kept first (quiets 0 held known) (quiets 0 held' known) (byte ∷ []) (subst (λ z. Keeps first (quiets z held known)) m k)
    (quiets_given held held' byte known h) in
    let at : Consumes first (quiets most' held' known) (byte ∷ []) =
    subst (λ z. Consumes first (quiets z held' known) (byte ∷ [])) (sym (m' ∙ m)) one in
    subst (λ l. Consumes first (quiets most' held' known) l) (sym (first_set buf byte some)) at
