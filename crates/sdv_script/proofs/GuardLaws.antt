-- Reading guards, guard by guard.
use Rattle.std.proofs.Common.{◌≡◌, ℕ, zero, suc, ◌<◌, ◌≤◌, List, [], ◌∷◌, ◌++◌, length, refl, sym, subst, ap, append_assoc, ◌∙◌, arith, Option, Some, None}
use Rattle.sdv_text.specs.Fronts.{◌>>=◌}
use Rattle.sdv_card.specs.declared.guard.Guard.{Guard}
use Rattle.sdv_script.specs.declared.token.Sign.TheVariants as sign
use Rattle.sdv_script.specs.Tokens.{Token, Key, Mark}
use Rattle.std.specs.Prelude.{IfSome, IsTrue, option_map}
use Rattle.sdv_card.specs.declared.command.Order.{Order}
use Rattle.sdv_card.specs.declared.guard.Guard.TheVariants as guards
use Rattle.sdv_card.specs.declared.state.State.{State}
use Rattle.sdv_card.specs.declared.state.State.TheVariants as states
use Rattle.sdv_script.specs.declared.keyword.Keyword.{Keyword}
use Rattle.sdv_script.specs.declared.keyword.Keyword.TheVariants as word
use Rattle.sdv_script.specs.Commands.{fits_order}
use Rattle.sdv_script.proofs.WhereRead.{IfSome-bind, IfSome-test, IfSome-map, Took}
use Rattle.sdv_script.specs.Grammar.{state_word, guard_written, guards_written}
use Rattle.sdv_script.specs.Rules.{GuardsFit}
use Rattle.sdv_script.specs.declared.fault.Stop.{Stop}
use Rattle.sdv_script.specs.declared.fault.Stop.TheVariants as stop
use Rattle.sdv_script.specs.Reading.{Fails, Read, after_and, more_if, after_equals, state_of, read_state, guard_of, read_state_guard, read_word_guard, read_guard, more_guards, guards_within, read_guards}

-- one guard, and what follows it
abbrev pub guards_by : (List Guard → List Token → Read (List Guard)) → List Guard → Read Guard → Read (List Guard)
guards_by further before read = read >>= λ g. more_guards (further (before ++ g.0 ∷ [])) (before ++ g.0 ∷ []) g.1

after_and-shortens : (ts : List Token) → IfSome (after_and ts) (λ rest. length rest < length ts)
after_and-shortens (Mark sign.And ∷ ts) = omega arith
after_and-shortens ts = tt

if_same : (f g : List Token → Read (List Guard)) (gs : List Guard) (ts : List Token) (o : Option (List Token)) → IfSome o (λ rest. f rest ≡ g rest)
    → more_if f gs ts o ≡ more_if g gs ts o
if_same f g gs ts None same = refl
if_same f g gs ts (Some rest) same = same

more_same : (f g : List Token → Read (List Guard)) (gs : List Guard) (ts : List Token) → ((rest : List Token) → length rest < length ts → f rest ≡ g rest)
    → more_guards f gs ts ≡ more_guards g gs ts
more_same f g gs ts same = if_same f g gs ts (after_and ts) (IfSome-map (after_and ts) _ _ (after_and-shortens ts) same)

-- GUARDS

pub after_equals-took : (ts : List Token) → IfSome (after_equals ts) (λ r. ts ≡ Mark sign.Equals ∷ r)
after_equals-took (Mark sign.Equals ∷ ts) = refl
after_equals-took ts = tt

state_of-took : (k : Keyword) → IfSome (state_of k) (λ s. k ≡ state_word s)
state_of-took word.Idle = refl
state_of-took word.Ready = refl
state_of-took word.Ident = refl
state_of-took word.Stby = refl
state_of-took word.Tran = refl
state_of-took word.Data = refl
state_of-took word.Rcv = refl
state_of-took word.Prg = refl
state_of-took word.Dis = refl
state_of-took k = tt

read_state-took : (ts : List Token) → IfSome (read_state ts) (λ x. ts ≡ Key (state_word x.0) ∷ x.1)
read_state-took (Key k ∷ ts) = IfSome-bind (state_of k) _ _ _ (state_of-took k) (λ s e. ap (λ (w : Keyword). Key w ∷ ts) e)
read_state-took ts = tt

suits_alike : (s : State) (order : Option Order) → fits_order (guards.State states.Idle) order ≡ fits_order (guards.State s) order
suits_alike s None = refl
suits_alike s (Some order) = refl

abbrev pub GuardTook : Option Order → List Token → Guard × List Token → Type 0
GuardTook order ts x = Took guard_written (λ g. IsTrue (fits_order g order)) ts x

state_guard-took : (order : Option Order) (ts : List Token) → IfSome (read_state_guard order ts) (GuardTook order (Key word.State ∷ ts))
state_guard-took order ts =
    IfSome-test (fits_order (guards.State states.Idle) order) _ _ (λ suits.
    IfSome-bind (after_equals ts) _ _ _ (after_equals-took ts) (λ r e.
    IfSome-bind (read_state r) _ _ _ (read_state-took r) (λ s f.
    record { parts = rw (e, f) refl; fits = sym (suits_alike s.0 order) ∙ suits })))

guard_of-took : (k : Keyword) (ts : List Token) → IfSome (guard_of k) (λ g. Key k ∷ ts ≡ guard_written g ts)
guard_of-took word.Timeout ts = refl
guard_of-took word.Answer ts = refl
guard_of-took word.Clean ts = refl
guard_of-took word.Ready ts = refl
guard_of-took word.App ts = refl
guard_of-took word.Echo ts = refl
guard_of-took word.OcrReady ts = refl
guard_of-took word.OcrBlock ts = refl
guard_of-took k ts = tt

word_guard-took : (order : Option Order) (k : Keyword) (ts : List Token) → IfSome (read_word_guard order k ts) (GuardTook order (Key k ∷ ts))
word_guard-took order k ts =
    IfSome-bind (guard_of k) _ _ _ (guard_of-took k ts) (λ g e.
    IfSome-test (fits_order g order) _ _ (λ suits. record { parts = e; fits = suits }))

pub read_guard-took : (order : Option Order) (ts : List Token) → IfSome (read_guard order ts) (GuardTook order ts)
read_guard-took order (Key word.State ∷ ts) = state_guard-took order ts
read_guard-took order (Key k ∷ ts) = word_guard-took order k ts
read_guard-took order ts = tt

-- ONE GUARD AFTER THE OTHER

guard_written-longer : (g : Guard) (rest : List Token) → length rest < length (guard_written g rest)
guard_written-longer guards.Timeout rest = omega arith
guard_written-longer guards.Answer rest = omega arith
guard_written-longer guards.Clean rest = omega arith
guard_written-longer guards.Ready rest = omega arith
guard_written-longer guards.App rest = omega arith
guard_written-longer guards.Echo rest = omega arith
guard_written-longer guards.OcrReady rest = omega arith
guard_written-longer guards.OcrBlock rest = omega arith
guard_written-longer (guards.State s) rest = omega arith
guard_written-longer guards.Ok rest = omega arith

took_shortens : (order : Option Order) (ts : List Token) (x : Guard × List Token) → GuardTook order ts x → length x.1 < length ts
took_shortens order ts x took = rw took.parts (guard_written-longer x.0 x.1)

pub bind_same : {A B : Type 0} (o : Option A) (f g : A → Option B) (P : A → Type 0) → IfSome o P → ((a : A) → P a → f a ≡ g a) → (o >>= f) ≡ (o >>= g)
bind_same None f g P p same = refl
bind_same (Some a) f g P p same = same a p

within_same : (m n : ℕ) (order : Option Order) (before : List Guard) (ts : List Token) → length ts ≤ m → length ts ≤ n
    → guards_within m order before ts ≡ guards_within n order before ts
unfolding guards_within
within_same zero zero order before ts p q = refl
within_same zero (suc n) order before [] p q = refl
within_same zero (suc n) order before (t ∷ ts) p q = absurd (omega arith)
within_same (suc m) zero order before [] p q = refl
within_same (suc m) zero order before (t ∷ ts) p q = absurd (omega arith)
within_same (suc m) (suc n) order before ts p q =
    bind_same (read_guard order ts) _ _ _ (read_guard-took order ts) (λ g took.
    let less = took_shortens order ts g took in
    more_same (guards_within m order (before ++ g.0 ∷ [])) (guards_within n order (before ++ g.0 ∷ [])) (before ++ g.0 ∷ []) g.1
    (λ rest lt. within_same m n order (before ++ g.0 ∷ []) rest (omega arith) (omega arith)))

first_within : (n : ℕ) (order : Option Order) (before : List Guard) (ts : List Token) → length ts ≤ suc n
    → guards_within (suc n) order before ts ≡ guards_by (read_guards order) before (read_guard order ts)
unfolding guards_within read_guards
first_within n order before ts le =
    bind_same (read_guard order ts) _ _ _ (read_guard-took order ts) (λ g took.
    let less = took_shortens order ts g took in
    more_same (guards_within n order (before ++ g.0 ∷ [])) (read_guards order (before ++ g.0 ∷ [])) (before ++ g.0 ∷ []) g.1
    (λ rest lt. within_same n (length rest) order (before ++ g.0 ∷ []) rest (omega arith) (omega arith)))

-- the first guard, and those after it
pub read_guards-is : (order : Option Order) (before : List Guard) (ts : List Token)
    → read_guards order before ts ≡ guards_by (read_guards order) before (read_guard order ts)
unfolding read_guards
read_guards-is order before ts = within_same (length ts) (suc (length ts)) order before ts (omega arith) (omega arith)
    ∙ first_within (length ts) order before ts (omega arith)

-- FOR THE LOOP that reads guards

pub guards_go_on : (order : Option Order) (before : List Guard) (ts : List Token) (g : Guard) (after rest : List Token) → read_guard order ts ≡ Some (g, after)
    → after_and after ≡ Some rest → read_guards order (before ++ g ∷ []) rest ≡ read_guards order before ts
guards_go_on order before ts g after rest e f = sym (read_guards-is order before ts ∙ rw (e, f) refl)

pub guards_shrink : (order : Option Order) (ts : List Token) (g : Guard) (after rest : List Token) → read_guard order ts ≡ Some (g, after)
    → after_and after ≡ Some rest → length rest < length ts
guards_shrink order ts g after rest e f =
    let took : GuardTook order ts (g, after) = subst (λ (o : Read Guard). IfSome o (GuardTook order ts)) e (read_guard-took order ts) in
    let less = took_shortens order ts (g, after) took in
    let one : length rest < length after = subst (λ (o : Option (List Token)). IfSome o (λ r. length r < length after)) f (after_and-shortens after) in
    omega arith

pub guards_end : (order : Option Order) (before : List Guard) (ts : List Token) (g : Guard) (after : List Token) → read_guard order ts ≡ Some (g, after)
    → after_and after ≡ None → read_guards order before ts ≡ Some (before ++ g ∷ [], after)
guards_end order before ts g after e f = read_guards-is order before ts ∙ rw (e, f) refl

pub guards_fail : (e : Stop) (order : Option Order) (before : List Guard) (ts : List Token) → Fails e (read_guard order ts)
    → Fails e (read_guards order before ts)
guards_fail stop.Memory order before ts h = tt
guards_fail (stop.Fault what) order before ts h = read_guards-is order before ts ∙ rw h refl

pub none_of : {A B : Type 0} (f : A → B) (o : Option A) → o ≡ None → option_map f o ≡ None
none_of f o e = rw e refl

pub some_of : {A B : Type 0} (f : A → B) (o : Option A) (a : A) → o ≡ Some a → option_map f o ≡ Some (f a)
some_of f o a e = rw e refl

-- WHAT IS READ OF GUARDS

abbrev pub GuardsTook : Option Order → List Guard → List Token → List Guard × List Token → Type 0
GuardsTook order before ts x = (later : List Guard) × (x.0 ≡ before ++ later) × (ts ≡ guards_written later x.1) × GuardsFit order later

one_guard : (order : Option Order) (before : List Guard) (ts : List Token) (g : Guard × List Token) → GuardTook order ts g
    → GuardsTook order before ts (before ++ g.0 ∷ [], g.1)
one_guard order before ts g took = (g.0 ∷ [], refl, took.parts, took.fits)

after_and-took : (ts : List Token) → IfSome (after_and ts) (λ r. ts ≡ Mark sign.And ∷ r)
after_and-took (Mark sign.And ∷ ts) = refl
after_and-took ts = tt

several_guards : (order : Option Order) (before : List Guard) (ts r : List Token) (g : Guard × List Token) (x : List Guard × List Token) → GuardTook order ts g
    → g.1 ≡ Mark sign.And ∷ r → GuardsTook order (before ++ g.0 ∷ []) r x → GuardsTook order before ts x
several_guards order before ts r g x took e ([], same, parts, fits) = absurd fits
several_guards order before ts r g x took e (h ∷ hs, same, parts, fits) =
    (g.0 ∷ h ∷ hs, same ∙ append_assoc before (g.0 ∷ []) (h ∷ hs), rw (took.parts, e, parts) refl, (took.fits, fits))

guards_within-took : (n : ℕ) (order : Option Order) (before : List Guard) (ts : List Token)
    → IfSome (guards_within n order before ts) (GuardsTook order before ts)
unfolding guards_within
guards_within-took zero order before ts = tt
guards_within-took (suc n) order before ts =
    IfSome-bind (read_guard order ts) _ _ _ (read_guard-took order ts) (λ g took.
    more_took (guards_within n order (before ++ g.0 ∷ [])) order before ts g took (after_and g.1) (after_and-took g.1)
    (guards_within-took n order (before ++ g.0 ∷ [])))
  where
    more_took : (further : List Token → Read (List Guard)) (order : Option Order) (before : List Guard) (ts : List Token) (g : Guard × List Token)
        → GuardTook order ts g → (o : Option (List Token)) → IfSome o (λ r. g.1 ≡ Mark sign.And ∷ r)
        → ((rest : List Token) → IfSome (further rest) (GuardsTook order (before ++ g.0 ∷ []) rest))
        → IfSome (more_if further (before ++ g.0 ∷ []) g.1 o) (GuardsTook order before ts)
    more_took further order before ts g took None e take = one_guard order before ts g took
    more_took further order before ts g took (Some r) e take = IfSome-map (further r) _ _ (take r) (λ x p. several_guards order before ts r g x took e p)

pub read_guards-took : (order : Option Order) (ts : List Token) → IfSome (read_guards order [] ts) (λ x. (ts ≡ guards_written x.0 x.1) × GuardsFit order x.0)
unfolding read_guards
read_guards-took order ts = IfSome-map (guards_within (length ts) order [] ts) _ _ (guards_within-took (length ts) order [] ts)
    (λ x p. (rw p.1 p.2, rw p.1 p.3))
