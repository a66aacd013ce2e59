-- CMD18 and CMD25 with counts: all that are legal at a code have the same outcomes, and the count of the code is one of them.
use Rattle.std.proofs.Common.{◌≡◌, ℕ, ◌<◌, ◌≤◌, ◌==◌, ◌&&◌, ◌||◌, refl, ap, subst, sym, ◌∙◌, Bool, true, false, List, [], ◌∷◌, ◌++◌, Option, Some, None, map, eq-eqb, arith, if◌then◌else◌}
use Rattle.std.proofs.lemmas.Bool.{le-leb, eqb-false}
use Rattle.sdv_registers.specs.declared.kind.Kind.{Kind}
use Rattle.sdv_registers.specs.declared.kind.Kind.TheVariants.{Sd, Emmc}
use Rattle.sdv_card.specs.declared.state.State.{State}
use Rattle.sdv_card.specs.declared.state.Transfer.TheVariants.{Nothing}
use Rattle.sdv_card.specs.declared.fields.Fields.{Fields}
use Rattle.sdv_card.specs.declared.command.Order.{Order}
use Rattle.sdv_card.specs.declared.command.Order.TheVariants.{ReadMultipleBlock, WriteMultipleBlock}
use Rattle.sdv_card.specs.declared.event.Aim.TheVariants.{Plain}
use Rattle.sdv_card.specs.declared.event.Ask.{Ask}
use Rattle.sdv_card.specs.declared.event.Branch.{Branch}
use Rattle.sdv_card.specs.declared.event.Event.TheVariants.{Send}
use Rattle.sdv_card.specs.declared.event.Outcome.{Outcome}
use Rattle.sdv_card.specs.declared.event.Seen.{Seen}
use Rattle.sdv_card.specs.declared.shape.Shape.{Shape}
use Rattle.sdv_card.specs.Lists.{May, each, all}
use Rattle.sdv_card.specs.CommandTable.{is_counted, order_if, order_of, order_expect, expect_of, expect_or_nothing}
use Rattle.sdv_card.specs.Code.{code_of, digits, fields_of}
use Rattle.sdv_card.specs.Takes.{taken_as_of}
use Rattle.sdv_card.specs.Shapes.{is_shape}
use Rattle.sdv_card.specs.LegalShapes.{settled_legal, order_legal, ask_legal, legal_at, legal_code}
use Rattle.sdv_card.specs.Outcomes.{own_steps, settled, settled_branches, order_branches, ask_branches, outcome_of, branches_at, outcomes_code}
use Rattle.sdv_card.specs.States.{own_target}
use Rattle.sdv_card.proofs.Members.{and_left, and_right}
use Rattle.sdv_outcomes.specs.Histories.{is_impossible_by, is_impossible_match}
use Rattle.sdv_audit.specs.declared.line.TraceLine.{TraceLine}
use Rattle.sdv_audit.specs.declared.turn.Deed.TheVariants.{Begins}
use Rattle.sdv_audit.specs.Carried.{CarriedFrom}
use Rattle.sdv_audit.specs.Turns.{ask_with, is_count, transfer_index, transfer_ask, count_at, event_at}

-- THE ORDER

abbrev pub transfer_order : (write : Bool) → ℕ → Order
transfer_order true n = WriteMultipleBlock n
transfer_order false n = ReadMultipleBlock n

counted : (index n : ℕ) → is_counted (ask_with index Plain 0 n) index ≡ is_count n
counted index n = rw (eq-eqb index index refl, eq-eqb n n refl) refl

pub order_is : (k : Kind) (w : Bool) (n : ℕ) → order_of k (transfer_ask w n) ≡ order_if (is_count n) (transfer_order w n) None
unfolding order_of
order_is Sd true n = ap (λ b. order_if b (WriteMultipleBlock n) None) (counted 25 n)
order_is Sd false n = ap (λ b. order_if b (ReadMultipleBlock n) None) (counted 18 n)
order_is Emmc true n = ap (λ b. order_if b (WriteMultipleBlock n) None) (counted 25 n)
order_is Emmc false n = ap (λ b. order_if b (ReadMultipleBlock n) None) (counted 18 n)

pub order_counted : (k : Kind) (w : Bool) (n : ℕ) → is_count n ≡ true → order_of k (transfer_ask w n) ≡ Some (transfer_order w n)
order_counted k w n e = order_is k w n ∙ ap (λ b. order_if b (transfer_order w n) None) e

order_none : (k : Kind) (w : Bool) (n : ℕ) → is_count n ≡ false → order_of k (transfer_ask w n) ≡ None
order_none k w n e = order_is k w n ∙ ap (λ b. order_if b (transfer_order w n) None) e

-- THE FIELDS of a code

fields_if : Bool → Fields → Option Fields
fields_if b f = if b then Some f else None

fields_are : (code : ℕ) → fields_of code ≡ fields_if (code_of (digits code) == code) (digits code)
unfolding fields_of fields_if
fields_are code = refl

-- LEGAL

both : (a b : Bool) → a ≡ true → b ≡ true → (a && b) ≡ true
both true b e f = f
both false b e f = e

-- a preset count allows the count
abbrev pub allows : (preset n : ℕ) → Bool
allows preset n = (preset == 0) || (preset == n)

other_row : (k : Kind) (w : Bool) (n m : ℕ) (t : Fields) (a b : Bool) → allows t.preset m ≡ true →
    settled_legal k t (taken_as_of (transfer_order w n) a b) ≡ true →
    settled_legal k t (taken_as_of (transfer_order w m) a b) ≡ true
other_row k true n m t true b ok e = absurd (let f : false ≡ true = e in cc)
other_row k false n m t true b ok e = absurd (let f : false ≡ true = e in cc)
other_row Sd true n m t false b ok e = both _ (allows t.preset m) (and_left _ (allows t.preset n) e) ok
other_row Sd false n m t false b ok e = both _ (allows t.preset m) (and_left _ (allows t.preset n) e) ok
other_row Emmc true n m t false b ok e = both _ (allows t.preset m) (and_left _ (allows t.preset n) e) ok
other_row Emmc false n m t false b ok e = both _ (allows t.preset m) (and_left _ (allows t.preset n) e) ok

needs : (k : Kind) (w : Bool) (n : ℕ) (t : Fields) (a b : Bool) → settled_legal k t (taken_as_of (transfer_order w n) a b) ≡ true → allows t.preset n ≡ true
needs k true n t true b e = absurd (let f : false ≡ true = e in cc)
needs k false n t true b e = absurd (let f : false ≡ true = e in cc)
needs k true n t false b e = and_right _ (allows t.preset n) e
needs k false n t false b e = and_right _ (allows t.preset n) e

-- a test of each settled card, of which each has the same preset count
all_settled : (p q : Fields → Bool) (f : Fields) (o : Option State) → ((t : Fields) → t.preset ≡ f.preset → p t ≡ true → q t ≡ true) →
    all p (f ∷ own_steps f o) ≡ true → all q (f ∷ own_steps f o) ≡ true
all_settled p q f None each e = both (q f) true (each f refl (and_left (p f) true e)) refl
all_settled p q f (Some s) each e =
    let t : Fields = record f { state = s; transfer = Nothing } in
    both (q f) (q t && true) (each f refl (and_left (p f) _ e)) (both (q t) true (each t refl (and_left (p t) true (and_right (p f) _ e))) refl)

order_other : (k : Kind) (w : Bool) (n m : ℕ) (f : Fields) → allows f.preset m ≡ true → order_legal k (transfer_order w n) f ≡ true →
    order_legal k (transfer_order w m) f ≡ true
order_other k w n m f ok e =
    all_settled (λ t. settled_legal k t (taken_as_of (transfer_order w n) t.app t.matched)) (λ t. settled_legal k t (taken_as_of
    (transfer_order w m) t.app t.matched))
    f (own_target f.state f.transfer) (λ t same l. other_row k w n m t t.app t.matched (subst (λ v. allows v m ≡ true) (sym same) ok) l) e

order_needs : (k : Kind) (w : Bool) (n : ℕ) (f : Fields) → order_legal k (transfer_order w n) f ≡ true → allows f.preset n ≡ true
order_needs k w n f e =
    needs k w n f f.app f.matched
    (and_left (settled_legal k f (taken_as_of (transfer_order w n) f.app f.matched)) _ e)

-- what the fields of a code allow
abbrev legal_by : Kind → Option Order → Option Fields → Bool
legal_by k o None = false
legal_by k o (Some f) = is_shape k f && ask_legal k o f

legal_is : (k : Kind) (ask : Ask) (o : Option Fields) → legal_at k (Send ask) o ≡ legal_by k (order_of k ask) o
legal_is k ask None = refl
legal_is k ask (Some f) = refl

at_code : (k : Kind) (w : Bool) (n code : ℕ) →
    legal_code k code (Send (transfer_ask w n)) ≡ legal_by k (order_if (is_count n) (transfer_order w n) None) (fields_if (code_of (digits code) == code)
    (digits code))
at_code k w n code =
    legal_is k (transfer_ask w n) (fields_of code) ∙ (ap (λ o. legal_by k o (fields_of code)) (order_is k w n)
    ∙ ap (λ v. legal_by k (order_if (is_count n) (transfer_order w n) None) v) (fields_are code))

has_count : (k : Kind) (b c : Bool) (order : Order) (f : Fields) → legal_by k (order_if b order None) (fields_if c f) ≡ true → b ≡ true
unfolding fields_if
has_count k true c order f e = refl
has_count k false true order f e = absurd (let g : false ≡ true = and_right (is_shape k f) false e in cc)
has_count k false false order f e = absurd (let g : false ≡ true = e in cc)

pub counted_legal : (k : Kind) (w : Bool) (n code : ℕ) → legal_code k code (Send (transfer_ask w n)) ≡ true → is_count n ≡ true
counted_legal k w n code e =
    has_count k (is_count n) (code_of (digits code) == code) (transfer_order w n) (digits code) (sym (at_code k w n code) ∙ e)

by_other : (k : Kind) (w c : Bool) (n m : ℕ) (f : Fields) → allows f.preset m ≡ true → legal_by k (Some (transfer_order w n)) (fields_if c f) ≡ true →
    legal_by k (Some (transfer_order w m)) (fields_if c f) ≡ true
unfolding fields_if
by_other k w true n m f ok e =
    both (is_shape k f) (order_legal k (transfer_order w m) f) (and_left (is_shape k f) (order_legal k (transfer_order w n) f) e)
    (order_other k w n m f ok (and_right (is_shape k f) (order_legal k (transfer_order w n) f) e))
by_other k w false n m f ok e = e

by_needs : (k : Kind) (w c : Bool) (n : ℕ) (f : Fields) → legal_by k (Some (transfer_order w n)) (fields_if c f) ≡ true → allows f.preset n ≡ true
unfolding fields_if
by_needs k w true n f e = order_needs k w n f (and_right (is_shape k f) (order_legal k (transfer_order w n) f) e)
by_needs k w false n f e = absurd (let g : false ≡ true = e in cc)

by_count : (k : Kind) (w : Bool) (n code : ℕ) → is_count n ≡ true →
    legal_code k code (Send (transfer_ask w n)) ≡ legal_by k (Some (transfer_order w n)) (fields_if (code_of (digits code) == code) (digits code))
by_count k w n code e =
    at_code k w n code ∙ ap (λ b. legal_by k (order_if b (transfer_order w n) None) (fields_if (code_of (digits code) == code) (digits code))) e

-- each count that the preset count allows is legal where another one is
pub legal_other : (k : Kind) (w : Bool) (n m code : ℕ) → is_count m ≡ true → allows (digits code).preset m ≡ true →
    legal_code k code (Send (transfer_ask w n)) ≡ true → legal_code k code (Send (transfer_ask w m)) ≡ true
legal_other k w n m code some ok e =
    by_count k w m code some ∙ by_other k w (code_of (digits code) == code) n m (digits code) ok
    (sym (by_count k w n code (counted_legal k w n code e)) ∙ e)

-- THE COUNT OF A CODE

preset_fits : (code : ℕ) → (digits code).preset < 65536
unfolding digits
preset_fits code = omega arith

abbrev count_if : Bool → ℕ → ℕ
count_if b preset = if b then 1 else preset

allowed : (b : Bool) (preset : ℕ) → (preset == 0) ≡ b → allows preset (count_if b preset) ≡ true
allowed true preset e = rw e refl
allowed false preset e = rw (e, eq-eqb preset preset refl) refl

in_count : (b : Bool) (preset : ℕ) → (preset == 0) ≡ b → preset < 65536 → is_count (count_if b preset) ≡ true
in_count true preset e small = refl
in_count false preset e small =
    let some : 1 ≤ preset = omega (arith, eqb-false preset 0 e) in
    let most : preset ≤ 65535 = omega (arith, small) in
    rw (le-leb 1 preset some, le-leb preset 65535 most) refl

pub count_is : (code : ℕ) → is_count (count_at code) ≡ true
count_is code = in_count ((digits code).preset == 0) (digits code).preset refl (preset_fits code)

-- where any count is legal, that of the code is
pub legal_at_count : (k : Kind) (w : Bool) (n code : ℕ) → legal_code k code (Send (transfer_ask w n)) ≡ true →
    legal_code k code (event_at (Begins w) code) ≡ true
legal_at_count k w n code e =
    legal_other k w n (count_at code) code (count_is code) (allowed ((digits code).preset == 0) (digits code).preset refl) e

not_both : (b : Bool) → (b ≡ true → ⊥) → b ≡ false
not_both true f = absurd (f refl)
not_both false f = refl

pub never_legal : (k : Kind) (w : Bool) (n code : ℕ) → legal_code k code (event_at (Begins w) code) ≡ false →
    legal_code k code (Send (transfer_ask w n)) ≡ false
never_legal k w n code e =
    not_both (legal_code k code (Send (transfer_ask w n))) (λ f. let g : true ≡ false = sym (legal_at_count k w n code f) ∙ e in cc)

-- where there is no preset count, each is
pub legal_with : (k : Kind) (w : Bool) (n code : ℕ) → is_count n ≡ true → ((digits code).preset == 0) ≡ true →
    legal_code k code (event_at (Begins w) code) ≡ true →
    legal_code k code (Send (transfer_ask w n)) ≡ true
legal_with k w n code some none e =
    legal_other k w (count_at code) n code some (rw none refl) e

-- OUTCOMES

each_same : {A B : Type 0} (xs : List A) (f g : A → List B) → ((x : A) → f x ≡ g x) → each xs f ≡ each xs g
each_same [] f g same = refl
each_same (x ∷ xs) f g same = ap (λ v. v ++ each xs f) (same x) ∙ ap (λ v. g x ++ v) (each_same xs f g same)

row_same : (k : Kind) (w : Bool) (n m : ℕ) (t : Fields) (a b : Bool) → settled_branches k (transfer_order w n) t (taken_as_of (transfer_order w n) a b)
    ≡ settled_branches k (transfer_order w m) t (taken_as_of (transfer_order w m) a b)
row_same k true n m t true b = refl
row_same k false n m t true b = refl
row_same Sd true n m t false b = refl
row_same Sd false n m t false b = refl
row_same Emmc true n m t false b = refl
row_same Emmc false n m t false b = refl

branches_same : (k : Kind) (w : Bool) (n m : ℕ) (f : Fields) → order_branches k (transfer_order w n) f ≡ order_branches k (transfer_order w m) f
branches_same k w n m f =
    each_same (settled f) (λ t. settled_branches k (transfer_order w n) t (taken_as_of (transfer_order w n) t.app t.matched))
    (λ t. settled_branches k (transfer_order w m) t (taken_as_of (transfer_order w m) t.app t.matched)) (λ t. row_same k w n m t t.app t.matched)

abbrev branches_by : Kind → Option Order → Option Fields → List Branch
branches_by k o None = []
branches_by k o (Some f) = ask_branches k o f

branches_are : (k : Kind) (ask : Ask) (o : Option Fields) → branches_at k (Send ask) o ≡ branches_by k (order_of k ask) o
branches_are k ask None = refl
branches_are k ask (Some f) = refl

by_same : (k : Kind) (w : Bool) (n m : ℕ) (o : Option Fields) → branches_by k (Some (transfer_order w n)) o ≡ branches_by k (Some (transfer_order w m)) o
by_same k w n m None = refl
by_same k w n m (Some f) = branches_same k w n m f

by_order : (k : Kind) (w : Bool) (n code : ℕ) → is_count n ≡ true →
    branches_at k (Send (transfer_ask w n)) (fields_of code) ≡ branches_by k (Some (transfer_order w n)) (fields_of code)
by_order k w n code e = branches_are k (transfer_ask w n) (fields_of code) ∙ ap (λ o. branches_by k o (fields_of code)) (order_counted k w n e)

pub outcomes_same : (k : Kind) (w : Bool) (n m code : ℕ) → is_count n ≡ true → is_count m ≡ true →
    outcomes_code k code (Send (transfer_ask w n)) ≡ outcomes_code k code (Send (transfer_ask w m))
outcomes_same k w n m code e f =
    ap (λ bs. map outcome_of bs) (by_order k w n code e ∙ (by_same k w n m (fields_of code) ∙ sym (by_order k w m code f)))

-- THE RESPONSE that the host waits for

order_waits : (w : Bool) (n m index : ℕ) → order_expect (transfer_order w n) index ≡ order_expect (transfer_order w m) index
order_waits true n m index = refl
order_waits false n m index = refl

pub waits_same : (k : Kind) (w : Bool) (n m : ℕ) → is_count n ≡ true → is_count m ≡ true → expect_of k (transfer_ask w n) ≡ expect_of k (transfer_ask w m)
waits_same k w n m e f =
    ap (λ o. expect_or_nothing o (transfer_index w)) (order_counted k w n e) ∙ (order_waits w n m (transfer_index w)
    ∙ ap (λ o. expect_or_nothing o (transfer_index w)) (sym (order_counted k w m f)))

-- A STEP ON by one count is one by another

never_impossible : (b w : Bool) (n : ℕ) (seen : Seen) (address : Bool) (code : ℕ) →
    is_impossible_by (order_if b (transfer_order w n) None) seen address code ≡ false
never_impossible true true n seen address code = refl
never_impossible true false n seen address code = refl
never_impossible false w n seen address code = refl

possible : (k : Kind) (w : Bool) (n : ℕ) (o : Outcome) (address : Bool) → is_impossible_match k (Send (transfer_ask w n)) o address ≡ false
possible k w n o address =
    ap (λ v. is_impossible_by v o.seen address o.shape.0) (order_is k w n) ∙ never_impossible (is_count n) w n o.seen address o.shape.0

carried_other : (k : Kind) (w : Bool) (n m : ℕ) (line : TraceLine) (address : Bool) (source to : Shape) →
    legal_code k source.0 (Send (transfer_ask w m)) ≡ true →
    CarriedFrom k (Send (transfer_ask w n)) line address source to → CarriedFrom k (Send (transfer_ask w m)) line address source to
carried_other k w n m line address source to legal from = record {
  legal = legal;
  one = record {
    outcome = from.one.outcome;
    may = subst (λ v. May v from.one.outcome)
        (outcomes_same k w n m source.0 (counted_legal k w n source.0 from.legal) (counted_legal k w m source.0 legal)) from.one.may;
    fits = record { seen = from.one.fits.seen; possible = possible k w m from.one.outcome address };
    leads = from.one.leads;
  };
}

pub carried_at_count : (k : Kind) (w : Bool) (n : ℕ) (line : TraceLine) (address : Bool) (source to : Shape) →
    CarriedFrom k (Send (transfer_ask w n)) line address source to → CarriedFrom k (event_at (Begins w) source.0) line address source to
carried_at_count k w n line address source to from =
    carried_other k w n (count_at source.0) line address source to (legal_at_count k w n source.0 from.legal) from

pub carried_with : (k : Kind) (w : Bool) (n : ℕ) (line : TraceLine) (address : Bool) (source to : Shape) → is_count n ≡ true →
    ((digits source.0).preset == 0) ≡ true →
    CarriedFrom k (event_at (Begins w) source.0) line address source to → CarriedFrom k (Send (transfer_ask w n)) line address source to
carried_with k w n line address source to some none from =
    carried_other k w (count_at source.0) n line address source to (legal_with k w n source.0 some none from.legal) from
