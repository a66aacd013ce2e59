-- What the forms of a part's parts give for the part.
use Rattle.std.proofs.Common.{◌≡◌, ℕ, ◌+◌, ◌*◌, ◌^◌, ◌<◌, ◌≤◌, max, List, [], ◌∷◌, ◌++◌, map, reverse, Option, Some, None, Result, Ok, Err, IfOk, OnOk, refl, sym, ap, ◌∙◌, arith, append_assoc}
use Rattle.std.proofs.lemmas.List.{map-append, reverse-append}
use Rattle.sdv_graph.specs.Tree.{Statements, first, Ways, Statement, phase, choice, turns}
use Rattle.sdv_graph.specs.Moves.{statements_moves, ways_moves, statement_moves}
use Rattle.sdv_graph.specs.declared.tree.Condition.{Condition}
use Rattle.sdv_graph.specs.declared.tree.Phase.{Phase}
use Rattle.sdv_certify.specs.declared.form.Form.{Form}
use Rattle.sdv_certify.specs.declared.spans.Spans.{Spans}
use Rattle.sdv_certify.specs.Spans.{or_zero, longest, spans_statements}
use Rattle.sdv_certify.specs.Forms.{leads_to, either_form, last_turn, head_form, before_loop, inside_too, form_statements, form_ways, form_before, form_of_loop, forms_of_statements, forms_of_statement, full_form, in_full}
use Rattle.sdv_certify.specs.LoopTurns.{StatementsTurn, StatementTurns}
use Rattle.sdv_graph.proofs.Sizes.{statements_size, statement_size}
use Rattle.sdv_certify.proofs.SpanLaws.{longest_statements}
use Rattle.sdv_certify.proofs.FormLaws.{leads_same, last_same, head_same, before_same}
use Rattle.sdv_certify.proofs.SameForms.{same_of_statements, same_of_statement}
use Rattle.sdv_certify.proofs.FewCommands.{base_at, few_statements, few_ways, few_before, few_head}

base_same : (f g : Form) → full_form f ≡ full_form g → f.base ≡ g.base
base_same f g e = ap (λ (h : Form). h.base) e

base_at_same : (x y : Option Form) → in_full x ≡ in_full y → base_at x ≡ base_at y
base_at_same x y e = base_same (leads_to x) (leads_to y) (leads_same x y e)

inside_base : (x : Option Form) → base_at (inside_too x) ≡ base_at x
inside_base None = refl
inside_base (Some f) = refl

-- ROOM

pub room_first : (s : Statement) (r : Statements) (x after out : Option Form) → statements_moves (first s r) + max (base_at after) (base_at out) < 2 ^ 128
    → in_full x ≡ in_full (form_statements r after out) → statement_moves s + max (base_at x) (base_at out) < 2 ^ 128
room_first s r x after out few e = omega (arith, few, base_at_same x (form_statements r after out) e, few_statements r after out)

pub room_send : (c : Ways) (x after out : Option Form) → 1 + ways_moves c + max (base_at after) (base_at out) < 2 ^ 128
    → in_full x ≡ in_full (form_ways c after out) → 1 + base_at x < 2 ^ 128
room_send c x after out few e = omega (arith, few, base_at_same x (form_ways c after out) e, few_ways c after out)

-- A STATEMENT OF TWO BLOCKS

-- one of these is taken, and nothing is counted but what is sent there
pub record HasBoth (s : Statement) (a b : Statements) : Type 0 where
  pub moves : statement_moves s ≡ 1 + (statements_moves a + statements_moves b)
  pub size : statement_size s ≡ 2 + statements_size a + statements_size b
  pub turns : StatementTurns s → StatementsTurn a × StatementsTurn b
  pub before : (after out : Option Form) → form_before s after out ≡ leads_to (either_form (form_statements a after out) (form_statements b after out))
  pub forms : (after out : Option Form) → forms_of_statement s after out
      ≡ leads_to (either_form (form_statements a after out) (form_statements b after out)) ∷
      (forms_of_statements a after out ++ forms_of_statements b after out)

pub phase_both : (p : Phase) (a b : Statements) → HasBoth (phase p a b) a b
phase_both p a b = record { moves = refl; size = refl; turns = λ t. t; before = λ after out. refl; forms = λ after out. refl }

pub choice_both : (c : Condition) (a b : Statements) → HasBoth (choice c a b) a b
choice_both c a b = record { moves = refl; size = refl; turns = λ t. t; before = λ after out. refl; forms = λ after out. refl }

-- ANSWERS

-- where there is one, it is so
pub if_ok : {A E P Q : Type 0} (r : Result A E) → (P → Q) → OnOk r P → OnOk r Q
if_ok (Ok x) f p = f p
if_ok (Err e) f p = tt

-- of a form that was pushed
pub form_same : {E : Type 0} (r : Result Form E) (f g : Form) → IfOk r (λ h. h ≡ f) → full_form f ≡ full_form g → IfOk r (λ h. full_form h ≡ full_form g)
form_same (Ok h) f g e same = ap full_form e ∙ same
form_same (Err e) f g h same = tt

-- LISTS

three : (old one two new fs gs : List Form) (h : Form) → new ≡ two ++ h ∷ [] → two ≡ one ++ reverse fs → one ≡ old ++ reverse gs
    → new ≡ old ++ reverse (h ∷ (fs ++ gs))
three old one two new fs gs h e f g =
    let b = reverse gs in
    let a = reverse fs in
    let turned : reverse (h ∷ (fs ++ gs)) ≡ (b ++ a) ++ h ∷ [] = reverse-append (h ∷ []) (fs ++ gs) ∙ ap (λ l. l ++ h ∷ []) (reverse-append fs gs) in
    let left : new ≡ ((old ++ b) ++ a) ++ h ∷ [] = e ∙ ap (λ l. l ++ h ∷ []) (f ∙ ap (λ l. l ++ a) g) in
    left ∙ append_assoc (old ++ b) a (h ∷ []) ∙ append_assoc old b (a ++ h ∷ []) ∙ sym (ap (λ l. old ++ l) (turned ∙ append_assoc b a (h ∷ [])))

-- the forms of two parts, the later ones first, and then the one before them
pub forms_three : (old one two new : List Form) (h k : Form) (fs gs : List Form) → new ≡ two ++ h ∷ []
    → map full_form two ≡ map full_form one ++ reverse (map full_form fs)
    → map full_form one ≡ map full_form old ++ reverse (map full_form gs) → full_form h ≡ full_form k
    → map full_form new ≡ map full_form old ++ reverse (map full_form (k ∷ (fs ++ gs)))
forms_three old one two new h k fs gs e f g same =
    let pushed : map full_form new ≡ map full_form two ++ full_form h ∷ [] = ap (map full_form) e ∙ map-append full_form two (h ∷ []) in
    three (map full_form old) (map full_form one) (map full_form two) (map full_form new) (map full_form fs) (map full_form gs) (full_form h) pushed f g
    ∙ ap (λ l. map full_form old ++ reverse (full_form h ∷ l)) (sym (map-append full_form fs gs))
    ∙ ap (λ x. map full_form old ++ reverse (x ∷ map full_form (fs ++ gs))) same

pub forms_first : (s : Statement) (r : Statements) (x after out : Option Form) (old mid new : List Form) → in_full x ≡ in_full (form_statements r after out)
    → map full_form new ≡ map full_form mid ++ reverse (map full_form (forms_of_statement s x out))
    → map full_form mid ≡ map full_form old ++ reverse (map full_form (forms_of_statements r after out))
    → map full_form new ≡ map full_form old ++ reverse (map full_form (forms_of_statements (first s r) after out))
forms_first s r x after out old mid new same e f =
    let then = form_statements r after out in
    let fs = map full_form (forms_of_statement s then out) in
    let gs = map full_form (forms_of_statements r after out) in
    let o = map full_form old in
    e ∙ ap (λ l. map full_form mid ++ reverse l) (same_of_statement s x then out out same refl)
    ∙ ap (λ l. l ++ reverse fs) f
    ∙ append_assoc o (reverse gs) (reverse fs)
    ∙ sym (ap (λ l. o ++ l) (ap reverse (map-append full_form (forms_of_statement s then out) (forms_of_statements r after out)) ∙ reverse-append fs gs))

-- LOOPS

-- what a loop's forms are made of: its body's spans, the forms before its else block, and the form without its own turns
pub record LoopParts (a b : Statements) (after out : Option Form) (u : Spans) (o : Option Form) (other behind last : Form) : Type 0 where
  pub spans : u ≡ spans_statements a
  pub before : in_full o ≡ in_full (form_statements b after out)
  pub other_is : full_form other ≡ full_form (leads_to o)
  pub behind_is : full_form behind ≡ full_form (leads_to after)
  pub last_is : full_form last ≡ full_form (last_turn u other behind)

module _ (a b : Statements) (after out : Option Form) (u : Spans) (o : Option Form) (other behind last : Form)
    (parts : LoopParts a b after out u o other behind last) where
  whole : Form
  whole = last_turn (spans_statements a) (leads_to (form_statements b after out)) (leads_to after)

  pub last_whole : full_form last ≡ full_form (last_turn (spans_statements a) (leads_to (form_statements b after out)) (leads_to after))
  last_whole =
      parts.last_is
      ∙ last_same u other (leads_to (form_statements b after out)) behind (leads_to after)
      (parts.other_is ∙ leads_same o (form_statements b after out) parts.before) parts.behind_is
      ∙ ap (λ v. full_form (last_turn v (leads_to (form_statements b after out)) (leads_to after))) parts.spans

  pub head_whole : (h : Form) → full_form h ≡ full_form (head_form u last) → full_form h ≡ full_form (form_of_loop a b after out)
  head_whole h e =
      e ∙ head_same u last (last_turn (spans_statements a) (leads_to (form_statements b after out)) (leads_to after)) last_whole
      ∙ ap (λ v. full_form (head_form v (last_turn (spans_statements a) (leads_to (form_statements b after out)) (leads_to after)))) parts.spans

  pub before_whole : (n : ℕ) (f : Form) → full_form f ≡ full_form (before_loop n u last) → full_form f ≡ full_form (form_before (turns n a b) after out)
  before_whole n f e =
      e ∙ before_same n u last (last_turn (spans_statements a) (leads_to (form_statements b after out)) (leads_to after)) last_whole
      ∙ ap (λ v. full_form (before_loop n v (last_turn (spans_statements a) (leads_to (form_statements b after out)) (leads_to after)))) parts.spans

  pub room_before : (n : ℕ) → statement_moves (turns n a b) + max (base_at after) (base_at out) < 2 ^ 128 → last.base + or_zero u.on * n < 2 ^ 128
  room_before n few =
      let whole : (before_loop n u last).base ≡ (form_before (turns n a b) after out).base =
      base_same (before_loop n u last) (form_before (turns n a b) after out) (before_whole n (before_loop n u last) refl) in
      let most = few_before (turns n a b) after out in
      let e : last.base + or_zero u.on * n ≤ statement_moves (turns n a b) + max (base_at after) (base_at out) = rw whole most in
      omega (arith, e, few)

  pub room_body : (n : ℕ) (h : Form) (i : Option Form) → 1 ≤ n → statement_moves (turns n a b) + max (base_at after) (base_at out) < 2 ^ 128
      → full_form h ≡ full_form (head_form u last) → in_full i ≡ in_full (inside_too after) → statements_moves a + max h.base (base_at i) < 2 ^ 128
  room_body n h i one few e f =
      let x = base_same h (form_of_loop a b after out) (head_whole h e) in
      let y : base_at i ≡ base_at after = base_at_same i (inside_too after) f ∙ inside_base after in
      let z = few_head n a b after out one in
      omega (arith, few, z, x, y)

  pub forms_loop : (n : ℕ) (h : Form) (i : Option Form) (old one two new : List Form) → full_form h ≡ full_form (head_form u last)
      → in_full i ≡ in_full (inside_too after)
      → new ≡ two ++ h ∷ [] → map full_form two ≡ map full_form one ++ reverse (map full_form (forms_of_statements a (Some h) i))
      → map full_form one ≡ map full_form old ++ reverse (map full_form (forms_of_statements b after out))
      → map full_form new ≡ map full_form old ++ reverse (map full_form (forms_of_statement (turns n a b) after out))
  forms_loop n h i old one two new e f pushed body other =
      let k = form_of_loop a b after out in
      let same = head_whole h e in
      let body' = body ∙ ap (λ l. map full_form one ++ reverse l) (same_of_statements a (Some h) (Some k) i (inside_too after) (ap Some same) f) in
      forms_three old one two new h k (forms_of_statements a (Some k) (inside_too after)) (forms_of_statements b after out) pushed body' other same

pub room_last : (n : ℕ) (a b : Statements) (u : Spans) (after out : Option Form) (f : Form)
    → statement_moves (turns n a b) + max (base_at after) (base_at out) < 2 ^ 128
    → u ≡ spans_statements a → full_form f ≡ full_form (leads_to after) → longest u + f.base < 2 ^ 128
room_last n a b u after out f few e h =
    let x = base_same f (leads_to after) h in
    let m = longest_statements a in
    rw e (omega (arith, few, x, m))
