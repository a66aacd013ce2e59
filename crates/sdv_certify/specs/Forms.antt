-- The BOUND FORMS of a script's points, by its syntax alone: how many commands are sent from a point on, at most.
--
-- A form is a base, and a coefficient for each loop round the point, which is taken for each of its turns left. Part by
-- part the greatest is taken. Coefficients go from the innermost loop outwards; those that a list lacks are 0.
-- Bounds are this project's own.
use Rattle.std.specs.Prelude.{ℕ, zero, suc, ◌+◌, ◌-◌, ◌*◌, ◌≤◌, max, List, [], ◌∷◌, ◌++◌, All, Option, Some, None}
use Rattle.sdv_graph.specs.Tree.{Statements, nothing, first, Ways, otherwise, way, Statement, send, phase, setting, choice, set, clear, bus_lines, turns, break, done, fault}
use Rattle.sdv_script.specs.Rules.{max_number, max_loops}
use Rattle.sdv_certify.specs.declared.spans.Spans.{Spans}
use Rattle.sdv_certify.specs.declared.form.Form.{Form}
use Rattle.sdv_certify.specs.Spans.{or_zero, spans_statements}

-- ONE OF TWO FORMS

abbrev pub greatest : List ℕ → List ℕ → List ℕ
greatest [] ys = ys
greatest (x ∷ xs) [] = x ∷ xs
greatest (x ∷ xs) (y ∷ ys) = max x y ∷ greatest xs ys

abbrev pub greater : Form → Form → Form
greater f g = record { base = max f.base g.base; each = greatest f.each g.each }

-- where one leads nowhere, the other one
abbrev pub either_form : Option Form → Option Form → Option Form
either_form None g = g
either_form (Some f) None = Some f
either_form (Some f) (Some g) = Some (greater f g)

-- OF A STATEMENT

-- the end of a run
abbrev pub end_form : Form
end_form = record { base = 0; each = [] }

-- a point that leads nowhere has the form 0
abbrev pub leads_to : Option Form → Form
leads_to None = end_form
leads_to (Some f) = f

-- a command is sent first; where it leads nowhere, that is all
abbrev pub sends_then : Option Form → Form
sends_then None = record { base = 1; each = [] }
sends_then (Some f) = record f { base = 1 + f.base }

-- OF A LOOP

abbrev pub base_of : Option ℕ → ℕ → ℕ
base_of None base = 0
base_of (Some n) base = n + base

abbrev pub each_of : Option ℕ → List ℕ → List ℕ
each_of None each = []
each_of (Some n) each = each

-- the most commands on a way from the start of the body back to the head
abbrev pub each_turn : Spans → ℕ
each_turn body = or_zero body.on

-- where no turn is left: the else block, or a way out of the body less what a turn counts, at least 0
abbrev pub last_turn : (body : Spans) → (other after : Form) → Form
last_turn body other after = record {
  base = max other.base (max (base_of body.leave after.base) (base_of body.stop 0) - each_turn body);
  each = greatest other.each (each_of body.leave after.each);
}

abbrev pub head_form : (body : Spans) → (last : Form) → Form
head_form body last = record { base = last.base; each = each_turn body ∷ last.each }

-- before a loop, with so many turns
abbrev pub before_loop : ℕ → (body : Spans) → (last : Form) → Form
before_loop n body last = record { base = last.base + each_turn body * n; each = last.each }

-- the same form, seen from inside one more loop
abbrev pub inside : Form → Form
inside f = record { base = f.base; each = 0 ∷ f.each }

abbrev pub inside_too : Option Form → Option Form
inside_too None = None
inside_too (Some f) = Some (inside f)

-- BEFORE A PART: `after` is the form at its end, and `out` that behind a `break`; there is none where that leads
-- nowhere

abbrev mutual
  pub form_statements : Statements → (after out : Option Form) → Option Form
  form_statements nothing after out = after
  form_statements (first s rest) after out = Some (form_before s (form_statements rest after out) out)

  pub form_ways : Ways → (after out : Option Form) → Option Form
  form_ways (otherwise b) after out = form_statements b after out
  form_ways (way guards b rest) after out = either_form (form_statements b after out) (form_ways rest after out)

  pub form_before : Statement → (after out : Option Form) → Form
  form_before (send c ways) after out = sends_then (form_ways ways after out)
  form_before (phase p a b) after out = leads_to
      (either_form (form_statements a after out) (form_statements b after out))
  form_before (setting l) after out = leads_to after
  form_before (choice c a b) after out = leads_to
      (either_form (form_statements a after out) (form_statements b after out))
  form_before (set f) after out = leads_to after
  form_before (clear f) after out = leads_to after
  form_before (bus_lines width) after out = leads_to after
  form_before (turns n a b) after out =
      before_loop n (spans_statements a) (last_turn (spans_statements a) (leads_to (form_statements b after out))
      (leads_to after))
  form_before break after out = leads_to out
  form_before done after out = end_form
  form_before (fault name) after out = end_form

-- OF EACH POINT, in the order of the points

-- at the head of a loop, with this body and this else block
abbrev pub form_of_loop : (body other : Statements) → (after out : Option Form) → Form
form_of_loop a b after out =
    head_form (spans_statements a) (last_turn (spans_statements a) (leads_to (form_statements b after out))
    (leads_to after))

abbrev mutual
  pub forms_of_statements : Statements → (after out : Option Form) → List Form
  forms_of_statements nothing after out = []
  forms_of_statements (first s rest) after out =
      forms_of_statement s (form_statements rest after out) out ++ forms_of_statements rest after out

  pub forms_of_ways : Ways → (after out : Option Form) → List Form
  forms_of_ways (otherwise b) after out = forms_of_statements b after out
  forms_of_ways (way guards b rest) after out = forms_of_statements b after out ++ forms_of_ways rest after out

  pub forms_of_statement : Statement → (after out : Option Form) → List Form
  forms_of_statement (send c ways) after out = form_before (send c ways) after out ∷ forms_of_ways ways after out
  forms_of_statement (phase p a b) after out =
      form_before (phase p a b) after out ∷ (forms_of_statements a after out ++ forms_of_statements b after out)
  forms_of_statement (setting l) after out = leads_to after ∷ []
  forms_of_statement (choice c a b) after out =
      form_before (choice c a b) after out ∷ (forms_of_statements a after out ++ forms_of_statements b after out)
  forms_of_statement (set f) after out = leads_to after ∷ []
  forms_of_statement (clear f) after out = leads_to after ∷ []
  forms_of_statement (bus_lines width) after out = leads_to after ∷ []
  -- a body's end leads back to the head, and a `break` behind the loop
  forms_of_statement (turns n a b) after out =
      form_of_loop a b after out
      ∷ (forms_of_statements a (Some (form_of_loop a b after out))
      (inside_too after) ++ forms_of_statements b after out)
  forms_of_statement break after out = leads_to out ∷ []
  forms_of_statement done after out = end_form ∷ []
  forms_of_statement (fault name) after out = end_form ∷ []

-- past the last point nothing leads anywhere
abbrev pub forms_of : Statements → List Form
forms_of script = forms_of_statements script None None

-- WITH A COEFFICIENT FOR EACH LOOP

abbrev pub first_of : ℕ → List ℕ → List ℕ
first_of zero cs = []
first_of (suc n) [] = 0 ∷ first_of n []
first_of (suc n) (c ∷ cs) = c ∷ first_of n cs

-- with a coefficient for each of so many loops
abbrev pub with_loops : ℕ → Form → Form
with_loops n f = record { base = f.base; each = first_of n f.each }

-- at most so many loops stand round a point
abbrev pub full_form : Form → Form
full_form f = with_loops max_loops f

abbrev pub in_full : Option Form → Option Form
in_full None = None
in_full (Some f) = Some (full_form f)

pub record FormInLimits (f : Form) : Type 0 where
  pub base : f.base ≤ max_number
  pub each : All (λ c. c ≤ max_number) f.each
