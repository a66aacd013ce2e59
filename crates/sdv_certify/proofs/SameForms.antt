-- The forms of a part with a coefficient for each loop come from such forms at its end and behind a `break`.
use Rattle.std.proofs.Common.{◌≡◌, List, [], ◌∷◌, ◌++◌, map, Option, Some, refl, sym, ap, ◌∙◌}
use Rattle.std.proofs.lemmas.List.{map-append}
use Rattle.sdv_graph.specs.Tree.{Statements, nothing, first, Ways, otherwise, way, Statement, send, phase, setting, choice, set, clear, bus_lines, turns, break, done, fault}
use Rattle.sdv_certify.specs.declared.form.Form.{Form}
use Rattle.sdv_certify.specs.Spans.{spans_statements}
use Rattle.sdv_certify.specs.Forms.{either_form, leads_to, last_turn, inside_too, form_statements, form_ways, form_before, form_of_loop, forms_of_statements, forms_of_ways, forms_of_statement, full_form, in_full}
use Rattle.sdv_certify.proofs.FormLaws.{either_same, leads_same, sends_same, inside_same, last_same, head_same, before_same}

-- BEFORE A PART

mutual
  pub same_statements : (b : Statements) (x x' y y' : Option Form) → in_full x ≡ in_full x' → in_full y ≡ in_full y'
      → in_full (form_statements b x y) ≡ in_full (form_statements b x' y')
  same_statements nothing x x' y y' e h = e
  same_statements (first s rest) x x' y y' e h =
      ap Some (same_before s (form_statements rest x y) (form_statements rest x' y') y y' (same_statements rest x x' y y' e h) h)

  pub same_ways : (c : Ways) (x x' y y' : Option Form) → in_full x ≡ in_full x' → in_full y ≡ in_full y'
      → in_full (form_ways c x y) ≡ in_full (form_ways c x' y')
  same_ways (otherwise b) x x' y y' e h = same_statements b x x' y y' e h
  same_ways (way guards b rest) x x' y y' e h =
      either_same (form_statements b x y) (form_statements b x' y') (form_ways rest x y) (form_ways rest x' y') (same_statements b x x' y y' e h)
      (same_ways rest x x' y y' e h)

  pub same_before : (s : Statement) (x x' y y' : Option Form) → in_full x ≡ in_full x' → in_full y ≡ in_full y'
      → full_form (form_before s x y) ≡ full_form (form_before s x' y')
  same_before (send c ways) x x' y y' e h = sends_same (form_ways ways x y) (form_ways ways x' y') (same_ways ways x x' y y' e h)
  same_before (phase p a b) x x' y y' e h =
      leads_same (either_form (form_statements a x y) (form_statements b x y)) (either_form (form_statements a x' y') (form_statements b x' y'))
      (either_same (form_statements a x y) (form_statements a x' y') (form_statements b x y) (form_statements b x' y') (same_statements a x x' y y' e h)
      (same_statements b x x' y y' e h))
  same_before (setting l) x x' y y' e h = leads_same x x' e
  same_before (choice c a b) x x' y y' e h =
      leads_same (either_form (form_statements a x y) (form_statements b x y)) (either_form (form_statements a x' y') (form_statements b x' y'))
      (either_same (form_statements a x y) (form_statements a x' y') (form_statements b x y) (form_statements b x' y') (same_statements a x x' y y' e h)
      (same_statements b x x' y y' e h))
  same_before (set f) x x' y y' e h = leads_same x x' e
  same_before (clear f) x x' y y' e h = leads_same x x' e
  same_before (bus_lines width) x x' y y' e h = leads_same x x' e
  same_before (turns n a b) x x' y y' e h =
      before_same n (spans_statements a) (last_turn (spans_statements a) (leads_to (form_statements b x y)) (leads_to x))
      (last_turn (spans_statements a) (leads_to (form_statements b x' y')) (leads_to x'))
      (last_same (spans_statements a) (leads_to (form_statements b x y)) (leads_to (form_statements b x' y')) (leads_to x) (leads_to x')
      (leads_same (form_statements b x y) (form_statements b x' y') (same_statements b x x' y y' e h)) (leads_same x x' e))
  same_before break x x' y y' e h = leads_same y y' h
  same_before done x x' y y' e h = refl
  same_before (fault name) x x' y y' e h = refl

pub same_head : (a b : Statements) (x x' y y' : Option Form) → in_full x ≡ in_full x' → in_full y ≡ in_full y'
    → full_form (form_of_loop a b x y) ≡ full_form (form_of_loop a b x' y')
same_head a b x x' y y' e h =
    head_same (spans_statements a) (last_turn (spans_statements a) (leads_to (form_statements b x y)) (leads_to x))
    (last_turn (spans_statements a) (leads_to (form_statements b x' y')) (leads_to x'))
    (last_same (spans_statements a) (leads_to (form_statements b x y)) (leads_to (form_statements b x' y')) (leads_to x) (leads_to x')
    (leads_same (form_statements b x y) (form_statements b x' y') (same_statements b x x' y y' e h)) (leads_same x x' e))

-- OF EACH POINT

full_append : (fs fs' gs gs' : List Form) → map full_form fs ≡ map full_form fs' → map full_form gs ≡ map full_form gs'
    → map full_form (fs ++ gs) ≡ map full_form (fs' ++ gs')
full_append fs fs' gs gs' e h = map-append full_form fs gs ∙ ap (λ l. l ++ map full_form gs) e ∙ ap (λ l. map full_form fs' ++ l) h
    ∙ sym (map-append full_form fs' gs')

full_first : (f f' : Form) (fs fs' : List Form) → full_form f ≡ full_form f' → map full_form fs ≡ map full_form fs'
    → map full_form (f ∷ fs) ≡ map full_form (f' ∷ fs')
full_first f f' fs fs' e h = ap (λ g. g ∷ map full_form fs) e ∙ ap (λ l. full_form f' ∷ l) h

mutual
  pub same_of_statements : (b : Statements) (x x' y y' : Option Form) → in_full x ≡ in_full x' → in_full y ≡ in_full y'
      → map full_form (forms_of_statements b x y) ≡ map full_form (forms_of_statements b x' y')
  same_of_statements nothing x x' y y' e h = refl
  same_of_statements (first s rest) x x' y y' e h =
      full_append (forms_of_statement s (form_statements rest x y) y) (forms_of_statement s (form_statements rest x' y') y') (forms_of_statements rest x y)
      (forms_of_statements rest x' y')
      (same_of_statement s (form_statements rest x y) (form_statements rest x' y') y y' (same_statements rest x x' y y' e h) h)
      (same_of_statements rest x x' y y' e h)

  pub same_of_ways : (c : Ways) (x x' y y' : Option Form) → in_full x ≡ in_full x' → in_full y ≡ in_full y'
      → map full_form (forms_of_ways c x y) ≡ map full_form (forms_of_ways c x' y')
  same_of_ways (otherwise b) x x' y y' e h = same_of_statements b x x' y y' e h
  same_of_ways (way guards b rest) x x' y y' e h =
      full_append (forms_of_statements b x y) (forms_of_statements b x' y') (forms_of_ways rest x y) (forms_of_ways rest x' y')
      (same_of_statements b x x' y y' e h) (same_of_ways rest x x' y y' e h)

  pub same_of_statement : (s : Statement) (x x' y y' : Option Form) → in_full x ≡ in_full x' → in_full y ≡ in_full y'
      → map full_form (forms_of_statement s x y) ≡ map full_form (forms_of_statement s x' y')
  same_of_statement (send c ways) x x' y y' e h =
      full_first (form_before (send c ways) x y) (form_before (send c ways) x' y') (forms_of_ways ways x y) (forms_of_ways ways x' y')
      (same_before (send c ways) x x' y y' e h) (same_of_ways ways x x' y y' e h)
  same_of_statement (phase p a b) x x' y y' e h =
      full_first (form_before (phase p a b) x y) (form_before (phase p a b) x' y') (forms_of_statements a x y ++ forms_of_statements b x y)
      (forms_of_statements a x' y' ++ forms_of_statements b x' y') (same_before (phase p a b) x x' y y' e h)
      (full_append (forms_of_statements a x y) (forms_of_statements a x' y') (forms_of_statements b x y) (forms_of_statements b x' y')
      (same_of_statements a x x' y y' e h) (same_of_statements b x x' y y' e h))
  same_of_statement (setting l) x x' y y' e h = ap (λ f. f ∷ []) (leads_same x x' e)
  same_of_statement (choice c a b) x x' y y' e h =
      full_first (form_before (choice c a b) x y) (form_before (choice c a b) x' y') (forms_of_statements a x y ++ forms_of_statements b x y)
      (forms_of_statements a x' y' ++ forms_of_statements b x' y') (same_before (choice c a b) x x' y y' e h)
      (full_append (forms_of_statements a x y) (forms_of_statements a x' y') (forms_of_statements b x y) (forms_of_statements b x' y')
      (same_of_statements a x x' y y' e h) (same_of_statements b x x' y y' e h))
  same_of_statement (set f) x x' y y' e h = ap (λ f. f ∷ []) (leads_same x x' e)
  same_of_statement (clear f) x x' y y' e h = ap (λ f. f ∷ []) (leads_same x x' e)
  same_of_statement (bus_lines width) x x' y y' e h = ap (λ f. f ∷ []) (leads_same x x' e)
  same_of_statement (turns n a b) x x' y y' e h =
      let k = form_of_loop a b x y in
      let k' = form_of_loop a b x' y' in
      let head = same_head a b x x' y y' e h in
      full_first k k' (forms_of_statements a (Some k) (inside_too x) ++ forms_of_statements b x y)
      (forms_of_statements a (Some k') (inside_too x') ++ forms_of_statements b x' y') head
      (full_append (forms_of_statements a (Some k) (inside_too x)) (forms_of_statements a (Some k') (inside_too x')) (forms_of_statements b x y)
      (forms_of_statements b x' y')
      (same_of_statements a (Some k) (Some k') (inside_too x) (inside_too x') (ap Some head) (inside_same x x' e)) (same_of_statements b x x' y y' e h))
  same_of_statement break x x' y y' e h = ap (λ f. f ∷ []) (leads_same y y' h)
  same_of_statement done x x' y y' e h = refl
  same_of_statement (fault name) x x' y y' e h = refl
