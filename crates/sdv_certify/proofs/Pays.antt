-- The bound forms pay for each edge.
use Rattle.std.proofs.Common.{◌≡◌, ℕ, zero, suc, ◌+◌, ◌-◌, ◌<◌, ◌≤◌, List, [], ◌∷◌, ◌++◌, length, Option, Some, None, refl, sym, ap, ◌∙◌, subst, arith, add-one, length-append, append_assoc}
use Rattle.std.specs.Prelude.{slice_get}
use Rattle.std.proofs.Math.Seq.{get_or-append_seam}
use Rattle.std.proofs.lemmas.Option.{slice_get_past, slice_get-get_or}
use Rattle.sdv_graph.specs.declared.graph.Target.{Target}
use Rattle.sdv_graph.specs.Tree.{Statements, nothing, first, Ways, otherwise, way, Statement, send, phase, setting, choice, set, clear, bus_lines, turns, break, done, fault}
use Rattle.sdv_script.specs.Rules.{statements_count, ways_count, statement_count}
use Rattle.sdv_graph.specs.Path.{Case, Action, Point, sends, phases, lets, tests, flags, widths, heads, jumps, stops, left, entered, turns_at}
use Rattle.sdv_graph.specs.Points.{start_of, entry, outside, again, cases_of, other_of, points_of_statements, points_of_ways, points_of_statement, past, points_of}
use Rattle.sdv_graph.specs.Nested.{InBox, Pass, Same, Again, Over, EachCase, EachTarget}
use Rattle.sdv_facts.specs.Bounds.{turns_cost, bound, commands_of, BoundFalls}
use Rattle.sdv_facts.specs.Facts.{PointFacts}
use Rattle.sdv_certify.specs.declared.form.Form.{Form}
use Rattle.sdv_certify.specs.Spans.{spans_statements}
use Rattle.sdv_certify.specs.Forms.{either_form, end_form, leads_to, sends_then, inside, inside_too, form_statements, form_ways, form_before, form_of_loop, forms_of_statements, forms_of_ways, forms_of_statement, forms_of, first_of}
use Rattle.sdv_certify.specs.FormsPay.{worth, Falls, FormsPay, HasForm, HasForms, BoundsFall}
use Rattle.sdv_certify.proofs.AtMost.{AtMost, at_most_same, worth_at_most, Below, below_same, below_twice, below_left, below_right, turn_pays, other_pays}
use Rattle.sdv_certify.proofs.Chain.{chain_statements}

-- WHERE THE FORMS OF A PART STAND

-- the forms stand among these from this number on
abbrev pub HasAt : List Form → ℕ → List Form → Type 0
HasAt g at [] = Unit {0}
HasAt g at (p ∷ ps) = (slice_get g at ≡ Some p) × HasAt g (at + 1) ps

has_front : (g : List Form) (at : ℕ) (a b : List Form) → HasAt g at (a ++ b) → HasAt g at a
has_front g at [] b h = tt
has_front g at (n ∷ a) b h = (h.0, has_front g (at + 1) a b h.1)

has_back : (g : List Form) (at : ℕ) (a b : List Form) → HasAt g at (a ++ b) → HasAt g (at + length a) b
has_back g at [] b h = let e : at ≡ at + 0 = omega arith in subst (λ n. HasAt g n b) e h
has_back g at (n ∷ a) b h =
    let e : at + 1 + length a ≡ at + length (n ∷ a) = omega arith in
    subst (λ n. HasAt g n b) e (has_back g (at + 1) a b h.1)

has_all : (ps before : List Form) → HasAt (before ++ ps) (length before) ps
has_all [] before = tt
has_all (p ∷ ps) before =
    let within : length before < length (before ++ p ∷ ps) = omega (arith, length-append before (p ∷ ps)) in
    let here = slice_get-get_or (before ++ p ∷ ps) (length before) p within ∙ ap Some (get_or-append_seam before p ps p) in
    let l : length (before ++ p ∷ []) ≡ length before + 1 = omega (arith, length-append before (p ∷ [])) in
    let rest = has_all ps (before ++ p ∷ []) in
    let rest' = subst (λ l. HasAt l (length (before ++ p ∷ [])) ps) (append_assoc before (p ∷ []) ps) rest in
    (here, subst (λ m. HasAt (before ++ p ∷ ps) m ps) l rest')

-- each statement has one form
mutual
  pub statements_length : (b : Statements) (after out : Option Form) → length (forms_of_statements b after out) ≡ statements_count b
  statements_length nothing after out = refl
  statements_length (first s rest) after out =
      let mid = form_statements rest after out in
      let e = length-append (forms_of_statement s mid out) (forms_of_statements rest after out) in
      let ls = statement_length s mid out in
      let lr = statements_length rest after out in
      omega arith

  ways_length : (c : Ways) (after out : Option Form) → length (forms_of_ways c after out) ≡ ways_count c
  ways_length (otherwise b) after out = statements_length b after out
  ways_length (way guards b rest) after out =
      let e = length-append (forms_of_statements b after out) (forms_of_ways rest after out) in
      let lb = statements_length b after out in
      let lr = ways_length rest after out in
      omega arith

  statement_length : (s : Statement) (after out : Option Form) → length (forms_of_statement s after out) ≡ statement_count s
  statement_length (send c ways) after out = let l = ways_length ways after out in omega arith
  statement_length (phase p a b) after out =
      let e = length-append (forms_of_statements a after out) (forms_of_statements b after out) in
      let la = statements_length a after out in
      let lb = statements_length b after out in
      omega arith
  statement_length (setting l) after out = refl
  statement_length (choice c a b) after out =
      let e = length-append (forms_of_statements a after out) (forms_of_statements b after out) in
      let la = statements_length a after out in
      let lb = statements_length b after out in
      omega arith
  statement_length (set f) after out = refl
  statement_length (clear f) after out = refl
  statement_length (bus_lines width) after out = refl
  statement_length (turns n a b) after out =
      let h = form_of_loop a b after out in
      let e = length-append (forms_of_statements a (Some h) (inside_too after)) (forms_of_statements b after out) in
      let la = statements_length a (Some h) (inside_too after) in
      let lb = statements_length b after out in
      omega arith
  statement_length break after out = refl
  statement_length done after out = refl
  statement_length (fault name) after out = refl

has_after : (g : List Form) (at : ℕ) (b : Statements) (after out : Option Form) (rest : List Form) → HasAt g at (forms_of_statements b after out ++ rest)
    → HasAt g (at + statements_count b) rest
has_after g at b after out rest has =
    subst (λ l. HasAt g (at + l) rest) (statements_length b after out) (has_back g at (forms_of_statements b after out) rest has)

has_after_first : (g : List Form) (at : ℕ) (s : Statement) (after out : Option Form) (rest : List Form) → HasAt g at (forms_of_statement s after out ++ rest)
    → HasAt g (at + statement_count s) rest
has_after_first g at s after out rest has =
    subst (λ l. HasAt g (at + l) rest) (statement_length s after out) (has_back g at (forms_of_statement s after out) rest has)

-- no turn is left of no loop
left_none : (n : ℕ) → left n [] ≡ []
left_none zero = refl
left_none (suc n) = refl

cost_none : (cs : List ℕ) → turns_cost cs [] ≡ 0
cost_none [] = refl
cost_none (c ∷ cs) = refl

inside_at_most : (o : Option Form) → AtMost (leads_to (inside_too o)) (inside (leads_to o))
inside_at_most None = record { base = omega arith; each = λ i. omega arith }
inside_at_most (Some f) = at_most_same (inside f)

module _ (g : List Form) where
  -- a target has this form before it, and none where there is none
  abbrev Leads : Option Form → Target → Type 0
  Leads None t = (h : Form) → slice_get g t.to ≡ Some h → ⊥
  Leads (Some f) t = (h : Form) → slice_get g t.to ≡ Some h → (ts : List ℕ) → worth h (turns_at t ts) ≤ worth f ts

  abbrev Pays : Point → Form → Type 0
  Pays p f = EachTarget p.action (Falls g f (commands_of p.action))

  abbrev AllPay : List Point → List Form → Type 0
  AllPay [] [] = Unit {0}
  AllPay (p ∷ ps) (f ∷ fs) = Pays p f × AllPay ps fs
  AllPay ps fs = ⊥

  all_pay_append : (ps qs : List Point) (fs gs : List Form) → AllPay ps fs → AllPay qs gs → AllPay (ps ++ qs) (fs ++ gs)
  all_pay_append [] qs [] gs a b = b
  all_pay_append [] qs (f ∷ fs) gs a b = absurd a
  all_pay_append (p ∷ ps) qs [] gs a b = absurd a
  all_pay_append (p ∷ ps) qs (f ∷ fs) gs a b = (a.0, all_pay_append ps qs fs gs a.1 b)

  lead_worth : (o : Option Form) (t : Target) → Leads o t → (h : Form) → slice_get g t.to ≡ Some h → (ts : List ℕ)
      → worth h (turns_at t ts) ≤ worth (leads_to o) ts
  lead_worth None t l h here ts = absurd (l h here)
  lead_worth (Some f) t l h here ts = l h here ts

  same_falls : (o w : Option Form) (t : Target) → Leads o t → Below o w → Falls g (leads_to w) 0 Same t
  same_falls None w t l b h here ts us e = absurd (l h here)
  same_falls (Some f) None t l b h here ts us e = absurd b
  same_falls (Some f) (Some f') t l b h here ts us e =
      subst (λ us. worth h (turns_at t us) + 0 ≤ worth f' ts) e (let x = l h here ts in let y = worth_at_most f f' ts b in omega (arith, x, y))

  sent_falls : (o w : Option Form) (t : Target) → Leads o t → Below o w → Falls g (sends_then w) 1 Same t
  sent_falls None w t l b h here ts us e = absurd (l h here)
  sent_falls (Some f) None t l b h here ts us e = absurd b
  sent_falls (Some f) (Some f') t l b h here ts us e =
      subst (λ us. worth h (turns_at t us) + 1 ≤ worth (sends_then (Some f')) ts) e
      (let x = l h here ts in let y = worth_at_most f f' ts b in omega (arith, x, y))

  -- the form that stands here is the one that is found
  found : (i : ℕ) (f h : Form) (P : Form → Type 0) → slice_get g i ≡ Some f → slice_get g i ≡ Some h → P f → P h
  found i f h P here there x = let e : f ≡ h = cc in subst P e x

  plain_leads : (f : Form) (at : ℕ) → slice_get g at ≡ Some f → Leads (Some f) (again at)
  plain_leads f at here h there ts = found at f h (λ h. worth h ts ≤ worth f ts) here there (omega arith)

  outside_some : (f : Form) (t : Target) → Leads (Some f) t → Leads (Some (inside f)) (outside t)
  outside_some f t l h here [] =
      let x : worth h (entered t.enter (left t.leave [])) ≤ worth f [] = l h here [] in
      let y : left (t.leave + 1) [] ≡ left t.leave [] = left_none (t.leave + 1) ∙ sym (left_none t.leave) in
      let z : worth h (entered t.enter (left (t.leave + 1) [])) ≤ worth f [] = subst (λ l. worth h (entered t.enter l) ≤ worth f []) (sym y) x in
      omega (arith, z, cost_none f.each)
  outside_some f t l h here (u ∷ ts) =
      let x : worth h (entered t.enter (left t.leave ts)) ≤ worth f ts = l h here ts in
      let z : worth h (entered t.enter (left (t.leave + 1) (u ∷ ts))) ≤ worth f ts =
      subst (λ n. worth h (entered t.enter (left n (u ∷ ts))) ≤ worth f ts) (sym (add-one t.leave)) x in
      omega (arith, z)

  outside_leads : (after : Option Form) (t : Target) → Leads after t → Leads (inside_too after) (outside t)
  outside_leads None t l = l
  outside_leads (Some f) t l = outside_some f t l

  -- from a head into its body
  body_falls : (a b : Statements) (after out : Option Form) (t : Target) → Leads (form_statements a (Some (form_of_loop a b after out)) (inside_too after)) t
      → Falls g (form_of_loop a b after out) 0 Again t
  body_falls a b after out t l h here [] us e = absurd e
  body_falls a b after out t l h here (zero ∷ ts) us e = absurd e
  body_falls a b after out t l h here (suc u ∷ ts) us e =
      let f = form_of_loop a b after out in
      let inner = form_statements a (Some f) (inside_too after) in
      let w = spans_statements a in
      let x = lead_worth inner t l h here (u ∷ ts) in
      let y = worth_at_most _ _ (u ∷ ts) (chain_statements a (Some f) (inside_too after) f (inside (leads_to after)) (at_most_same f) (inside_at_most after)) in
      let z = turn_pays w (leads_to (form_statements b after out)) (leads_to after) u ts in
      subst (λ us. worth h (turns_at t us) + 0 ≤ worth f (suc u ∷ ts)) e (omega (arith, x, y, z))

  -- from a head to its else block
  else_falls : (a b : Statements) (after out : Option Form) (t : Target) → Leads (form_statements b after out) t
      → Falls g (form_of_loop a b after out) 0 Over (outside t)
  else_falls a b after out t l h here [] us e = absurd e
  else_falls a b after out t l h here (suc u ∷ ts) us e = absurd e
  else_falls a b after out t l h here (zero ∷ ts) us e =
      let f = form_of_loop a b after out in
      let x = lead_worth (form_statements b after out) t l h here ts in
      let z : worth h (turns_at (outside t) (zero ∷ ts)) ≤ worth (leads_to (form_statements b after out)) ts =
      subst (λ n. worth h (entered t.enter (left n (zero ∷ ts))) ≤ worth (leads_to (form_statements b after out)) ts) (sym (add-one t.leave)) x in
      let y = other_pays (spans_statements a) (leads_to (form_statements b after out)) (leads_to after) ts in
      subst (λ us. worth h (turns_at (outside t) us) + 0 ≤ worth f (zero ∷ ts)) e (omega (arith, z, y))

  -- a loop is entered with all its turns
  enters : (n : ℕ) (a b : Statements) (at : ℕ) (after out : Option Form) → slice_get g at ≡ Some (form_of_loop a b after out)
      → Leads (Some (form_before (turns n a b) after out)) (record { to = at; leave = 0; enter = Some n })
  enters n a b at after out here h there ts =
      found at (form_of_loop a b after out) h (λ h. worth h (n ∷ ts) ≤ worth (form_before (turns n a b) after out) ts) here there (omega arith)

  start_leads : (s : Statement) (at : ℕ) (after out : Option Form) → HasAt g at (forms_of_statement s after out)
      → Leads (Some (form_before s after out)) (start_of s at)
  start_leads (send c ways) at after out has = plain_leads (form_before (send c ways) after out) at has.0
  start_leads (phase p a b) at after out has = plain_leads (form_before (phase p a b) after out) at has.0
  start_leads (setting l) at after out has = plain_leads (leads_to after) at has.0
  start_leads (choice c a b) at after out has = plain_leads (form_before (choice c a b) after out) at has.0
  start_leads (set f) at after out has = plain_leads (leads_to after) at has.0
  start_leads (clear f) at after out has = plain_leads (leads_to after) at has.0
  start_leads (bus_lines width) at after out has = plain_leads (leads_to after) at has.0
  start_leads (turns n a b) at after out has = enters n a b at after out has.0
  start_leads break at after out has = plain_leads (leads_to out) at has.0
  start_leads done at after out has = plain_leads end_form at has.0
  start_leads (fault name) at after out has = plain_leads end_form at has.0

  entry_leads : (b : Statements) (at : ℕ) (next : Target) (after out : Option Form) → HasAt g at (forms_of_statements b after out) → Leads after next
      → Leads (form_statements b after out) (entry b at next)
  entry_leads nothing at next after out has nx = nx
  entry_leads (first s rest) at next after out has nx =
      let mid = form_statements rest after out in
      start_leads s at mid out (has_front g at (forms_of_statement s mid out) (forms_of_statements rest after out) has)

  -- the cases of a command lead to their blocks
  cases_fall : (c : Ways) (at : ℕ) (next : Target) (after out w : Option Form) → HasAt g at (forms_of_ways c after out) → Leads after next
      → Below (form_ways c after out) w
      → EachCase (cases_of c at next) (Falls g (sends_then w) 1) × Falls g (sends_then w) 1 Same (other_of c at next)
  cases_fall (otherwise b) at next after out w has nx below =
      (tt, sent_falls (form_statements b after out) w (entry b at next) (entry_leads b at next after out has nx) below)
  cases_fall (way guards b rest) at next after out w has nx below =
      let mid = at + statements_count b in
      let others = forms_of_ways rest after out in
      let x = form_statements b after out in
      let y = form_ways rest after out in
      let one = entry_leads b at next after out (has_front g at (forms_of_statements b after out) others has) nx in
      let more = cases_fall rest mid next after out w (has_after g at b after out others has) nx (below_twice y (either_form x y) w (below_right x y) below) in
      ((sent_falls x w (entry b at next) one (below_twice x (either_form x y) w (below_left x y) below), more.0), more.1)

  mutual
    statements_pay : (b : Statements) (at : ℕ) (next brk : Target) (most : List ℕ) (after out : Option Form) → HasAt g at (forms_of_statements b after out)
        → Leads after next → Leads out brk
        → AllPay (points_of_statements b at next brk most) (forms_of_statements b after out)
    statements_pay nothing at next brk most after out has nx br = tt
    statements_pay (first s rest) at next brk most after out has nx br =
        let mid = at + statement_count s in
        let to = entry rest mid next in
        let then = form_statements rest after out in
        let fs = forms_of_statement s then out in
        let fr = forms_of_statements rest after out in
        let back = has_after_first g at s then out fr has in
        all_pay_append (points_of_statement s at to brk most) (points_of_statements rest mid next brk most) fs fr
        (statement_pays s at to brk most then out (has_front g at fs fr has) (entry_leads rest mid next after out back nx) br)
        (statements_pay rest mid next brk most after out back nx br)

    ways_pay : (c : Ways) (at : ℕ) (next brk : Target) (most : List ℕ) (after out : Option Form) → HasAt g at (forms_of_ways c after out) → Leads after next
        → Leads out brk
        → AllPay (points_of_ways c at next brk most) (forms_of_ways c after out)
    ways_pay (otherwise b) at next brk most after out has nx br = statements_pay b at next brk most after out has nx br
    ways_pay (way guards b rest) at next brk most after out has nx br =
        let mid = at + statements_count b in
        let fb = forms_of_statements b after out in
        let fr = forms_of_ways rest after out in
        all_pay_append (points_of_statements b at next brk most) (points_of_ways rest mid next brk most) fb fr
        (statements_pay b at next brk most after out (has_front g at fb fr has) nx br)
        (ways_pay rest mid next brk most after out (has_after g at b after out fr has) nx br)

    statement_pays : (s : Statement) (at : ℕ) (next brk : Target) (most : List ℕ) (after out : Option Form) → HasAt g at (forms_of_statement s after out)
        → Leads after next → Leads out brk
        → AllPay (points_of_statement s at next brk most) (forms_of_statement s after out)
    statement_pays (send c ways) at next brk most after out has nx br = (
      cases_fall ways (at + 1) next after out (form_ways ways after out) has.1 nx (below_same (form_ways ways after out)),
      ways_pay ways (at + 1) next brk most after out has.1 nx br,
    )
    statement_pays (phase p a b) at next brk most after out has nx br =
        let mid = at + 1 + statements_count a in
        let fa = forms_of_statements a after out in
        let fb = forms_of_statements b after out in
        let x = form_statements a after out in
        let y = form_statements b after out in
        let front = has_front g (at + 1) fa fb has.1 in
        let back = has_after g (at + 1) a after out fb has.1 in (
          (
            same_falls x (either_form x y) (entry a (at + 1) next) (entry_leads a (at + 1) next after out front nx) (below_left x y),
            same_falls y (either_form x y) (entry b mid next) (entry_leads b mid next after out back nx) (below_right x y),
          ),
          all_pay_append (points_of_statements a (at + 1) next brk most) (points_of_statements b mid next brk most) fa fb
              (statements_pay a (at + 1) next brk most after out front nx br) (statements_pay b mid next brk most after out back nx br),
        )
    statement_pays (setting l) at next brk most after out has nx br = (same_falls after after next nx (below_same after), tt)
    statement_pays (choice c a b) at next brk most after out has nx br =
        let mid = at + 1 + statements_count a in
        let fa = forms_of_statements a after out in
        let fb = forms_of_statements b after out in
        let x = form_statements a after out in
        let y = form_statements b after out in
        let front = has_front g (at + 1) fa fb has.1 in
        let back = has_after g (at + 1) a after out fb has.1 in (
          (
            same_falls x (either_form x y) (entry a (at + 1) next) (entry_leads a (at + 1) next after out front nx) (below_left x y),
            same_falls y (either_form x y) (entry b mid next) (entry_leads b mid next after out back nx) (below_right x y),
          ),
          all_pay_append (points_of_statements a (at + 1) next brk most) (points_of_statements b mid next brk most) fa fb
              (statements_pay a (at + 1) next brk most after out front nx br) (statements_pay b mid next brk most after out back nx br),
        )
    statement_pays (set f) at next brk most after out has nx br = (same_falls after after next nx (below_same after), tt)
    statement_pays (clear f) at next brk most after out has nx br = (same_falls after after next nx (below_same after), tt)
    statement_pays (bus_lines width) at next brk most after out has nx br = (same_falls after after next nx (below_same after), tt)
    statement_pays (turns n a b) at next brk most after out has nx br =
        let mid = at + 1 + statements_count a in
        let inner = (n - 1) ∷ most in
        let h = form_of_loop a b after out in
        let fa = forms_of_statements a (Some h) (inside_too after) in
        let fb = forms_of_statements b after out in
        let front = has_front g (at + 1) fa fb has.1 in
        let back = has_after g (at + 1) a (Some h) (inside_too after) fb has.1 in
        let head = plain_leads h at has.0 in (
          (
            body_falls a b after out (entry a (at + 1) (again at)) (entry_leads a (at + 1) (again at) (Some h) (inside_too after) front head),
            else_falls a b after out (entry b mid next) (entry_leads b mid next after out back nx),
          ),
          all_pay_append (points_of_statements a (at + 1) (again at) (outside next) inner) (points_of_statements b mid next brk most) fa fb
              (statements_pay a (at + 1) (again at) (outside next) inner (Some h) (inside_too after) front head (outside_leads after next nx))
              (statements_pay b mid next brk most after out back nx br),
        )
    statement_pays break at next brk most after out has nx br = (same_falls out out brk br (below_same out), tt)
    statement_pays done at next brk most after out has nx br = (tt, tt)
    statement_pays (fault name) at next brk most after out has nx br = (tt, tt)

  each_pays : (ps : List Point) (fs : List Form) (i : ℕ) (p : Point) (f : Form) → AllPay ps fs → slice_get ps i ≡ Some p → slice_get fs i ≡ Some f → Pays p f
  each_pays [] fs i p f all e h = absurd (cc)
  each_pays (q ∷ ps) [] i p f all e h = absurd all
  each_pays (q ∷ ps) (k ∷ fs) zero p f all e h =
      let x : q ≡ p = cc in
      let y : k ≡ f = cc in
      subst (λ f. Pays p f) y (subst (λ p. Pays p k) x all.0)
  each_pays (q ∷ ps) (k ∷ fs) (suc i) p f all e h = each_pays ps fs i p f all.1 e h

-- nothing stands past the last point
past_leads : (b : Statements) → Leads (forms_of b) None (past b)
past_leads b h here =
    let l = statements_length b None None in
    let none : slice_get (forms_of b) (statements_count b) ≡ None = slice_get_past (forms_of b) (statements_count b) (omega arith) in
    absurd (cc)

pub forms_pay : (script : Statements) → FormsPay script
forms_pay b i p f here there =
    let g = forms_of b in
    let all = statements_pay g b 0 (past b) (past b) [] None None (has_all g []) (past_leads b) (past_leads b) in
    each_pays g (points_of b) g i p f all here there

-- IN A CERTIFICATE

each_case : (ws : List Case) (P Q : Pass → Target → Type 0) → ((pass : Pass) (t : Target) → P pass t → Q pass t) → EachCase ws P → EachCase ws Q
each_case [] P Q f h = tt
each_case (w ∷ ws) P Q f h = (f Same w.target h.0, each_case ws P Q f h.1)

pub each_target : (n : Action) (P Q : Pass → Target → Type 0) → ((pass : Pass) (t : Target) → P pass t → Q pass t) → EachTarget n P → EachTarget n Q
each_target (sends c ways other) P Q f h = (each_case ways P Q f h.0, f Same other h.1)
each_target (phases p well other) P Q f h = (f Same well h.0, f Same other h.1)
each_target (lets l t) P Q f h = f Same t h
each_target (tests c holds other) P Q f h = (f Same holds h.0, f Same other h.1)
each_target (flags n on t) P Q f h = f Same t h
each_target (widths width t) P Q f h = f Same t h
each_target (heads n body other) P Q f h = (f Again body h.0, f Over other h.1)
each_target (jumps t) P Q f h = f Same t h
each_target (stops last) P Q f h = tt

cost_first : (n : ℕ) (cs ts : List ℕ) → turns_cost (first_of n cs) ts ≤ turns_cost cs ts
cost_first zero cs ts = omega arith
cost_first (suc n) [] [] = omega arith
cost_first (suc n) [] (t ∷ ts) = let e = cost_first n [] ts in omega arith
cost_first (suc n) (c ∷ cs) [] = omega arith
cost_first (suc n) (c ∷ cs) (t ∷ ts) = let e = cost_first n cs ts in omega arith

cost_all : (n : ℕ) (cs ts : List ℕ) → length ts ≤ n → turns_cost cs ts ≤ turns_cost (first_of n cs) ts
cost_all n [] ts h = omega arith
cost_all n (c ∷ cs) [] h = omega arith
cost_all zero (c ∷ cs) (t ∷ ts) h = absurd (omega arith)
cost_all (suc n) (c ∷ cs) (t ∷ ts) h = let e = cost_all n cs ts (omega arith) in omega arith

box_length : (ts most : List ℕ) → InBox ts most → length ts ≡ length most
box_length [] [] h = refl
box_length [] (n ∷ most) h = absurd h
box_length (t ∷ ts) [] h = absurd h
box_length (t ∷ ts) (n ∷ most) h = ap suc (box_length ts most h.1)

bound_at_most : (f : Form) (place : Point) (p : PointFacts) (ts : List ℕ) → HasForm f place p → bound p ts ≤ worth f ts
bound_at_most f place p ts h =
    let e = ap (λ l. turns_cost l ts) h.turns in
    omega (arith, h.base, e, cost_first (length place.most) f.each ts)

worth_at_bound : (f : Form) (place : Point) (p : PointFacts) (ts : List ℕ) → HasForm f place p → InBox ts place.most → worth f ts ≤ bound p ts
worth_at_bound f place p ts h box =
    let e = ap (λ l. turns_cost l ts) h.turns in
    let l = box_length ts place.most box in
    omega (arith, h.base, e, cost_all (length place.most) f.each ts (omega arith))

-- an index below the length has an element
pub is_there : {A : Type 0} (xs : List A) (i : ℕ) → i < length xs → (x : A) × (slice_get xs i ≡ Some x)
is_there [] i h = absurd (omega arith)
is_there (x ∷ xs) zero h = (x, refl)
is_there (x ∷ xs) (suc i) h = is_there xs i (omega arith)

below_length : (ps : List PointFacts) (i : ℕ) (p : PointFacts) → slice_get ps i ≡ Some p → i < length ps
below_length [] i p h = absurd (cc)
below_length (q ∷ ps) zero p h = omega arith
below_length (q ∷ ps) (suc i) p h = let e = below_length ps i p h in omega arith

pub bounds_fall : (script : Statements) (ps : List PointFacts) → HasForms script ps → BoundsFall script ps
bounds_fall script ps h i place p here there =
    let x = h.each i place p here there in
    let f = x.0 in
    each_target place.action
    (Falls (forms_of script) f (commands_of place.action))
    (λ pass t. ((q : PointFacts) → slice_get ps t.to ≡ Some q → BoundFalls p q place.most (commands_of place.action) pass t))
    (λ pass t fall q found ts us box turned.
    (let below = below_length ps t.to q found in
    let y = is_there (points_of script) t.to (omega (arith, h.count)) in
    let z = h.each t.to y.0 q y.1 found in
    let falls = fall z.0 z.1 ts us turned in
    omega (arith, falls, bound_at_most z.0 y.0 q (turns_at t us) z.2, worth_at_bound f place p ts x.2 box)))
    (forms_pay script i place f here x.1)
