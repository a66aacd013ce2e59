-- The form before a part is at most what its spans say.
use Rattle.std.proofs.Common.{◌≡◌, ℕ, ◌-◌, ◌*◌, [], true, ◌||◌, Option, Some, None, is_some, refl, arith}
use Rattle.sdv_graph.specs.Tree.{Statements, nothing, first, Ways, otherwise, way, Statement, send, phase, setting, choice, set, clear, bus_lines, turns, break, done, fault}
use Rattle.sdv_certify.specs.declared.spans.Spans.{Spans}
use Rattle.sdv_certify.specs.declared.form.Form.{Form}
use Rattle.sdv_certify.specs.Spans.{plus, most, or_zero, spans, either, later, way_out, all_turns, spans_statements, spans_ways, spans_statement}
use Rattle.sdv_certify.specs.Forms.{greater, either_form, end_form, leads_to, sends_then, form_statements, form_ways, form_before}
use Rattle.sdv_certify.proofs.AtMost.{AtMost, Has, form_at, paid, at_most_same, at_most_twice, both_of, greatest_at, form_mono, either_at, seq_at, later_at, loop_at}

-- EVERY PART HAS A WAY

seq_has : (f b e g c d : Option ℕ) → (is_some f || is_some b || is_some e) ≡ true → (is_some g || is_some c || is_some d) ≡ true
    → (is_some (plus f g) || is_some (most b (plus f c)) || is_some (most e (plus f d))) ≡ true
seq_has f (Some b) e g c d h i = cases (plus f g) (plus f c)
  where
    cases : (x y : Option ℕ) → (is_some x || is_some (most (Some b) y) || is_some (most e (plus f d))) ≡ true
    cases (Some x) y = refl
    cases None (Some y) = refl
    cases None None = refl
seq_has f None (Some e) g c d h i = cases (plus f g) (plus f c) (plus f d)
  where
    cases : (x y z : Option ℕ) → (is_some x || is_some y || is_some (most (Some e) z)) ≡ true
    cases (Some x) y z = refl
    cases None (Some y) z = refl
    cases None None (Some z) = refl
    cases None None None = refl
seq_has None None None g c d h i = absurd (cc)
seq_has (Some f) None None (Some g) c d h i = refl
seq_has (Some f) None None None (Some c) d h i = refl
seq_has (Some f) None None None None (Some d) h i = refl
seq_has (Some f) None None None None None h i = absurd (cc)

most_has : (f b e g c d : Option ℕ) → (is_some f || is_some b || is_some e) ≡ true → (is_some (most f g) || is_some (most b c) || is_some (most e d)) ≡ true
most_has (Some f) b e (Some g) c d h = refl
most_has (Some f) b e None c d h = refl
most_has None (Some b) e g (Some c) d h = second (most None g)
  where
    second : (x : Option ℕ) → (is_some x || is_some (most (Some b) (Some c)) || is_some (most e d)) ≡ true
    second (Some x) = refl
    second None = refl
most_has None (Some b) e g None d h = second (most None g)
  where
    second : (x : Option ℕ) → (is_some x || is_some (most (Some b) None) || is_some (most e d)) ≡ true
    second (Some x) = refl
    second None = refl
most_has None None (Some e) g c d h = third (most None g) (most None c) d
  where
    third : (x y d : Option ℕ) → (is_some x || is_some y || is_some (most (Some e) d)) ≡ true
    third (Some x) y d = refl
    third None (Some y) d = refl
    third None None (Some d) = refl
    third None None None = refl
most_has None None None g c d h = absurd (cc)

later_has : (n : ℕ) (f b e : Option ℕ) → (is_some f || is_some b || is_some e) ≡ true
    → (is_some (plus (Some n) f) || is_some (plus (Some n) b) || is_some (plus (Some n) e)) ≡ true
later_has n (Some f) b e h = refl
later_has n None (Some b) e h = refl
later_has n None None (Some e) h = refl
later_has n None None None h = absurd (cc)

either_has : (u v : Spans) → Has u → Has (either u v)
either_has u v h = most_has u.on u.leave u.stop v.on v.leave v.stop h

mutual
  pub has_statements : (b : Statements) → Has (spans_statements b)
  has_statements nothing = refl
  has_statements (first s rest) =
      let u = spans_statement s in
      let v = spans_statements rest in
      seq_has u.on u.leave u.stop v.on v.leave v.stop (has_statement s) (has_statements rest)

  has_ways : (c : Ways) → Has (spans_ways c)
  has_ways (otherwise b) = has_statements b
  has_ways (way guards b rest) = either_has (spans_statements b) (spans_ways rest) (has_statements b)

  has_statement : (s : Statement) → Has (spans_statement s)
  has_statement (send c ways) = let u = spans_ways ways in later_has 1 u.on u.leave u.stop (has_ways ways)
  has_statement (phase p a b) = either_has (spans_statements a) (spans_statements b) (has_statements a)
  has_statement (setting l) = refl
  has_statement (choice c a b) = either_has (spans_statements a) (spans_statements b) (has_statements a)
  has_statement (set f) = refl
  has_statement (clear f) = refl
  has_statement (bus_lines width) = refl
  has_statement (turns n a b) =
      let u = spans_statements a in
      let v = spans_statements b in
      either_has (later (n * or_zero u.on) v) (later ((n - 1) * or_zero u.on) (way_out u)) (later_has (n * or_zero u.on) v.on v.leave v.stop (has_statements b))
  has_statement break = refl
  has_statement done = refl
  has_statement (fault name) = refl

-- AT MOST WHAT THE SPANS SAY

end_at_most : (f : Form) → AtMost end_form f
end_at_most f = record { base = omega arith; each = λ i. omega arith }

either_leads : (o p : Option Form) (f : Form) → AtMost (leads_to o) f → AtMost (leads_to p) f → AtMost (leads_to (either_form o p)) f
either_leads None p f a b = b
either_leads (Some g) None f a b = a
either_leads (Some g) (Some h) f a b = both_of g h f a b

sends_at_most : (o : Option Form) (f : Form) → AtMost (leads_to o) f → AtMost (sends_then o) (paid 1 f)
sends_at_most None f h = record { base = omega arith; each = λ i. omega arith }
sends_at_most (Some g) f h = record { base = omega (arith, h.base); each = h.each }

on_at_most : (f o : Form) → AtMost f (form_at (spans (Some 0) None None) f o)
on_at_most f o = record { base = omega arith; each = λ i. omega (arith, greatest_at f.each [] i) }

leave_at_most : (f o : Form) → AtMost o (form_at (spans None (Some 0) None) f o)
leave_at_most f o = record { base = omega arith; each = λ i. omega (arith, greatest_at [] o.each i) }

two_at_most : (x y : Option Form) (u v : Spans) (f o : Form) → AtMost (leads_to x) (form_at u f o) → AtMost (leads_to y) (form_at v f o)
    → AtMost (leads_to (either_form x y)) (form_at (either u v) f o)
two_at_most x y u v f o a b =
    let both = either_at u v f o in
    let l : AtMost (form_at u f o) (form_at (either u v) f o) = at_most_twice _ _ _ (left_part (form_at u f o) (form_at v f o)) both in
    let r : AtMost (form_at v f o) (form_at (either u v) f o) = at_most_twice _ _ _ (right_part (form_at u f o) (form_at v f o)) both in
    either_leads x y (form_at (either u v) f o) (at_most_twice _ _ _ a l) (at_most_twice _ _ _ b r)
  where
    left_part : (g h : Form) → AtMost g (greater g h)
    left_part g h = record { base = omega arith; each = λ i. omega (arith, greatest_at g.each h.each i) }

    right_part : (g h : Form) → AtMost h (greater g h)
    right_part g h = record { base = omega arith; each = λ i. omega (arith, greatest_at g.each h.each i) }

mutual
  pub chain_statements : (b : Statements) (after out : Option Form) (f o : Form) → AtMost (leads_to after) f → AtMost (leads_to out) o
      → AtMost (leads_to (form_statements b after out)) (form_at (spans_statements b) f o)
  chain_statements nothing after out f o hf ho = at_most_twice _ _ _ hf (on_at_most f o)
  chain_statements (first s rest) after out f o hf ho =
      let r = chain_statements rest after out f o hf ho in
      let u = spans_statement s in
      let v = spans_statements rest in
      at_most_twice _ _ _ (chain_statement s (form_statements rest after out) out (form_at v f o) o r ho) (seq_at u v f o (has_statements rest))

  pub chain_ways : (c : Ways) (after out : Option Form) (f o : Form) → AtMost (leads_to after) f → AtMost (leads_to out) o
      → AtMost (leads_to (form_ways c after out)) (form_at (spans_ways c) f o)
  chain_ways (otherwise b) after out f o hf ho = chain_statements b after out f o hf ho
  chain_ways (way guards b rest) after out f o hf ho =
      two_at_most (form_statements b after out) (form_ways rest after out) (spans_statements b) (spans_ways rest) f o
      (chain_statements b after out f o hf ho) (chain_ways rest after out f o hf ho)

  pub chain_statement : (s : Statement) (after out : Option Form) (f o : Form) → AtMost (leads_to after) f → AtMost (leads_to out) o
      → AtMost (form_before s after out) (form_at (spans_statement s) f o)
  chain_statement (send c ways) after out f o hf ho =
      let w = chain_ways ways after out f o hf ho in
      at_most_twice _ _ _ (sends_at_most (form_ways ways after out) (form_at (spans_ways ways) f o) w) (later_at 1 (spans_ways ways) f o (has_ways ways))
  chain_statement (phase p a b) after out f o hf ho =
      two_at_most (form_statements a after out) (form_statements b after out) (spans_statements a) (spans_statements b) f o
      (chain_statements a after out f o hf ho) (chain_statements b after out f o hf ho)
  chain_statement (setting l) after out f o hf ho = at_most_twice _ _ _ hf (on_at_most f o)
  chain_statement (choice c a b) after out f o hf ho =
      two_at_most (form_statements a after out) (form_statements b after out) (spans_statements a) (spans_statements b) f o
      (chain_statements a after out f o hf ho) (chain_statements b after out f o hf ho)
  chain_statement (set n) after out f o hf ho = at_most_twice _ _ _ hf (on_at_most f o)
  chain_statement (clear n) after out f o hf ho = at_most_twice _ _ _ hf (on_at_most f o)
  chain_statement (bus_lines width) after out f o hf ho = at_most_twice _ _ _ hf (on_at_most f o)
  chain_statement (turns n a b) after out f o hf ho =
      let u = spans_statements a in
      let v = spans_statements b in
      let g = leads_to after in
      let r = chain_statements b after out g o (at_most_same g) ho in
      at_most_twice _ _ _ (loop_at n u v (leads_to (form_statements b after out)) g o (has_statements b) r) (form_mono (all_turns n u v) g f o hf)
  chain_statement break after out f o hf ho = at_most_twice _ _ _ ho (leave_at_most f o)
  chain_statement done after out f o hf ho = end_at_most (form_at (spans None None (Some 0)) f o)
  chain_statement (fault name) after out f o hf ho = end_at_most (form_at (spans None None (Some 0)) f o)
