-- No form has more commands than the part has moves, beside those behind it.
use Rattle.std.proofs.Common.{◌≡◌, ℕ, ◌+◌, ◌*◌, ◌≤◌, max, Option, Some, None, arith}
use Rattle.std.proofs.Math.Nat.{mul-le-mul_left, mul-le-mul_right}
use Rattle.sdv_graph.specs.Tree.{Statements, nothing, first, Ways, otherwise, way, Statement, send, phase, setting, choice, set, clear, bus_lines, turns, break, done, fault}
use Rattle.sdv_graph.specs.Moves.{statements_moves, ways_moves, statement_moves}
use Rattle.sdv_certify.specs.declared.form.Form.{Form}
use Rattle.sdv_certify.specs.declared.spans.Spans.{Spans}
use Rattle.sdv_certify.specs.Spans.{or_zero, longest, spans_statements}
use Rattle.sdv_certify.specs.Forms.{either_form, leads_to, sends_then, base_of, last_turn, form_statements, form_ways, form_before, form_of_loop}
use Rattle.sdv_certify.proofs.SpanLaws.{longest_statements}

abbrev pub base_at : Option Form → ℕ
base_at o = (leads_to o).base

either_base : (x y : Option Form) → base_at (either_form x y) ≤ max (base_at x) (base_at y)
either_base None y = omega arith
either_base (Some f) None = omega arith
either_base (Some f) (Some g) = omega arith

sends_base : (x : Option Form) → (sends_then x).base ≤ 1 + base_at x
sends_base None = omega arith
sends_base (Some f) = omega arith

leave_base : (leave : Option ℕ) (after : ℕ) → base_of leave after ≤ or_zero leave + after
leave_base None after = omega arith
leave_base (Some n) after = omega arith

stop_base : (stop : Option ℕ) → base_of stop 0 ≤ or_zero stop
stop_base None = omega arith
stop_base (Some n) = omega arith

pub last_base : (u : Spans) (other after : Form) → (last_turn u other after).base ≤ max other.base (longest u + after.base)
last_base u other after = omega (arith, leave_base u.leave after.base, stop_base u.stop)

mutual
  pub few_statements : (b : Statements) (after out : Option Form)
      → base_at (form_statements b after out) ≤ statements_moves b + max (base_at after) (base_at out)
  few_statements nothing after out = omega arith
  few_statements (first s rest) after out =
      omega (arith, few_before s (form_statements rest after out) out, few_statements rest after out)

  pub few_ways : (c : Ways) (after out : Option Form) → base_at (form_ways c after out) ≤ ways_moves c + max (base_at after) (base_at out)
  few_ways (otherwise b) after out = few_statements b after out
  few_ways (way guards b rest) after out =
      omega (arith, either_base (form_statements b after out) (form_ways rest after out), few_statements b after out, few_ways rest after out)

  pub few_before : (s : Statement) (after out : Option Form) → (form_before s after out).base ≤ statement_moves s + max (base_at after) (base_at out)
  few_before (send c ways) after out = omega (arith, sends_base (form_ways ways after out), few_ways ways after out)
  few_before (phase p a b) after out =
      omega (arith, either_base (form_statements a after out) (form_statements b after out), few_statements a after out, few_statements b after out)
  few_before (setting l) after out = omega arith
  few_before (choice c a b) after out =
      omega (arith, either_base (form_statements a after out) (form_statements b after out), few_statements a after out, few_statements b after out)
  few_before (set f) after out = omega arith
  few_before (clear f) after out = omega arith
  few_before (bus_lines width) after out = omega arith
  few_before (turns n a b) after out =
      let u = spans_statements a in
      let l = last_base u (leads_to (form_statements b after out)) (leads_to after) in
      let m = longest_statements a in
      let on : or_zero u.on ≤ 1 + statements_moves a = omega (arith, m) in
      let all : n * or_zero u.on ≤ n * (1 + statements_moves a) = mul-le-mul_left n on in
      let same : or_zero u.on * n ≡ n * or_zero u.on = omega arith in
      omega (arith, l, m, all, same, few_statements b after out)
  few_before break after out = omega arith
  few_before done after out = omega arith
  few_before (fault name) after out = omega arith

-- a body has room behind which a loop with a turn has
pub few_head : (n : ℕ) (a b : Statements) (after out : Option Form) → 1 ≤ n
    → statements_moves a + max (form_of_loop a b after out).base (base_at after) ≤ statement_moves (turns n a b) + max (base_at after) (base_at out)
few_head n a b after out one =
    let l = last_base (spans_statements a) (leads_to (form_statements b after out)) (leads_to after) in
    let m = longest_statements a in
    let body : 1 * (1 + statements_moves a) ≤ n * (1 + statements_moves a) = mul-le-mul_right (1 + statements_moves a) one in
    omega (arith, l, m, body, few_statements b after out)
