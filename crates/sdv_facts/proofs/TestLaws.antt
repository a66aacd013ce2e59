-- What is known along an edge holds where the comparison does, and what is known at a target where what is carried does.
use Rattle.std.proofs.Common.{◌≡◌, ℕ, ◌<◌, ◌≤◌, length, Bool, true, false, nat_le, nat_lt, max, inl, inr, refl, sym, ◌∙◌, subst, arith, Option, Some, None, if◌then◌else◌}
use Rattle.std.proofs.lemmas.Bool.{leb-false, ltb-false, cases_lt}
use Rattle.std.proofs.lemmas.List.{get_or_past}
use Rattle.sdv_card.specs.Card.{Card}
use Rattle.sdv_card.specs.Host.{Host}
use Rattle.sdv_facts.specs.declared.numbers.VarFacts.{VarFacts}
use Rattle.sdv_facts.specs.declared.numbers.Numbers.{Numbers}
use Rattle.sdv_facts.specs.declared.test.Test.{Test}
use Rattle.sdv_facts.specs.declared.test.Test.TheVariants.{AtLeast, Below}
use Rattle.sdv_facts.specs.Facts.{Facts, weakest, var, with_var}
use Rattle.sdv_facts.specs.FactsHold.{GapHolds, VarHolds, NumbersHold, FactsHold, Carries}
use Rattle.sdv_graph.specs.ValueOfLet.{number}
use Rattle.sdv_facts.specs.AfterTest.{least_by, raised, lowered, raised_by, after_test}
use Rattle.sdv_facts.specs.Covers.{VarCovers, Covers}
use Rattle.sdv_facts.specs.Keeps.{KeptByTest, HoldsAtTarget}
use Rattle.sdv_facts.proofs.GapLaws.{weaker_gap}
use Rattle.sdv_facts.proofs.VariableLaws.{refine_holds}

least_holds : (g : Option ℕ) (lo m x capacity : ℕ) → lo ≤ x → m ≤ capacity → GapHolds g x capacity → least_by g lo m ≤ capacity
least_holds None lo m x capacity low least r = least
least_holds (Some g) lo m x capacity low least r = omega arith

at_least_keeps : (b : Bool) (known : Facts) (c : Card) (h : Host) (x k : ℕ) → nat_le k (var known.numbers x).hi ≡ b → FactsHold known c h → k ≤ number h x →
    Carries known (if b then Some (raised_by known.numbers x k) else None) c h
at_least_keeps false known c h x k t holds le =
    let lt : (var known.numbers x).hi < k = leb-false k (var known.numbers x).hi t in
    let high = (holds.numbers.each x).high in
    absurd (omega arith)
at_least_keeps true known c h x k t holds le =
    let old = holds.numbers.each x in
    let v = var known.numbers x in
    let low : max v.lo k ≤ number h x = (let l = old.low in omega arith) in
    record {
      shape = holds.shape;
      numbers = refine_holds known.numbers c h x (least_by v.gap (max v.lo k) known.numbers.m) (least_by v.bgap (max v.lo k) known.numbers.mb)
          (raised v k) holds.numbers
          (least_holds v.gap (max v.lo k) known.numbers.m (number h x) c.capacity low holds.numbers.least old.gap)
          (least_holds v.bgap (max v.lo k) known.numbers.mb (number h x) c.boot_capacity low holds.numbers.least_boot old.bgap)
          (record { low = low; high = old.high; gap = old.gap; bgap = old.bgap });
    }

below_keeps : (b : Bool) (known : Facts) (c : Card) (h : Host) (x k : ℕ) → nat_lt (var known.numbers x).lo k ≡ b → FactsHold known c h → number h x < k →
    Carries known (if b then Some (with_var known.numbers x (lowered (var known.numbers x) k)) else None) c h
below_keeps false known c h x k t holds lt =
    let le : k ≤ (var known.numbers x).lo = ltb-false (var known.numbers x).lo k t in
    let low = (holds.numbers.each x).low in
    absurd (omega arith)
below_keeps true known c h x k t holds lt =
    let old = holds.numbers.each x in
    record {
      shape = holds.shape;
      numbers = refine_holds known.numbers c h x known.numbers.m known.numbers.mb (lowered (var known.numbers x) k) holds.numbers holds.numbers.least
          holds.numbers.least_boot (record { low = old.low; high = (let l = old.high in omega arith); gap = old.gap; bgap = old.bgap });
    }

pub test_keeps : (known : Facts) (test : Test) → KeptByTest known test (after_test known.numbers test)
test_keeps known (AtLeast x k) c h holds held = at_least_keeps (nat_le k (var known.numbers x).hi) known c h x k refl holds held
test_keeps known (Below x k) c h holds held = below_keeps (nat_lt (var known.numbers x).lo k) known c h x k refl holds held

-- TARGETS

weaker_var : (c : Card) (t s : VarFacts) (x : ℕ) → VarCovers t s → VarHolds c s x → VarHolds c t x
weaker_var c t s x v h = record {
  low = let a = v.low in let b = h.low in omega arith;
  high = let a = v.high in let b = h.high in omega arith;
  gap = weaker_gap t.gap s.gap x c.capacity v.gap h.gap;
  bgap = weaker_gap t.bgap s.bgap x c.boot_capacity v.bgap h.bgap;
}

weaker_at : (target carried : Numbers) (c : Card) (h : Host) (x : ℕ) → Covers target carried → length target.vars.items ≡ length carried.vars.items
    → NumbersHold carried c h →
    VarHolds c (var target x) (number h x)
weaker_at target carried c h x cov same holds =
    elim (cases_lt x (length target.vars.items)) [
      | inl lt ↦ weaker_var c (var target x) (var carried x) (number h x) (cov.each x lt) (holds.each x)
      | inr le ↦
          let a : var carried x ≡ weakest = get_or_past carried.vars.items x weakest (subst (λ n. n ≤ x) same le) in
          let b : var target x ≡ weakest = get_or_past target.vars.items x weakest le in
          subst (λ v. VarHolds c v (number h x)) (a ∙ sym b) (holds.each x)
    ]

pub target_holds : (target carried : Numbers) → length target.vars.items ≡ length carried.vars.items → Covers target carried → HoldsAtTarget target carried
target_holds target carried same cov c h holds = record {
  least = let a = cov.least in let b = holds.least in omega arith;
  least_boot = let a = cov.least_boot in let b = holds.least_boot in omega arith;
  many = holds.many ∙ sym same;
  each = λ x. weaker_at target carried c h x cov same holds;
}
