-- Numbers hold after a variable was set, of which is known what holds of its value.
use Rattle.std.proofs.Common.{◌≡◌, ◌≢◌, ℕ, ◌<◌, ◌≤◌, inl, inr, sym, ap, ◌∙◌, subst, List, length, get_or}
use Rattle.std.specs.Prelude.{slice_set, slice_index}
use Rattle.std.proofs.lemmas.Bool.{cases_eq, cases_lt}
use Rattle.std.proofs.lemmas.List.{set_past, get_or-set_same, get_or-set_other, length-set, set-get_or}
use Rattle.sdv_card.specs.Card.{Card}
use Rattle.sdv_card.specs.Host.{Host}
use Rattle.sdv_facts.specs.declared.numbers.VarFacts.{VarFacts}
use Rattle.sdv_facts.specs.declared.numbers.Numbers.{Numbers}
use Rattle.sdv_facts.specs.Facts.{weakest, with_var}
use Rattle.sdv_graph.specs.ValueOfLet.{number, with_number}
use Rattle.sdv_facts.specs.FactsHold.{VarHolds, NumbersHold}

set_same : (vars : List VarFacts) (xs : List ℕ) (c : Card) (x n : ℕ) (v : VarFacts) → length vars ≡ length xs → VarHolds c v n →
    VarHolds c (get_or vars x weakest) (slice_index xs x) → VarHolds c (get_or (slice_set vars x v) x weakest) (slice_index (slice_set xs x n) x)
set_same vars xs c x n v len new old =
    elim (cases_lt x (length vars)) [
      | inl lt ↦
          let a : get_or (slice_set vars x v) x weakest ≡ v = get_or-set_same vars x v weakest lt in
          let b : slice_index (slice_set xs x n) x ≡ n = get_or-set_same xs x n 0 (subst (λ m. x < m) len lt) in
          subst (λ w. VarHolds c w (slice_index (slice_set xs x n) x)) (sym a) (subst (λ m. VarHolds c v m) (sym b) new)
      | inr le ↦
          let a : slice_set vars x v ≡ vars = set_past vars x v le in
          let b : slice_set xs x n ≡ xs = set_past xs x n (subst (λ m. m ≤ x) len le) in
          subst (λ w. VarHolds c (get_or w x weakest) (slice_index (slice_set xs x n) x)) (sym a)
          (subst (λ w. VarHolds c (get_or vars x weakest) (slice_index w x)) (sym b) old)
    ]

set_other : (vars : List VarFacts) (xs : List ℕ) (c : Card) (x y n : ℕ) (v : VarFacts) → y ≢ x →
    VarHolds c (get_or vars y weakest) (slice_index xs y) → VarHolds c (get_or (slice_set vars x v) y weakest) (slice_index (slice_set xs x n) y)
set_other vars xs c x y n v ne old =
    let a : get_or (slice_set vars x v) y weakest ≡ get_or vars y weakest = get_or-set_other vars x y v weakest ne in
    let b : slice_index (slice_set xs x n) y ≡ slice_index xs y = get_or-set_other xs x y n 0 ne in
    subst (λ w. VarHolds c w (slice_index (slice_set xs x n) y)) (sym a) (subst (λ m. VarHolds c (get_or vars y weakest) m) (sym b) old)

set_each : (ns : Numbers) (c : Card) (h : Host) (x n : ℕ) (v : VarFacts) (y : ℕ) → NumbersHold ns c h → VarHolds c v n →
    VarHolds c (get_or (slice_set ns.vars.items x v) y weakest) (slice_index (slice_set h.numbers x n) y)
set_each ns c h x n v y holds new =
    elim (cases_eq y x) [
      | inl e ↦ subst (λ z. VarHolds c (get_or (slice_set ns.vars.items x v) z weakest) (slice_index (slice_set h.numbers x n) z)) (sym e)
          (set_same ns.vars.items h.numbers c x n v (sym holds.many) new (holds.each x))
      | inr ne ↦ set_other ns.vars.items h.numbers c x y n v ne (holds.each y)
    ]

-- a new value, with what is known of it and least capacities
pub set_holds : (ns : Numbers) (c : Card) (h : Host) (x n m mb : ℕ) (v : VarFacts) → NumbersHold ns c h → m ≤ c.capacity → mb ≤ c.boot_capacity → VarHolds c v n →
    NumbersHold (record (with_var ns x v) { m = m; mb = mb }) c (with_number h x n)
set_holds ns c h x n m mb v holds least least_boot new = record {
  least = least;
  least_boot = least_boot;
  many = length-set h.numbers x n ∙ (holds.many ∙ sym (length-set ns.vars.items x v));
  each = λ y. set_each ns c h x n v y holds new;
}

-- a variable that keeps its value, with what else is known of it
pub refine_holds : (ns : Numbers) (c : Card) (h : Host) (x m mb : ℕ) (v : VarFacts) → NumbersHold ns c h → m ≤ c.capacity → mb ≤ c.boot_capacity
    → VarHolds c v (number h x) →
    NumbersHold (record (with_var ns x v) { m = m; mb = mb }) c h
refine_holds ns c h x m mb v holds least least_boot new =
    subst (λ g. NumbersHold (record (with_var ns x v) { m = m; mb = mb }) c g) (ap (λ l. record h { numbers = l }) (set-get_or h.numbers x 0))
    (set_holds ns c h x (number h x) m mb v holds least least_boot new)
