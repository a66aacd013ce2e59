-- What is known before the first command holds there.
use Rattle.std.proofs.Common.{◌≡◌, ℕ, ◌≤◌, inl, inr, replicate, sym, ◌∙◌, subst, arith}
use Rattle.std.proofs.lemmas.Bool.{cases_lt}
use Rattle.std.proofs.lemmas.List.{get_or-replicate, get_or_past, length-replicate}
use Rattle.sdv_card.specs.Card.{Card}
use Rattle.sdv_card.specs.Profile.{host_at_start}
use Rattle.sdv_facts.specs.Facts.{weakest, var}
use Rattle.sdv_facts.specs.FactsHold.{VarHolds}
use Rattle.sdv_graph.specs.ValueOfLet.{number}
use Rattle.sdv_facts.specs.Start.{start_var, start_numbers, HoldAtStart}

is_zero : (n x : ℕ) → number (host_at_start n) x ≡ 0
is_zero n x =
    elim (cases_lt x n) [
      | inl lt ↦ get_or-replicate n x 0 0 lt
      | inr le ↦ get_or_past (replicate n 0) x 0 (subst (λ m. m ≤ x) (sym (length-replicate n 0)) le)
    ]

known_of_zero : (n x : ℕ) (c : Card) → 1 ≤ c.capacity → VarHolds c (var (start_numbers n) x) 0
known_of_zero n x c least =
    elim (cases_lt x n) [
      | inl lt ↦ subst (λ v. VarHolds c v 0) (sym (get_or-replicate n x start_var weakest lt))
          (record { low = omega arith; high = omega arith; gap = least; bgap = omega arith })
      | inr le ↦
          let past : var (start_numbers n) x ≡ weakest =
          get_or_past (replicate n start_var) x weakest (subst (λ m. m ≤ x) (sym (length-replicate n start_var)) le) in
          subst (λ v. VarHolds c v 0) (sym past) (record { low = omega arith; high = omega arith; gap = tt; bgap = tt })
    ]

pub start_holds : (n : ℕ) → HoldAtStart n (start_numbers n)
start_holds n c profile = record {
  least = profile.least;
  least_boot = omega arith;
  many = length-replicate n 0 ∙ sym (length-replicate n start_var);
  each = λ x. subst (λ v. VarHolds c (var (start_numbers n) x) v) (sym (is_zero n x)) (known_of_zero n x c profile.least);
}
