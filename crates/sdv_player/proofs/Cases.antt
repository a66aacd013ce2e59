-- Guards and cases in a table, one more.
use Rattle.std.proofs.Common.{◌≡◌, ◌/◌, ◌%◌, ℕ, zero, suc, List, drop, true, refl, sym, subst}
use Rattle.std.specs.Prelude.{◌==◌, ◌&&◌, slice_index, if◌then◌else◌, false}
use Rattle.sdv_registers.specs.declared.kind.Kind.{Kind}
use Rattle.sdv_card.specs.Guards.{passes}
use Rattle.sdv_card.specs.ScriptEvent.{Return}
use Rattle.sdv_graph.specs.declared.graph.Target.{Target}
use Rattle.sdv_graph.specs.Walk.{all_pass}
use Rattle.sdv_graph.specs.Path.{way_of}
use Rattle.sdv_table.specs.Reading.{target_of, guard_of, guards_of, cases_of}

module _ (k : Kind) (returned : Return) where
  pub no_guard : (n w : ℕ) → w ≡ 0 → all_pass k (guards_of n w) returned ≡ true
  no_guard zero w none = refl
  no_guard (suc n) w none = rw none refl

  guard_first : (n w : ℕ) → (w == 0) ≡ false →
      all_pass k (guards_of (suc n) w) returned ≡ passes k (guard_of (w % 32)) returned && all_pass k (guards_of n (w / 32)) returned
  guard_first n w some = rw some refl

  pub one_guard : (m n w : ℕ) → m ≡ suc n → (w == 0) ≡ false →
      all_pass k (guards_of m w) returned ≡ passes k (guard_of (w % 32)) returned && all_pass k (guards_of n (w / 32)) returned
  one_guard m n w e some =
      subst (λ m. all_pass k (guards_of m w) returned ≡ passes k (guard_of (w % 32)) returned && all_pass k (guards_of n (w / 32)) returned) (sym e)
      (guard_first n w some)

  pub one_case : (m n : ℕ) (ws : List ℕ) (other : Target) → m ≡ suc n →
      way_of k (cases_of m ws) other returned
      ≡ (if all_pass k (guards_of 6 (slice_index ws 0)) returned then target_of (slice_index ws 1) else way_of k (cases_of n (drop 2 ws)) other returned)
  one_case m n ws other e =
      subst (λ m. way_of k (cases_of m ws) other returned
      ≡ (if all_pass k (guards_of 6 (slice_index ws 0)) returned then target_of (slice_index ws 1) else way_of k (cases_of n (drop 2 ws)) other returned)) (sym e)
      refl
