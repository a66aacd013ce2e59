-- What is carried stays in the limits, and says that a card has a block.
use Rattle.std.proofs.Common.{◌≡◌, ℕ, zero, suc, ◌+◌, ◌-◌, ◌^◌, ◌≤◌, List, [], ◌∷◌, Bool, true, false, Option, Some, None, length, get_or, cond, refl, ap, ◌∙◌, arith, nat_le, nat_lt, min, max, All, IfSome, replicate}
use Rattle.std.proofs.Common.{length-set}
use Rattle.std.proofs.lemmas.List.Elements.{All-set}
use Rattle.sdv_registers.specs.declared.kind.Kind.{Kind}
use Rattle.sdv_graph.specs.declared.tree.Let.{Let}
use Rattle.sdv_graph.specs.declared.tree.Atom.{Atom}
use Rattle.sdv_graph.specs.declared.tree.Atom.TheVariants.{Number, Variable, CsdBlocks, ExtBlocks, ExtBoot}
use Rattle.sdv_graph.specs.declared.tree.Change.{Change}
use Rattle.sdv_graph.specs.declared.tree.Change.TheVariants.{Same, Plus, Minus}
use Rattle.sdv_facts.specs.declared.test.Test.{Test}
use Rattle.sdv_facts.specs.declared.test.Test.TheVariants.{AtLeast, Below}
use Rattle.sdv_facts.specs.declared.numbers.VarFacts.{VarFacts}
use Rattle.sdv_facts.specs.declared.numbers.Numbers.{Numbers}
use Rattle.sdv_facts.specs.Facts.{Facts, var, weakest, with_var}
use Rattle.sdv_facts.specs.Limits.{IsInLimits, AtomInLimits, VarInLimits, NumbersInLimits}
use Rattle.sdv_facts.specs.Gaps.{gap_less, gap_more}
use Rattle.sdv_facts.specs.Joins.{NumbersSound}
use Rattle.sdv_facts.specs.AfterLet.{csd_tells, ext_csd_tells, register_facts, atom_facts, changed_facts, after_let}
use Rattle.sdv_facts.specs.AfterTest.{least_by, raised, lowered, raised_by, after_test}
use Rattle.sdv_facts.specs.Start.{start_var, start_numbers}

-- the first one, and the others
pub first_of : (P : VarFacts → Type 0) (v : VarFacts) (vs : List VarFacts) → All P (v ∷ vs) → P v
first_of P v vs s = s 0 v (omega arith)

pub others_of : (P : VarFacts → Type 0) (v : VarFacts) (vs : List VarFacts) → All P (v ∷ vs) → All P vs
others_of P v vs s k d h = s (suc k) d (omega arith)

pub all_of : (P : VarFacts → Type 0) (v : VarFacts) (vs : List VarFacts) → P v → All P vs → All P (v ∷ vs)
all_of P v vs p s zero d h = p
all_of P v vs p s (suc k) d h = s k d (omega arith)

weakest_small : VarInLimits weakest
weakest_small = record { lo = omega arith; hi = omega arith; gap = tt; bgap = tt }

at_small : (vs : List VarFacts) (x : ℕ) → All VarInLimits vs → VarInLimits (get_or vs x weakest)
at_small [] x s = weakest_small
at_small (v ∷ vs) zero s = first_of VarInLimits v vs s
at_small (v ∷ vs) (suc x) s = at_small vs x (others_of VarInLimits v vs s)

with_sound : (n : ℕ) (ns : Numbers) (x m mb : ℕ) (v : VarFacts) → NumbersSound n ns → VarInLimits v → 1 ≤ m → m ≤ 2 ^ 40 → mb ≤ 2 ^ 40
    → NumbersSound n (record (with_var ns x v) { m = m; mb = mb })
with_sound n ns x m mb v s t h l lb = record {
  limits = record { m = l; mb = lb; vars = All-set VarInLimits ns.vars.items x v t s.limits.vars };
  some = h;
  many = length-set ns.vars.items x v ∙ s.many;
}

less_cases : (b : Bool) (g k : ℕ) → g ≤ 2 ^ 40 → IfSome (cond b (Some (g - k)) None) IsInLimits
less_cases true g k h = omega arith
less_cases false g k h = tt

less_small : (g : Option ℕ) (k : ℕ) → IfSome g IsInLimits → IfSome (gap_less g k) IsInLimits
less_small None k h = tt
less_small (Some g) k h = less_cases (nat_le k g) g k h

more_small : (g : Option ℕ) (k : ℕ) → IfSome (gap_more g k) IsInLimits
more_small None k = tt
more_small (Some g) k = omega arith

register_small : (b : Bool) (m : ℕ) → m ≤ 2 ^ 40 → VarInLimits (register_facts b m)
register_small true m h = record { lo = h; hi = omega arith; gap = omega arith; bgap = tt }
register_small false m h = record { lo = omega arith; hi = omega arith; gap = tt; bgap = tt }

atom_small : (k : Kind) (known : Facts) (a : Atom) → AtomInLimits a → NumbersInLimits known.numbers → VarInLimits (atom_facts k known a)
atom_small k known (Number n) h s =
    record { lo = h; hi = h; gap = less_small (Some known.numbers.m) n s.m; bgap = less_small (Some known.numbers.mb) n s.mb }
atom_small k known (Variable y) h s = at_small known.numbers.vars.items y s.vars
atom_small k known CsdBlocks h s = register_small (csd_tells k known.shapes) known.numbers.m s.m
atom_small k known ExtBlocks h s = register_small (ext_csd_tells known.shapes) known.numbers.m s.m
atom_small k known ExtBoot h s = record { lo = s.mb; hi = omega arith; gap = tt; bgap = omega arith }

plus_small : (b : Bool) (v : VarFacts) (k : ℕ) → (b ≡ true → v.lo + k ≤ 2 ^ 40) → VarInLimits v
    → IfSome (cond b (Some (record { lo = v.lo + k; hi = min (v.hi + k) (2 ^ 40); gap = gap_less v.gap k; bgap = gap_less v.bgap k })) None) VarInLimits
plus_small true v k h s = record { lo = h refl; hi = omega arith; gap = less_small v.gap k s.gap; bgap = less_small v.bgap k s.bgap }
plus_small false v k h s = tt

minus_small : (b : Bool) (v : VarFacts) (k : ℕ) → VarInLimits v
    → IfSome (cond b (Some (record { lo = v.lo - k; hi = v.hi - k; gap = gap_more v.gap k; bgap = gap_more v.bgap k })) None) VarInLimits
minus_small true v k s = record {
  lo = (let l = s.lo in omega arith);
  hi = (let l = s.hi in omega arith);
  gap = more_small v.gap k;
  bgap = more_small v.bgap k;
}
minus_small false v k s = tt

le_true : (x y : ℕ) → nat_le x y ≡ true → x ≤ y
le_true x y e = grind arith

changed_small : (c : Change) (v : VarFacts) → VarInLimits v → IfSome (changed_facts c v) VarInLimits
changed_small Same v s = s
changed_small (Plus k) v s = plus_small (nat_le (v.lo + k) (2 ^ 40)) v k (le_true _ _) s
changed_small (Minus k) v s = minus_small (nat_le k v.hi) v k s

set_sound : (n : ℕ) (ns : Numbers) (x : ℕ) (o : Option VarFacts) → NumbersSound n ns → IfSome o VarInLimits
    → IfSome (Rattle.std.specs.Option.option_map (λ v. with_var ns x v) o) (NumbersSound n)
set_sound n ns x None s h = tt
set_sound n ns x (Some v) s h = with_sound n ns x ns.m ns.mb v s h s.some s.limits.m s.limits.mb

pub let_sound : (k : Kind) (known : Facts) (l : Let) (n : ℕ) → AtomInLimits l.atom → NumbersSound n known.numbers
    → IfSome (after_let k known l) (NumbersSound n)
let_sound k known l n a s = set_sound n known.numbers l.target _ s (changed_small l.change _ (atom_small k known l.atom a s.limits))

least_small : (g : Option ℕ) (lo m : ℕ) → m ≤ 2 ^ 40 → least_by g lo m ≤ 2 ^ 40
least_small None lo m h = h
least_small (Some g) lo m h = omega arith

least_more : (g : Option ℕ) (lo m : ℕ) → 1 ≤ m → 1 ≤ least_by g lo m
least_more None lo m h = h
least_more (Some g) lo m h = omega arith

at_least_sound : (b : Bool) (n : ℕ) (ns : Numbers) (x k : ℕ) → (b ≡ true → k ≤ (var ns x).hi) → NumbersSound n ns
    → IfSome (cond b (Some (raised_by ns x k)) None) (NumbersSound n)
at_least_sound true n ns x k h s =
    let v = at_small ns.vars.items x s.limits.vars in
    let lo = max (var ns x).lo k in
    with_sound n ns x _ _ (raised (var ns x) k) s (record { lo = (let e = h refl in omega (arith, e, v.lo, v.hi)); hi = v.hi; gap = v.gap; bgap = v.bgap })
    (least_more (var ns x).gap lo ns.m s.some) (least_small (var ns x).gap lo ns.m s.limits.m) (least_small (var ns x).bgap lo ns.mb s.limits.mb)
at_least_sound false n ns x k h s = tt

below_sound : (b : Bool) (n : ℕ) (ns : Numbers) (x k : ℕ) → NumbersSound n ns
    → IfSome (cond b (Some (with_var ns x (lowered (var ns x) k))) None) (NumbersSound n)
below_sound true n ns x k s =
    let v = at_small ns.vars.items x s.limits.vars in
    with_sound n ns x ns.m ns.mb (lowered (var ns x) k) s (record { lo = v.lo; hi = omega (arith, v.hi); gap = v.gap; bgap = v.bgap }) s.some s.limits.m s.limits.mb
below_sound false n ns x k s = tt

pub test_sound : (ns : Numbers) (t : Test) (n : ℕ) → NumbersSound n ns → IfSome (after_test ns t) (NumbersSound n)
test_sound ns (AtLeast x k) n s = at_least_sound (nat_le k (var ns x).hi) n ns x k (le_true _ _) s
test_sound ns (Below x k) n s = below_sound (nat_lt (var ns x).lo k) n ns x k s

start_small : (n : ℕ) → All VarInLimits (replicate n start_var)
start_small zero = λ k d h. absurd (omega arith)
start_small (suc n) = all_of VarInLimits start_var (replicate n start_var) (record { lo = omega arith; hi = omega arith; gap = omega arith; bgap = omega arith }) (start_small n)

start_many : (n : ℕ) → length (replicate n start_var) ≡ n
start_many zero = refl
start_many (suc n) = ap suc (start_many n)

pub start_sound : (n : ℕ) → NumbersSound n (start_numbers n)
start_sound n = record { limits = record { m = omega arith; mb = omega arith; vars = start_small n }; some = omega arith; many = start_many n }
