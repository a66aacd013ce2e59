-- What is known after a `let` holds of the value that it gives.
use Rattle.std.proofs.Common.{◌≡◌, ℕ, ◌+◌, ◌-◌, ◌^◌, ◌<◌, ◌≤◌, List, Bool, true, false, not, nat_le, min, refl, sym, ap, ◌∙◌, subst, arith, Option, Some, None, option_map, option_and_then, if◌then◌else◌}
use Rattle.std.proofs.lemmas.Bool.{leb-true, leb-false}
use Rattle.sdv_frames.specs.Bits.{bits_of}
use Rattle.sdv_registers.specs.declared.kind.Kind.{Kind}
use Rattle.sdv_registers.specs.declared.kind.Kind.TheVariants.{Sd, Emmc}
use Rattle.sdv_registers.specs.Csd.{blocks}
use Rattle.sdv_registers.specs.ExtCsd.{sec_count, boot_size_mult, boot_blocks}
use Rattle.sdv_card.specs.declared.shape.Shape.{Shape}
use Rattle.sdv_card.specs.Lists.{May}
use Rattle.sdv_card.specs.Card.{Card}
use Rattle.sdv_card.specs.Host.{Host}
use Rattle.sdv_card.specs.Profile.{told_blocks, told_boot_blocks}
use Rattle.sdv_card.specs.Shapes.{pair_code}
use Rattle.sdv_graph.specs.declared.tree.Let.{Let}
use Rattle.sdv_graph.specs.declared.tree.Atom.{Atom}
use Rattle.sdv_graph.specs.declared.tree.Atom.TheVariants.{Number, Variable, CsdBlocks, ExtBlocks, ExtBoot}
use Rattle.sdv_graph.specs.declared.tree.Change.{Change}
use Rattle.sdv_graph.specs.declared.tree.Change.TheVariants.{Same, Plus, Minus}
use Rattle.sdv_graph.specs.Counts.{max_number}
use Rattle.sdv_facts.specs.declared.numbers.VarFacts.{VarFacts}
use Rattle.sdv_facts.specs.Facts.{Facts, var, with_var}
use Rattle.sdv_facts.specs.FactsHold.{VarHolds, FactsHold, Carries}
use Rattle.sdv_graph.specs.ValueOfLet.{number, with_number, value_of_atom, in_range, changed}
use Rattle.sdv_facts.specs.Gaps.{gap_less, gap_more}
use Rattle.sdv_facts.specs.AfterLet.{all_block_unit, all_byte_unit, csd_tells, ext_csd_tells, register_facts, boot_facts, atom_facts, changed_facts, after_let}
use Rattle.sdv_card.specs.ShapeBits.{has_block_addresses}
use Rattle.sdv_card.proofs.KeepSound.{same_sectors}
use Rattle.sdv_facts.specs.Keeps.{MayStandIn, IsHonest, KeptByLet}
use Rattle.sdv_facts.proofs.GapLaws.{less_holds, more_holds}
use Rattle.sdv_facts.proofs.RegisterLaws.{csd_small, sec_count_small, boot_small, told_by_csd, told_by_ext_csd}
use Rattle.sdv_facts.proofs.UnitLaws.{all-member, negated, unit_shown}
use Rattle.sdv_facts.proofs.VariableLaws.{set_holds}

-- REGISTERS

register_holds : (c : Card) (tells : Bool) (m n : ℕ) → m ≤ c.capacity → n ≤ 2 ^ 32 → (tells ≡ true → n ≡ c.capacity) → VarHolds c (register_facts tells m) n
register_holds c true m n least small e = let same : n ≡ c.capacity = e refl in record { low = omega arith; high = small; gap = omega arith; bgap = tt }
register_holds c false m n least small e = record { low = omega arith; high = small; gap = tt; bgap = tt }

module _ (k : Kind) (c : Card) (h : Host) (honest : IsHonest k c h) (shapes : List Shape) (shape : May shapes (record { 0 = pair_code c h })) where
  told : told_blocks k c.block_unit c.csd c.ext_csd ≡ c.capacity
  told = subst (λ kind. told_blocks kind c.block_unit c.csd c.ext_csd ≡ c.capacity) (sym honest.pair.kind) honest.profile.told

  byte_unit : all_byte_unit shapes ≡ true → c.block_unit ≡ false
  byte_unit e = sym (unit_shown k c h honest.pair) ∙ negated _ (all-member (λ s. not (has_block_addresses s)) shapes _ e shape)

  block_unit : all_block_unit shapes ≡ true → c.block_unit ≡ true
  block_unit e = sym (unit_shown k c h honest.pair) ∙ all-member has_block_addresses shapes _ e shape

  csd_unit : csd_tells k shapes ≡ true → k ≡ Emmc → c.block_unit ≡ false
  csd_unit tells e = byte_unit (subst (λ kind. csd_tells kind shapes ≡ true) e tells)

  csd_is_capacity : csd_tells k shapes ≡ true → blocks k (bits_of c.csd) ≡ c.capacity
  csd_is_capacity tells = sym (told_by_csd k c.block_unit c.csd c.ext_csd (csd_unit tells)) ∙ told

  ext_csd_is_capacity : k ≡ Emmc → ext_csd_tells shapes ≡ true → sec_count c.ext_csd ≡ c.capacity
  ext_csd_is_capacity e tells = sym (told_by_ext_csd k c.block_unit c.csd c.ext_csd e (block_unit tells)) ∙ told

  csd_holds : (o : Option (List ℕ)) (m n : ℕ) → h.csd ≡ o → m ≤ c.capacity → option_map (λ bytes. blocks k (bits_of bytes)) o ≡ Some n →
      VarHolds c (register_facts (csd_tells k shapes) m) n
  csd_holds None m n is least e = absurd (cc)
  csd_holds (Some bytes) m n is least e =
      let value : blocks k (bits_of bytes) ≡ n = cc in
      let of_card : blocks k (bits_of c.csd) ≡ n = ap (λ b. blocks k (bits_of b)) (sym (honest.sound.csd bytes is)) ∙ value in
      register_holds c (csd_tells k shapes) m n least (subst (λ v. v ≤ 2 ^ 32) value (csd_small k bytes))
      (λ tells. sym of_card ∙ csd_is_capacity tells)

  ext_csd_holds : (o : Option (List ℕ)) (m n : ℕ) → k ≡ Emmc → h.ext_csd ≡ o → m ≤ c.capacity → option_map sec_count o ≡ Some n →
      VarHolds c (register_facts (ext_csd_tells shapes) m) n
  ext_csd_holds None m n kind is least e = absurd (cc)
  ext_csd_holds (Some bytes) m n kind is least e =
      let value : sec_count bytes ≡ n = cc in
      let of_card : sec_count c.ext_csd ≡ n = sym (same_sectors bytes c.ext_csd (honest.sound.ext_csd bytes (sym honest.pair.kind ∙ kind) is)) ∙ value in
      register_holds c (ext_csd_tells shapes) m n least (subst (λ v. v ≤ 2 ^ 32) value (sec_count_small bytes))
      (λ tells. sym of_card ∙ ext_csd_is_capacity kind tells)

  boot_holds : (o : Option (List ℕ)) (mb n : ℕ) → k ≡ Emmc → h.ext_csd ≡ o → mb ≤ c.boot_capacity → option_map boot_blocks o ≡ Some n →
      VarHolds c (boot_facts mb) n
  boot_holds None mb n kind is least e = absurd (cc)
  boot_holds (Some bytes) mb n kind is least e =
      let value : boot_blocks bytes ≡ n = cc in
      let same : boot_size_mult bytes ≡ boot_size_mult c.ext_csd = (honest.sound.ext_csd bytes (sym honest.pair.kind ∙ kind) is).boot in
      let told : boot_blocks c.ext_csd ≡ c.boot_capacity
      = subst (λ kind. told_boot_blocks kind c.ext_csd ≡ c.boot_capacity) (sym honest.pair.kind ∙ kind) honest.profile.told_boot in
      let small = boot_small bytes in
      record { low = omega arith; high = omega arith; gap = tt; bgap = omega arith }

blocks_alone : (k : Kind) → MayStandIn k ExtBlocks → k ≡ Emmc
blocks_alone Sd m = absurd m
blocks_alone Emmc m = refl

boot_alone : (k : Kind) → MayStandIn k ExtBoot → k ≡ Emmc
boot_alone Sd m = absurd m
boot_alone Emmc m = refl

atom_holds : (k : Kind) (c : Card) (h : Host) (known : Facts) (a : Atom) (n : ℕ) → MayStandIn k a → IsHonest k c h → FactsHold known c h
    → value_of_atom k h a ≡ Some n →
    VarHolds c (atom_facts k known a) n
atom_holds k c h known (Number m) n may honest holds e =
    let same : m ≡ n = cc in
    record {
      low = omega arith;
      high = omega arith;
      gap = less_holds (Some known.numbers.m) m 0 n c.capacity (omega arith)
          (let l = holds.numbers.least in omega arith);
      bgap = less_holds (Some known.numbers.mb) m 0 n c.boot_capacity (omega arith)
          (let l = holds.numbers.least_boot in omega arith);
    }
atom_holds k c h known (Variable y) n may honest holds e =
    let same : number h y ≡ n = cc in
    subst (λ v. VarHolds c (var known.numbers y) v) same (holds.numbers.each y)
atom_holds k c h known CsdBlocks n may honest holds e = csd_holds k c h honest known.shapes holds.shape h.csd known.numbers.m n refl holds.numbers.least e
atom_holds k c h known ExtBlocks n may honest holds e = ext_csd_holds k c h honest known.shapes holds.shape h.ext_csd known.numbers.m n
    (blocks_alone k may) refl holds.numbers.least e
atom_holds k c h known ExtBoot n may honest holds e = boot_holds k c h honest known.shapes holds.shape h.ext_csd known.numbers.mb n
    (boot_alone k may) refl holds.numbers.least_boot e

-- CHANGES

-- what is known holds, and is known at all
abbrev Knows : Card → Option VarFacts → ℕ → Type 0
Knows c None n = ⊥
Knows c (Some v) n = VarHolds c v n

in_range_at : (b : Bool) (m n : ℕ) → nat_le m max_number ≡ b → (if b then Some m else None) ≡ Some n → (m ≡ n) × (n ≤ max_number)
in_range_at false m n t e = absurd (cc)
in_range_at true m n t e = let same : m ≡ n = cc in (same, subst (λ v. v ≤ max_number) same (leb-true m max_number t))

in_range_is : (m n : ℕ) → in_range m ≡ Some n → (m ≡ n) × (n ≤ max_number)
in_range_is m n e = in_range_at (nat_le m max_number) m n refl e

plus_knows : (b : Bool) (c : Card) (v : VarFacts) (y k n : ℕ) → nat_le (v.lo + k) max_number ≡ b → VarHolds c v y → y + k ≡ n → n ≤ max_number →
    Knows c (if b then Some (record { lo = v.lo + k; hi = min (v.hi + k) max_number; gap = gap_less v.gap k; bgap = gap_less v.bgap k }) else None) n
plus_knows false c v y k n t h e le = let lt : max_number < v.lo + k = leb-false (v.lo + k) max_number t in let l = h.low in absurd (omega arith)
plus_knows true c v y k n t h e le = record {
  low = let l = h.low in omega arith;
  high = let l = h.high in omega arith;
  gap = less_holds v.gap k y n c.capacity e h.gap;
  bgap = less_holds v.bgap k y n c.boot_capacity e h.bgap;
}

taken_at : (b : Bool) (y k n : ℕ) → nat_le k y ≡ b → (if b then in_range (y - k) else None) ≡ Some n → (k ≤ y) × (y - k ≡ n)
taken_at false y k n t e = absurd (cc)
taken_at true y k n t e = (leb-true k y t, (in_range_is (y - k) n e).0)

minus_knows : (b : Bool) (c : Card) (v : VarFacts) (y k n : ℕ) → nat_le k v.hi ≡ b → VarHolds c v y → k ≤ y → y - k ≡ n →
    Knows c (if b then Some (record { lo = v.lo - k; hi = v.hi - k; gap = gap_more v.gap k; bgap = gap_more v.bgap k }) else None) n
minus_knows false c v y k n t h le e = let lt : v.hi < k = leb-false k v.hi t in let l = h.high in absurd (omega arith)
minus_knows true c v y k n t h le e = record {
  low = let l = h.low in omega arith;
  high = let l = h.high in omega arith;
  gap = more_holds v.gap k y n c.capacity (omega arith) h.gap;
  bgap = more_holds v.bgap k y n c.boot_capacity (omega arith) h.bgap;
}

change_knows : (change : Change) (c : Card) (v : VarFacts) (y n : ℕ) → VarHolds c v y → changed change y ≡ Some n → Knows c (changed_facts change v) n
change_knows Same c v y n h e = subst (λ m. VarHolds c v m) (in_range_is y n e).0 h
change_knows (Plus k) c v y n h e = let r = in_range_is (y + k) n e in plus_knows (nat_le (v.lo + k) max_number) c v y k n refl h r.0 r.1
change_knows (Minus k) c v y n h e = let r = taken_at (nat_le k y) y k n refl e in minus_knows (nat_le k v.hi) c v y k n refl h r.0 r.1

value_knows : (k : Kind) (c : Card) (h : Host) (known : Facts) (l : Let) (o : Option ℕ) (n : ℕ) → MayStandIn k l.atom → IsHonest k c h → FactsHold known c h →
    value_of_atom k h l.atom ≡ o → option_and_then (changed l.change) o ≡ Some n → Knows c (changed_facts l.change (atom_facts k known l.atom)) n
value_knows k c h known l None n may honest holds is e = absurd (cc)
value_knows k c h known l (Some y) n may honest holds is e =
    change_knows l.change c (atom_facts k known l.atom) y n (atom_holds k c h known l.atom y may honest holds is) e

-- LET

let_carries : (o : Option VarFacts) (known : Facts) (c : Card) (h : Host) (x n : ℕ) → FactsHold known c h → Knows c o n →
    Carries known (option_map (λ v. with_var known.numbers x v) o) c (with_number h x n)
let_carries None known c h x n holds knows = absurd knows
let_carries (Some v) known c h x n holds knows = record {
  shape = holds.shape;
  numbers = set_holds known.numbers c h x n known.numbers.m known.numbers.mb v holds.numbers holds.numbers.least holds.numbers.least_boot knows;
}

pub let_keeps : (k : Kind) (known : Facts) (l : Let) → KeptByLet k known l (after_let k known l)
let_keeps k known l c h n may honest holds e =
    let_carries (changed_facts l.change (atom_facts k known l.atom)) known c h l.target n holds
    (value_knows k c h known l (value_of_atom k h l.atom) n may honest holds refl e)
