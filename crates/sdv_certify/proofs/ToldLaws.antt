-- What a version can say of numbers is sound where they are, and whatever says no more than it says no more than they.
use Rattle.std.proofs.Common.{◌≡◌, ℕ, zero, suc, List, [], ◌∷◌, map, get_or, Option, Some, None, IfSome, option_map, refl, ◌∙◌, subst, arith}
use Rattle.std.proofs.lemmas.List.{length-map}
use Rattle.std.proofs.lemmas.List.Elements.{All-map}
use Rattle.sdv_facts.specs.declared.certificate.Version.{Version}
use Rattle.sdv_facts.specs.declared.certificate.Version.TheVariants.{One, Two}
use Rattle.sdv_facts.specs.declared.numbers.VarFacts.{VarFacts}
use Rattle.sdv_facts.specs.declared.numbers.Numbers.{Numbers}
use Rattle.sdv_facts.specs.Covers.{GapCovers, VarCovers, Covers}
use Rattle.sdv_facts.specs.Facts.{var, weakest}
use Rattle.sdv_facts.specs.Joins.{NumbersSound}
use Rattle.sdv_facts.specs.Limits.{VarInLimits}
use Rattle.sdv_facts.specs.Versions.{var_without_boot}
use Rattle.sdv_certify.specs.VersionOf.{told}

-- IT IS SOUND

bare_small : (v : VarFacts) → VarInLimits v → VarInLimits (var_without_boot v)
bare_small v s = record { lo = s.lo; hi = s.hi; gap = s.gap; bgap = tt }

pub told_sound : (version : Version) (n : ℕ) (ns : Numbers) → NumbersSound n ns → NumbersSound n (told version ns)
told_sound One n ns s = record {
  limits = record {
    m = s.limits.m;
    mb = omega arith;
    vars = All-map VarInLimits var_without_boot ns.vars.items (λ k d lt. bare_small (get_or ns.vars.items k d) (s.limits.vars k d lt));
  };
  some = s.some;
  many = length-map ns.vars.items var_without_boot ∙ s.many;
}
told_sound Two n ns s = s

-- where there is an edge
pub told_if_sound : (version : Version) (n : ℕ) (o : Option Numbers) → IfSome o (NumbersSound n) → IfSome (option_map (told version) o) (NumbersSound n)
told_if_sound version n None s = tt
told_if_sound version n (Some ns) s = told_sound version n ns s

-- IT SAYS NO MORE

bare_at : (vs : List VarFacts) (x : ℕ) → get_or (map var_without_boot vs) x weakest ≡ var_without_boot (get_or vs x weakest)
bare_at [] x = refl
bare_at (v ∷ vs) zero = refl
bare_at (v ∷ vs) (suc x) = bare_at vs x

covers_any : (g h : Option ℕ) → GapCovers g None → GapCovers g h
covers_any None h c = tt
covers_any (Some x) h c = absurd c

var_covers : (t v : VarFacts) → VarCovers t (var_without_boot v) → VarCovers t v
var_covers t v c = record { low = c.low; high = c.high; gap = c.gap; bgap = covers_any t.bgap v.bgap c.bgap }

pub told_covers : (version : Version) (target ns : Numbers) → Covers target (told version ns) → Covers target ns
told_covers One target ns c = record {
  least = c.least;
  least_boot = omega (arith, c.least_boot);
  each = λ x h. var_covers (var target x) (var ns x)
      (subst (λ (v : VarFacts). VarCovers (var target x) v) (bare_at ns.vars.items x) (c.each x h));
}
told_covers Two target ns c = c
