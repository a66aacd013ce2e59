-- Where a refusal names no point at which a clause fails.
use Rattle.std.proofs.Common.{◌≡◌, ◌∙◌, ◌≤◌, ℕ, List, Some, None, sym, subst, length}
use Rattle.std.specs.Prelude.{IfNone, IfSome, Option, slice_get}
use Rattle.std.proofs.lemmas.Option.{slice_get_past}
use Rattle.sdv_graph.specs.Graph.{Graph}
use Rattle.sdv_graph.specs.Path.{Point}
use Rattle.sdv_facts.specs.Facts.{Facts, PointFacts}
use Rattle.sdv_certify.specs.declared.fault.CertifyFault.{CertifyFault}
use Rattle.sdv_certify.specs.declared.fault.CertifyFault.TheVariants.{Illegal, Address, EndState, TooMany, Memory}
use Rattle.sdv_explain.specs.declared.failing.Failure.{Failure}
use Rattle.sdv_explain.specs.declared.known.Known.{Known}
use Rattle.sdv_explain.specs.Explained.{IsRefusedSo, NamesPoint, Refuses, RefusesNone}
use Rattle.sdv_explain.specs.Known.{IsKnownAt, facts_here}
use Rattle.sdv_explain.specs.Refused.{IsRefusedNowhere}

-- a refusal names one point
one_point : (fault : CertifyFault) (a b : ℕ) → NamesPoint fault a → NamesPoint fault b → a ≡ b
one_point (Illegal point shape) a b left right = sym left ∙ right
one_point (Address point) a b left right = sym left ∙ right
one_point (EndState point) a b left right = sym left ∙ right
one_point TooMany a b left right = absurd left
one_point Memory a b left right = absurd left

module _ (g : Graph) (ps : List PointFacts) (fault : CertifyFault) where
  pub no_point : ((point : ℕ) → NamesPoint fault point → ⊥) → RefusesNone g ps fault
  no_point none point named place here facts known = absurd (none point named)

  module _ (number : ℕ) (named : NamesPoint fault number) where
    pub no_place : length g.points ≤ number → RefusesNone g ps fault
    no_place past point also place here facts known =
        let gone : slice_get g.points point ≡ None = slice_get_past g.points point
        (subst (λ (n : ℕ). length g.points ≤ n) (one_point fault number point named also) past) in
        absurd (cc)

    pub no_facts : slice_get ps number ≡ None → RefusesNone g ps fault
    no_facts unknown point also place here facts known =
        let gone : slice_get ps point ≡ None =
        subst (λ (n : ℕ). slice_get ps n ≡ None) (one_point fault number point named also) unknown in
        absurd (cc)

    module _ (place : Point) (there : slice_get g.points number ≡ Some place) (here : Known) (known : IsKnownAt ps number here) where
      pub refuses : (f : Failure) → IsRefusedSo fault g.kind place.action (facts_here here) number f → Refuses g ps fault f
      refuses f so = record {
        named = subst (NamesPoint fault) (sym so.there) named;
        place = place;
        here = subst (λ (n : ℕ). slice_get g.points n ≡ Some place) (sym so.there) there;
        facts = known.facts;
        known = subst (λ (n : ℕ). slice_get ps n ≡ Some known.facts) (sym so.there) known.there;
        refused = subst (λ (n : ℕ). IsRefusedSo fault g.kind place.action known.facts.facts n f) (sym so.there)
            (subst (λ (facts : Facts). IsRefusedSo fault g.kind place.action facts number f) (sym known.same) so);
      }

      pub refuses_none : IsRefusedNowhere fault place.action (facts_here here) → RefusesNone g ps fault
      refuses_none none point also at is facts same =
          let n = one_point fault number point named also in
          let here_too : slice_get g.points point ≡ Some place = subst (λ (n : ℕ). slice_get g.points n ≡ Some place) n there in
          let known_too : slice_get ps point ≡ Some known.facts = subst (λ (n : ℕ). slice_get ps n ≡ Some known.facts) n known.there in
          let same_place : place ≡ at = cc in
          let same_facts : known.facts ≡ facts = cc in
          subst (λ (p : Point). IsRefusedNowhere fault p.action facts.facts) same_place
          (subst (λ (f : PointFacts). IsRefusedNowhere fault place.action f.facts) same_facts
          (subst (λ (f : Facts). IsRefusedNowhere fault place.action f) (sym known.same) none))

      pub named_refuses : (o : Option Failure) → IfSome o (IsRefusedSo fault g.kind place.action (facts_here here) number) → IfSome o (Refuses g ps fault)
      named_refuses None so = so
      named_refuses (Some f) so = refuses f so

      pub named_none : (o : Option Failure) → IfNone o (IsRefusedNowhere fault place.action (facts_here here)) → IfNone o (RefusesNone g ps fault)
      named_none None none = refuses_none none
      named_none (Some f) none = none
