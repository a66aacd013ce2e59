-- Whether a point takes the capacity of a boot partition, point by point.
use Rattle.std.proofs.Common.{◌≡◌, ℕ, zero, suc, ◌+◌, List, [], ◌∷◌, Bool, true, false, ◌||◌, cond, Some, drop, add-one, sym, ap, ◌∙◌}
use Rattle.std.specs.Prelude.{slice_get}
use Rattle.sdv_graph.specs.Graph.{Graph}
use Rattle.sdv_graph.specs.Path.{Point}
use Rattle.sdv_facts.specs.declared.certificate.Version.TheVariants.{One, Two}
use Rattle.sdv_certify.specs.VersionOf.{takes_boot, one_takes_boot, version_of}

point_here : (ps : List Point) (i : ℕ) (p : Point) → slice_get ps i ≡ Some p → one_takes_boot (drop i ps) ≡ takes_boot p.action || one_takes_boot (drop (suc i) ps)
point_here [] i p e = absurd (cc)
point_here (x ∷ xs) zero p e = let same : x ≡ p = cc in ap (λ (q : Point). takes_boot q.action || one_takes_boot xs) same
point_here (x ∷ xs) (suc i) p e = point_here xs i p e

-- the rest of the points is asked like all of them
abbrev AsksRest : Graph → ℕ → Type 0
AsksRest g i = one_takes_boot (drop i g.points) ≡ one_takes_boot g.points

pub found : (g : Graph) (i : ℕ) (p : Point) (b : Bool) → slice_get g.points i ≡ Some p → AsksRest g i → b ≡ takes_boot p.action → b ≡ true → Two ≡ version_of g
found g i p b here rest e f =
    let takes : takes_boot p.action ≡ true = sym e ∙ f in
    let all : one_takes_boot g.points ≡ true = sym rest ∙ point_here g.points i p here ∙ ap (λ t. t || one_takes_boot (drop (suc i) g.points)) takes in
    ap (λ t. cond t Two One) (sym all)

pub next : (g : Graph) (i : ℕ) (p : Point) (b : Bool) → slice_get g.points i ≡ Some p → AsksRest g i → b ≡ takes_boot p.action → b ≡ false → AsksRest g (i + 1)
next g i p b here rest e f =
    let takes : takes_boot p.action ≡ false = sym e ∙ f in
    (let more : i + 1 ≡ suc i = add-one i in ap (λ k. one_takes_boot (drop k g.points)) more)
    ∙ ap (λ t. t || one_takes_boot (drop (suc i) g.points)) (sym takes) ∙ sym (point_here g.points i p here) ∙ rest
