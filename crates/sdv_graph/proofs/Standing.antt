-- Where the points of a part of a script stand in its graph.
use Rattle.std.proofs.Common.{◌≡◌, ℕ, ◌+◌, ◌-◌, ◌<◌, List, [], ◌∷◌, ◌++◌, length, Some, refl, ap, length-append, ◌∙◌, subst, arith, append_assoc, Bool, true, false}
use Rattle.std.specs.Prelude.{slice_get, ◌||◌, ◌&&◌}
use Rattle.std.proofs.Math.Seq.{get_or-append_seam}
use Rattle.std.proofs.lemmas.Option.{slice_get-get_or}
use Rattle.sdv_graph.specs.declared.graph.Target.{Target}
use Rattle.sdv_graph.specs.Tree.{Statements, nothing, first, Ways, otherwise, way, Statement, send, phase, setting, choice, set, clear, bus_lines, turns, break, done, fault}
use Rattle.sdv_graph.specs.Counts.{statements_count, ways_count, statement_count}
use Rattle.sdv_graph.specs.Path.{Point}
use Rattle.sdv_graph.specs.Points.{entry, outside, again, points_of_statements, points_of_ways, points_of_statement}

-- the points stand in the graph from this number on
abbrev pub HasAt : List Point → ℕ → List Point → Type 0
HasAt g at [] = Unit {0}
HasAt g at (p ∷ ps) = (slice_get g at ≡ Some p) × HasAt g (at + 1) ps

pub has_front : (g : List Point) (at : ℕ) (a b : List Point) → HasAt g at (a ++ b) → HasAt g at a
has_front g at [] b h = tt
has_front g at (n ∷ a) b h = (h.0, has_front g (at + 1) a b h.1)

pub has_back : (g : List Point) (at : ℕ) (a b : List Point) → HasAt g at (a ++ b) → HasAt g (at + length a) b
has_back g at [] b h = let e : at ≡ at + 0 = omega arith in subst (λ n. HasAt g n b) e h
has_back g at (n ∷ a) b h =
    let e : at + 1 + length a ≡ at + length (n ∷ a) = omega arith in
    subst (λ n. HasAt g n b) e (has_back g (at + 1) a b h.1)

-- each statement has one point
mutual
  pub statements_length : (b : Statements) (at : ℕ) (next brk : Target) (most : List ℕ) → length (points_of_statements b at next brk most) ≡ statements_count b
  statements_length nothing at next brk most = refl
  statements_length (first s rest) at next brk most =
      let mid = at + statement_count s in
      let to = entry rest mid next in
      let e = length-append (points_of_statement s at to brk most) (points_of_statements rest mid next brk most) in
      let ls = statement_length s at to brk most in
      let lr = statements_length rest mid next brk most in
      omega arith

  pub ways_length : (c : Ways) (at : ℕ) (next brk : Target) (most : List ℕ) → length (points_of_ways c at next brk most) ≡ ways_count c
  ways_length (otherwise b) at next brk most = statements_length b at next brk most
  ways_length (way guards b rest) at next brk most =
      let mid = at + statements_count b in
      let e = length-append (points_of_statements b at next brk most) (points_of_ways rest mid next brk most) in
      let lb = statements_length b at next brk most in
      let lr = ways_length rest mid next brk most in
      omega arith

  pub statement_length : (s : Statement) (at : ℕ) (next brk : Target) (most : List ℕ) → length (points_of_statement s at next brk most) ≡ statement_count s
  statement_length (send c ways) at next brk most = let l = ways_length ways (at + 1) next brk most in omega arith
  statement_length (phase p a b) at next brk most =
      let mid = at + 1 + statements_count a in
      let e = length-append (points_of_statements a (at + 1) next brk most) (points_of_statements b mid next brk most) in
      let la = statements_length a (at + 1) next brk most in
      let lb = statements_length b mid next brk most in
      omega arith
  statement_length (setting l) at next brk most = refl
  statement_length (choice c a b) at next brk most =
      let mid = at + 1 + statements_count a in
      let e = length-append (points_of_statements a (at + 1) next brk most) (points_of_statements b mid next brk most) in
      let la = statements_length a (at + 1) next brk most in
      let lb = statements_length b mid next brk most in
      omega arith
  statement_length (set f) at next brk most = refl
  statement_length (clear f) at next brk most = refl
  statement_length (bus_lines width) at next brk most = refl
  statement_length (turns n a b) at next brk most =
      let mid = at + 1 + statements_count a in
      let inner = (n - 1) ∷ most in
      let e = length-append (points_of_statements a (at + 1) (again at) (outside next) inner) (points_of_statements b mid next brk most) in
      let la = statements_length a (at + 1) (again at) (outside next) inner in
      let lb = statements_length b mid next brk most in
      omega arith
  statement_length break at next brk most = refl
  statement_length done at next brk most = refl
  statement_length (fault name) at next brk most = refl

-- a second part, after a first one of so many statements
pub has_after : (g : List Point) (at : ℕ) (b : Statements) (next brk : Target) (most : List ℕ) (rest : List Point)
    → HasAt g at (points_of_statements b at next brk most ++ rest) → HasAt g (at + statements_count b) rest
has_after g at b next brk most rest has =
    subst (λ l. HasAt g (at + l) rest) (statements_length b at next brk most) (has_back g at (points_of_statements b at next brk most) rest has)

pub has_after_first : (g : List Point) (at : ℕ) (s : Statement) (next brk : Target) (most : List ℕ) (rest : List Point)
    → HasAt g at (points_of_statement s at next brk most ++ rest) → HasAt g (at + statement_count s) rest
has_after_first g at s next brk most rest has =
    subst (λ l. HasAt g (at + l) rest) (statement_length s at next brk most) (has_back g at (points_of_statement s at next brk most) rest has)

-- a graph has its own points
pub has_all : (ps before : List Point) → HasAt (before ++ ps) (length before) ps
has_all [] before = tt
has_all (p ∷ ps) before =
    let within : length before < length (before ++ p ∷ ps) = omega (arith, length-append before (p ∷ ps)) in
    let here = slice_get-get_or (before ++ p ∷ ps) (length before) p within ∙ ap Some (get_or-append_seam before p ps p) in
    let l : length (before ++ p ∷ []) ≡ length before + 1 = omega (arith, length-append before (p ∷ [])) in
    let rest = has_all ps (before ++ p ∷ []) in
    let rest' = subst (λ l. HasAt l (length (before ++ p ∷ [])) ps) (append_assoc before (p ∷ []) ps) rest in
    (here, subst (λ m. HasAt (before ++ p ∷ ps) m ps) l rest')

-- TESTS

pub or_left : (a b : Bool) → a ≡ true → a || b ≡ true
or_left true b e = refl
or_left false b e = absurd (cc)

pub or_right : (a b : Bool) → b ≡ true → a || b ≡ true
or_right true b e = refl
or_right false b e = e

pub and_both : (a b : Bool) → a ≡ true → b ≡ true → a && b ≡ true
and_both true b e f = f
and_both false b e f = e

pub not_both : (b : Bool) → b ≡ false → b ≡ true → ⊥
not_both b p q = cc
