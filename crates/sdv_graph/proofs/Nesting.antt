-- The loops of a script's graph are nested: each target is reached with turns left that its point can have.
use Rattle.std.proofs.Common.{◌≡◌, Bool, ℕ, zero, suc, ◌+◌, ◌-◌, List, [], ◌∷◌, ◌++◌, length, Some, None, refl, sym, subst, arith, add-one, true, false}
use Rattle.std.specs.Prelude.{slice_get}
use Rattle.std.proofs.lemmas.Option.{slice_get_past}
use Rattle.sdv_graph.specs.declared.graph.Target.{Target}
use Rattle.sdv_graph.specs.Tree.{Statements, nothing, first, Ways, otherwise, way, Statement, send, phase, setting, choice, set, clear, bus_lines, turns, break, done, fault, Declared}
use Rattle.sdv_graph.specs.Counts.{statements_count, statement_count}
use Rattle.sdv_graph.specs.Walk.{Finished, Failed}
use Rattle.sdv_graph.specs.Path.{Action, Point, sends, phases, lets, tests, flags, widths, heads, jumps, stops, left, entered, turns_at}
use Rattle.sdv_graph.specs.Points.{start_of, entry, outside, again, cases_of, other_of, point_with, points_of_statements, points_of_ways, points_of_statement, past, points_of, first_of}
use Rattle.sdv_graph.specs.Nested.{InBox, Same, Again, Over, EachCase, EachTarget, HeadFits, Lands, Nested}
use Rattle.sdv_graph.proofs.Standing.{HasAt, has_front, has_all, has_after, has_after_first, statements_length}

module _ (g : List Point) where
  -- a target is reached from inside these loops with turns left that its point can have
  abbrev In : List ℕ → Target → Type 0
  In most t = (p : Point) → slice_get g t.to ≡ Some p → (ts : List ℕ) → InBox ts most → InBox (turns_at t ts) p.most

  abbrev Fits : Point → Type 0
  Fits p = HeadFits p.action p.most × EachTarget p.action (Lands g p.most)

  abbrev AllFit : List Point → Type 0
  AllFit [] = Unit {0}
  AllFit (p ∷ ps) = Fits p × AllFit ps

  all_fit_append : (ps qs : List Point) → AllFit ps → AllFit qs → AllFit (ps ++ qs)
  all_fit_append [] qs a b = b
  all_fit_append (p ∷ ps) qs a b = (a.0, all_fit_append ps qs a.1 b)

  same_lands : (most : List ℕ) (t : Target) → In most t → Lands g most Same t
  same_lands most t i p here ts us box e = subst (λ us. InBox (turns_at t us) p.most) e (i p here ts box)

  -- the place that stands here is the one that is found
  found : (i : ℕ) (p q : Point) (P : Point → Type 0) → slice_get g i ≡ Some p → slice_get g i ≡ Some q → P p → P q
  found i p q P here there x = let e : p ≡ q = cc in subst P e x

  outside_in : (n : ℕ) (most : List ℕ) (t : Target) → In most t → In (n ∷ most) (outside t)
  outside_in n most t i p here [] box = absurd box
  outside_in n most t i p here (u ∷ ts) box =
      subst (λ l. InBox (entered t.enter (left l (u ∷ ts))) p.most) (sym (add-one t.leave)) (i p here ts box.1)

  -- from a loop's body back to its head
  again_in : (at n : ℕ) (most : List ℕ) (action : Action) → slice_get g at ≡ Some (point_with action (n ∷ most)) → In ((n - 1) ∷ most) (again at)
  again_in at n most action here p there [] box = absurd box
  again_in at n most action here p there (t ∷ ts) box =
      found at (point_with action (n ∷ most)) p (λ p. InBox (t ∷ ts) p.most) here there (omega (arith, box.0), box.1)

  -- from a head into its body
  body_lands : (n : ℕ) (most : List ℕ) (t : Target) → In ((n - 1) ∷ most) t → Lands g (n ∷ most) Again t
  body_lands n most t i p here [] us box e = absurd box
  body_lands n most t i p here (zero ∷ ts) us box e = absurd e
  body_lands n most t i p here (suc u ∷ ts) us box e =
      subst (λ us. InBox (turns_at t us) p.most) e (i p here (u ∷ ts) (omega (arith, box.0), box.1))

  -- from a head to its else block
  else_lands : (n : ℕ) (most : List ℕ) (t : Target) → In most t → Lands g (n ∷ most) Over (outside t)
  else_lands n most t i p here [] us box e = absurd box
  else_lands n most t i p here (suc u ∷ ts) us box e = absurd e
  else_lands n most t i p here (zero ∷ ts) us box e =
      subst (λ us. InBox (turns_at (outside t) us) p.most) e (outside_in n most t i p here (zero ∷ ts) (omega arith, box.1))

  -- a point is reached with the turns left of the one before it
  plain_in : (action : Action) (at : ℕ) (most : List ℕ) → slice_get g at ≡ Some (point_with action most) → In most (again at)
  plain_in action at most here p there ts box = found at (point_with action most) p (λ p. InBox ts p.most) here there box

  -- a loop is entered with all its turns
  enters : (action : Action) (at n : ℕ) (most : List ℕ) → slice_get g at ≡ Some (point_with action (n ∷ most))
      → In most (record { to = at; leave = 0; enter = Some n })
  enters action at n most here p there ts box = found at (point_with action (n ∷ most)) p (λ p. InBox (n ∷ ts) p.most) here there (omega arith, box)

  start_in : (s : Statement) (at : ℕ) (next brk : Target) (most : List ℕ) → HasAt g at (points_of_statement s at next brk most) → In most (start_of s at)
  start_in (send c ways) at next brk most has = plain_in (sends c (cases_of ways (at + 1) next) (other_of ways (at + 1) next)) at most has.0
  start_in (phase p a b) at next brk most has = plain_in (phases p (entry a (at + 1) next) (entry b (at + 1 + statements_count a) next)) at most has.0
  start_in (setting l) at next brk most has = plain_in (lets l next) at most has.0
  start_in (choice c a b) at next brk most has = plain_in (tests c (entry a (at + 1) next) (entry b (at + 1 + statements_count a) next)) at most has.0
  start_in (set f) at next brk most has = plain_in (flags f true next) at most has.0
  start_in (clear f) at next brk most has = plain_in (flags f false next) at most has.0
  start_in (bus_lines width) at next brk most has = plain_in (widths width next) at most has.0
  start_in (turns n a b) at next brk most has = enters (heads n (entry a (at + 1) (again at))
      (outside (entry b (at + 1 + statements_count a) next))) at n most has.0
  start_in break at next brk most has = plain_in (jumps brk) at most has.0
  start_in done at next brk most has = plain_in (stops Finished) at most has.0
  start_in (fault name) at next brk most has = plain_in (stops (Failed name)) at most has.0

  entry_in : (b : Statements) (at : ℕ) (next brk : Target) (most : List ℕ) → HasAt g at (points_of_statements b at next brk most) → In most next
      → In most (entry b at next)
  entry_in nothing at next brk most has nx = nx
  entry_in (first s rest) at next brk most has nx =
      let mid = at + statement_count s in
      let to = entry rest mid next in
      start_in s at to brk most (has_front g at (points_of_statement s at to brk most) (points_of_statements rest mid next brk most) has)

  -- the cases of a command lead to their blocks
  cases_land : (c : Ways) (at : ℕ) (next brk : Target) (most : List ℕ) → HasAt g at (points_of_ways c at next brk most) → In most next
      → EachCase (cases_of c at next) (Lands g most) × Lands g most Same (other_of c at next)
  cases_land (otherwise b) at next brk most has nx = (tt, same_lands most (entry b at next) (entry_in b at next brk most has nx))
  cases_land (way guards b rest) at next brk most has nx =
      let mid = at + statements_count b in
      let others = points_of_ways rest mid next brk most in
      let one = entry_in b at next brk most (has_front g at (points_of_statements b at next brk most) others has) nx in
      let more = cases_land rest mid next brk most (has_after g at b next brk most others has) nx in
      ((same_lands most (entry b at next) one, more.0), more.1)

  mutual
    statements_fit : (b : Statements) (at : ℕ) (next brk : Target) (most : List ℕ) → HasAt g at (points_of_statements b at next brk most) → In most next
        → In most brk → AllFit (points_of_statements b at next brk most)
    statements_fit nothing at next brk most has nx br = tt
    statements_fit (first s rest) at next brk most has nx br =
        let mid = at + statement_count s in
        let to = entry rest mid next in
        let others = points_of_statements rest mid next brk most in
        let back = has_after_first g at s to brk most others has in
        all_fit_append (points_of_statement s at to brk most) others
        (statement_fits s at to brk most (has_front g at (points_of_statement s at to brk most) others has) (entry_in rest mid next brk most back nx) br)
        (statements_fit rest mid next brk most back nx br)

    ways_fit : (c : Ways) (at : ℕ) (next brk : Target) (most : List ℕ) → HasAt g at (points_of_ways c at next brk most) → In most next → In most brk
        → AllFit (points_of_ways c at next brk most)
    ways_fit (otherwise b) at next brk most has nx br = statements_fit b at next brk most has nx br
    ways_fit (way guards b rest) at next brk most has nx br =
        let mid = at + statements_count b in
        let others = points_of_ways rest mid next brk most in
        all_fit_append (points_of_statements b at next brk most) others
        (statements_fit b at next brk most (has_front g at (points_of_statements b at next brk most) others has) nx br)
        (ways_fit rest mid next brk most (has_after g at b next brk most others has) nx br)

    statement_fits : (s : Statement) (at : ℕ) (next brk : Target) (most : List ℕ) → HasAt g at (points_of_statement s at next brk most) → In most next
        → In most brk → AllFit (points_of_statement s at next brk most)
    statement_fits (send c ways) at next brk most has nx br =
        ((tt, cases_land ways (at + 1) next brk most has.1 nx), ways_fit ways (at + 1) next brk most has.1 nx br)
    statement_fits (phase p a b) at next brk most has nx br =
        let mid = at + 1 + statements_count a in
        let fa = points_of_statements a (at + 1) next brk most in
        let fb = points_of_statements b mid next brk most in
        let front = has_front g (at + 1) fa fb has.1 in
        let back = has_after g (at + 1) a next brk most fb has.1 in (
          (
            tt,
            (
              same_lands most (entry a (at + 1) next) (entry_in a (at + 1) next brk most front nx),
              same_lands most (entry b mid next) (entry_in b mid next brk most back nx),
            ),
          ),
          all_fit_append fa fb (statements_fit a (at + 1) next brk most front nx br) (statements_fit b mid next brk most back nx br),
        )
    statement_fits (setting l) at next brk most has nx br = ((tt, same_lands most next nx), tt)
    statement_fits (choice c a b) at next brk most has nx br =
        let mid = at + 1 + statements_count a in
        let fa = points_of_statements a (at + 1) next brk most in
        let fb = points_of_statements b mid next brk most in
        let front = has_front g (at + 1) fa fb has.1 in
        let back = has_after g (at + 1) a next brk most fb has.1 in (
          (
            tt,
            (
              same_lands most (entry a (at + 1) next) (entry_in a (at + 1) next brk most front nx),
              same_lands most (entry b mid next) (entry_in b mid next brk most back nx),
            ),
          ),
          all_fit_append fa fb (statements_fit a (at + 1) next brk most front nx br) (statements_fit b mid next brk most back nx br),
        )
    statement_fits (set f) at next brk most has nx br = ((tt, same_lands most next nx), tt)
    statement_fits (clear f) at next brk most has nx br = ((tt, same_lands most next nx), tt)
    statement_fits (bus_lines width) at next brk most has nx br = ((tt, same_lands most next nx), tt)
    statement_fits (turns n a b) at next brk most has nx br =
        let mid = at + 1 + statements_count a in
        let inner = (n - 1) ∷ most in
        let ta = entry a (at + 1) (again at) in
        let tb = entry b mid next in
        let fa = points_of_statements a (at + 1) (again at) (outside next) inner in
        let fb = points_of_statements b mid next brk most in
        let front = has_front g (at + 1) fa fb has.1 in
        let back = has_after g (at + 1) a (again at) (outside next) inner fb has.1 in
        let head = again_in at n most (heads n ta (outside tb)) has.0 in (
          (
            refl,
            (
              body_lands n most ta (entry_in a (at + 1) (again at) (outside next) inner front head),
              else_lands n most tb (entry_in b mid next brk most back nx),
            ),
          ),
          all_fit_append fa fb (statements_fit a (at + 1) (again at) (outside next) inner front head (outside_in (n - 1) most next nx))
              (statements_fit b mid next brk most back nx br),
        )
    statement_fits break at next brk most has nx br = ((tt, same_lands most brk br), tt)
    statement_fits done at next brk most has nx br = ((tt, tt), tt)
    statement_fits (fault name) at next brk most has nx br = ((tt, tt), tt)

  -- what fits of each place fits of the one that is found
  each_fits : (ps : List Point) (i : ℕ) (p : Point) → AllFit ps → slice_get ps i ≡ Some p → Fits p
  each_fits [] i p all e = absurd (cc)
  each_fits (q ∷ ps) zero p all e = let same : q ≡ p = cc in subst (λ p. Fits p) same all.0
  each_fits (q ∷ ps) (suc i) p all e = each_fits ps i p all.1 e

-- nothing stands past the last point
past_in : (b : Statements) (most : List ℕ) → In (points_of b) most (past b)
past_in b most p here ts box =
    let l = statements_length b 0 (past b) (past b) [] in
    let none : slice_get (points_of b) (statements_count b) ≡ None = slice_get_past (points_of b) (statements_count b) (omega arith) in
    absurd (cc)

first_to : (b : Statements) → (first_of b).to ≡ 0
first_to nothing = refl
first_to (first s rest) = refl

first_leaves : (b : Statements) → (first_of b).leave ≡ 0
first_leaves nothing = refl
first_leaves (first s rest) = refl

pub nested : (names : Declared) (b : Statements) (lines : List ℕ) (steps : ℕ) (begins : Bool)
    → Nested (record {
      kind = names.kind;
      numbers = length names.numbers;
      flags = length names.flags;
      names = names;
      points = points_of b;
      lines = lines;
      first = first_of b;
      steps = steps;
      begins = begins;
    })
nested names b lines steps begins =
    let g = points_of b in
    let has = has_all g [] in
    let fit = statements_fit g b 0 (past b) (past b) [] has (past_in b []) (past_in b []) in
    record {
      first_point = first_to b;
      first_leave = first_leaves b;
      first_turns = λ p here. entry_in g b 0 (past b) (past b) [] has (past_in b []) p (subst (λ i. slice_get g i ≡ Some p) (sym (first_to b)) here) [] tt;
      heads_fit = λ i p here. (each_fits g g i p fit here).0;
      lands = λ i p here. (each_fits g g i p fit here).1;
    }
