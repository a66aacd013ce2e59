-- The walks of a script are the paths of its graph.
use Rattle.std.proofs.Common.{◌≡◌, ℕ, zero, suc, ◌+◌, ◌-◌, List, [], ◌∷◌, length, Option, Some, None, refl, sym, subst, inl, inr, arith, Bool, true, false, add-one}
use Rattle.std.specs.Prelude.{slice_get, if◌then◌else◌}
use Rattle.std.proofs.lemmas.Option.{slice_get_past}
use Rattle.sdv_registers.specs.declared.kind.Kind.{Kind}
use Rattle.sdv_card.specs.declared.guard.Guard.TheVariants.{Ok as WentWell}
use Rattle.sdv_card.specs.Guards.{passes}
use Rattle.sdv_card.specs.Host.{Host, host_after}
use Rattle.sdv_card.specs.Profile.{host_at_start}
use Rattle.sdv_card.specs.ScriptEvent.{Return}
use Rattle.sdv_graph.specs.declared.graph.Target.{Target}
use Rattle.sdv_graph.specs.Tree.{Statements, nothing, first, Ways, otherwise, way, Statement, send, phase, setting, choice, set, clear, bus_lines, turns, break, done, fault, Declared}
use Rattle.sdv_graph.specs.Counts.{statements_count, statement_count, statements_break, ways_break, statement_breaks}
use Rattle.sdv_graph.specs.AddressSent.{position_of_command}
use Rattle.sdv_graph.specs.Conditions.{condition_holds, with_flag, with_lines}
use Rattle.sdv_graph.specs.ValueOfLet.{value_of_let, with_number}
use Rattle.sdv_graph.specs.Walk.{Pair, Ending, Fell, Broke, Finished, Failed, Rest, Here, Either, InRange, Deed, Acts, command_deed, phase_deed, all_pass, rounds, walk_statements, walk_ways, walk_statement, after_all, Walk}
use Rattle.sdv_graph.specs.Path.{Point, sends, phases, lets, tests, flags, widths, heads, jumps, stops, Stand, left, entered, arrive, Move, Goes, Does, Halts, way_of, move_with, move, move_from, Follows, PathWithin, Path}
use Rattle.sdv_graph.specs.Points.{start_of, entry, outside, again, cases_of, other_of, point_with, points_of_statements, points_of_ways, points_of_statement, past, points_of, first_of}
use Rattle.sdv_graph.proofs.Standing.{HasAt, has_front, has_all, has_after, has_after_first, statements_length, or_left, or_right, not_both}

-- both ways
abbrev Same : Type 0 → Type 0 → Type 0
Same a b = (a → b) × (b → a)

-- what is asked is a path from there
abbrev Is : Kind → List Point → Ending → Rest → List ℕ → Target → Type 0
Is k g e rest ts t = (h : Host) (es : List Pair) → Same (rest h es) (Path k g e (arrive t ts h) es)

module _ (k : Kind) (g : List Point) (e : Ending) where
  -- more moves allowed in the rest
  some_moves : (m : Move) (es : List Pair) (n : ℕ) → Follows k e (PathWithin k g e n) m es → Follows k e (Path k g e) m es
  some_moves (Goes s) es n p = (n, p)
  some_moves (Does deed h next) es n p = (p.0, p.1, p.2, p.3, p.4, p.5, (n, p.6))
  some_moves (Halts last) es n p = p

  count_moves : (m : Move) (es : List Pair) → Follows k e (Path k g e) m es → (n : ℕ) × Follows k e (PathWithin k g e n) m es
  count_moves (Goes s) es p = p
  count_moves (Does deed h next) es p = (p.6.0, (p.0, p.1, p.2, p.3, p.4, p.5, p.6.1))
  count_moves (Halts last) es p = (0, p)

  -- a path stops here or makes a move
  unroll : (s : Stand) (es : List Pair) → Path k g e s es → Here e (Follows k e (Path k g e) (move_from k g s) es) es
  unroll s es (zero, p) = absurd p
  unroll s es (suc n, inl p) = inl p
  unroll s es (suc n, inr p) = inr (some_moves (move_from k g s) es n p)

  pub roll : (s : Stand) (es : List Pair) → Here e (Follows k e (Path k g e) (move_from k g s) es) es → Path k g e s es
  roll s es (inl p) = (1, inl p)
  roll s es (inr p) = let q = count_moves (move_from k g s) es p in (suc q.0, inr q.1)

  -- what a statement says is a path from its point
  at_point : (p : Point) (at : ℕ) (ts : List ℕ) (h : Host) (es : List Pair) (x : Type 0) → slice_get g at ≡ Some p
      → Same x (Follows k e (Path k g e) (move k (Some p) ts h) es) → Same (Here e x es) (Path k g e (record { point = at; turns = ts; host = h }) es)
  at_point p at ts h es x here same =
      let s : Stand = record { point = at; turns = ts; host = h } in
      let P : Option Point → Type 0 = λ o. Here e (Follows k e (Path k g e) (move k o ts h) es) es in
      (λ w. roll s es (subst P (sym here) (to w)), λ q. from (subst P here (unroll s es q)))
    where
      to : Here e x es → Here e (Follows k e (Path k g e) (move k (Some p) ts h) es) es
      to (inl o) = inl o
      to (inr w) = inr (same.0 w)

      from : Here e (Follows k e (Path k g e) (move k (Some p) ts h) es) es → Here e x es
      from (inl o) = inl o
      from (inr w) = inr (same.1 w)

  -- a place outside a loop, seen from inside
  outside_is : (t : Target) (n : ℕ) (ts : List ℕ) (x : Type 0) (h : Host) (es : List Pair) → Same x (Path k g e (arrive t ts h) es)
      → Same x (Path k g e (arrive (outside t) (n ∷ ts) h) es)
  outside_is t n ts x h es i = subst (λ l. Same x (Path k g e (record { point = t.to; turns = entered t.enter (left l (n ∷ ts)); host = h }) es))
      (sym (add-one t.leave)) i

  -- one of two targets
  either_is : (b : Bool) (x y : Type 0) (t u : Target) (ts : List ℕ) (h : Host) (es : List Pair) → Same x (Path k g e (arrive t ts h) es)
      → Same y (Path k g e (arrive u ts h) es) → Same (Either b x y) (Path k g e (arrive (if b then t else u) ts h) es)
  either_is true x y t u ts h es i j = i
  either_is false x y t u ts h es i j = j

  -- a number in range, or the fault `number`
  range_is : (o : Option ℕ) (x : ℕ → Type 0) (on : ℕ → Move) (es : List Pair) → ((n : ℕ) → Same (x n) (Follows k e (Path k g e) (on n) es))
      → Same (InRange e o x es) (Follows k e (Path k g e) (move_with o on) es)
  range_is None x on es i = (λ s. s, λ s. s)
  range_is (Some n) x on es i = i n

  -- the turns of a loop, where its body is as it should be
  rounds_are : (n at : ℕ) (most : List ℕ) (a b : Target) (ts : List ℕ) (body : Rest → Rest) (other : Rest)
      → slice_get g at ≡ Some (point_with (heads n a (outside b)) most) → Is k g e other ts b
      → ((rest : Rest) (t : ℕ) → Is k g e rest (t ∷ ts) (again at) → Is k g e (body rest) (t ∷ ts) a) → (t : ℕ)
      → Is k g e (rounds e t body other) (t ∷ ts) (again at)
  rounds_are n at most a b ts body other here ob ib zero h es =
      at_point (point_with (heads n a (outside b)) most) at (zero ∷ ts) h es (other h es) here (outside_is b zero ts (other h es) h es (ob h es))
  rounds_are n at most a b ts body other here ob ib (suc t) h es =
      at_point (point_with (heads n a (outside b)) most) at (suc t ∷ ts) h es (body (rounds e t body other) h es) here
      (ib (rounds e t body other) t (rounds_are n at most a b ts body other here ob ib t) h es)

  acts_are : (deed : Deed) (h : Host) (next : Return → Rest) (to : Return → Host → Stand) (es : List Pair)
      → ((returned : Return) (h : Host) (es : List Pair) → Same (next returned h es) (Path k g e (to returned h) es))
      → Same (Acts k deed h next es) (Follows k e (Path k g e) (Does deed h to) es)
  acts_are deed h next to es i = (
    λ w. (w.0, w.1, w.2, w.3, w.4, w.5, (i w.1 (host_after k w.0 w.1 h) w.2).0 w.6),
    λ w. (w.0, w.1, w.2, w.3, w.4, w.5, (i w.1 (host_after k w.0 w.1 h) w.2).1 w.6),
  )

  mutual
    statements_are : (b : Statements) (at : ℕ) (next brk : Target) (most ts : List ℕ) (fell broke : Rest) → HasAt g at (points_of_statements b at next brk most)
        → Is k g e fell ts next → (statements_break b ≡ true → Is k g e broke ts brk) → Is k g e (walk_statements k e b fell broke) ts (entry b at next)
    statements_are nothing at next brk most ts fell broke has nx br = nx
    statements_are (first s rest) at next brk most ts fell broke has nx br =
        let mid = at + statement_count s in
        let to = entry rest mid next in
        let others = points_of_statements rest mid next brk most in
        statement_is s at to brk most ts (walk_statements k e rest fell broke) broke
        (has_front g at (points_of_statement s at to brk most) others has)
        (statements_are rest mid next brk most ts fell broke (has_after_first g at s to brk most others has) nx
        (λ b. br (or_right (statement_breaks s) (statements_break rest) b)))
        (λ b. br (or_left (statement_breaks s) (statements_break rest) b))

    ways_are : (c : Ways) (at : ℕ) (next brk : Target) (most ts : List ℕ) (fell broke : Rest) → HasAt g at (points_of_ways c at next brk most)
        → Is k g e fell ts next → (ways_break c ≡ true → Is k g e broke ts brk) → (returned : Return)
        → Is k g e (walk_ways k e c returned fell broke) ts (way_of k (cases_of c at next) (other_of c at next) returned)
    ways_are (otherwise b) at next brk most ts fell broke has nx br returned h es = statements_are b at next brk most ts fell broke has nx br h es
    ways_are (way guards b rest) at next brk most ts fell broke has nx br returned h es =
        let mid = at + statements_count b in
        let others = points_of_ways rest mid next brk most in
        let one = statements_are b at next brk most ts fell broke (has_front g at (points_of_statements b at next brk most) others has) nx
        (λ x. br (or_left (statements_break b) (ways_break rest) x)) in
        let more = ways_are rest mid next brk most ts fell broke (has_after g at b next brk most others has) nx
        (λ x. br (or_right (statements_break b) (ways_break rest) x)) returned in
        either_is (all_pass k guards returned) _ _ (entry b at next) (way_of k (cases_of rest mid next) (other_of rest mid next) returned) ts h es (one h es)
        (more h es)

    statement_is : (s : Statement) (at : ℕ) (next brk : Target) (most ts : List ℕ) (fell broke : Rest) → HasAt g at (points_of_statement s at next brk most)
        → Is k g e fell ts next → (statement_breaks s ≡ true → Is k g e broke ts brk) → Is k g e (walk_statement k e s fell broke) ts (start_of s at)
    statement_is (send c ways) at next brk most ts fell broke has nx br h es =
        let there = cases_of ways (at + 1) next in
        let other = other_of ways (at + 1) next in
        at_point (point_with (sends c there other) most) at ts h es _ has.0
        (range_is (position_of_command h c.address) _ (λ position. Does (command_deed k c h position) h
        (λ returned h'. arrive (way_of k there other returned) ts h')) es
        (λ position. acts_are (command_deed k c h position) h (λ returned. walk_ways k e ways returned fell broke)
        (λ returned h'. arrive (way_of k there other returned) ts h') es (ways_are ways (at + 1) next brk most ts fell broke has.1 nx br)))
    statement_is (phase p a b) at next brk most ts fell broke has nx br h es =
        let mid = at + 1 + statements_count a in
        let ta = entry a (at + 1) next in
        let tb = entry b mid next in
        let fb = points_of_statements b mid next brk most in
        let one = statements_are a (at + 1) next brk most ts fell broke (has_front g (at + 1) (points_of_statements a (at + 1) next brk most) fb has.1) nx
        (λ x. br (or_left (statements_break a) (statements_break b) x)) in
        let other = statements_are b mid next brk most ts fell broke (has_after g (at + 1) a next brk most fb has.1) nx
        (λ x. br (or_right (statements_break a) (statements_break b) x)) in
        at_point (point_with (phases p ta tb) most) at ts h es _ has.0
        (acts_are (phase_deed p h) h _ (λ returned h'. arrive (if passes k WentWell returned then ta else tb) ts h') es
        (λ returned h' rest. either_is (passes k WentWell returned) _ _ ta tb ts h' rest (one h' rest) (other h' rest)))
    statement_is (setting l) at next brk most ts fell broke has nx br h es =
        at_point (point_with (lets l next) most) at ts h es _ has.0
        (range_is (value_of_let k h l) _ (λ n. Goes (arrive next ts (with_number h l.target n))) es (λ n. nx (with_number h l.target n) es))
    statement_is (choice c a b) at next brk most ts fell broke has nx br h es =
        let mid = at + 1 + statements_count a in
        let ta = entry a (at + 1) next in
        let tb = entry b mid next in
        let fb = points_of_statements b mid next brk most in
        at_point (point_with (tests c ta tb) most) at ts h es _ has.0
        (either_is (condition_holds h c) _ _ ta tb ts h es
        (statements_are a (at + 1) next brk most ts fell broke (has_front g (at + 1) (points_of_statements a (at + 1) next brk most) fb has.1) nx
        (λ x. br (or_left (statements_break a) (statements_break b) x)) h es)
        (statements_are b mid next brk most ts fell broke (has_after g (at + 1) a next brk most fb has.1) nx
        (λ x. br (or_right (statements_break a) (statements_break b) x)) h es))
    statement_is (set f) at next brk most ts fell broke has nx br h es =
        at_point (point_with (flags f true next) most) at ts h es _ has.0 (nx (with_flag h f true) es)
    statement_is (clear f) at next brk most ts fell broke has nx br h es =
        at_point (point_with (flags f false next) most) at ts h es _ has.0 (nx (with_flag h f false) es)
    statement_is (bus_lines width) at next brk most ts fell broke has nx br h es =
        at_point (point_with (widths width next) most) at ts h es _ has.0 (nx (with_lines h width) es)
    statement_is (turns n a b) at next brk most ts fell broke has nx br h es =
        let mid = at + 1 + statements_count a in
        let inner = (n - 1) ∷ most in
        let fb = points_of_statements b mid next brk most in
        let front = has_front g (at + 1) (points_of_statements a (at + 1) (again at) (outside next) inner) fb has.1 in
        let back = has_after g (at + 1) a (again at) (outside next) inner fb has.1 in
        rounds_are n at (n ∷ most) (entry a (at + 1) (again at)) (entry b mid next) ts (λ rest. walk_statements k e a rest fell)
        (walk_statements k e b fell broke) has.0
        (statements_are b mid next brk most ts fell broke back nx br)
        (λ rest t i. statements_are a (at + 1) (again at) (outside next) inner (t ∷ ts) rest fell front i
        (λ x h es. outside_is next t ts (fell h es) h es (nx h es))) n h es
    statement_is break at next brk most ts fell broke has nx br h es = at_point (point_with (jumps brk) most) at ts h es _ has.0 (br refl h es)
    statement_is done at next brk most ts fell broke has nx br h es = at_point (point_with (stops Finished) most) at ts h es _ has.0 (λ s. s, λ s. s)
    statement_is (fault name) at next brk most ts fell broke has nx br h es = at_point (point_with (stops (Failed name)) most) at ts h es _ has.0
        (λ s. s, λ s. s)

-- there is no point past the last
past_is : (k : Kind) (b : Statements) (e : Ending) → Is k (points_of b) e (after_all e Fell) [] (past b)
past_is k b e h es =
    let g = points_of b in
    let l = statements_length b 0 (past b) (past b) [] in
    let none : slice_get g (statements_count b) ≡ None = slice_get_past g (statements_count b) (omega arith) in
    let s : Stand = arrive (past b) [] h in
    let P : Option Point → Type 0 = λ o. Here e (Follows k e (Path k g e) (move k o [] h) es) es in
    (λ w. roll k g e s es (subst P (sym none) w), λ p. subst P none (unroll k g e s es p))

pub walks_are_paths : (k : Kind) (names : Declared) (b : Statements) (e : Ending) (es : List Pair) → statements_break b ≡ false
    → Same (Walk k names b e es) (Path k (points_of b) e (arrive (first_of b) [] (host_at_start (length names.numbers))) es)
walks_are_paths k names b e es inside =
    statements_are k (points_of b) e b 0 (past b) (past b) [] [] (after_all e Fell) (after_all e Broke) (has_all (points_of b) []) (past_is k b e)
    (λ x. absurd (not_both (statements_break b) inside x)) (host_at_start (length names.numbers)) es
