-- Every run of a script that does not fall off its end is over within so many moves.
use Rattle.std.proofs.Common.{◌≡◌, ℕ, zero, suc, ◌+◌, ◌-◌, ◌*◌, ◌<◌, ◌≤◌, List, [], ◌∷◌, Option, Some, None, refl, sym, subst, arith, Bool, true, false, add-one}
use Rattle.std.specs.Prelude.{slice_get, if◌then◌else◌}
use Rattle.sdv_registers.specs.declared.kind.Kind.{Kind}
use Rattle.sdv_card.specs.declared.guard.Guard.TheVariants.{Ok as WentWell}
use Rattle.sdv_card.specs.Guards.{passes}
use Rattle.sdv_card.specs.Host.{Host}
use Rattle.sdv_card.specs.ScriptEvent.{Return}
use Rattle.sdv_graph.specs.declared.graph.Target.{Target}
use Rattle.sdv_graph.specs.Tree.{Statements, nothing, first, Ways, otherwise, way, Statement, send, phase, setting, choice, set, clear, bus_lines, turns, break, done, fault}
use Rattle.sdv_graph.specs.Counts.{statements_count, statement_count, statements_break, ways_break, statement_breaks, statements_fall, ways_fall, statement_falls}
use Rattle.sdv_graph.specs.AddressSent.{position_of_command}
use Rattle.sdv_graph.specs.Conditions.{condition_holds, with_flag, with_lines}
use Rattle.sdv_graph.specs.ValueOfLet.{value_of_let, with_number}
use Rattle.sdv_graph.specs.Walk.{Fell, Broke, Open, Finished, Failed, command_deed, all_pass}
use Rattle.sdv_graph.specs.Path.{Point, sends, phases, lets, tests, flags, widths, heads, jumps, stops, Stand, left, entered, arrive, Move, Goes, Does, Halts, way_of, move_with, move, move_from}
use Rattle.sdv_graph.specs.Points.{start_of, entry, outside, again, cases_of, other_of, point_with, points_of_statements, points_of_ways, points_of_statement, past, points_of, first_of}
use Rattle.sdv_graph.specs.Graph.{WhereverTo, Lasts}
use Rattle.sdv_graph.specs.Moves.{statements_moves, ways_moves, statement_moves}
use Rattle.sdv_graph.proofs.Standing.{HasAt, has_front, has_all, has_after, has_after_first, or_left, or_right, and_both, not_both}

module _ (k : Kind) (g : List Point) where
  wherever_more : (p q : Stand → Type 0) → ((s : Stand) → p s → q s) → (m : Move) → WhereverTo p m → WhereverTo q m
  wherever_more p q f (Goes s) w = f s w
  wherever_more p q f (Does deed h next) w = λ returned after. f (next returned after) (w returned after)
  wherever_more p q f (Halts Fell) w = w
  wherever_more p q f (Halts Broke) w = w
  wherever_more p q f (Halts Finished) w = w
  wherever_more p q f (Halts (Failed name)) w = w
  wherever_more p q f (Halts Open) w = w

  longer : (n m : ℕ) (s : Stand) → n ≤ m → Lasts k g n s → Lasts k g m s
  longer zero m s le l = absurd l
  longer (suc n) zero s le l = absurd (omega arith)
  longer (suc n) (suc m) s le l = wherever_more (Lasts k g n) (Lasts k g m) (λ d. longer n m d (omega arith)) (move_from k g s) l

  -- from there a run has at most n moves, whatever the host is
  abbrev At : ℕ → Target → List ℕ → Type 0
  At n t ts = (h : Host) → Lasts k g n (arrive t ts h)

  weaker : (n m : ℕ) (t : Target) (ts : List ℕ) → n ≤ m → At n t ts → At m t ts
  weaker n m t ts le a h = longer n m (arrive t ts h) le (a h)

  at_point : (p : Point) (at j m : ℕ) (ts : List ℕ) (h : Host) → j < m → slice_get g at ≡ Some p → WhereverTo (Lasts k g j) (move k (Some p) ts h)
      → Lasts k g m (record { point = at; turns = ts; host = h })
  at_point p at j m ts h lt here w =
      let s : Stand = record { point = at; turns = ts; host = h } in
      longer (suc j) m s (omega arith) (subst (λ o. WhereverTo (Lasts k g j) (move k o ts h)) (sym here) w)

  either : (b : Bool) (n : ℕ) (t u : Target) (ts : List ℕ) (h : Host) → Lasts k g n (arrive t ts h) → Lasts k g n (arrive u ts h)
      → Lasts k g n (arrive (if b then t else u) ts h)
  either true n t u ts h p q = p
  either false n t u ts h p q = q

  in_range_lasts : (o : Option ℕ) (on : ℕ → Move) (n : ℕ) → ((x : ℕ) → WhereverTo (Lasts k g n) (on x)) → WhereverTo (Lasts k g n) (move_with o on)
  in_range_lasts None on n w = tt
  in_range_lasts (Some x) on n w = w x

  outside_lasts : (j n : ℕ) (t : Target) (ts : List ℕ) → At j t ts → At j (outside t) (n ∷ ts)
  outside_lasts j n t ts a h = subst (λ l. Lasts k g j (record { point = t.to; turns = entered t.enter (left l (n ∷ ts)); host = h })) (sym (add-one t.leave))
      (a h)

  rounds_last : (i at sa sb n : ℕ) (most : List ℕ) (a b : Target) (ts : List ℕ) → slice_get g at ≡ Some (point_with (heads i a (outside b)) most)
      → At (sb + n) b ts
      → ((m t : ℕ) → n ≤ m → At m (again at) (t ∷ ts) → At (sa + m) a (t ∷ ts)) → (t : ℕ) → At (1 + (t * (1 + sa) + sb) + n) (again at) (t ∷ ts)
  rounds_last i at sa sb n most a b ts here ob ib zero h =
      at_point (point_with (heads i a (outside b)) most) at (sb + n) (1 + (zero * (1 + sa) + sb) + n) (zero ∷ ts) h (omega arith) here
      (outside_lasts (sb + n) zero b ts ob h)
  rounds_last i at sa sb n most a b ts here ob ib (suc t) h =
      let m = 1 + (t * (1 + sa) + sb) + n in
      at_point (point_with (heads i a (outside b)) most) at (sa + m) (1 + (suc t * (1 + sa) + sb) + n) (suc t ∷ ts) h (omega arith) here
      (ib m t (omega arith) (rounds_last i at sa sb n most a b ts here ob ib t) h)

  -- two blocks, of which one is taken
  one_lasts : (sa sb n : ℕ) (ta tb : Target) (ts : List ℕ) (b : Bool) → At (sa + n) ta ts → At (sb + n) tb ts → At (sa + sb + n) (if b then ta else tb) ts
  one_lasts sa sb n ta tb ts b la lb h =
      either b (sa + sb + n) ta tb ts h (weaker (sa + n) (sa + sb + n) ta ts (omega arith) la h) (weaker (sb + n) (sa + sb + n) tb ts (omega arith) lb h)

  mutual
    statements_last : (b : Statements) (at : ℕ) (next brk : Target) (most ts : List ℕ) (n : ℕ) → HasAt g at (points_of_statements b at next brk most)
        → (statements_fall b ≡ true → At n next ts) → (statements_break b ≡ true → At n brk ts) → At (statements_moves b + n) (entry b at next) ts
    statements_last nothing at next brk most ts n has nx br = weaker n (0 + n) next ts (omega arith) (nx refl)
    statements_last (first s rest) at next brk most ts n has nx br =
        let mid = at + statement_count s in
        let to = entry rest mid next in
        let others = points_of_statements rest mid next brk most in
        let back = has_after_first g at s to brk most others has in
        let m = statements_moves rest + n in
        weaker (statement_moves s + m) (statement_moves s + statements_moves rest + n) (start_of s at) ts (omega arith)
        (statement_lasts s at to brk most ts m (has_front g at (points_of_statement s at to brk most) others has)
        (λ fs. statements_last rest mid next brk most ts n back (λ fr. nx (and_both (statement_falls s) (statements_fall rest) fs fr))
        (λ b. br (or_right (statement_breaks s) (statements_break rest) b)))
        (λ b. weaker n m brk ts (omega arith) (br (or_left (statement_breaks s) (statements_break rest) b))))

    ways_last : (c : Ways) (at : ℕ) (next brk : Target) (most ts : List ℕ) (n : ℕ) → HasAt g at (points_of_ways c at next brk most)
        → (ways_fall c ≡ true → At n next ts) → (ways_break c ≡ true → At n brk ts) → (returned : Return)
        → At (ways_moves c + n) (way_of k (cases_of c at next) (other_of c at next) returned) ts
    ways_last (otherwise b) at next brk most ts n has nx br returned h = statements_last b at next brk most ts n has nx br h
    ways_last (way guards b rest) at next brk most ts n has nx br returned h =
        let mid = at + statements_count b in
        let others = points_of_ways rest mid next brk most in
        let j = statements_moves b + ways_moves rest + n in
        let tb = entry b at next in
        let tr = way_of k (cases_of rest mid next) (other_of rest mid next) returned in
        let one = statements_last b at next brk most ts n (has_front g at (points_of_statements b at next brk most) others has)
        (λ f. nx (or_left (statements_fall b) (ways_fall rest) f)) (λ f. br (or_left (statements_break b) (ways_break rest) f)) in
        let more = ways_last rest mid next brk most ts n (has_after g at b next brk most others has) (λ f. nx (or_right (statements_fall b) (ways_fall rest) f))
        (λ f. br (or_right (statements_break b) (ways_break rest) f)) returned in
        either (all_pass k guards returned) j tb tr ts h (weaker (statements_moves b + n) j tb ts (omega arith) one h)
        (weaker (ways_moves rest + n) j tr ts (omega arith) more h)

    statement_lasts : (s : Statement) (at : ℕ) (next brk : Target) (most ts : List ℕ) (n : ℕ) → HasAt g at (points_of_statement s at next brk most)
        → (statement_falls s ≡ true → At n next ts) → (statement_breaks s ≡ true → At n brk ts) → At (statement_moves s + n) (start_of s at) ts
    statement_lasts (send c ways) at next brk most ts n has nx br h =
        let there = cases_of ways (at + 1) next in
        let other = other_of ways (at + 1) next in
        let j = ways_moves ways + n in
        at_point (point_with (sends c there other) most) at j (1 + ways_moves ways + n) ts h (omega arith) has.0
        (in_range_lasts (position_of_command h c.address)
        (λ position. Does (command_deed k c h position) h (λ returned h'. arrive (way_of k there other returned) ts h')) j
        (λ position returned after. ways_last ways (at + 1) next brk most ts n has.1 nx br returned after))
    statement_lasts (phase p a b) at next brk most ts n has nx br h =
        let mid = at + 1 + statements_count a in
        let ta = entry a (at + 1) next in
        let tb = entry b mid next in
        let sa = statements_moves a in
        let sb = statements_moves b in
        let fb = points_of_statements b mid next brk most in
        let la = statements_last a (at + 1) next brk most ts n (has_front g (at + 1) (points_of_statements a (at + 1) next brk most) fb has.1)
        (λ x. nx (or_left (statements_fall a) (statements_fall b) x)) (λ x. br (or_left (statements_break a) (statements_break b) x)) in
        let lb = statements_last b mid next brk most ts n (has_after g (at + 1) a next brk most fb has.1)
        (λ x. nx (or_right (statements_fall a) (statements_fall b) x)) (λ x. br (or_right (statements_break a) (statements_break b) x)) in
        at_point (point_with (phases p ta tb) most) at (sa + sb + n) (1 + (sa + sb) + n) ts h (omega arith) has.0
        (λ returned after. one_lasts sa sb n ta tb ts (passes k WentWell returned) la lb after)
    statement_lasts (setting l) at next brk most ts n has nx br h =
        at_point (point_with (lets l next) most) at n (1 + n) ts h (omega arith) has.0
        (in_range_lasts (value_of_let k h l) (λ x. Goes (arrive next ts (with_number h l.target x))) n (λ x. nx refl (with_number h l.target x)))
    statement_lasts (choice c a b) at next brk most ts n has nx br h =
        let mid = at + 1 + statements_count a in
        let ta = entry a (at + 1) next in
        let tb = entry b mid next in
        let sa = statements_moves a in
        let sb = statements_moves b in
        let fb = points_of_statements b mid next brk most in
        let la = statements_last a (at + 1) next brk most ts n (has_front g (at + 1) (points_of_statements a (at + 1) next brk most) fb has.1)
        (λ x. nx (or_left (statements_fall a) (statements_fall b) x)) (λ x. br (or_left (statements_break a) (statements_break b) x)) in
        let lb = statements_last b mid next brk most ts n (has_after g (at + 1) a next brk most fb has.1)
        (λ x. nx (or_right (statements_fall a) (statements_fall b) x)) (λ x. br (or_right (statements_break a) (statements_break b) x)) in
        at_point (point_with (tests c ta tb) most) at (sa + sb + n) (1 + (sa + sb) + n) ts h (omega arith) has.0
        (one_lasts sa sb n ta tb ts (condition_holds h c) la lb h)
    statement_lasts (set f) at next brk most ts n has nx br h =
        at_point (point_with (flags f true next) most) at n (1 + n) ts h (omega arith) has.0 (nx refl (with_flag h f true))
    statement_lasts (clear f) at next brk most ts n has nx br h =
        at_point (point_with (flags f false next) most) at n (1 + n) ts h (omega arith) has.0 (nx refl (with_flag h f false))
    statement_lasts (bus_lines width) at next brk most ts n has nx br h =
        at_point (point_with (widths width next) most) at n (1 + n) ts h (omega arith) has.0 (nx refl (with_lines h width))
    statement_lasts (turns i a b) at next brk most ts n has nx br h =
        let mid = at + 1 + statements_count a in
        let inner = (i - 1) ∷ most in
        let sa = statements_moves a in
        let sb = statements_moves b in
        let fb = points_of_statements b mid next brk most in
        let front = has_front g (at + 1) (points_of_statements a (at + 1) (again at) (outside next) inner) fb has.1 in
        let back = has_after g (at + 1) a (again at) (outside next) inner fb has.1 in
        weaker (1 + (i * (1 + sa) + sb) + n) (1 + (i * (1 + sa) + sa + sb) + n) (start_of (turns i a b) at) ts (omega arith)
        (rounds_last i at sa sb n (i ∷ most) (entry a (at + 1) (again at)) (entry b mid next) ts has.0
        (statements_last b mid next brk most ts n back (λ x. nx (or_left (statements_fall b) (statements_break a) x)) br)
        (λ m t le ia. statements_last a (at + 1) (again at) (outside next) inner (t ∷ ts) m front (λ x. ia)
        (λ x. weaker n m (outside next) (t ∷ ts) le (outside_lasts n t next ts (nx (or_right (statements_fall b) (statements_break a) x))))) i) h
    statement_lasts break at next brk most ts n has nx br h = at_point (point_with (jumps brk) most) at n (1 + n) ts h (omega arith) has.0 (br refl h)
    statement_lasts done at next brk most ts n has nx br h = at_point (point_with (stops Finished) most) at n (1 + n) ts h (omega arith) has.0 tt
    statement_lasts (fault name) at next brk most ts n has nx br h = at_point (point_with (stops (Failed name)) most) at n (1 + n) ts h (omega arith) has.0 tt

-- a run from the start is over within the moves of the script
pub each_run_ends : (k : Kind) (b : Statements) (h : Host) → statements_fall b ≡ false → statements_break b ≡ false
    → Lasts k (points_of b) (statements_moves b) (arrive (first_of b) [] h)
each_run_ends k b h ends inside =
    longer k (points_of b) (statements_moves b + 0) (statements_moves b) (arrive (first_of b) [] h) (omega arith)
    (statements_last k (points_of b) b 0 (past b) (past b) [] [] 0 (has_all (points_of b) []) (λ x. absurd (not_both (statements_fall b) ends x))
    (λ x. absurd (not_both (statements_break b) inside x)) h)
