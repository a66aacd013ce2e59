-- Where a run can stand in a graph: at a point, within its limits, with turns left that the point can have.
use Rattle.std.proofs.Common.{◌≡◌, ℕ, zero, suc, ◌-◌, ◌<◌, ◌≤◌, List, [], ◌∷◌, length, Bool, true, false, Option, Some, None, refl, subst, arith, lit≤, leb-true, ltb-true}
use Rattle.std.specs.Prelude.{slice_get, ◌&&◌, nat_le, if◌then◌else◌}
use Rattle.sdv_registers.specs.declared.kind.Kind.{Kind}
use Rattle.sdv_card.specs.declared.guard.Guard.TheVariants.{Ok as WentWell}
use Rattle.sdv_card.specs.Guards.{passes}
use Rattle.sdv_card.specs.Host.{Host}
use Rattle.sdv_card.specs.ScriptEvent.{Return}
use Rattle.sdv_graph.specs.declared.graph.Target.{Target}
use Rattle.sdv_script.specs.Rules.{max_flags, max_loops, max_name}
use Rattle.sdv_graph.specs.AddressSent.{position_of_command}
use Rattle.sdv_graph.specs.Conditions.{condition_holds, with_flag, with_lines}
use Rattle.sdv_graph.specs.ValueOfLet.{value_of_let, with_number}
use Rattle.sdv_graph.specs.Walk.{Fell, Broke, Finished, Failed, Open, command_deed, all_pass}
use Rattle.sdv_graph.specs.Path.{Case, Action, Point, sends, phases, lets, tests, flags, widths, heads, jumps, stops, Stand, arrive, Move, Goes, Does, Halts, way_of, move_with, action_move, move}
use Rattle.sdv_graph.specs.declared.graph.Action.{Action as CodeAction}
use Rattle.sdv_graph.specs.declared.graph.Action.TheVariants as actions
use Rattle.sdv_graph.specs.Graph.{Graph, WhereverTo, Lasts, begin, seen_action}
use Rattle.sdv_graph.specs.Nested.{InBox, Same, EachCase, EachTarget, Lands}
use Rattle.sdv_graph.specs.Limits.{action_keeps_limits, keeps_limits, all_keep_limits}
use Rattle.sdv_graph.specs.GraphOf.{IsSound}
use Rattle.sdv_run.specs.Moves.{IsNarrow, IsInRange}

-- wherever a move leads, if it leads anywhere
abbrev pub Onward : (Stand → Type 0) → Move → Type 0
Onward P (Goes next) = P next
Onward P (Does deed before next) = (returned : Return) (after : Host) → P (next returned after)
Onward P (Halts last) = Unit {0}

box_length : (ts most : List ℕ) → InBox ts most → length ts ≡ length most
box_length [] [] box = refl
box_length [] (n ∷ most) box = absurd box
box_length (t ∷ ts) [] box = absurd box
box_length (t ∷ ts) (n ∷ most) box = let e = box_length ts most box.1 in omega (arith, e)

one_of : (a b : Bool) → a && b ≡ true → (a ≡ true) × (b ≡ true)
one_of true b p = (refl, p)
one_of false b p = absurd (cc)

keeps_at : (ps : List Point) (i : ℕ) (p : Point) → all_keep_limits ps ≡ true → slice_get ps i ≡ Some p → keeps_limits p ≡ true
keeps_at [] i p all here = absurd (cc)
keeps_at (q ∷ ps) zero p all here =
    let e : q ≡ p = cc in
    subst (λ q. keeps_limits q ≡ true) e (one_of (keeps_limits q) (all_keep_limits ps) all).0
keeps_at (q ∷ ps) (suc i) p all here = keeps_at ps i p (one_of (keeps_limits q) (all_keep_limits ps) all).1 here

few_at : (ps : List Point) (i : ℕ) (p : Point) → all_keep_limits ps ≡ true → slice_get ps i ≡ Some p →
    (action_keeps_limits p.action ≡ true) × (length p.most ≤ max_loops)
few_at ps i p all here =
    let keeps = one_of (action_keeps_limits p.action) (nat_le (length p.most) max_loops) (keeps_at ps i p all here) in
    (keeps.0, leb-true (length p.most) max_loops keeps.1)

module _ (k : Kind) (g : List Point) where
  -- the turns left are those that the point can have
  abbrev pub Sits : Stand → Type 0
  Sits s = (p : Point) → slice_get g s.point ≡ Some p → InBox s.turns p.most

  -- A run that lasts stands at a point.
  abbrev pub StandsAt : ℕ → Stand → Type 0
  StandsAt n s = (p : Point) × (slice_get g s.point ≡ Some p) × WhereverTo (Lasts k g (n - 1)) (action_move k p.action s.turns s.host)

  found : (n : ℕ) (s : Stand) (o : Option Point) → slice_get g s.point ≡ o → WhereverTo (Lasts k g n) (move k o s.turns s.host) →
      (p : Point) × (slice_get g s.point ≡ Some p) × WhereverTo (Lasts k g n) (action_move k p.action s.turns s.host)
  found n s None here lasts = absurd lasts
  found n s (Some p) here lasts = (p, here, lasts)

  pub stands_at : (n : ℕ) (s : Stand) → Lasts k g n s → StandsAt n s
  stands_at zero s lasts = absurd lasts
  stands_at (suc n) s lasts =
      let e : n ≡ suc n - 1 = omega arith in
      subst (λ m. (p : Point) × (slice_get g s.point ≡ Some p) × WhereverTo (Lasts k g m) (action_move k p.action s.turns s.host)) e
      (found n s (slice_get g s.point) refl lasts)

  -- It leads to where it sits again.
  module _ (most : List ℕ) where
    lands : (t : Target) (ts : List ℕ) (h : Host) → Lands g most Same t → InBox ts most → Sits (arrive t ts h)
    lands t ts h reached box p here = reached p here ts ts box refl

    either_lands : (b : Bool) (t u : Target) → Lands g most Same t → Lands g most Same u → Lands g most Same (if b then t else u)
    either_lands true t u p q = p
    either_lands false t u p q = q

    way_lands : (ws : List Case) (other : Target) (returned : Return) → EachCase ws (Lands g most) → Lands g most Same other →
        Lands g most Same (way_of k ws other returned)
    way_lands [] other returned each o = o
    way_lands (w ∷ ws) other returned each o =
        either_lands (all_pass k w.guards returned) w.target (way_of k ws other returned) each.0 (way_lands ws other returned each.1 o)

    with_onward : (P : Stand → Type 0) (o : Option ℕ) (on : ℕ → Move) → ((n : ℕ) → Onward P (on n)) → Onward P (move_with o on)
    with_onward P None on f = tt
    with_onward P (Some n) on f = f n

    sits_on : (action : Action) (ts : List ℕ) (h : Host) → InBox ts most → EachTarget action (Lands g most) → Onward Sits (action_move k action ts h)
    sits_on (sends c ways other) ts h box each =
        with_onward Sits (position_of_command h c.address)
        (λ position. Does (command_deed k c h position) h (λ returned h'. arrive (way_of k ways other returned) ts h'))
        (λ n returned after. lands (way_of k ways other returned) ts after (way_lands ways other returned each.0 each.1) box)
    sits_on (phases p well other) ts h box each = λ returned after.
        lands (if passes k WentWell returned then well else other) ts after (either_lands (passes k WentWell returned) well other each.0 each.1) box
    sits_on (lets l t) ts h box each =
        with_onward Sits (value_of_let k h l) (λ n. Goes (arrive t ts (with_number h l.target n))) (λ n. lands t ts (with_number h l.target n) each box)
    sits_on (tests c holds other) ts h box each =
        lands (if condition_holds h c then holds else other) ts h (either_lands (condition_holds h c) holds other each.0 each.1) box
    sits_on (flags f on t) ts h box each = lands t ts (with_flag h f on) each box
    sits_on (widths width t) ts h box each = lands t ts (with_lines h width) each box
    sits_on (heads n body other) [] h box each = tt
    sits_on (heads n body other) (zero ∷ ts) h box each = λ p here. each.1 p here (zero ∷ ts) (zero ∷ ts) box refl
    sits_on (heads n body other) (suc t ∷ ts) h box each = λ p here. each.0 p here (suc t ∷ ts) (t ∷ ts) box refl
    sits_on (jumps t) ts h box each = lands t ts h each box
    sits_on (stops last) ts h box each = tt

-- few loops stand round a place where a run stands
short_at : (k : Kind) (g : List Point) (n : ℕ) (s : Stand) → all_keep_limits g ≡ true → Lasts k g n s → Sits k g s → length s.turns ≤ 4
short_at k g n s limits lasts sits =
    let there = stands_at k g n s lasts in
    let same = box_length s.turns there.0.most (sits there.0 there.1) in
    let few = few_at g s.point there.0 limits there.1 in
    omega (arith, same, few.1)

-- the name of a fault is no longer than a name
abbrev EndFits : Move → Type 0
EndFits (Halts (Failed name)) = length name ≤ 16
EndFits m = Unit {0}

with_end_fits : (o : Option ℕ) (on : ℕ → Move) → ((n : ℕ) → EndFits (on n)) → EndFits (move_with o on)
with_end_fits None on f = lit≤ tt
with_end_fits (Some n) on f = f n

end_fits : (k : Kind) (action : Action) (ts : List ℕ) (h : Host) → action_keeps_limits action ≡ true → EndFits (action_move k action ts h)
end_fits k (sends c ways other) ts h keeps =
    with_end_fits (position_of_command h c.address)
    (λ position. Does (command_deed k c h position) h (λ returned h'. arrive (way_of k ways other returned) ts h')) (λ n. tt)
end_fits k (phases p well other) ts h keeps = tt
end_fits k (lets l t) ts h keeps = with_end_fits (value_of_let k h l) (λ n. Goes (arrive t ts (with_number h l.target n))) (λ n. tt)
end_fits k (tests c holds other) ts h keeps = tt
end_fits k (flags f on t) ts h keeps = tt
end_fits k (widths width t) ts h keeps = tt
end_fits k (heads n body other) [] h keeps = tt
end_fits k (heads n body other) (zero ∷ ts) h keeps = tt
end_fits k (heads n body other) (suc t ∷ ts) h keeps = tt
end_fits k (jumps t) ts h keeps = tt
end_fits k (stops Fell) ts h keeps = tt
end_fits k (stops Broke) ts h keeps = tt
end_fits k (stops Finished) ts h keeps = tt
end_fits k (stops (Failed name)) ts h keeps = leb-true (length name) max_name keeps
end_fits k (stops Open) ts h keeps = tt

pub narrow : (k : Kind) (g : List Point) (n : ℕ) (m : Move) → all_keep_limits g ≡ true → WhereverTo (Lasts k g n) m → Onward (Sits k g) m → EndFits m →
    IsNarrow m
narrow k g n (Goes next) limits lasts sits fits = short_at k g n next limits lasts sits
narrow k g n (Does deed before next) limits lasts sits fits =
    λ returned after. short_at k g n (next returned after) limits (lasts returned after) (sits returned after)
narrow k g n (Halts Fell) limits lasts sits fits = absurd lasts
narrow k g n (Halts Broke) limits lasts sits fits = absurd lasts
narrow k g n (Halts Finished) limits lasts sits fits = tt
narrow k g n (Halts (Failed name)) limits lasts sits fits = fits
narrow k g n (Halts Open) limits lasts sits fits = absurd lasts

-- A point of a sound graph where a run stands, with all that a move there needs.
pub record Ready (k : Kind) (g : List Point) (n : ℕ) (s : Stand) (p : Point) : Type 0 where
  pub keeps : action_keeps_limits p.action ≡ true
  pub narrow : IsNarrow (action_move k p.action s.turns s.host)
  pub lasts : WhereverTo (Lasts k g (n - 1)) (action_move k p.action s.turns s.host)
  pub sits : Onward (Sits k g) (action_move k p.action s.turns s.host)

pub ready : (f : Graph) (n : ℕ) (s : Stand) (p : Point) → IsSound f → Lasts f.kind f.points n s → Sits f.kind f.points s → slice_get f.points s.point ≡ Some p →
    Ready f.kind f.points n s p
ready f n s p sound lasts sits here =
    let k = f.kind in
    let g = f.points in
    let there = stands_at k g n s lasts in
    let same : there.0 ≡ p = cc in
    let more : WhereverTo (Lasts k g (n - 1)) (action_move k p.action s.turns s.host) =
    subst (λ q. WhereverTo (Lasts k g (n - 1)) (action_move k q.action s.turns s.host)) same there.2 in
    let keeps = few_at g s.point p sound.limits here in
    let on = sits_on k g p.most p.action s.turns s.host (sits p here) (sound.nested.lands s.point p here) in
    record {
      keeps = keeps.0;
      narrow = narrow k g (n - 1) (action_move k p.action s.turns s.host) sound.limits more on (end_fits k p.action s.turns s.host keeps.0);
      lasts = more;
      sits = on;
    }

within : (ps : List Point) (i : ℕ) (p : Point) → slice_get ps i ≡ Some p → i < length ps
within [] i p here = absurd (cc)
within (q ∷ ps) zero p here = omega arith
within (q ∷ ps) (suc i) p here = let lt = within ps i p here in omega (arith, lt)

-- it is one of the graph's points
pub is_point : (k : Kind) (g : List Point) (n : ℕ) (s : Stand) → Lasts k g n s → s.point < length g
is_point k g n s lasts = let there = stands_at k g n s lasts in within g s.point there.0 there.1

-- a run begins so
pub begins_sitting : (f : Graph) → IsSound f → Sits f.kind f.points (begin f)
begins_sitting f sound p here =
    let at : slice_get f.points 0 ≡ Some p = subst (λ i. slice_get f.points i ≡ Some p) sound.nested.first_point here in
    sound.nested.first_turns p at

pub begins_short : (f : Graph) → IsSound f → length (begin f).turns ≤ 4
begins_short f sound = short_at f.kind f.points f.steps (begin f) sound.limits sound.ends (begins_sitting f sound)

-- A statement that keeps the limits is in range.
pub in_range : (a : CodeAction) → action_keeps_limits (seen_action a) ≡ true → IsInRange a
in_range (actions.Send c ways other) keeps = ltb-true c.ask.index 64 keeps
in_range (actions.Phase phase well other) keeps = tt
in_range (actions.Let l t) keeps = tt
in_range (actions.If c holds other) keeps = tt
in_range (actions.Flag flag on t) keeps = let lt = ltb-true flag max_flags keeps in omega (arith, lt)
in_range (actions.Lines width t) keeps = tt
in_range (actions.Loop n body other) keeps = tt
in_range (actions.Break t) keeps = tt
in_range actions.Done keeps = tt
in_range (actions.Fault name) keeps = tt
