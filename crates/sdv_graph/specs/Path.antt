-- The PATHS of a graph: what happens at each of its points, and where that leads, one point after another.
use Rattle.std.specs.Prelude.{ℕ, zero, suc, List, [], ◌∷◌, Bool, slice_get, Option, Some, None, if◌then◌else◌}
use Rattle.sdv_registers.specs.declared.kind.Kind.{Kind}
use Rattle.sdv_card.specs.declared.guard.Guard.{Guard}
use Rattle.sdv_card.specs.declared.guard.Guard.TheVariants.{Ok as WentWell}
use Rattle.sdv_card.specs.declared.state.Width.{Width}
use Rattle.sdv_card.specs.Guards.{passes}
use Rattle.sdv_card.specs.Host.{Host}
use Rattle.sdv_card.specs.ScriptEvent.{Return}
use Rattle.sdv_graph.specs.declared.tree.ScriptCommand.{ScriptCommand}
use Rattle.sdv_graph.specs.declared.tree.Phase.{Phase}
use Rattle.sdv_graph.specs.declared.tree.Let.{Let}
use Rattle.sdv_graph.specs.declared.tree.Condition.{Condition}
use Rattle.sdv_graph.specs.declared.graph.Target.{Target}
use Rattle.sdv_graph.specs.AddressSent.{position_of_command}
use Rattle.sdv_graph.specs.Conditions.{condition_holds, with_flag, with_lines}
use Rattle.sdv_graph.specs.ValueOfLet.{value_of_let, with_number}
use Rattle.sdv_graph.specs.Walk.{Pair, Ending, Fell, number_fault, Stops, Here, Deed, Acts, command_deed, phase_deed, all_pass}

-- A point without where it lies in memory.

-- a case of a command
pub record Case : Type 0 where
  pub guards : List Guard
  pub target : Target

-- what a statement does, and where it leads
pub data Action : Type 0 where
  sends : ScriptCommand → (cases : List Case) → (other : Target) → Action
  phases : Phase → (well other : Target) → Action
  lets : Let → Target → Action
  tests : Condition → (holds other : Target) → Action
  flags : (flag : ℕ) (on : Bool) → Target → Action
  -- the host uses so many data lines from here on
  widths : Width → Target → Action
  -- the head of a loop
  heads : (count : ℕ) (body other : Target) → Action
  jumps : Target → Action
  stops : Ending → Action

-- with the most turns that are left there of each loop round it, the innermost first
pub record Point : Type 0 where
  pub action : Action
  pub most : List ℕ

-- WHERE A RUN STANDS

-- with the turns left of the loops round the point, the innermost first
pub record Stand : Type 0 where
  pub point : ℕ
  pub turns : List ℕ
  pub host : Host

-- the turns left after so many loops are left
abbrev pub left : ℕ → List ℕ → List ℕ
left zero ts = ts
left (suc n) [] = []
left (suc n) (t ∷ ts) = left n ts

abbrev pub entered : Option ℕ → List ℕ → List ℕ
entered None ts = ts
entered (Some n) ts = n ∷ ts

abbrev pub turns_at : Target → List ℕ → List ℕ
turns_at t ts = entered t.enter (left t.leave ts)

abbrev pub arrive : Target → List ℕ → Host → Stand
arrive t ts h = record { point = t.to; turns = turns_at t ts; host = h }

-- WHAT HAPPENS THERE

pub data Move : Type 0 where
  -- nothing at the port
  Goes : (next : Stand) → Move
  -- something at the port; where that leads depends on what it returned, and on the host after it
  Does : Deed → (before : Host) → (next : Return → Host → Stand) → Move
  Halts : Ending → Move

-- the first case whose guards all hold
abbrev pub way_of : Kind → List Case → Target → Return → Target
way_of k [] other returned = other
way_of k (w ∷ ws) other returned = if all_pass k w.guards returned then w.target else way_of k ws other returned

-- a number is in range, or the run ends in the fault `number`
abbrev pub move_with : Option ℕ → (ℕ → Move) → Move
move_with None on = Halts number_fault
move_with (Some n) on = on n

-- a loop's body while turns are left, and then its else block
abbrev pub move_at_head : List ℕ → (body other : Target) → Host → Move
move_at_head [] body other h = Halts Fell
move_at_head (zero ∷ ts) body other h = Goes (arrive other (zero ∷ ts) h)
move_at_head (suc t ∷ ts) body other h = Goes (arrive body (t ∷ ts) h)

abbrev pub action_move : Kind → Action → List ℕ → Host → Move
action_move k (sends c cases other) ts h =
    move_with (position_of_command h c.address)
    (λ position. Does (command_deed k c h position) h (λ returned h'. arrive (way_of k cases other returned) ts h'))
action_move k (phases p well other) ts h =
    Does (phase_deed p h) h (λ returned h'. arrive (if passes k WentWell returned then well else other) ts h')
action_move k (lets l t) ts h = move_with (value_of_let k h l) (λ n. Goes (arrive t ts (with_number h l.target n)))
action_move k (tests c holds other) ts h = Goes (arrive (if condition_holds h c then holds else other) ts h)
action_move k (flags f on t) ts h = Goes (arrive t ts (with_flag h f on))
action_move k (widths width t) ts h = Goes (arrive t ts (with_lines h width))
action_move k (heads n body other) ts h = move_at_head ts body other h
action_move k (jumps t) ts h = Goes (arrive t ts h)
action_move k (stops last) ts h = Halts last

-- past the last point the script fell off its end
abbrev pub move : Kind → Option Point → List ℕ → Host → Move
move k None ts h = Halts Fell
move k (Some p) ts h = action_move k p.action ts h

abbrev pub move_from : Kind → List Point → Stand → Move
move_from k g s = move k (slice_get g s.point) s.turns s.host

-- PATHS

-- after a move, with what is asked of where it leads
abbrev pub Follows : Kind → Ending → (Stand → List Pair → Type 0) → Move → List Pair → Type 0
Follows k e go (Goes next) es = go next es
Follows k e go (Does deed before next) es = Acts k deed before (λ returned after. go (next returned after)) es
Follows k e go (Halts last) es = Stops e last es

-- a path of less than n moves
abbrev pub PathWithin : Kind → List Point → Ending → ℕ → Stand → List Pair → Type 0
PathWithin k g e zero s es = ⊥
PathWithin k g e (suc n) s es = Here e (Follows k e (PathWithin k g e n) (move_from k g s) es) es

-- the graph does this from there, and ends so
abbrev pub Path : Kind → List Point → Ending → Stand → List Pair → Type 0
Path k g e s es = (n : ℕ) × PathWithin k g e n s es
