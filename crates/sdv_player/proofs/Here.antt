-- What there is at the point of a state that stands for a run.
use Rattle.std.proofs.Common.{◌≡◌, ℕ, List, Option, Some, None, Result, sym, ap, ◌∙◌, subst, arith}
use Rattle.std.specs.Prelude.{slice_get, option_map}
use Rattle.sdv_registers.specs.declared.kind.Kind.{Kind}
use Rattle.sdv_graph.specs.Walk.{Finished, Failed, Fell, Broke, Open}
use Rattle.sdv_graph.specs.Path.{Action, sends, phases, lets, tests, flags, widths, heads, jumps, stops, Point, Move, Goes, Does, Halts, action_move}
use Rattle.sdv_graph.specs.Graph.{Graph}
use Rattle.sdv_run.specs.declared.fault.RunFault.{RunFault}
use Rattle.sdv_run.specs.declared.next_event.NextEvent.{NextEvent}
use Rattle.sdv_run.specs.Asks.{AsksFor}
use Rattle.sdv_run.specs.Moves.{IsNarrow}
use Rattle.sdv_run.specs.Machine.{now}
use Rattle.sdv_run.proofs.AtPoints.{stands_at}
use Rattle.sdv_run.proofs.Machines.{here_is, ready_at}
use Rattle.sdv_table.specs.declared.counts.Counts.{Counts}
use Rattle.sdv_table.specs.declared.sending.Sending.{Sending}
use Rattle.sdv_table.specs.Fits.{IsTable, IsOfKind, CountsFit, ActionFits}
use Rattle.sdv_table.specs.Loading.{IsSentRight}
use Rattle.sdv_table.specs.Reading.{commands_read}
use Rattle.sdv_table.proofs.Places.{there}
use Rattle.sdv_player.specs.declared.state.State.{State}
use Rattle.sdv_player.specs.Asking.{IsSent}
use Rattle.sdv_player.specs.Passing.{IsNear, NamesFlag, move_at}
use Rattle.sdv_player.specs.Seen.{Registers, turns_of, host_of, stand_of}
use Rattle.sdv_player.specs.StandsFor.{run_of, StandsFor}

near_of : (m : Move) → IsNarrow m → IsNear m
near_of (Goes next) narrow = narrow
near_of (Does deed before next) narrow = narrow
near_of (Halts Finished) narrow = tt
near_of (Halts (Failed name)) narrow = tt
near_of (Halts Fell) narrow = absurd narrow
near_of (Halts Broke) narrow = absurd narrow
near_of (Halts Open) narrow = absurd narrow

names_flag : (k : Kind) (c : Counts) (a : Action) → CountsFit c → ActionFits k c a → NamesFlag a
names_flag k c (flags f on t) counts fits =
    let less = fits.parts.0 in
    let few = counts.flags in
    omega (arith, less, few)
names_flag k c (sends command cases other) counts fits = tt
names_flag k c (phases p well other) counts fits = tt
names_flag k c (lets l t) counts fits = tt
names_flag k c (tests condition holds other) counts fits = tt
names_flag k c (widths width t) counts fits = tt
names_flag k c (heads n body other) counts fits = tt
names_flag k c (jumps t) counts fits = tt
names_flag k c (stops last) counts fits = tt

-- the graph's point, and what happens there
pub record Here (g : Graph) (ws : List ℕ) (s : State) (r : Registers) : Type 0 where
  pub point : Point
  pub there : slice_get g.points s.place.point ≡ Some point
  pub now_is : now (run_of g s r) ≡ action_move g.kind point.action (turns_of s.place) (host_of s.host r)
  pub near : IsNear (now (run_of g s r))
  pub flag : NamesFlag point.action
  pub order : IsOfKind g.kind point.action

pub here : (g : Graph) (ws : List ℕ) (s : State) (r : Registers) → StandsFor g ws s r → Here g ws s r
here g ws s r stands =
    let at = stands_at g.kind g.points s.moves (stand_of s r) stands.on.lasts in
    let p = at.0 in
    let is = here_is g (stand_of s r) p at.1 in
    let ready = ready_at (run_of g s r) p stands.on at.1 in
    let fits = (there g s.place.point p stands.table at.1).fits in
    record {
      point = p;
      there = at.1;
      now_is = is;
      near = subst IsNear (sym is) (near_of (action_move g.kind p.action (turns_of s.place) (host_of s.host r)) ready.narrow);
      flag = names_flag g.kind _ p.action stands.table.fits.counts fits;
      order = fits.of_kind;
    }

-- THE ROW

some_same : (a b : Action) → Some a ≡ Some b → a ≡ b
some_same a b e = cc

is_sent : (k : Kind) (a : Action) (sending : Sending) → IsSentRight k a sending → IsOfKind k a → IsSent k a sending
is_sent k (sends c cases other) sending right order = (right, order)
is_sent k (phases p well other) sending right order = tt
is_sent k (lets l t) sending right order = tt
is_sent k (tests condition holds other) sending right order = tt
is_sent k (flags f on t) sending right order = tt
is_sent k (widths width t) sending right order = tt
is_sent k (heads n body other) sending right order = tt
is_sent k (jumps t) sending right order = tt
is_sent k (stops last) sending right order = tt

-- what is read there is what the graph has
abbrev pub Reads : List ℕ → ℕ → Option Action → Type 0
Reads ws i read = (g : Graph) (most : ℕ) → IsTable g most ws → read ≡ option_map (λ p. p.action) (slice_get g.points i)

abbrev pub ReadsSending : List ℕ → ℕ → Sending → Type 0
ReadsSending ws i sending =
    (g : Graph) (most : ℕ) → IsTable g most ws → (p : Point) → slice_get g.points i ≡ Some p → IsSentRight g.kind p.action sending

module _ (g : Graph) (ws : List ℕ) (s : State) (r : Registers) (stands : StandsFor g ws s r) where
  -- it is the action of the graph's point
  pub read_is : (o : Option Action) → Reads ws s.place.point o → o ≡ Some (here g ws s r stands).point.action
  read_is o read =
      let at = here g ws s r stands in
      read g (commands_read ws) stands.table ∙ ap (λ o. option_map (λ p. p.action) o) at.there

  -- so there is one
  pub some_row : Reads ws s.place.point None → ⊥
  some_row read = let e = read_is None read in absurd (cc)

  module _ (a : Action) (read : Reads ws s.place.point (Some a)) where
    same : a ≡ (here g ws s r stands).point.action
    same = some_same a (here g ws s r stands).point.action (read_is (Some a) read)

    -- what happens there, by its row
    pub by_row : now (run_of g s r) ≡ action_move g.kind a (turns_of s.place) (host_of s.host r)
    by_row = (here g ws s r stands).now_is ∙ ap (λ a. action_move g.kind a (turns_of s.place) (host_of s.host r)) (sym same)

    pub by_state : now (run_of g s r) ≡ move_at s r a
    by_state = by_row ∙ ap (λ k. action_move k a (turns_of s.place) (host_of s.host r)) (sym stands.kind)

    pub flag_of_row : NamesFlag a
    flag_of_row = subst NamesFlag (sym same) (here g ws s r stands).flag

    pub sent_of_row : (sending : Sending) → ReadsSending ws s.place.point sending → IsSent g.kind a sending
    sent_of_row sending sent =
        let at = here g ws s r stands in
        subst (λ a. IsSent g.kind a sending) (sym same)
        (is_sent g.kind at.point.action sending (sent g (commands_read ws) stands.table at.point at.there) at.order)

    -- the event that it asks for
    pub asks_here : (sending : Sending) (result : Result (Option NextEvent) RunFault) → ReadsSending ws s.place.point sending →
        ((r : Registers) (k : Kind) (ts : List ℕ) → IsSent k a sending → AsksFor (action_move k a ts (host_of s.host r)) result) →
        AsksFor (now (run_of g s r)) result
    asks_here sending result sent asks =
        subst (λ m. AsksFor m result) (sym by_row) (asks r g.kind (turns_of s.place) (sent_of_row sending sent))
