-- What a run makes of what its events return.
use Rattle.std.specs.Prelude.{if◌then◌else◌}
use Rattle.std.proofs.Common.{◌≡◌, ◌≤◌, ℕ, List, length, take, Bool, true, false, Option, Some, None, Ok, refl, sym, ap, ◌∙◌, subst, arith, take_all}
use Rattle.sdv_registers.specs.declared.kind.Kind.{Kind}
use Rattle.sdv_card.specs.declared.answer.DataEnd.{DataEnd}
use Rattle.sdv_card.specs.declared.answer.DataEnd.TheVariants as ends
use Rattle.sdv_card.specs.declared.answer.WaitEnd.TheVariants.{Ok as Over, Late}
use Rattle.sdv_card.specs.declared.guard.Guard.TheVariants.{Ok as WentWell}
use Rattle.sdv_card.specs.Card.{Block}
use Rattle.sdv_card.specs.Guards.{passes}
use Rattle.sdv_card.specs.Host.{Host, host_after, ext_csd_known}
use Rattle.sdv_card.specs.ScriptEvent.{ScriptEvent, Return, Answered, BlocksIn, RegisterIn, BlocksOut, Waited, MayReturn}
use Rattle.sdv_graph.specs.declared.graph.Target.{Target}
use Rattle.sdv_graph.specs.declared.tree.ScriptCommand.{ScriptCommand}
use Rattle.sdv_graph.specs.declared.tree.Phase.{Phase}
use Rattle.sdv_graph.specs.declared.tree.Phase.TheVariants as kinds
use Rattle.sdv_graph.specs.AddressSent.{position_of_command}
use Rattle.sdv_graph.specs.Walk.{IsDeed, phase_deed, command_deed}
use Rattle.sdv_graph.specs.Path.{Case, Move, Does, arrive, turns_at, way_of, move_with, action_move, sends, phases}
use Rattle.sdv_run.specs.declared.returned.Returned.{Returned}
use Rattle.sdv_run.specs.declared.returned.Returned.TheVariants as told
use Rattle.sdv_run.specs.Moves.{IsNarrow}
use Rattle.sdv_run.specs.Takes.{Told, TakesPhase, goes_on_with, Took, IsLedTo, IsEvent}

-- an EXT_CSD that came whole
module _ (k : Kind) (h : Host) (register : List ℕ) (all : h.register_length ≡ 512) where
  whole : (end : DataEnd) (bytes : List ℕ) → end ≡ ends.Ok → length bytes ≡ h.register_length → length register ≡ 512 →
      bytes ≡ take (length bytes) register → ext_csd_known h.register_length end bytes h.ext_csd ≡ Some register
  whole end bytes ended fits len front =
      let same : bytes ≡ register = front ∙ ap (λ n. take n register) (fits ∙ all) ∙ take_all 512 register (omega (arith, len)) in
      rw (ended, all, same) refl

  pub took_register : (held : List Block) (event : ScriptEvent) (seen : Return) →
      Told (phase_deed kinds.ReceiveRegister h) (told.RegisterIn ends.Ok register) held event seen →
      (true ≡ passes k WentWell seen) × (record h { ext_csd = Some register } ≡ host_after k event seen h)
  took_register held event (RegisterIn end bytes) t =
      let fits : length bytes ≡ h.register_length = subst (λ v. MayReturn v (RegisterIn end bytes)) t.is t.fits in
      let known = whole end bytes t.tells.0 fits t.tells.1 t.tells.2 in
      let well : true ≡ passes k WentWell (RegisterIn end bytes) = rw t.tells.0 refl in
      subst (λ v. (true ≡ passes k WentWell (RegisterIn end bytes)) × (record h { ext_csd = Some register } ≡ host_after k v (RegisterIn end bytes) h))
      (sym t.is) (well, ap (λ e. record h { ext_csd = e }) (sym known))
  took_register held event (Answered answer) t = absurd t.tells
  took_register held event (BlocksIn end blocks) t = absurd t.tells
  took_register held event (BlocksOut end) t = absurd t.tells
  took_register held event (Waited end) t = absurd t.tells

-- a command's answer leads into few loops
module _ (k : Kind) (c : ScriptCommand) (ways : List Case) (other : Target) (ts : List ℕ) (h : Host) where
  abbrev at_position : ℕ → Move
  at_position position = Does (command_deed k c h position) h (λ returned h'. arrive (way_of k ways other returned) ts h')

  narrow_at : (o : Option ℕ) → IsEvent (move_with o at_position) → IsNarrow (move_with o at_position) → (returned : Return) →
      length (turns_at (way_of k ways other returned) ts) ≤ 4
  narrow_at None event narrow returned = absurd event
  narrow_at (Some position) event narrow returned = narrow returned h

  pub narrow_way : IsEvent (action_move k (sends c ways other) ts h) → IsNarrow (action_move k (sends c ways other) ts h) → (returned : Return) →
      length (turns_at (way_of k ways other returned) ts) ≤ 4
  narrow_way event narrow = narrow_at (position_of_command h c.address) event narrow

-- a phase or a wait
module _ (k : Kind) (phase : Phase) (well other : Target) (ts : List ℕ) (h : Host) where
  pub narrow_end : IsNarrow (action_move k (phases phase well other) ts h) → (b : Bool) → length (turns_at (if b then well else other) ts) ≤ 4
  narrow_end narrow true = narrow (Waited Over) h
  narrow_end narrow false = narrow (Waited Late) h

  pub led_end : (h' : Host) (b : Bool) → IsLedTo (action_move k (phases phase well other) ts h) (arrive (if b then well else other) ts h')
  led_end h' true = (Waited Over, h', refl)
  led_end h' false = (Waited Late, h', refl)

  goes_on : (p : Phase) (event : ScriptEvent) (seen : Return) → IsDeed (phase_deed p h) event → goes_on_with k event seen ≡ true
  goes_on kinds.ReceiveBlocks event seen is = subst (λ v. goes_on_with k v seen ≡ true) (sym is) refl
  goes_on kinds.ReceiveRegister event seen is = subst (λ v. goes_on_with k v seen ≡ true) (sym is) refl
  goes_on kinds.GiveBlocks event seen is = subst (λ v. goes_on_with k v seen ≡ true) (sym is.2) refl
  goes_on kinds.Wait event seen is = subst (λ v. goes_on_with k v seen ≡ true) (sym is) refl

  pub took_end : (returned : Returned) (h' : Host) (b : Bool) → TakesPhase k phase returned h h' (Ok b) →
      Took k (action_move k (phases phase well other) ts h) returned (arrive (if b then well else other) ts h') (Ok tt)
  took_end returned h' b takes held event seen t =
      let p = takes held event seen t in
      (goes_on phase event seen t.is, rw (p.0, p.1) refl)
