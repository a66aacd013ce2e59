-- What a player makes of the end of a phase or a wait is what the run makes of it.
use Rattle.std.proofs.Common.{◌≡◌, ◌==◌, ℕ, zero, suc, List, [], ◌∷◌, length, take, Bool, true, false, Option, Some, None, Ok, Err, refl, sym, ap, ◌∙◌, subst, arith, eqb-true, take_all}
use Rattle.std.specs.Prelude.{if◌then◌else◌}
use Rattle.sdv_registers.specs.declared.kind.Kind.{Kind}
use Rattle.sdv_card.specs.declared.answer.DataEnd.{DataEnd}
use Rattle.sdv_card.specs.declared.answer.DataEnd.TheVariants as ends
use Rattle.sdv_card.specs.declared.answer.WaitEnd.{WaitEnd}
use Rattle.sdv_card.specs.declared.answer.WaitEnd.TheVariants as waits
use Rattle.sdv_card.specs.declared.guard.Guard.TheVariants.{Ok as WentWell}
use Rattle.sdv_card.specs.declared.state.Width.{Width}
use Rattle.sdv_card.specs.Card.{Block}
use Rattle.sdv_card.specs.Guards.{passes}
use Rattle.sdv_card.specs.declared.answer.Answer.{Answer}
use Rattle.sdv_card.specs.declared.event.Ask.{Ask}
use Rattle.sdv_card.specs.CommandTable.{argument_of}
use Rattle.sdv_card.specs.Host.{Host, host_after, ext_csd_known}
use Rattle.sdv_card.specs.ScriptEvent.{ScriptEvent, SendCommand, ReceiveBlocks, ReceiveRegister, GiveBlocks, AwaitReady, Return, Answered, BlocksIn, RegisterIn, BlocksOut, Waited, MayReturn}
use Rattle.sdv_graph.specs.declared.tree.Phase.{Phase}
use Rattle.sdv_graph.specs.declared.tree.Phase.TheVariants as kinds
use Rattle.sdv_graph.specs.declared.tree.ScriptCommand.{ScriptCommand}
use Rattle.sdv_graph.specs.AddressSent.{position_of_command, address_of_command}
use Rattle.sdv_graph.specs.ValueOfLet.{value_of_let, with_number}
use Rattle.sdv_graph.specs.Walk.{command_deed}
use Rattle.sdv_graph.specs.Path.{Action, sends, phases, lets, tests, flags, widths, heads, jumps, stops, Stand, Goes, Does, arrive, way_of, move_with, action_move}
use Rattle.sdv_run.specs.declared.fault.RunFault.TheVariants.{Reply}
use Rattle.sdv_run.specs.declared.returned.Returned.{Returned}
use Rattle.sdv_run.specs.declared.returned.Returned.TheVariants as told
use Rattle.sdv_run.specs.Takes.{Tells, TakesPhase, Took}
use Rattle.sdv_player.specs.Rows.{IsNoPhase}
use Rattle.sdv_player.specs.Hearing.{registers_kept, registers_ended}
use Rattle.sdv_player.specs.Play.{is_well, is_over, IsEnd}
use Rattle.sdv_player.specs.declared.host.HostNumbers.{HostNumbers}
use Rattle.sdv_player.specs.Seen.{Registers, lines_of, host_of}

data_well : (k : Kind) (end : DataEnd) (blocks : List Block) → is_well end ≡ passes k WentWell (BlocksIn end blocks)
data_well k ends.Ok blocks = refl
data_well k ends.Cut blocks = refl

register_well : (k : Kind) (end : DataEnd) (bytes : List ℕ) → is_well end ≡ passes k WentWell (RegisterIn end bytes)
register_well k ends.Ok bytes = refl
register_well k ends.Cut bytes = refl

given_well : (k : Kind) (end : DataEnd) → is_well end ≡ passes k WentWell (BlocksOut end)
given_well k ends.Ok = refl
given_well k ends.Cut = refl

wait_over : (k : Kind) (end : WaitEnd) → is_over end ≡ passes k WentWell (Waited end)
wait_over k waits.Ok = refl
wait_over k waits.Late = refl

-- AN EXT_CSD

not_kept : (n : ℕ) (came : Option (List ℕ)) (r : Registers) → (n == 512) ≡ false → registers_kept n came r ≡ r
not_kept n None r other = refl
not_kept n (Some bytes) r other = ap (λ b. if b then record r { ext_csd = Some bytes } else r) other

module _ (n : ℕ) (came : Option (List ℕ)) (r : Registers) where
  abbrev with_ext_csd : Option (List ℕ) → Registers
  with_ext_csd ext_csd = record r { ext_csd = ext_csd }

  kept_if : (b : Bool) (register bytes : List ℕ) → (n == 512) ≡ b → length register ≡ 512 → length bytes ≡ n → bytes ≡ take (length bytes) register →
      (n ≡ 512 → came ≡ Some register) → registers_kept n came r ≡ with_ext_csd (if b then Some bytes else r.ext_csd)
  kept_if true register bytes is long fits front all =
      let is_512 = eqb-true n 512 is in
      let same : bytes ≡ register = front ∙ ap (λ m. take m register) (fits ∙ is_512) ∙ take_all 512 register (omega (arith, long)) in
      ap (λ o. registers_kept n o r) (all is_512) ∙ ap (λ b. if b then with_ext_csd (Some register) else r) is
      ∙ ap (λ v. with_ext_csd (Some v)) (sym same)
  kept_if false register bytes is long fits front all = not_kept n came r is

  ended_if : (well : Bool) (end : DataEnd) (register bytes : List ℕ) → well ≡ is_well end → length register ≡ 512 → length bytes ≡ n →
      bytes ≡ take (length bytes) register → (well ≡ true → n ≡ 512 → came ≡ Some register) →
      registers_ended kinds.ReceiveRegister well n came r ≡ with_ext_csd (ext_csd_known n end bytes r.ext_csd)
  ended_if true ends.Ok register bytes is long fits front all = kept_if (n == 512) register bytes refl long fits front (all refl)
  ended_if false ends.Cut register bytes is long fits front all = refl
  ended_if true ends.Cut register bytes is long fits front all = absurd (cc)
  ended_if false ends.Ok register bytes is long fits front all = absurd (cc)

-- A PHASE OR A WAIT

module _ (k : Kind) (s : HostNumbers) (r : Registers) (well : Bool) (came : Option (List ℕ)) (held : List Block) where
  abbrev n : ℕ
  n = s.register_length

  blocks_told : (returned : Returned) → IsEnd returned n well came → (end : DataEnd) (blocks : List Block) → Tells returned held (BlocksIn end blocks) →
      well ≡ passes k WentWell (BlocksIn end blocks)
  blocks_told (told.BlocksIn e) is end blocks tells = is ∙ ap is_well (sym tells.0) ∙ data_well k end blocks
  blocks_told returned is end blocks tells = absurd tells

  blocks_seen : (lines : Width) (count : ℕ) (returned : Returned) → IsEnd returned n well came → (seen : Return) → MayReturn (ReceiveBlocks lines count) seen →
      Tells returned held seen → well ≡ passes k WentWell seen
  blocks_seen lines count returned is (BlocksIn end blocks) fits tells = blocks_told returned is end blocks tells
  blocks_seen lines count returned is seen fits tells = absurd fits

  given_told : (returned : Returned) → IsEnd returned n well came → (end : DataEnd) → Tells returned held (BlocksOut end) →
      well ≡ passes k WentWell (BlocksOut end)
  given_told (told.BlocksOut e) is end tells = is ∙ ap is_well (sym tells) ∙ given_well k end
  given_told returned is end tells = absurd tells

  given_seen : (lines : Width) (blocks : List Block) (returned : Returned) → IsEnd returned n well came → (seen : Return) →
      MayReturn (GiveBlocks lines blocks) seen → Tells returned held seen → well ≡ passes k WentWell seen
  given_seen lines blocks returned is (BlocksOut end) fits tells = given_told returned is end tells
  given_seen lines blocks returned is seen fits tells = absurd fits

  waited_told : (returned : Returned) → IsEnd returned n well came → (end : WaitEnd) → Tells returned held (Waited end) →
      well ≡ passes k WentWell (Waited end)
  waited_told (told.Waited e) is end tells = is ∙ ap is_over (sym tells) ∙ wait_over k end
  waited_told returned is end tells = absurd tells

  waited_seen : (returned : Returned) → IsEnd returned n well came → (seen : Return) → MayReturn AwaitReady seen → Tells returned held seen →
      well ≡ passes k WentWell seen
  waited_seen returned is (Waited end) fits tells = waited_told returned is end tells
  waited_seen returned is seen fits tells = absurd fits

  abbrev Kept : Return → Type 0
  Kept seen =
      (well ≡ passes k WentWell seen)
      × (host_of s (registers_ended kinds.ReceiveRegister well n came r) ≡ host_after k (ReceiveRegister (lines_of s.lines) n) seen (host_of s r))

  register_told : (returned : Returned) → IsEnd returned n well came → (end : DataEnd) (bytes : List ℕ) → length bytes ≡ n →
      Tells returned held (RegisterIn end bytes) → Kept (RegisterIn end bytes)
  register_told (told.RegisterIn e register) is end bytes fits tells =
      let well_is : well ≡ is_well end = is.0 ∙ ap is_well (sym tells.0) in (
        well_is ∙ register_well k end bytes,
        ap (λ v. host_of s v) (ended_if n came r well end register bytes well_is tells.1 fits tells.2 is.1),
      )
  register_told returned is end bytes fits tells = absurd tells

  register_seen : (returned : Returned) → IsEnd returned n well came → (seen : Return) → MayReturn (ReceiveRegister (lines_of s.lines) n) seen →
      Tells returned held seen → Kept seen
  register_seen returned is (RegisterIn end bytes) fits tells = register_told returned is end bytes fits tells
  register_seen returned is seen fits tells = absurd fits

module _ (k : Kind) (s : HostNumbers) (r : Registers) (well : Bool) (came : Option (List ℕ)) (returned : Returned)
    (is : IsEnd returned s.register_length well came) where
  abbrev Taken : Phase → ScriptEvent → Return → Type 0
  Taken p event seen =
      (well ≡ passes k WentWell seen)
      × (host_of s (registers_ended p well s.register_length came r) ≡ host_after k event seen (host_of s r))

  taken_at : (p : Phase) (wanted event : ScriptEvent) (seen : Return) → event ≡ wanted → Taken p wanted seen → Taken p event seen
  taken_at p wanted event seen e taken = subst (λ v. Taken p v seen) (sym e) taken

  may : (wanted event : ScriptEvent) (seen : Return) → event ≡ wanted → MayReturn event seen → MayReturn wanted seen
  may wanted event seen e fits = subst (λ v. MayReturn v seen) e fits

  -- the end is that of the event, and the host is the run's
  pub takes_phase : (p : Phase) → TakesPhase k p returned (host_of s r) (host_of s (registers_ended p well s.register_length came r)) (Ok well)
  takes_phase kinds.ReceiveBlocks held event seen t =
      let wanted = ReceiveBlocks (lines_of s.lines) s.announced in
      taken_at kinds.ReceiveBlocks wanted event seen t.is
      (blocks_seen k s r well came held (lines_of s.lines) s.announced returned is seen (may wanted event seen t.is t.fits) t.tells, refl)
  takes_phase kinds.ReceiveRegister held event seen t =
      let wanted = ReceiveRegister (lines_of s.lines) s.register_length in
      taken_at kinds.ReceiveRegister wanted event seen t.is
      (register_seen k s r well came held returned is seen (may wanted event seen t.is t.fits) t.tells)
  takes_phase kinds.GiveBlocks held event seen t =
      let wanted = GiveBlocks (lines_of s.lines) t.is.0 in
      taken_at kinds.GiveBlocks wanted event seen t.is.2
      (given_seen k s r well came held (lines_of s.lines) t.is.0 returned is seen (may wanted event seen t.is.2 t.fits) t.tells, refl)
  takes_phase kinds.Wait held event seen t =
      taken_at kinds.Wait AwaitReady event seen t.is
      (waited_seen k s r well came held returned is seen (may AwaitReady event seen t.is t.fits) t.tells, refl)

-- WHERE NO PHASE STANDS

module _ (k : Kind) (returned : Returned) (n : ℕ) (well : Bool) (came : Option (List ℕ)) (is : IsEnd returned n well came) (stand : Stand) where
  no_answer_told : (returned : Returned) → IsEnd returned n well came → (held : List Block) (a : Answer) → Tells returned held (Answered a) → ⊥
  no_answer_told (told.Answered b) is held a tells = absurd is
  no_answer_told returned is held a tells = absurd tells

  no_end : (ask : Ask) (position argument : ℕ) (held : List Block) (seen : Return) → MayReturn (SendCommand ask position argument) seen →
      Tells returned held seen → ⊥
  no_end ask position argument held (Answered a) fits tells = no_answer_told returned is held a tells
  no_end ask position argument held seen fits tells = absurd fits

  no_end_at : (c : ScriptCommand) (h : Host) (on : Return → Host → Stand) (o : Option ℕ) →
      Took k (move_with o (λ position. Does (command_deed k c h position) h on)) returned stand (Err Reply)
  no_end_at c h on None = tt
  no_end_at c h on (Some position) = λ held event seen t.
      let argument = argument_of k c.ask h.rca (address_of_command h c.address position) in
      absurd (no_end c.ask position argument held seen (subst (λ v. MayReturn v seen) t.is t.fits) t.tells)

  went_silent : (o : Option ℕ) (on : ℕ → Stand) → Took k (move_with o (λ n. Goes (on n))) returned stand (Err Reply)
  went_silent None on = tt
  went_silent (Some n) on = tt

  -- no end is taken there
  pub no_phase : (action : Action) (ts : List ℕ) (h : Host) → IsNoPhase (Some action) → Took k (action_move k action ts h) returned stand (Err Reply)
  no_phase (sends c cases other) ts h none = no_end_at c h (λ returned h'. arrive (way_of k cases other returned) ts h') (position_of_command h c.address)
  no_phase (phases p well other) ts h none = absurd none
  no_phase (lets l t) ts h none = went_silent (value_of_let k h l) (λ n. arrive t ts (with_number h l.target n))
  no_phase (tests c holds other) ts h none = tt
  no_phase (flags f on t) ts h none = tt
  no_phase (widths width t) ts h none = tt
  no_phase (heads n body other) [] h none = tt
  no_phase (heads n body other) (zero ∷ ts) h none = tt
  no_phase (heads n body other) (suc t ∷ ts) h none = tt
  no_phase (jumps t) ts h none = tt
  no_phase (stops last) ts h none = tt
