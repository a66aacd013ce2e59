-- One move of a run: its event is made, its return is taken, and it is recorded.
use Rattle.std.proofs.Common.{◌≡◌, ℕ, List, [], ◌++◌, length, false, Option, Some, None, Ok, Err, refl, sym, ap, ◌∙◌, subst, inl, inr, ◌+◌, arith, length-append}
use Rattle.sdv_registers.specs.declared.kind.Kind.{Kind}
use Rattle.sdv_card.specs.declared.answer.DataEnd.TheVariants as ends
use Rattle.sdv_card.specs.Card.{Block}
use Rattle.sdv_card.specs.Port.{call_of}
use Rattle.sdv_card.specs.ScriptEvent.{ScriptEvent, SendCommand, ReceiveBlocks, ReceiveRegister, GiveBlocks, AwaitReady, Return, Answered, BlocksIn, RegisterIn, BlocksOut, Waited, MayReturn}
use Rattle.sdv_graph.specs.Walk.{Deed, exactly, giving, IsDeed, given_by}
use Rattle.sdv_graph.specs.Path.{Stand, Move, Goes, Does, Halts}
use Rattle.sdv_run.specs.declared.fault.RunFault.{RunFault}
use Rattle.sdv_run.specs.declared.fault.RunFault.TheVariants.{Reply, Input, Output, Trace, Memory}
use Rattle.sdv_run.specs.declared.next_event.NextEvent.{NextEvent}
use Rattle.sdv_run.specs.declared.next_event.NextEvent.TheVariants as events
use Rattle.sdv_run.specs.declared.returned.Returned.{Returned}
use Rattle.sdv_trace.specs.declared.end.End.{End}
use Rattle.sdv_text.specs.Written.{AppendsPart}
use Rattle.sdv_run.specs.Run.{Steps, received_by}
use Rattle.sdv_run.specs.Asks.{deed_of, IsTooWide, AsksFor}
use Rattle.sdv_run.specs.Takes.{Told, goes_on_with, Took, IsEvent}
use Rattle.sdv_run.specs.Performs.{Performed, Performs, Records, WasCut, IsShort}
use Rattle.sdv_run.specs.Moves.{Passes}
use Rattle.sdv_run.specs.Step.{World, Leads, CutDeed, CutShort, Stepped}

-- nothing has no part that is missing
no_part : (known new : Option (List ℕ)) → AppendsPart known new [] → ⊥
no_part known new p =
    let none : 0 ≡ length p.0 + length p.1 = ap length p.2 ∙ length-append p.0 p.1 in
    omega (arith, none, p.3)

pair : {A B : Type 0} {a a' : A} {b b' : B} → a ≡ a' → b ≡ b' → ◌≡◌ {A = A × B} (a, b) (a', b')
pair {a = a} {b' = b'} p q = ap (λ x. (a, x)) q ∙ ap (λ x. (x, b')) p

-- a move that asks for an event makes one
pub makes_event : (m : Move) (next : NextEvent) → AsksFor m (Ok (Some next)) → IsEvent m
makes_event (Goes stand) next asks = absurd asks
makes_event (Does deed before on) next asks = tt
makes_event (Halts last) next asks = absurd asks

module _ {S : Type 0} (k : Kind) (steps : Steps S) where
  -- a move without an event
  pub passed : (m : Move) (end : Option End) (w : World S) (stand : Stand) → Passes m end stand → Stepped k steps m w w stand (Ok end)
  passed (Goes next) None w stand p = (refl, p)
  passed (Goes next) (Some end) w stand p = absurd p
  passed (Does deed before next) end w stand p = absurd p
  passed (Halts last) None w stand p = absurd p
  passed (Halts last) (Some end) w stand p = (ap Halts p, refl)

  -- a command that cannot be sent
  wide : (deed : Deed) (w : World S) → IsTooWide deed → CutDeed Reply k steps deed w w
  wide (exactly (SendCommand ask position argument)) w p = inl (p, refl)
  wide (exactly (ReceiveBlocks lines count)) w p = absurd p
  wide (exactly (ReceiveRegister lines count)) w p = absurd p
  wide (exactly (GiveBlocks lines blocks)) w p = absurd p
  wide (exactly AwaitReady) w p = absurd p
  wide (giving lines count) w p = absurd p

  pub cut_asking : (m : Move) (fault : RunFault) (w : World S) → AsksFor m (Err fault) → CutShort fault k steps m w w
  cut_asking (Goes next) fault w p = absurd p
  cut_asking (Does deed before next) Reply w p = wide deed w p
  cut_asking (Does deed before next) Input w p = absurd p
  cut_asking (Does deed before next) Output w p = absurd p
  cut_asking (Does deed before next) Trace w p = absurd p
  cut_asking (Does deed before next) Memory w p = absurd p
  cut_asking (Halts last) fault w p = absurd p

  -- AN EVENT
  module _ (next : NextEvent) (held : List Block) (w : World S) where
    short : (event : NextEvent) (w' : World S) → IsShort event w.input → w' ≡ w → CutDeed Input k steps (deed_of event) w w'
    short (events.GiveBlocks lines count) w' p same = (p, same)
    short (events.Send ask position argument) w' p same = absurd p
    short (events.ReceiveBlocks lines count) w' p same = absurd p
    short (events.ReceiveRegister lines count) w' p same = absurd p
    short events.Wait w' p same = absurd p

    -- nothing was done
    untouched : (s : S) (input : List Block) → ◌≡◌ {A = S × List Block} (s, input) (w.port, w.input) → record w { port = s; input = input } ≡ w
    untouched s input same = ap (λ p. record w { port = p.0; input = p.1 }) same

    short_of : (s : S) (input : List Block) (fault : RunFault) → Performs k steps next (w.port, w.input) (s, input) held (Err fault) →
        CutDeed fault k steps (deed_of next) w (record w { port = s; input = input })
    short_of s input Input p = short next (record w { port = s; input = input }) p.0 (untouched s input p.1)
    short_of s input Reply p = absurd p
    short_of s input Output p = absurd p
    short_of s input Trace p = absurd p
    short_of s input Memory p = absurd p

    -- there was nothing left to give
    pub cut_performing : (m : Move) (s : S) (input : List Block) (fault : RunFault) → AsksFor m (Ok (Some next)) →
        Performs k steps next (w.port, w.input) (s, input) held (Err fault) → CutShort fault k steps m w (record w { port = s; input = input })
    cut_performing (Goes stand) s input fault asks p = absurd asks
    cut_performing (Does deed before on) s input fault asks p =
        subst (λ d. CutDeed fault k steps d w (record w { port = s; input = input })) (sym asks) (short_of s input fault p)
    cut_performing (Halts last) s input fault asks p = absurd asks

    module _ (returned : Returned) (s : S) (input : List Block) (made : Performed k steps next (w.port, w.input) (s, input) held returned) where
      told : (deed : Deed) → deed ≡ deed_of next → Told deed returned held made.event made.seen
      told deed asks = subst (λ d. Told d returned held made.event made.seen) (sym asks) made.told

      -- a refused answer is that of a command, and the input is as it was
      refused : (event : ScriptEvent) (seen : Return) (deed : Deed) → IsDeed deed event → MayReturn event seen → goes_on_with k event seen ≡ false →
          steps w.port (call_of k event) seen s → w.input ≡ given_by event ++ input → CutDeed Reply k steps deed w (record w { port = s; input = input })
      refused (SendCommand ask position argument) (Answered answer) (exactly wanted) is fits refuses step given =
          subst (λ event. CutDeed Reply k steps (exactly event) w (record w { port = s; input = input })) is
          (inr (answer, step, refuses, ap (λ l. record w { port = s; input = l }) (sym given)))
      refused (SendCommand ask position argument) (Answered answer) (giving lines count) is fits refuses step given = absurd (cc)
      refused (SendCommand ask position argument) (BlocksIn end blocks) deed is fits refuses step given = absurd fits
      refused (SendCommand ask position argument) (RegisterIn end bytes) deed is fits refuses step given = absurd fits
      refused (SendCommand ask position argument) (BlocksOut end) deed is fits refuses step given = absurd fits
      refused (SendCommand ask position argument) (Waited end) deed is fits refuses step given = absurd fits
      refused (ReceiveBlocks lines count) seen deed is fits refuses step given = absurd (cc)
      refused (ReceiveRegister lines count) seen deed is fits refuses step given = absurd (cc)
      refused (GiveBlocks lines blocks) seen deed is fits refuses step given = absurd (cc)
      refused AwaitReady seen deed is fits refuses step given = absurd (cc)

      refused_so : (fault : RunFault) (deed : Deed) → deed ≡ deed_of next → (fault ≡ Reply) × (goes_on_with k made.event made.seen ≡ false) →
          CutDeed fault k steps deed w (record w { port = s; input = input })
      refused_so fault deed asks p =
          let t = told deed asks in
          subst (λ f. CutDeed f k steps deed w (record w { port = s; input = input })) (sym p.0)
          (refused made.event made.seen deed t.is t.fits p.1 made.step made.input)

      pub cut_taking : (m : Move) (stand : Stand) (fault : RunFault) → AsksFor m (Ok (Some next)) → Took k m returned stand (Err fault) →
          CutShort fault k steps m w (record w { port = s; input = input })
      cut_taking (Goes at) stand fault asks took = absurd asks
      cut_taking (Does deed before on) stand fault asks took = refused_so fault deed asks (took held made.event made.seen (told deed asks))
      cut_taking (Halts last) stand fault asks took = absurd asks

      module _ (o t : Option (List ℕ)) where
        abbrev after : World S
        after = record { port = s; input = input; out = o; trace = t }

        -- a writer failed at blocks
        output_cut : (event : ScriptEvent) (seen : Return) (deed : Deed) → IsDeed deed event → MayReturn event seen → steps w.port (call_of k event) seen s →
            w.input ≡ given_by event ++ input → AppendsPart w.out o (received_by seen) → t ≡ w.trace → CutDeed Output k steps deed w after
        output_cut (ReceiveBlocks lines count) (BlocksIn ends.Ok blocks) (exactly wanted) is fits step given part same =
            subst (λ event. CutDeed Output k steps (exactly event) w after) is
            (blocks, fits, step, part, ap (λ p. record { port = s; input = p.0; out = o; trace = p.1 }) (pair (sym given) same))
        output_cut (ReceiveBlocks lines count) (BlocksIn ends.Ok blocks) (giving width number) is fits step given part same = absurd (cc)
        output_cut event (BlocksIn ends.Cut blocks) deed is fits step given part same = absurd (no_part w.out o part)
        output_cut event (Answered answer) deed is fits step given part same = absurd (no_part w.out o part)
        output_cut event (RegisterIn end bytes) deed is fits step given part same = absurd (no_part w.out o part)
        output_cut event (BlocksOut end) deed is fits step given part same = absurd (no_part w.out o part)
        output_cut event (Waited end) deed is fits step given part same = absurd (no_part w.out o part)
        output_cut event (BlocksIn ends.Ok blocks) deed is fits step given part same = absurd fits

        -- or at the line
        cut_at : (fault : RunFault) (event : ScriptEvent) (seen : Return) (deed : Deed) → IsDeed deed event → MayReturn event seen →
            steps w.port (call_of k event) seen s → w.input ≡ given_by event ++ input → WasCut fault event seen (w.out, w.trace) (o, t) →
            CutDeed fault k steps deed w after
        cut_at Output event seen deed is fits step given cut = output_cut event seen deed is fits step given cut.0 cut.1
        cut_at Trace event seen deed is fits step given cut = (event, seen, is, fits, step, given, cut.0, cut.1)
        cut_at Reply event seen deed is fits step given cut = absurd cut
        cut_at Input event seen deed is fits step given cut = absurd cut
        cut_at Memory event seen deed is fits step given cut = absurd cut

        pub cut_recording : (m : Move) (fault : RunFault) → AsksFor m (Ok (Some next)) → Records next returned held (w.out, w.trace) (o, t) (Err fault) →
            CutShort fault k steps m w (record { port = s; input = input; out = o; trace = t })
        cut_recording (Goes at) fault asks cut = absurd asks
        cut_recording (Does deed before on) fault asks cut =
            let here = told deed asks in
            cut_at fault made.event made.seen deed here.is here.fits made.step made.input (cut made.event made.seen made.told)
        cut_recording (Halts last) fault asks cut = absurd asks

        -- the event was made, taken and recorded
        pub stepped : (m : Move) (stand : Stand) → AsksFor m (Ok (Some next)) → Took k m returned stand (Ok tt) →
            Records next returned held (w.out, w.trace) (o, t) (Ok tt) →
            Leads k steps m w (record { port = s; input = input; out = o; trace = t }) stand
        stepped (Goes at) stand asks took written = absurd asks
        stepped (Does deed before on) stand asks took written =
            let here = told deed asks in
            let texts = written made.event made.seen made.told in (
              made.event,
              made.seen,
              here.is,
              record { fits = here.fits; step = made.step; input = made.input; out = texts.0; trace = texts.1 },
              (took held made.event made.seen here).1,
            )
        stepped (Halts last) stand asks took written = absurd asks
