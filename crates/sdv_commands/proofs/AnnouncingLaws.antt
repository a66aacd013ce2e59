-- A move of a run over a port of lines is one over what is seen of its streams, also where the port announced something first.
-- Where the answer to its command is refused, the port has kept that command with the answer.
use Rattle.std.proofs.Common.{◌≡◌, ◌∙◌, ◌⊎◌, ◌≤◌, ap, false, inl, inr, refl, subst, sym, ℕ, List, [], Option, Some, None, Result, Ok, Err, ⊎_elim}
use Rattle.std.specs.Prelude.{◌^◌}
use Rattle.std.specs.Io.KnownBytes.{Appends}
use Rattle.sdv_frames.specs.declared.command.Command.{Command}
use Rattle.sdv_frames.specs.declared.reply.Expect.{Expect}
use Rattle.sdv_registers.specs.declared.kind.Kind.{Kind}
use Rattle.sdv_card.specs.Card.{Block}
use Rattle.sdv_card.specs.declared.answer.Answer.{Answer}
use Rattle.sdv_card.specs.declared.event.Ask.{Ask}
use Rattle.sdv_card.specs.Host.{Host}
use Rattle.sdv_card.specs.CommandTable.{expect_of}
use Rattle.sdv_card.specs.Port.{Call, Exchange, call_of, command_of}
use Rattle.sdv_card.specs.ScriptEvent.{SendCommand, ReceiveBlocks, ReceiveRegister, GiveBlocks, AwaitReady, Return, Answered}
use Rattle.sdv_graph.specs.Walk.{Deed, exactly, giving}
use Rattle.sdv_graph.specs.Path.{Stand, Move, Goes, Does, Halts}
use Rattle.sdv_text.specs.Written.{AppendsPart}
use Rattle.sdv_text.proofs.WrittenLaws.{appends_none}
use Rattle.sdv_trace.specs.declared.end.End.{End}
use Rattle.sdv_trace.specs.Trace.{command_line}
use Rattle.sdv_run.specs.declared.fault.RunFault.{RunFault}
use Rattle.sdv_run.specs.declared.fault.RunFault.TheVariants.{Reply, Input, Output, Trace, Memory}
use Rattle.sdv_run.specs.Answers.{is_taken}
use Rattle.sdv_run.specs.Run.{Steps}
use Rattle.sdv_run.specs.Step.{CutDeed, CutShort, Leads, Stepped, World}
use Rattle.sdv_lines.specs.declared.fault.PortFault.{PortFault}
use Rattle.sdv_lines.specs.declared.port.LinePort.{LinePort}
use Rattle.sdv_lines.specs.Streams.{LineSteps, PortSteps, Streams, answered_after, streams_of}
use Rattle.sdv_commands.specs.RefusedAnswers.{SteppedTraced, TracesIfRefused, TracesLine, TracesRefused, refused_at}
use Rattle.sdv_commands.proofs.RunMaps.{seen}

module _ {S T : Type 0} (f : S → T) (steps : Steps S) (steps' : Steps T)
    (step : (s : S) (c : Call) (r : Return) (s' : S) → steps s c r s' → steps' (f s) c r (f s')) (k : Kind) (w w' : World S) where
  seen_leads : (m : Move) (stand : Stand) → Leads k steps m w w' stand → Leads k steps' m (seen f w) (seen f w') stand
  seen_leads (Goes next) stand (same, is) = (ap (seen f) same, is)
  seen_leads (Does deed before next) stand (event, returned, is, made, leads) = (
    event,
    returned,
    is,
    record { fits = made.fits; step = step w.port _ returned w'.port made.step; input = made.input; out = made.out; trace = made.trace },
    leads,
  )
  seen_leads (Halts last) stand leads = absurd leads

  seen_cut : (fault : RunFault) (deed : Deed) → CutDeed fault k steps deed w w' → CutDeed fault k steps' deed (seen f w) (seen f w')
  seen_cut Reply (exactly (SendCommand ask position argument)) (inl (wide, same)) = inl (wide, ap (seen f) same)
  seen_cut Reply (exactly (SendCommand ask position argument)) (inr (answer, made, refused, same)) =
      inr (answer, step w.port _ _ w'.port made, refused, ap (seen f) same)
  seen_cut Input (giving width count) (short, same) = (short, ap (seen f) same)
  seen_cut Output (exactly (ReceiveBlocks width count)) (blocks, size, made, part, same) =
      (blocks, size, step w.port _ _ w'.port made, part, ap (seen f) same)
  seen_cut Trace deed (event, returned, is, may, made, input, out, trace) =
      (event, returned, is, may, step w.port _ returned w'.port made, input, out, trace)
  seen_cut fault deed cut = absurd cut

  seen_short : (fault : RunFault) (m : Move) → CutShort fault k steps m w w' → CutShort fault k steps' m (seen f w) (seen f w')
  seen_short fault (Does deed before next) cut = seen_cut fault deed cut
  seen_short fault (Goes next) cut = absurd cut
  seen_short fault (Halts last) cut = absurd cut

-- THE LINE of a command whose answer is refused

-- none
pub takes_none : (fault : Option PortFault) (t : Option (List ℕ)) → TracesRefused fault None t t
takes_none None t = refl
takes_none (Some why) t = refl

pub took_none : (fault : Option PortFault) (t t' : Option (List ℕ)) → TracesRefused fault None t t' → t' ≡ t
took_none None t t' took = took
took_none (Some why) t t' took = took

took_nothing : (fault : Option PortFault) (t t' : Option (List ℕ)) → t' ≡ t → TracesRefused fault None t t'
took_nothing None t t' same = same
took_nothing (Some why) t t' same = same

-- the trace took it, or failed at it
lined : (command : Command) (answer : Answer) (t t' : Option (List ℕ)) (result : Result (Option End) RunFault)
    → TracesLine (command_line command answer) t t' result
    → ((result ≡ Err Reply) × Appends t t' (command_line command answer)) ⊎ ((result ≡ Err Trace) × AppendsPart t t' (command_line command answer))
lined command answer t t' (Err Reply) took = inl (refl, took)
lined command answer t t' (Err Trace) took = inr (refl, took)
lined command answer t t' (Err fault) took = absurd took
lined command answer t t' (Ok end) took = absurd took

-- it is that of the command which the port kept; a port that gave up kept none
kept_answer : (fault : Option PortFault) (command : Command) (expect : Expect) (answer : Answer) (before after : Option (Command × Answer))
    (t t' : Option (List ℕ)) (result : Result (Option End) RunFault)
    → before ≡ None → after ≡ answered_after (Exchange command expect) (Answered answer) fault before → TracesIfRefused (Err Reply) after t t' result
    → ((result ≡ Err Reply) × TracesRefused fault (Some (command, answer)) t t')
    ⊎ ((result ≡ Err Trace) × AppendsPart t t' (command_line command answer))
kept_answer None command expect answer before after t t' result none is took =
    lined command answer t t' result (subst (λ kept. TracesIfRefused (Err Reply) kept t t' result) is took)
kept_answer (Some why) command expect answer before after t t' result none is took =
    inl (subst (λ kept. TracesIfRefused (Err Reply) kept t t' result) (is ∙ none) took)

module _ {R W : Type 0} (remaining : R → Option (List ℕ)) (contents : W → Option (List ℕ)) where
  abbrev streams : LinePort R W → Streams
  streams port = streams_of remaining contents port

  abbrev steps : Steps (LinePort R W)
  steps port call returned port' = PortSteps remaining contents port call returned port'

  step_seen : (p : LinePort R W) (c : Call) (r : Return) (p' : LinePort R W) → steps p c r p' → LineSteps (streams p) c r (streams p')
  step_seen p c r p' step = step.0

  module _ (k : Kind) (w w' : World (LinePort R W)) where
    cut_seen : (fault : RunFault) (m : Move) → CutShort fault k steps m w w' → CutShort fault k LineSteps m (seen streams w) (seen streams w')
    cut_seen fault m cut = seen_short streams steps LineSteps step_seen k w w' fault m cut

    abbrev ends_at : Option (List ℕ) → World Streams
    ends_at t' = record { port = streams w'.port; input = w'.input; out = w'.out; trace = t' }

    cut_short : (fault : RunFault) (m : Move) (stand : Stand) (cut : CutShort fault k steps m w w') (t' : Option (List ℕ))
        → TracesRefused w'.port.fault (refused_at fault k m (seen streams w) (seen streams w') (cut_seen fault m cut)) w'.trace t'
        → SteppedTraced k m (seen streams w) (ends_at t') stand (Err fault)
    cut_short fault m stand cut t' refused = record { printed = w'.trace; stepped = cut_seen fault m cut; refused = refused }

    module _ (stand : Stand) (t' : Option (List ℕ)) (result : Result (Option End) RunFault) (none : w.port.answered ≡ None)
        (took : TracesIfRefused (Err Reply) w'.port.answered w'.trace t' result) where
      module _ (ask : Ask) (position argument : ℕ) (before : Host) (next : Return → Host → Stand) where
        abbrev sends : Move
        sends = Does (exactly (SendCommand ask position argument)) before next

        -- the command was not sent
        too_wide : (wide : (2 ^ 32 ≤ argument) × (w' ≡ w)) → SteppedTraced k sends (seen streams w) (ends_at t') stand result
        unfolding cut_seen seen_short seen_cut
        too_wide wide =
            let quiet : (result ≡ Err Reply) × (t' ≡ w'.trace) =
            subst (λ kept. TracesIfRefused (Err Reply) kept w'.trace t' result) (ap (λ v. v.port.answered) wide.1 ∙ none) took in
            subst (λ r. SteppedTraced k sends (seen streams w) (ends_at t') stand r) (sym quiet.0)
            (cut_short Reply sends stand (inl wide) t' (took_nothing w'.port.fault w'.trace t' quiet.1))

        module _ (answer : Answer) (made : steps w.port (call_of k (SendCommand ask position argument)) (Answered answer) w'.port)
            (refused : is_taken k ask answer ≡ false) (same : w' ≡ record w { port = w'.port }) where
          -- its answer is refused
          traced : (result ≡ Err Reply) × TracesRefused w'.port.fault (Some (command_of ask argument, answer)) w'.trace t'
              → SteppedTraced k sends (seen streams w) (ends_at t') stand result
          unfolding cut_seen seen_short seen_cut
          traced took =
              subst (λ r. SteppedTraced k sends (seen streams w) (ends_at t') stand r) (sym took.0)
              (cut_short Reply sends stand (inr (answer, made, refused, same)) t' took.1)

          -- and the trace failed at the line of that
          failed : (result ≡ Err Trace) × AppendsPart w'.trace t' (command_line (command_of ask argument) answer)
              → SteppedTraced k sends (seen streams w) (ends_at t') stand result
          failed part =
              subst (λ r. SteppedTraced k sends (seen streams w) (ends_at t') stand r) (sym part.0) (record {
                printed = t';
                stepped = (
                  SendCommand ask position argument,
                  Answered answer,
                  refl,
                  tt,
                  step_seen w.port _ _ w'.port made,
                  sym (ap (λ v. v.input) same),
                  subst (λ o. Appends w.out o []) (sym (ap (λ v. v.out) same)) (appends_none w.out),
                  subst (λ t. AppendsPart t t' (command_line (command_of ask argument) answer)) (ap (λ v. v.trace) same) part.1,
                );
                refused = takes_none w'.port.fault t';
              })

          refuses : SteppedTraced k sends (seen streams w) (ends_at t') stand result
          refuses =
              ⊎_elim traced failed
              (kept_answer w'.port.fault (command_of ask argument) (expect_of k ask) answer w.port.answered w'.port.answered w'.trace t' result none made.1 took)

      reply_so : (m : Move) (cut : CutShort Reply k steps m w w') → SteppedTraced k m (seen streams w) (ends_at t') stand result
      reply_so (Goes next) cut = absurd cut
      reply_so (Halts last) cut = absurd cut
      reply_so (Does (exactly (SendCommand ask position argument)) before next) (inl wide) = too_wide ask position argument before next wide
      reply_so (Does (exactly (SendCommand ask position argument)) before next) (inr (answer, made, refused, same)) =
          refuses ask position argument before next answer made refused same
      reply_so (Does (exactly (ReceiveBlocks width count)) before next) cut = absurd cut
      reply_so (Does (exactly (ReceiveRegister width count)) before next) cut = absurd cut
      reply_so (Does (exactly (GiveBlocks width blocks)) before next) cut = absurd cut
      reply_so (Does (exactly AwaitReady) before next) cut = absurd cut
      reply_so (Does (giving width count) before next) cut = absurd cut

    -- a move that was not refused comes out as it did
    same_so : (m : Move) (stand : Stand) (moved result : Result (Option End) RunFault) (t' : Option (List ℕ))
        → (t' ≡ w'.trace → SteppedTraced k m (seen streams w) (ends_at t') stand moved) → (result ≡ moved) × (t' ≡ w'.trace)
        → SteppedTraced k m (seen streams w) (ends_at t') stand result
    same_so m stand moved result t' so took =
        subst (λ r. SteppedTraced k m (seen streams w) (ends_at t') stand r) (sym took.0) (so took.1)

    stepped_so : (m : Move) (stand : Stand) (moved result : Result (Option End) RunFault) → Stepped k steps m w w' stand moved
        → w.port.answered ≡ None → (t' : Option (List ℕ)) → TracesIfRefused moved w'.port.answered w'.trace t' result
        → SteppedTraced k m (seen streams w) (ends_at t') stand result
    stepped_so m stand (Ok None) result leads none t' took =
        same_so m stand (Ok None) result t' (λ same. record {
          printed = w'.trace;
          stepped = seen_leads streams steps LineSteps step_seen k w w' m stand leads;
          refused = took_nothing w'.port.fault w'.trace t' same;
        }) took
    stepped_so m stand (Ok (Some end)) result (halts, still) none t' took =
        same_so m stand (Ok (Some end)) result t' (λ same. record {
          printed = w'.trace;
          stepped = (halts, ap (seen streams) still);
          refused = took_nothing w'.port.fault w'.trace t' same;
        }) took
    stepped_so m stand (Err Reply) result cut none t' took = reply_so stand t' result none took m cut
    stepped_so m stand (Err Input) result cut none t' took =
        same_so m stand (Err Input) result t' (λ same. cut_short Input m stand cut t' (took_nothing w'.port.fault w'.trace t' same)) took
    stepped_so m stand (Err Output) result cut none t' took =
        same_so m stand (Err Output) result t' (λ same. cut_short Output m stand cut t' (took_nothing w'.port.fault w'.trace t' same)) took
    stepped_so m stand (Err Trace) result cut none t' took =
        same_so m stand (Err Trace) result t' (λ same. cut_short Trace m stand cut t' (took_nothing w'.port.fault w'.trace t' same)) took
    stepped_so m stand (Err Memory) result cut none t' took =
        same_so m stand (Err Memory) result t' (λ same. cut_short Memory m stand cut t' (took_nothing w'.port.fault w'.trace t' same)) took

  -- the same of a port whose streams are these before and after
  pub stepped_traced : (k : Kind) (m : Move) (port : LinePort R W) (input : List Block) (out trace : Option (List ℕ)) (w' : World (LinePort R W))
      (stand : Stand) (moved result : Result (Option End) RunFault)
      → Stepped k steps m (record { port = port; input = input; out = out; trace = trace }) w' stand moved → port.answered ≡ None
      → (t' : Option (List ℕ)) → TracesIfRefused moved w'.port.answered w'.trace t' result
      → (before after : Streams) → streams port ≡ before → after ≡ streams w'.port
      → SteppedTraced k m (record { port = before; input = input; out = out; trace = trace })
      (record { port = after; input = w'.input; out = w'.out; trace = t' }) stand result
  stepped_traced k m port input out trace w' stand moved result stepped none t' took before after first last =
      subst (λ s. SteppedTraced k m (record { port = before; input = input; out = out; trace = trace })
      (record { port = s; input = w'.input; out = w'.out; trace = t' }) stand result) (sym last)
      (subst (λ s. SteppedTraced k m (record { port = s; input = input; out = out; trace = trace })
      (record { port = streams w'.port; input = w'.input; out = w'.out; trace = t' }) stand result) first
      (stepped_so k (record { port = port; input = input; out = out; trace = trace }) w' m stand moved result stepped none t' took))
