-- A run over a port is a run over what is seen of the port, where each step of the port is one of what is seen.
use Rattle.std.proofs.Common.{◌≡◌, ◌∙◌, ap, refl, sym, inl, inr, Bool, ℕ, Option, List, [], ◌∷◌, Result, Ok, Err}
use Rattle.std.proofs.Math.Logic.{∥∥₁_map}
use Rattle.sdv_registers.specs.declared.kind.Kind.{Kind}
use Rattle.sdv_card.specs.Card.{Card}
use Rattle.sdv_card.specs.Port.{Call, Shows, call_of, Exchange, DataIn, DataInRegister, DataOut, WaitWhileBusy}
use Rattle.sdv_card.specs.ScriptEvent.{Return, Answered, BlocksIn, RegisterIn, BlocksOut, Waited}
use Rattle.sdv_graph.specs.Graph.{Graph}
use Rattle.sdv_graph.specs.Walk.{Pair, Ending}
use Rattle.sdv_controller.specs.Controlled.{ControllerSteps}
use Rattle.sdv_controller.specs.Wire.{WireCall, WireReturn}
use Rattle.sdv_trace.specs.declared.end.End.{End}
use Rattle.sdv_run.specs.declared.fault.RunFault.{RunFault}
use Rattle.sdv_run.specs.declared.fault.RunFault.TheVariants.{Reply, Input, Output, Trace, Memory}
use Rattle.sdv_run.specs.Run.{Steps, RunMoved}
use Rattle.sdv_run.specs.Ran.{Because, Ended, Happened, Stopped}
use Rattle.sdv_run.specs.Step.{World}
use Rattle.sdv_run.specs.OnCard.{OnCard, RanBeside, ShowsStart}
use Rattle.sdv_commands.specs.Registers.{events_of}

-- why a run stopped says nothing of its port, but that it is as it was where nothing happened
module _ {S T : Type 0} (t t' : T) where
  abbrev at_port : T → World S → World T
  at_port port w = record { port = port; input = w.input; out = w.out; trace = w.trace }

  pub moved_because : (fault : RunFault) (g : Graph) (es : List Pair) (w w' : World S) → (es ≡ [] → w' ≡ w → t' ≡ t) → Because fault g es w w'
      → Because fault g es (at_port t w) (at_port t' w')
  moved_because Reply g es w w' still (inl refused) = inl (record {
    earlier = refused.earlier;
    ask = refused.ask;
    position = refused.position;
    argument = refused.argument;
    answer = refused.answer;
    last = refused.last;
    refused = refused.refused;
    written = record { output = refused.written.output; trace = refused.written.trace };
  })
  moved_because Reply g es w w' still (inr wide) = inr (record {
    ask = wide.ask;
    position = wide.position;
    argument = wide.argument;
    wide = wide.wide;
    next = wide.next;
    written = record { output = wide.written.output; trace = wide.written.trace };
  })
  moved_because Input g es w w' still short = record {
    width = short.width;
    count = short.count;
    short = short.short;
    next = short.next;
    written = record { output = short.written.output; trace = short.written.trace };
  }
  moved_because Output g es w w' still broken = record {
    earlier = broken.earlier;
    width = broken.width;
    blocks = broken.blocks;
    last = broken.last;
    output = broken.output;
    trace = broken.trace;
  }
  moved_because Trace g es w w' still (inl broken) = inl (record {
    earlier = broken.earlier;
    event = broken.event;
    returned = broken.returned;
    last = broken.last;
    output = broken.output;
    trace = broken.trace;
  })
  moved_because Trace g es w w' still (inr broken) =
      inr (record { end = broken.end; walk = broken.walk; output = broken.output; trace = broken.trace })
  moved_because Memory g es w w' still nothing = record {
    none = nothing.none;
    same = ap (λ port. at_port port w') (still nothing.none nothing.same) ∙ ap (at_port t) nothing.same;
  }

module _ {S T : Type 0} (f : S → T) where
  abbrev pub seen : World S → World T
  seen w = record { port = f w.port; input = w.input; out = w.out; trace = w.trace }

  seen_because : (fault : RunFault) (g : Graph) (es : List Pair) (w w' : World S) → Because fault g es w w' → Because fault g es (seen w) (seen w')
  seen_because fault g es w w' because =
      moved_because (f w.port) (f w'.port) fault g es w w' (λ none same. ap (λ v. f v.port) same) because

module _ {S T : Type 0} (f : S → T) (steps : Steps S) (steps' : Steps T)
    (step : (s : S) (c : Call) (r : Return) (s' : S) → steps s c r s' → steps' (f s) c r (f s')) where
  seen_moved : (k : Kind) (es : List Pair) (s s' : S) → RunMoved k steps s es s' → RunMoved k steps' (f s) es (f s')
  seen_moved k [] s s' same = ap f same
  seen_moved k (p ∷ ps) s s' moved = (f moved.0, step s (call_of k p.0) p.1 moved.0 moved.1, seen_moved k ps moved.0 s' moved.2)

  seen_happened : (k : Kind) (es : List Pair) (w w' : World S) → Happened k steps es w w' → Happened k steps' es (seen f w) (seen f w')
  seen_happened k es w w' h = record { port = seen_moved k es w.port w'.port h.port; input = h.input }

  seen_ended : (g : Graph) (end : End) (w w' : World S) → Ended steps g end w w' → Ended steps' g end (seen f w) (seen f w')
  seen_ended g end w w' ran = record {
    events = ran.events;
    happened = seen_happened g.kind ran.events w w' ran.happened;
    walk = ran.walk;
    output = ran.output;
    trace = ran.trace;
  }

  seen_stopped : (g : Graph) (fault : RunFault) (w w' : World S) → Stopped steps g fault w w' → Stopped steps' g fault (seen f w) (seen f w')
  seen_stopped g fault w w' ran = record {
    events = ran.events;
    happened = seen_happened g.kind ran.events w w' ran.happened;
    walk = ran.walk;
    because = seen_because f fault g ran.events w w' ran.because;
  }

  module _ (card : S → Option Card) (card' : T → Option Card) (same : (s : S) → card s ≡ card' (f s)) where
    unseen : (s : S) (c : Card) → Shows card' (f s) c → Shows card s c
    unseen s c shows = record { shown = shows.shown; shows = same s ∙ shows.shows; same = shows.same; count = shows.count }

    seen_shows : (s : S) (c : Card) → Shows card s c → Shows card' (f s) c
    seen_shows s c shows = record { shown = shows.shown; shows = sym (same s) ∙ shows.shows; same = shows.same; count = shows.count }

    seen_start : (k : Kind) (begins : Bool) (s : S) (c : Card) → ShowsStart card' k begins (f s) c → ShowsStart card k begins s c
    seen_start k begins s c start = record { shown = unseen s c start.shown; kind = start.kind; start = start.start }

    seen_card : (most : ℕ) (e : Ending) (es : List Pair) (c : Card) (s' : S) → OnCard card most e es c s' → OnCard card' most e es c (f s')
    seen_card most e es c s' on = record {
      last = on.last;
      steps = on.steps;
      shown = seen_shows s' on.last on.shown;
      good = on.good;
      sent = on.sent;
      ends = on.ends;
    }

    pub seen_run : (g : Graph) (most : ℕ) (w w' : World S) (result : Result End RunFault) → RanBeside steps card g most w w' result
        → RanBeside steps' card' g most (seen f w) (seen f w') result
    unfolding seen_ended seen_stopped
    seen_run g most w w' (Ok end) ran =
        (seen_ended g end w w' ran.0, λ c start. ∥∥₁_map (ran.1 c (seen_start g.kind g.begins w.port c start)) (seen_card most _ ran.0.events c w'.port))
    seen_run g most w w' (Err fault) ran = (
      seen_stopped g fault w w' ran.0,
      λ c start. let on = ran.1 c (seen_start g.kind g.begins w.port c start) in (∥∥₁_map on.0 (seen_card most _ ran.0.events c w'.port), on.1),
    )

    -- the events are the same
    pub seen_events : (g : Graph) (most : ℕ) (w w' : World S) (result : Result End RunFault) (ran : RanBeside steps card g most w w' result)
        → events_of steps' card' g most (seen f w) (seen f w') result (seen_run g most w w' result ran) ≡ events_of steps card g most w w' result ran
    unfolding seen_run seen_ended seen_stopped
    seen_events g most w w' (Ok end) ran = refl
    seen_events g most w w' (Err fault) ran = refl

-- a controller steps as one over what is seen of its wire
module _ {S T : Type 0} (f : S → T) (steps : T → WireCall → WireReturn → T → Type 0) where
  pub seen_step : (s : S) (c : Call) (r : Return) (s' : S) → ControllerSteps (λ s call returned s'. steps (f s) call returned (f s')) s c r s'
      → ControllerSteps steps (f s) c r (f s')
  seen_step s (Exchange command expect) (Answered answer) s' made = record {
    is_command = made.is_command;
    frame = made.frame;
    framed = made.framed;
    end = made.end;
    response = made.response;
    step = made.step;
    answer_is = made.answer_is;
  }
  seen_step s (Exchange command expect) (BlocksIn _ _) s' made = absurd made
  seen_step s (Exchange command expect) (RegisterIn _ _) s' made = absurd made
  seen_step s (Exchange command expect) (BlocksOut _) s' made = absurd made
  seen_step s (Exchange command expect) (Waited _) s' made = absurd made
  seen_step s (DataIn _ _) r s' made = made
  seen_step s (DataInRegister _ _) r s' made = made
  seen_step s (DataOut _ _) r s' made = made
  seen_step s WaitWhileBusy r s' made = made
