-- A watched run over a port is one over what is seen of the port, where each step of the port is one of what is seen.
use Rattle.std.proofs.Common.{◌≡◌, ◌∙◌, ap, Bool, false, inl, inr, ℕ, Option, Some, List, [], ◌∷◌, ◌++◌, Result, Ok, Err}
use Rattle.sdv_registers.specs.declared.kind.Kind.{Kind}
use Rattle.sdv_card.specs.Card.{Card}
use Rattle.sdv_card.specs.Port.{Call, call_of, Exchange, DataIn, DataInRegister, DataOut, WaitWhileBusy}
use Rattle.sdv_card.specs.ScriptEvent.{Return, Answered, BlocksIn, RegisterIn, BlocksOut, Waited}
use Rattle.sdv_graph.specs.Graph.{Graph}
use Rattle.sdv_graph.specs.Walk.{Pair}
use Rattle.sdv_controller.specs.Controlled.{ControllerSteps}
use Rattle.sdv_controller.specs.Wire.{WireCall, WireReturn}
use Rattle.sdv_trace.specs.declared.end.End.{End}
use Rattle.sdv_run.specs.declared.fault.RunFault.{RunFault}
use Rattle.sdv_run.specs.declared.fault.RunFault.TheVariants.{Reply, Input, Output, Trace, Memory}
use Rattle.sdv_run.specs.Run.{Steps, RunMoved}
use Rattle.sdv_run.specs.Ran.{Because, Ended, Happened, Stopped}
use Rattle.sdv_run.specs.Step.{World}
use Rattle.sdv_run.specs.OnCard.{ShowsStart}
use Rattle.sdv_refute.specs.declared.wrong.Watched.{Watched}
use Rattle.sdv_refute.specs.declared.wrong.Watched.TheVariants as comes
use Rattle.sdv_refute.specs.declared.wrong.Wrong.{Wrong}
use Rattle.sdv_trace.specs.Trace.{lines}
use Rattle.sdv_refute.specs.Told.{WatchesAs}
use Rattle.sdv_refute.specs.Watched.{AllowsNext, CutShort, Halted, StandsBefore, StopsAllowed, Watches}

module _ {S T : Type 0} (f : S → T) where
  abbrev pub seen : World S → World T
  seen w = record { port = f w.port; input = w.input; out = w.out; trace = w.trace }

  seen_because : (fault : RunFault) (g : Graph) (es : List Pair) (w w' : World S) → Because fault g es w w' → Because fault g es (seen w) (seen w')
  seen_because Reply g es w w' (inl refused) = inl (record {
    earlier = refused.earlier;
    ask = refused.ask;
    position = refused.position;
    argument = refused.argument;
    answer = refused.answer;
    last = refused.last;
    refused = refused.refused;
    written = record { output = refused.written.output; trace = refused.written.trace };
  })
  seen_because Reply g es w w' (inr wide) = inr (record {
    ask = wide.ask;
    position = wide.position;
    argument = wide.argument;
    wide = wide.wide;
    next = wide.next;
    written = record { output = wide.written.output; trace = wide.written.trace };
  })
  seen_because Input g es w w' short = record {
    width = short.width;
    count = short.count;
    short = short.short;
    next = short.next;
    written = record { output = short.written.output; trace = short.written.trace };
  }
  seen_because Output g es w w' broken = record {
    earlier = broken.earlier;
    width = broken.width;
    blocks = broken.blocks;
    last = broken.last;
    output = broken.output;
    trace = broken.trace;
  }
  seen_because Trace g es w w' (inl broken) = inl (record {
    earlier = broken.earlier;
    event = broken.event;
    returned = broken.returned;
    last = broken.last;
    output = broken.output;
    trace = broken.trace;
  })
  seen_because Trace g es w w' (inr broken) = inr (record { end = broken.end; walk = broken.walk; output = broken.output; trace = broken.trace })
  seen_because Memory g es w w' nothing = record { none = nothing.none; same = ap seen nothing.same }

  -- what of the run's end is allowed at a card
  seen_next : (fault : RunFault) (g : Graph) (es : List Pair) (w w' : World S) (because : Because fault g es w w') (last : Card) →
      AllowsNext fault g es w w' because last → AllowsNext fault g es (seen w) (seen w') (seen_because fault g es w w' because) last
  unfolding seen_because
  seen_next Input g es w w' short last next = next
  seen_next Trace g es w w' (inl broken) last next = tt
  seen_next Trace g es w w' (inr broken) last next = next
  seen_next Reply g es w w' because last next = tt
  seen_next Output g es w w' because last next = tt
  seen_next Memory g es w w' because last next = tt

module _ {S T : Type 0} (f : S → T) (steps : Steps S) (steps' : Steps T)
    (step : (s : S) (c : Call) (r : Return) (s' : S) → steps s c r s' → steps' (f s) c r (f s')) where
  seen_moved : (k : Kind) (es : List Pair) (s s' : S) → RunMoved k steps s es s' → RunMoved k steps' (f s) es (f s')
  seen_moved k [] s s' same = ap f same
  seen_moved k (p ∷ ps) s s' moved = (f moved.0, step s (call_of k p.0) p.1 moved.0 moved.1, seen_moved k ps moved.0 s' moved.2)

  seen_happened : (k : Kind) (es : List Pair) (w w' : World S) → Happened k steps es w w' → Happened k steps' es (seen f w) (seen f w')
  seen_happened k es w w' h = record { port = seen_moved k es w.port w'.port h.port; input = h.input }

  seen_ended : (g : Graph) (end : End) (w w' : World S) → Ended steps g end w w' → Ended steps' g end (seen f w) (seen f w')
  seen_ended g end w w' ran = record {
    events = ran.events;
    happened = seen_happened g.kind ran.events w w' ran.happened;
    walk = ran.walk;
    output = ran.output;
    trace = ran.trace;
  }

  seen_stopped : (g : Graph) (fault : RunFault) (w w' : World S) → Stopped steps g fault w w' → Stopped steps' g fault (seen f w) (seen f w')
  seen_stopped g fault w w' ran = record {
    events = ran.events;
    happened = seen_happened g.kind ran.events w w' ran.happened;
    walk = ran.walk;
    because = seen_because f fault g ran.events w w' ran.because;
  }

  seen_halted : (g : Graph) (point : ℕ) (w w' : World S) → Halted steps g point w w' → Halted steps' g point (seen f w) (seen f w')
  seen_halted g point w w' h = record {
    events = h.events;
    happened = seen_happened g.kind h.events w w' h.happened;
    walk = h.walk;
    leads = h.leads;
    output = h.output;
  }

  module _ (card : S → Option Card) (card' : T → Option Card) (same : (s : S) → card s ≡ card' (f s)) where
    seen_start : (k : Kind) (s : S) (c : Card) → ShowsStart card' k false (f s) c → ShowsStart card k false s c
    seen_start k s c start = record {
      shown = record { shown = start.shown.shown; shows = same s ∙ start.shown.shows; same = start.shown.same; count = start.shown.count };
      kind = start.kind;
      start = start.start;
    }

    seen_stands : (g : Graph) (wrong : Wrong) (w w' : World S) → StandsBefore steps card g wrong w w' → StandsBefore steps' card' g wrong (seen f w) (seen f w')
    unfolding seen_halted
    seen_stands g wrong w w' stands = record {
      halted = seen_halted g wrong.point w w' stands.halted;
      kind = stands.kind;
      here = stands.here;
      at = stands.at;
      line = stands.line;
      next = stands.next;
      not_allowed = stands.not_allowed;
      shape = stands.shape;
      refutes = λ c start. stands.refutes c (seen_start g.kind w.port c start);
    }

    seen_allowed : (g : Graph) (fault : RunFault) (w w' : World S) → StopsAllowed steps card g fault w w' → StopsAllowed steps' card' g fault (seen f w) (seen f w')
    unfolding seen_stopped
    seen_allowed g fault w w' stops = record {
      ran = seen_stopped g fault w w' stops.ran;
      allowed = λ c start. (
          let until = stops.allowed c (seen_start g.kind w.port c start) in
          record {
            last = until.last;
            steps = until.steps;
            next = seen_next f fault g stops.ran.events w w' stops.ran.because until.last until.next;
            no_reply = until.no_reply;
          });
    }

    seen_cut : (g : Graph) (fault : RunFault) (w w' : World S) → CutShort steps card g fault w w' → CutShort steps' card' g fault (seen f w) (seen f w')
    unfolding seen_stands seen_halted
    seen_cut g Trace w w' (inl stops) = inl (seen_allowed g Trace w w' stops)
    seen_cut g Trace w w' (inr broke) = inr (record { wrong = broke.wrong; stands = seen_stands g broke.wrong w w' broke.stands; trace = broke.trace })
    seen_cut g Reply w w' stops = seen_allowed g Reply w w' stops
    seen_cut g Input w w' stops = seen_allowed g Input w w' stops
    seen_cut g Output w w' stops = seen_allowed g Output w w' stops
    seen_cut g Memory w w' stops = seen_allowed g Memory w w' stops

    pub seen_watched : (g : Graph) (w w' : World S) (result : Result Watched RunFault) → Watches steps card g w w' result →
        Watches steps' card' g (seen f w) (seen f w') result
    unfolding seen_ended seen_stands seen_halted
    seen_watched g w w' (Ok (comes.Ended end)) ran = record {
      ran = seen_ended g end w w' ran.ran;
      allowed = λ c start. ran.allowed c (seen_start g.kind w.port c start);
    }
    seen_watched g w w' (Ok (comes.Stopped wrong)) ran = record { stands = seen_stands g wrong w w' ran.stands; trace = ran.trace }
    seen_watched g w w' (Err fault) cut = seen_cut g fault w w' cut

    pub seen_told : (telling : Bool) (g : Graph) (w w' : World S) (result : Result Watched RunFault) → WatchesAs telling steps card g w w' result →
        WatchesAs telling steps' card' g (seen f w) (seen f w') result
    seen_told telling g w w' result (inl told) = inl (record {
      events = told.events;
      more = told.more;
      happened = seen_happened g.kind (told.events ++ told.more) w w' told.happened;
      stand = told.stand;
      text = told.text;
      told = told.told;
      last = told.last;
      trace = told.trace;
      watched = seen_watched g (record w { trace = Some [] }) (record w' { trace = Some (lines told.events ++ told.last) }) result told.watched;
      nothing = λ is. ap (seen f) (told.nothing is);
    })
    seen_told telling g w w' result (inr (is, broke)) = inr (
      is,
      record {
        asked = broke.asked;
        events = broke.events;
        happened = seen_happened g.kind broke.events w w' broke.happened;
        walk = broke.walk;
        stand = broke.stand;
        text = broke.text;
        width = broke.width;
        told = broke.told;
        output = broke.output;
        trace = broke.trace;
        allowed = λ c start. broke.allowed c (seen_start g.kind w.port c start);
      },
    )

-- a controller steps as one over what is seen of its wire
module _ {S T : Type 0} (f : S → T) (steps : T → WireCall → WireReturn → T → Type 0) where
  pub seen_step : (s : S) (c : Call) (r : Return) (s' : S) → ControllerSteps (λ s call returned s'. steps (f s) call returned (f s')) s c r s'
      → ControllerSteps steps (f s) c r (f s')
  seen_step s (Exchange command expect) (Answered answer) s' made = record {
    is_command = made.is_command;
    frame = made.frame;
    framed = made.framed;
    end = made.end;
    response = made.response;
    step = made.step;
    answer_is = made.answer_is;
  }
  seen_step s (Exchange command expect) (BlocksIn _ _) s' made = absurd made
  seen_step s (Exchange command expect) (RegisterIn _ _) s' made = absurd made
  seen_step s (Exchange command expect) (BlocksOut _) s' made = absurd made
  seen_step s (Exchange command expect) (Waited _) s' made = absurd made
  seen_step s (DataIn _ _) r s' made = made
  seen_step s (DataInRegister _ _) r s' made = made
  seen_step s (DataOut _ _) r s' made = made
  seen_step s WaitWhileBusy r s' made = made
