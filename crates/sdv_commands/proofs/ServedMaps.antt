-- Requests that were served by a port were served by what is seen of the port, where each step of the port is one of what is
-- seen.
use Rattle.std.proofs.Common.{ap, ℕ, List, [], ◌∷◌, Option, Result, Ok, Err}
use Rattle.sdv_card.specs.Port.{Call}
use Rattle.sdv_card.specs.ScriptEvent.{Return}
use Rattle.sdv_run.specs.Run.{Steps}
use Rattle.sdv_lines.specs.declared.fault.ProtocolFault.{ProtocolFault}
use Rattle.sdv_lines.specs.declared.fault.ProtocolFault.TheVariants as faults
use Rattle.sdv_lines.specs.declared.fault.ServeFault.{ServeFault}
use Rattle.sdv_lines.specs.Serving.{Made, Served, ServedAll, ServedInPart, ServesAll, Stops, Turn}

module _ {S T : Type 0} (f : S → T) (steps : Steps S) (steps' : Steps T)
    (step : (s : S) (c : Call) (r : Return) (s' : S) → steps s c r s' → steps' (f s) c r (f s')) where
  seen_made : (turn : Turn) (p p' : S) (a a' : Option (List ℕ)) → Made steps turn p p' a a' → Made steps' turn (f p) (f p') a a'
  seen_made turn p p' a a' made = record {
    lines = made.lines;
    asks = made.asks;
    read = made.read;
    step = step p turn.call turn.returned p' made.step;
  }

  seen_served : (turn : Turn) (p p' : S) (a a' r r' : Option (List ℕ)) → Served steps turn p p' a a' r r'
      → Served steps' turn (f p) (f p') a a' r r'
  seen_served turn p p' a a' r r' served = record { made = seen_made turn p p' a a' served.made; answered = served.answered }

  seen_part : (p p' : S) (a a' r r' : Option (List ℕ)) → ServedInPart steps p p' a a' r r' → ServedInPart steps' (f p) (f p') a a' r r'
  seen_part p p' a a' r r' served = record {
    turn = served.turn;
    made = seen_made served.turn p p' a a' served.made;
    front = served.front;
  }

  seen_stops : (fault : ProtocolFault) (room : ℕ) (p p' : S) (a a' r r' : Option (List ℕ)) → Stops steps fault room p p' a a' r r'
      → Stops steps' fault room (f p) (f p') a a' r r'
  seen_stops faults.Write room p p' a a' r r' stops = seen_part p p' a a' r r' stops
  seen_stops faults.Read room p p' a a' r r' stops = (ap f stops.0, stops.1, stops.2)
  seen_stops faults.Closed room p p' a a' r r' stops = (ap f stops.0, stops.1, stops.2)
  seen_stops faults.Line room p p' a a' r r' stops = (ap f stops.0, stops.1, stops.2)

  seen_turns : (turns : List Turn) (p p' : S) (a a' r r' : Option (List ℕ)) → ServedAll steps turns p p' a a' r r'
      → ServedAll steps' turns (f p) (f p') a a' r r'
  seen_turns [] p p' a a' r r' served = (ap f served.0, served.1, served.2)
  seen_turns (turn ∷ turns) p p' a a' r r' (q, b, s, one, more) =
      (f q, b, s, seen_served turn p q a b r s one, seen_turns turns q p' b a' s r' more)

  pub seen_all : (room : ℕ) (p p' : S) (a a' r r' : Option (List ℕ)) (result : Result (Unit {0}) ServeFault)
      → ServesAll steps room p p' a a' r r' result → ServesAll steps' room (f p) (f p') a a' r r' result
  seen_all room p p' a a' r r' (Ok x) served = record {
    turns = served.turns;
    left = served.left;
    served = seen_turns served.turns p p' a served.left r r' served.served;
    ended = served.ended;
  }
  seen_all room p p' a a' r r' (Err stop) served = record {
    turns = served.turns;
    port = f served.port;
    left = served.left;
    told = served.told;
    served = seen_turns served.turns p served.port a served.left r served.told served.served;
    line = served.line;
    stops = seen_stops stop.fault room served.port p' served.left a' served.told r' served.stops;
  }
