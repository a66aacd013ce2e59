-- What a run is on a port: which calls were made and what they returned, and what was received.
use Rattle.std.specs.Prelude.{◌≡◌, ℕ, List, [], ◌∷◌, ◌++◌}
use Rattle.std.specs.List.{concat}
use Rattle.sdv_registers.specs.declared.kind.Kind.{Kind}
use Rattle.sdv_card.specs.declared.answer.DataEnd.TheVariants as ends
use Rattle.sdv_card.specs.Port.{Call, call_of}
use Rattle.sdv_card.specs.ScriptEvent.{Return, BlocksIn}
use Rattle.sdv_graph.specs.Walk.{Pair, Ending, Finished, Failed}
use Rattle.sdv_trace.specs.declared.end.End.{End}
use Rattle.sdv_trace.specs.declared.end.End.TheVariants.{Done, Fault}

-- what a port's calls may return, and leave
abbrev pub Steps : Type 0 → Type 1
Steps s = s → Call → Return → s → Type 0

-- the calls of these events, one after another, lead a port from one state to another, and return so
abbrev pub RunMoved : {S : Type 0} → Kind → Steps S → S → List Pair → S → Type 0
RunMoved k steps s [] t = t ≡ s
RunMoved {S} k steps s (p ∷ ps) t = (u : S) × steps s (call_of k p.0) p.1 u × RunMoved k steps u ps t

-- WHAT IS WRITTEN

-- the bytes of the blocks that phases gave which ended well
abbrev pub received_by : Return → List ℕ
received_by (BlocksIn ends.Ok blocks) = concat blocks
received_by returned = []

abbrev pub received : List Pair → List ℕ
received [] = []
received (p ∷ ps) = received_by p.1 ++ received ps

-- HOW A RUN ENDS

-- the end of a walk, by what a run answers
abbrev pub ending_of : End → Ending
ending_of Done = Finished
ending_of (Fault name) = Failed name.bytes
