-- Where a move without an event leads a player, or how the run then ends.
use Rattle.std.specs.Prelude.{◌≡◌, ◌≤◌, ◌<◌, length, Option, Some, None, Result, Ok, Err}
use Rattle.sdv_card.specs.Host.{Host}
use Rattle.sdv_card.specs.ScriptEvent.{Return}
use Rattle.sdv_graph.specs.Walk.{Ending, Finished, Failed, number_fault}
use Rattle.sdv_graph.specs.declared.graph.Target.{Target}
use Rattle.sdv_graph.specs.Path.{Action, flags, Stand, Move, Goes, Does, Halts, action_move, arrive}
use Rattle.sdv_run.specs.Asks.{AsksFor}
use Rattle.sdv_table.specs.Reading.{name_of}
use Rattle.sdv_player.specs.declared.next_step.Next.{Next}
use Rattle.sdv_player.specs.declared.next_step.Next.TheVariants as nexts
use Rattle.sdv_player.specs.declared.state.State.{State}
use Rattle.sdv_player.specs.Seen.{Registers, Remembers, kind_of, turns_of, host_of, stand_of}

-- how a run ends
abbrev pub EndsAs : Next → Ending → Type 0
EndsAs nexts.Done last = last ≡ Finished
EndsAs (nexts.Fault name) last = last ≡ Failed (name_of name.length name.words.now)
EndsAs nexts.Number last = last ≡ number_fault
EndsAs next last = ⊥

-- it leads there, or ends so
abbrev pub Passes : Move → Option Next → Stand → Type 0
Passes (Goes next) None s = s ≡ next
Passes (Halts last) (Some end) s = EndsAs end last
Passes m end s = ⊥

-- a move leads into at most four loops at once, and does not fall out of the script
abbrev pub IsNear : Move → Type 0
IsNear (Goes next) = length next.turns ≤ 4
IsNear (Does deed before next) = (returned : Return) (after : Host) → length (next returned after).turns ≤ 4
IsNear (Halts Finished) = Unit {0}
IsNear (Halts (Failed name)) = Unit {0}
IsNear (Halts last) = ⊥

-- a flag that is set or cleared is one of eight
abbrev pub NamesFlag : Action → Type 0
NamesFlag (flags f on t) = f < 8
NamesFlag action = Unit {0}

-- what happens at a statement, where the state stands
abbrev pub move_at : State → Registers → Action → Move
move_at s r a = action_move (kind_of s.host) a (turns_of s.place) (host_of s.host r)

-- a statement without an event was passed
abbrev pub PassesBy : Action → (s s' : State) → Option Next → Type 0
PassesBy a s s' result =
    (r : Registers) → Remembers s.host r → NamesFlag a → IsNear (move_at s r a) → AsksFor (move_at s r a) (Ok None)
    → Passes (move_at s r a) result (stand_of s' r)

-- a statement without an event leads to a target, or the run ends
abbrev pub LeadsTo : Move → State → Registers → Result Target Next → Type 0
LeadsTo m s' r (Ok target) = m ≡ Goes (arrive target (turns_of s'.place) (host_of s'.host r))
LeadsTo m s' r (Err end) = (last : Ending) × (m ≡ Halts last) × EndsAs end last

abbrev pub StepsBy : Action → (s s' : State) → Result Target Next → Type 0
StepsBy a s s' result =
    (r : Registers) → Remembers s.host r → NamesFlag a → IsNear (move_at s r a) → AsksFor (move_at s r a) (Ok None)
    → LeadsTo (move_at s r a) s' r result
