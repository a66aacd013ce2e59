-- The runs of a card beside its host that go as a history says.
-- This project's own.
use Rattle.std.specs.Prelude.{◌≡◌, ◌↔◌, ◌<◌, Bool, true, false, IsTrue, ℕ, List, [], ◌∷◌}
use Rattle.sdv_registers.specs.declared.kind.Kind.{Kind}
use Rattle.sdv_card.specs.declared.event.Event.{Event}
use Rattle.sdv_card.specs.declared.event.Outcome.{Outcome}
use Rattle.sdv_card.specs.Modes.{has_width}
use Rattle.sdv_card.specs.ScriptEvent.{ScriptEvent, SendCommand, Return, event_of}
use Rattle.sdv_card.specs.Card.{Card}
use Rattle.sdv_card.specs.Host.{Host, host_after}
use Rattle.sdv_card.specs.HostEvents.{Makes}
use Rattle.sdv_card.specs.Legal.{EventLegal, InBounds}
use Rattle.sdv_card.specs.Step.{Step}
use Rattle.sdv_card.specs.Seen.{seen_of}
use Rattle.sdv_card.specs.Shapes.{pair_code, IsPair}
use Rattle.sdv_card.specs.Profile.{IsAtStart, host_at_start}
use Rattle.sdv_outcomes.specs.OpenGuards.{OpenGuards, OpenGuardsAre}
use Rattle.sdv_outcomes.specs.Representative.{IsRepresentative, IsRepresentativePair}
use Rattle.sdv_outcomes.specs.OutcomeSteps.{step_outcome}
use Rattle.sdv_outcomes.specs.Histories.{Entry, HostSets, Happens, code_after, IsHistory, IsWithin}

-- an event and what it returned
abbrev pub Pair : Type 0
Pair = ScriptEvent × Return

-- a command names this position
abbrev pub IsAt : ℕ → ScriptEvent → Type 0
IsAt position (SendCommand ask place argument) = place ≡ position
IsAt position event = Unit {0}

-- the event is that of an entry
pub record IsEvent (event : Event) (position : ℕ) (x : ScriptEvent) : Type 0 where
  pub same : event_of x ≡ event
  pub placed : IsAt position x

-- the host makes the event of an entry, which is legal and in bounds, and the card goes to u with the entry's outcome
pub record GoesTo (k : Kind) (event : Event) (position : ℕ) (o : Outcome) (guards : OpenGuards)
    (x : Pair) (c : Card) (h : Host) (u : Card) : Type 0 where
  pub is : IsEvent event position x.0
  pub made : Makes k x.0 h
  pub legal : EventLegal x.0 c
  pub bounds : InBounds x.0 c
  pub step : Step x.0 c x.1 u
  pub same : o ≡ step_outcome k x.0 c h x.1 u
  pub guards_are : OpenGuardsAre k guards (seen_of k c.mode.error x.1) x.1

-- the pairs are, in order, steps that lead from c beside h to the last card beside its host, as the entries say
abbrev pub RunsAs : Kind → List Entry → Card → Host → List Pair → (last : Card) (host : Host) → Type 0
RunsAs k [] c h [] last host = (c ≡ last) × (h ≡ host)
RunsAs k [] c h (x ∷ pairs) last host = ⊥
RunsAs k (HostSets numbers flags lines ∷ rest) c h pairs last host =
    (flags < 16) × IsTrue (has_width k lines)
    × RunsAs k rest c (record h { numbers = numbers; flags = flags; lines = lines }) pairs last host
RunsAs k (Happens event position o guards ∷ rest) c h [] last host = ⊥
RunsAs k (Happens event position o guards ∷ rest) c h (x ∷ pairs) last host =
    (u : Card) × GoesTo k event position o guards x c h u
    × RunsAs k rest u (host_after k x.0 x.1 h) pairs last host

-- a run from c beside h that goes as the entries say
pub record RunOf (k : Kind) (entries : List Entry) (c : Card) (h : Host) : Type 0 where
  pub pairs : List Pair
  pub last : Card
  pub host : Host
  pub goes : RunsAs k entries c h pairs last host

-- each history is that of a run of each representative pair whose card has the blocks that its commands address
abbrev pub HistoriesHaveRuns : Kind → Type 0
HistoriesHaveRuns k = (entries : List Entry) (has_address : Bool) (c : Card) (h : Host) →
    IsRepresentativePair k c h → (has_address ≡ true → 0 < h.rca) →
    IsHistory k has_address (pair_code c h) entries → IsWithin c.capacity c.boot_capacity (pair_code c h) entries →
    RunOf k entries c h

-- the entries are a history, which ends at the code of the last card and its host, and the first card has the blocks
pub record HistoryOf (k : Kind) (entries : List Entry) (has_address : Bool) (c : Card) (h : Host)
    (last : Card) (host : Host) : Type 0 where
  pub history : IsHistory k has_address (pair_code c h) entries
  pub within : IsWithin c.capacity c.boot_capacity (pair_code c h) entries
  pub code : pair_code last host ≡ code_after (pair_code c h) entries

-- each run of any card has a history
abbrev pub RunsHaveHistories : Kind → Type 0
RunsHaveHistories k = (entries : List Entry) (has_address : Bool) (c : Card) (h : Host)
    (pairs : List Pair) (last : Card) (host : Host) →
    IsPair k c h → (has_address ≡ false → h.rca ≡ 0) → RunsAs k entries c h pairs last host →
    HistoryOf k entries has_address c h last host

-- so the runs of a representative card of the profile, from its start on, are exactly its histories
abbrev pub StartRunsAreHistories : Kind → Type 0
StartRunsAreHistories k = (entries : List Entry) (variables : ℕ) (c : Card) →
    k ≡ c.kind → IsAtStart c → IsRepresentative c →
    let h : Host = host_at_start variables in
    RunOf k entries c h ↔
    (IsHistory k false (pair_code c h) entries × IsWithin c.capacity c.boot_capacity (pair_code c h) entries)
