-- A statement without an event is passed, to where it leads.
use Rattle.std.proofs.Common.{◌≡◌, ◌≤◌, length, Some, None, Ok, Err, sym, ap, ◌∙◌, subst}
use Rattle.sdv_graph.specs.declared.graph.Target.{Target}
use Rattle.sdv_graph.specs.Path.{Action, arrive, turns_at}
use Rattle.sdv_player.specs.declared.next_step.Next.{Next}
use Rattle.sdv_player.specs.declared.place.Place.{Place}
use Rattle.sdv_player.specs.declared.state.State.{State}
use Rattle.sdv_player.specs.Passing.{Passes, IsNear, PassesBy, StepsBy}
use Rattle.sdv_player.specs.Seen.{Gone, turns_of, host_of, stand_of}

pub passes_on : (a : Action) (s s₁ : State) (t : Target) (place : Place) → StepsBy a s s₁ (Ok t) → Gone t s₁.place place →
    PassesBy a s (record s₁ { place = place }) None
passes_on a s s₁ t place steps gone r memory flag near asks =
    let is = steps r memory flag near asks in
    let short : length (turns_at t (turns_of s₁.place)) ≤ 4 = subst IsNear is near in
    let there : stand_of (record s₁ { place = place }) r ≡ arrive t (turns_of s₁.place) (host_of s₁.host r) =
    ap (λ point. record { point = point; turns = turns_of place; host = host_of s₁.host r }) (gone.point short)
    ∙ ap (λ turns. record { point = t.to; turns = turns; host = host_of s₁.host r }) (gone.turns short) in
    subst (λ m. Passes m None (stand_of (record s₁ { place = place }) r)) (sym is) there

pub ends_as : (a : Action) (s s₁ : State) (end : Next) → StepsBy a s s₁ (Err end) → PassesBy a s s₁ (Some end)
ends_as a s s₁ end steps r memory flag near asks =
    let is = steps r memory flag near asks in
    subst (λ m. Passes m (Some end) (stand_of s₁ r)) (sym is.1) is.2
