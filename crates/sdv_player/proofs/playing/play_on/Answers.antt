use Rattle.std.proofs.Common.{◌≡◌, true, false, Err, length, refl, ap, ◌∙◌, subst, arith, rules}
use Rattle.sdv_registers.specs.declared.kind.Kind.{Kind}
use Rattle.sdv_run.specs.Asks.{CanPerform}
use Rattle.sdv_run.specs.Performs.{Performs}
use Rattle.sdv_player.specs.Seen.{kind_of}
use Rattle.sdv_player.proofs.SoFar.{at_first, says, more, refused, no_room, cut}
use Rattle.sdv_player.proofs.playing.play_on.Goals as goal

pub loop-init : goal.loop-init
loop-init g c = record {
  kind = refl;
  room = refl;
  few = omega arith;
  so_far = at_first (kind_of c.args.state.now.host) g.P.CardPort.steps c.args.words.now c.args.state.now (c.args.port.now, c.args.input.now.now);
}

pub returns-in_default-clause-played : goal.returns-in_default-clause-played
returns-in_default-clause-played g c =
    says _ _ _ _ _ c.loop.state c.next.new.state (c.loop.port, c.loop.input.now) c.next.result c.loop.invariant.so_far
    c.next.ensures.advances c.next.ensures.keeps c.next.ensures.stopped

pub returns-then-not-can_perform-clause-played : goal.returns-then-not-can_perform-clause-played
returns-then-not-can_perform-clause-played g c =
    let advances = rw c.in-Event.is at c.next.ensures.advances in
    let keeps = rw c.in-Event.is at c.next.ensures.keeps in
    let stops = rw c.in-Event.is at c.next.ensures.stopped in
    let event = c.in-Event.event in
    let not : c.can_perform.result ≡ false = search (rules, c.if-not-can_perform.true) in
    let cannot : CanPerform event (length c.args.held.now) → ⊥ =
    subst (λ n. CanPerform event n → ⊥) c.loop.invariant.room (c.can_perform.ensures.cannot not) in
    no_room _ _ _ _ _ c.loop.state c.next.new.state (c.loop.port, c.loop.input.now) event (length c.args.held.now)
    c.loop.invariant.so_far advances keeps stops cannot

pub returns-in_err-returned-clause-played : goal.returns-in_err-returned-clause-played
returns-in_err-returned-clause-played g c =
    let advances = rw c.in-Event.is at c.next.ensures.advances in
    let keeps = rw c.in-Event.is at c.next.ensures.keeps in
    let stops = rw c.in-Event.is at c.next.ensures.stopped in
    let event = c.in-Event.event in
    let kind : c.kind.result ≡ kind_of c.args.state.now.host =
    c.kind.ensures ∙ ap (λ n. kind_of (record c.args.state.now.host { kind = n })) (c.next.ensures.kind ∙ c.loop.invariant.kind) in
    let fault = c.in_err-returned.field-0.0 in
    let was : Performs c.kind.result g.P.CardPort.steps event (c.loop.port, c.loop.input.now) (c.perform.new.port, c.perform.new.input.now)
    c.perform.new.held (Err fault) = c.in_err-returned.ensures in
    let stops = cut (kind_of c.args.state.now.host) g.P.CardPort.steps c.args.words.now c.args.state.now (c.args.port.now, c.args.input.now.now) c.loop.state
    c.next.new.state (c.loop.port, c.loop.input.now) (c.perform.new.port, c.perform.new.input.now) event c.perform.new.held (length c.args.held.now)
    fault c.loop.invariant.so_far advances keeps stops (subst (λ (k : Kind). Performs k g.P.CardPort.steps event (c.loop.port, c.loop.input.now)
    (c.perform.new.port, c.perform.new.input.now) c.perform.new.held (Err fault)) kind was) in
    search (rules, stops)

pub returns-then-not-tell-clause-played : goal.returns-then-not-tell-clause-played
returns-then-not-tell-clause-played g c =
    let advances = rw c.in-Event.is at c.next.ensures.advances in
    let keeps = rw c.in-Event.is at c.next.ensures.keeps in
    let stops = rw c.in-Event.is at c.next.ensures.stopped in
    let event = c.in-Event.event in
    let kind : c.kind.result ≡ kind_of c.args.state.now.host =
    c.kind.ensures ∙ ap (λ n. kind_of (record c.args.state.now.host { kind = n })) (c.next.ensures.kind ∙ c.loop.invariant.kind) in
    let performed = rw kind at c.in_ok-returned.ensures in
    let not : c.tell.result ≡ false = search (rules, c.if-not-tell.true) in
    let takes = rw not at c.tell.ensures.takes in
    let asked = rw c.in-Event.is at c.next.ensures.asked in
    refused _ _ _ _ _ c.loop.state c.next.new.state c.tell.new.state (c.loop.port, c.loop.input.now) (c.perform.new.port, c.perform.new.input.now) event
    c.perform.new.held c.in_ok-returned.returned c.loop.invariant.so_far advances keeps stops performed takes (c.tell.ensures.refused not asked)

pub loop-preserved : goal.loop-preserved
loop-preserved g c =
    let advances = rw c.in-Event.is at c.next.ensures.advances in
    let keeps = rw c.in-Event.is at c.next.ensures.keeps in
    let stops = rw c.in-Event.is at c.next.ensures.stopped in
    let event = c.in-Event.event in
    let kind : c.kind.result ≡ kind_of c.args.state.now.host =
    c.kind.ensures ∙ ap (λ n. kind_of (record c.args.state.now.host { kind = n })) (c.next.ensures.kind ∙ c.loop.invariant.kind) in
    let performed = rw kind at c.in_ok-returned.ensures in
    let yes : c.tell.result ≡ true = search (rules, c.if-not-tell.false) in
    let takes = rw yes at c.tell.ensures.takes in
    let off = c.tell.ensures.counted yes in
    let moved = off.move in
    let most = keeps.moves in
    let few = c.loop.invariant.few in
    record {
      kind = c.tell.ensures.kind yes ∙ c.next.ensures.kind ∙ c.loop.invariant.kind;
      room = c.perform.auto.held ∙ c.loop.invariant.room;
      few = omega (arith, moved, most, few);
      so_far = more _ _ _ _ _ c.loop.state c.next.new.state c.tell.new.state (c.loop.port, c.loop.input.now) (c.perform.new.port, c.perform.new.input.now) event
          c.perform.new.held c.in_ok-returned.returned c.loop.invariant.so_far advances keeps stops performed takes off;
    }

pub returns-clause-played : goal.returns-clause-played
returns-clause-played g c =
    says _ _ _ _ _ c.loop.state c.next-2.new.state (c.loop.port, c.loop.input.now) c.next-2.result c.loop.invariant.so_far
    c.next-2.ensures.advances c.next-2.ensures.keeps c.next-2.ensures.stopped
