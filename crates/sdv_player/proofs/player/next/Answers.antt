use Rattle.std.proofs.Common.{◌≡◌, ◌∙◌, Some, None, Ok, false, arith, rules}
use Rattle.sdv_table.specs.Reading.{seen_row}
use Rattle.sdv_run.specs.Asks.{AsksFor}
use Rattle.sdv_run.specs.Machine.{now}
use Rattle.sdv_player.specs.StandsFor.{run_of}
use Rattle.sdv_player.proofs.NothingSaid.{no_command_said, no_move_said, none_asked}
use Rattle.sdv_player.proofs.Here.{Reads, some_row, asks_here}
use Rattle.sdv_player.proofs.Silent.{says_event, says_no_more, says_stopped, says_ended, passed_on}
use Rattle.sdv_player.proofs.Within.{row_within, at_row}
use Rattle.sdv_player.proofs.player.next.Goals as goal

pub sending_at-requires : goal.sending_at-requires
sending_at-requires c =
    row_within c.args.words.now c.loop.state.place.point c.in-Some.row (rw c.in-Some.is at c.row_at.ensures.read)

pub returns-in_default-clause-advances : goal.returns-in_default-clause-advances
returns-in_default-clause-advances c = λ g r stands.
    let way = c.loop.invariant.way g r stands in
    let read : Reads c.args.words.now c.loop.state.place.point None = rw c.in_default.is at c.row_at.ensures.table in
    absurd (some_row g c.args.words.now c.loop.state r way.stands read)

pub returns-in-Err-clause-advances : goal.returns-in-Err-clause-advances
returns-in-Err-clause-advances c = λ g r stands.
    let ws = c.args.words.now in
    let s = c.loop.state in
    let way = c.loop.invariant.way g r stands in
    let read : Reads ws s.place.point (Some (seen_row c.in-Some.row)) = rw c.in-Some.is at c.row_at.ensures.table in
    let asks = asks_here g ws s r way.stands (seen_row c.in-Some.row) read c.sending_at.result c.ask.result c.sending_at.ensures.table c.ask.ensures in
    says_stopped g ws c.args.state.now s r way c.in-Err.field-0 (rw c.in-Err.is at asks)

pub returns-in-Ok-Some-clause-advances : goal.returns-in-Ok-Some-clause-advances
returns-in-Ok-Some-clause-advances c = λ g r stands.
    let ws = c.args.words.now in
    let s = c.loop.state in
    let way = c.loop.invariant.way g r stands in
    let read : Reads ws s.place.point (Some (seen_row c.in-Some.row)) = rw c.in-Some.is at c.row_at.ensures.table in
    let asks = asks_here g ws s r way.stands (seen_row c.in-Some.row) read c.sending_at.result c.ask.result c.sending_at.ensures.table c.ask.ensures in
    let event = c.in-Ok-Some.event in
    says_event g ws c.args.state.now s r way event (rw (c.in-Ok-Some.is, c.in-Ok-Some.field-0-is) at asks)

pub returns-then-not-is_left-clause-advances : goal.returns-then-not-is_left-clause-advances
returns-then-not-is_left-clause-advances c = λ g r stands.
    let ws = c.args.words.now in
    let s = c.loop.state in
    let way = c.loop.invariant.way g r stands in
    let read : Reads ws s.place.point (Some (seen_row c.in-Some.row)) = rw c.in-Some.is at c.row_at.ensures.table in
    let asks = asks_here g ws s r way.stands (seen_row c.in-Some.row) read c.sending_at.result c.ask.result c.sending_at.ensures.table c.ask.ensures in
    let event = c.in-Ok-Some.event in
    let not : c.is_left.result ≡ false = search (rules, c.if-not-is_left.true) in
    says_no_more g ws c.args.state.now s r way event (rw (c.in-Ok-Some.is, c.in-Ok-Some.field-0-is) at asks) (c.is_left.ensures.no not)

pub returns-in-Some-pass-clause-keeps : goal.returns-in-Some-pass-clause-keeps
returns-in-Some-pass-clause-keeps c =
    let end = c.in-Some-pass.end in
    let ended = rw c.in-Some-pass.is at c.pass.ensures.ended in
    let no_command = no_command_said end ended in
    let no_move = no_move_said end ended in
    let same = c.pass.ensures.moves in
    let few = c.loop.invariant.few in
    record {
      moves = omega (arith, same, few);
      one_more = omega (arith, no_move);
      left = c.pass.ensures.commands ∙ c.loop.invariant.commands;
      enough = omega (arith, no_command);
    }

pub returns-in-Some-pass-clause-asked : goal.returns-in-Some-pass-clause-asked
returns-in-Some-pass-clause-asked c = none_asked c.in-Some-pass.end c.pass.new.state.asked (rw c.in-Some-pass.is at c.pass.ensures.ended)

pub returns-in-Some-pass-clause-advances : goal.returns-in-Some-pass-clause-advances
returns-in-Some-pass-clause-advances c = λ g r stands.
    let ws = c.args.words.now in
    let s = c.loop.state in
    let way = c.loop.invariant.way g r stands in
    let read : Reads ws s.place.point (Some (seen_row c.in-Some.row)) = rw c.in-Some.is at c.row_at.ensures.table in
    let asks = asks_here g ws s r way.stands (seen_row c.in-Some.row) read c.sending_at.result c.ask.result c.sending_at.ensures.table c.ask.ensures in
    let none : AsksFor (now (run_of g s r)) (Ok None) = rw (c.in-Ok-None.is, c.in-Ok-None.field-0-is) at asks in
    let passes = rw c.in-Some-pass.is at c.pass.ensures.passes in
    let stays = rw c.in-Some-pass.is at c.pass.ensures.stays in
    says_ended g ws c.args.state.now s r way (seen_row c.in-Some.row) read none c.pass.new.state c.in-Some-pass.end passes stays

pub loop-preserved : goal.loop-preserved
loop-preserved c =
    let ws = c.args.words.now in
    let s = c.loop.state in
    let read : Reads ws s.place.point (Some (seen_row c.in-Some.row)) = rw c.in-Some.is at c.row_at.ensures.table in
    let passes = rw c.in_default-pass.is at c.pass.ensures.passes in
    record {
      moves = omega (arith, c.pass.ensures.moves, c.loop.invariant.moves);
      few = omega (arith, c.pass.ensures.moves, c.loop.invariant.few);
      kind = c.pass.ensures.kind ∙ c.loop.invariant.kind;
      app = c.pass.ensures.app ∙ c.loop.invariant.app;
      commands = c.pass.ensures.commands ∙ c.loop.invariant.commands;
      nowhere = λ none. absurd (at_row ws c.args.state.now s c.in-Some.row c.loop.invariant.nowhere (rw c.in-Some.is at c.row_at.ensures.read) none);
      way = λ g r stands.
          let way = c.loop.invariant.way g r stands in
          let asks = asks_here g ws s r way.stands (seen_row c.in-Some.row) read c.sending_at.result c.ask.result c.sending_at.ensures.table c.ask.ensures in
          let none : AsksFor (now (run_of g s r)) (Ok None) = rw (c.in-Ok-None.is, c.in-Ok-None.field-0-is) at asks in
          passed_on g ws c.args.state.now s r way (seen_row c.in-Some.row) read none c.pass.new.state passes (record {
            remembers = c.pass.ensures.remembers;
            kind = c.pass.ensures.kind;
            moves = c.pass.ensures.moves;
            asked = c.pass.ensures.asked;
          });
    }
