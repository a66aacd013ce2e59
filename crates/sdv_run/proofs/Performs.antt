-- Events that were made, by what the port's call was.
use Rattle.std.proofs.Common.{◌≡◌, ◌≤◌, ℕ, List, length, take, refl, sym, ap, Ok, Err, length-take-le, arith}
use Rattle.sdv_registers.specs.declared.kind.Kind.{Kind}
use Rattle.sdv_card.specs.declared.answer.Answer.{Answer}
use Rattle.sdv_card.specs.declared.answer.DataEnd.{DataEnd}
use Rattle.sdv_card.specs.declared.event.Ask.{Ask}
use Rattle.sdv_card.specs.declared.state.Width.{Width}
use Rattle.sdv_card.specs.Card.{Block}
use Rattle.sdv_card.specs.CommandTable.{expect_of}
use Rattle.sdv_card.specs.Modes.{line_count}
use Rattle.sdv_card.specs.Port.{command_of, Exchange, DataIn, DataInRegister}
use Rattle.sdv_card.specs.ScriptEvent.{SendCommand, ReceiveBlocks, ReceiveRegister, GiveBlocks, Answered, BlocksIn, RegisterIn, BlocksOut}
use Rattle.sdv_run.specs.declared.fault.RunFault.{RunFault}
use Rattle.sdv_run.specs.declared.fault.RunFault.TheVariants.{Reply, Input, Output, Trace, Memory}
use Rattle.sdv_run.specs.declared.next_event.NextEvent.TheVariants as events
use Rattle.sdv_run.specs.declared.returned.Returned.TheVariants as told
use Rattle.sdv_run.specs.Run.{Steps}
use Rattle.sdv_run.specs.Performs.{Source, Performed, Performs, Gives}

module _ {S : Type 0} (k : Kind) (steps : Steps S) (input : List Block) (held : List Block) where
  pub sent : (ask : Ask) (position argument : ℕ) (answer : Answer) (s s' : S) →
      steps s (Exchange (command_of ask argument) (expect_of k ask)) (Answered answer) s' →
      Performed k steps (events.Send ask position argument) (s, input) (s', input) held (told.Answered answer)
  sent ask position argument answer s s' step = record {
    event = SendCommand ask position argument;
    seen = Answered answer;
    told = record { is = refl; fits = tt; tells = refl };
    step = step;
    input = refl;
  }

  -- a front is as long as it was asked for
  front : {A : Type 0} (count : ℕ) (xs : List A) → count ≤ length xs → length (take count xs) ≡ count
  front count xs le = length-take-le count xs le

  same_front : {A : Type 0} (count : ℕ) (xs : List A) → count ≤ length xs → take count xs ≡ take (length (take count xs)) xs
  same_front count xs le = ap (λ n. take n xs) (sym (front count xs le))

  pub received : (lines : Width) (count : ℕ) (end : DataEnd) (s s' : S) → count ≤ length held →
      steps s (DataIn (line_count lines) count) (BlocksIn end (take count held)) s' →
      Performed k steps (events.ReceiveBlocks lines count) (s, input) (s', input) held (told.BlocksIn end)
  received lines count end s s' le step = record {
    event = ReceiveBlocks lines count;
    seen = BlocksIn end (take count held);
    told = record { is = refl; fits = front count held le; tells = (refl, same_front count held le) };
    step = step;
    input = refl;
  }

  pub received_register : (lines : Width) (count : ℕ) (end : DataEnd) (register : List ℕ) (s s' : S) → count ≤ 512 → length register ≡ 512 →
      steps s (DataInRegister (line_count lines) count) (RegisterIn end (take count register)) s' →
      Performed k steps (events.ReceiveRegister lines count) (s, input) (s', input) held (told.RegisterIn end register)
  received_register lines count end register s s' few room step =
      let le : count ≤ length register = omega (arith, few, room) in
      record {
        event = ReceiveRegister lines count;
        seen = RegisterIn end (take count register);
        told = record { is = refl; fits = front count register le; tells = (refl, room, same_front count register le) };
        step = step;
        input = refl;
      }

module _ {S : Type 0} (k : Kind) (steps : Steps S) (held : List Block) (lines : Width) (count : ℕ) (s s' : Source S) where
  pub gave : (end : DataEnd) → Gives steps lines count s s' (Ok end) → Performed k steps (events.GiveBlocks lines count) s s' held (told.BlocksOut end)
  gave end p = record {
    event = GiveBlocks lines p.0;
    seen = BlocksOut end;
    told = record { is = (p.0, p.1, refl); fits = tt; tells = refl };
    step = p.3;
    input = p.2;
  }

  pub gave_none : (fault : RunFault) → Gives steps lines count s s' (Err fault) → Performs k steps (events.GiveBlocks lines count) s s' held (Err fault)
  gave_none Input p = p
  gave_none Reply p = absurd p
  gave_none Output p = absurd p
  gave_none Trace p = absurd p
  gave_none Memory p = absurd p
