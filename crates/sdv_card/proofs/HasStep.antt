-- A card has a step at each legal event: CMD0 is taken, every other command is lost, a phase is cut, and a wait is late.
use Rattle.std.proofs.Common.{◌≡◌, ℕ, inl, refl, Bool, true, false, [], replicate, None}
use Rattle.std.proofs.lemmas.List.{length-replicate}
use Rattle.sdv_registers.specs.declared.kind.Kind.{Kind}
use Rattle.sdv_card.specs.declared.state.State.{State}
use Rattle.sdv_card.specs.declared.state.State.TheVariants.{Tran, Data, Rcv, Prg}
use Rattle.sdv_card.specs.declared.state.Place.{Place}
use Rattle.sdv_card.specs.declared.state.Transfer.{Transfer}
use Rattle.sdv_card.specs.declared.state.Transfer.TheVariants.{Nothing, ReadDue, OpenReadDue, ScrDue, SdStatusDue, ExtCsdDue, WriteDue, OpenWriteDue}
use Rattle.sdv_card.specs.declared.state.EraseStage.TheVariants.{Outside}
use Rattle.sdv_card.specs.declared.answer.Answer.{Answer}
use Rattle.sdv_card.specs.declared.answer.Answer.TheVariants.{Sent, TimeOut}
use Rattle.sdv_card.specs.declared.answer.DataEnd.TheVariants.{Cut}
use Rattle.sdv_card.specs.declared.answer.WaitEnd.TheVariants.{Late}
use Rattle.sdv_card.specs.declared.command.Order.{Order}
use Rattle.sdv_card.specs.declared.command.Row.{Row}
use Rattle.sdv_card.specs.declared.command.Row.TheVariants.{Cmd0}
use Rattle.sdv_card.specs.declared.command.Response.{Response}
use Rattle.sdv_card.specs.declared.command.Response.TheVariants.{Absent, NotAddressed, CardStatus, NewAddress, Contents, Conditions}
use Rattle.sdv_card.specs.declared.command.TakenAs.{TakenAs}
use Rattle.sdv_card.specs.declared.command.TakenAs.TheVariants.{Forbidden, Ignored, By}
use Rattle.sdv_card.specs.Lists.{May}
use Rattle.sdv_card.specs.ScriptEvent.{SendCommand, ReceiveBlocks, ReceiveRegister, GiveBlocks, AwaitReady, Answered, BlocksIn, RegisterIn, BlocksOut, Waited}
use Rattle.sdv_card.specs.Responses.{response_of}
use Rattle.sdv_card.specs.Card.{Card, Partitions, blocks_of, put}
use Rattle.sdv_card.specs.Taken.{Taken, LengthAfter}
use Rattle.sdv_card.specs.Exchange.{Reset, RowAnswer, SettledAnswer, unaddressed_answer, card_takes}
use Rattle.sdv_card.specs.Phases.{read_due, register_due, write_due, after_phase, after_wait, Moved, MovedWriting}
use Rattle.sdv_card.specs.Legal.{RowLegal, SettledLegal, recv_legal, recv_reg_legal, give_legal, wait_legal}
use Rattle.sdv_card.specs.Laws.{HasStep}
use Rattle.sdv_card.specs.declared.state.Partition.{Partition}
use Rattle.sdv_card.specs.declared.state.Partition.TheVariants.{User, Boot1, Boot2}
use Rattle.sdv_card.specs.Modes.{first_mode}
use Rattle.sdv_card.proofs.Members.{here, and_left}

-- a card after CMD0
after_reset : Card → State → Card
after_reset t target = record t {
  state = target;
  rca = None;
  app = false;
  block_length = 512;
  erase = Outside;
  mode = first_mode;
  preset = 0;
  transfer = Nothing;
  unshown_error = false;
}

any_length : (b : Bool) (n : ℕ) → LengthAfter Cmd0 b n 512
any_length true n = refl
any_length false n = tt

reset_taken : (argument : ℕ) (t : Card) (l : RowLegal Cmd0 t) → Taken Cmd0 true argument t (after_reset t l.target)
unfolding after_reset
reset_taken argument t l = record {
  same = record {
    kind = refl;
    version = refl;
    block_unit = refl;
    capacity = refl;
    boot_capacity = refl;
    csd = refl;
    cid = refl;
    ext_csd = refl;
    scr = refl;
    sd_status = refl;
  };
  state = l.has_row;
  reached = refl;
  app = here refl;
  erase = refl;
  block_length = any_length t.block_unit t.block_length;
  preset = here refl;
  rca = refl;
  transfer = refl;
  mode = here refl;
  switched = refl;
  blocks = record { block = refl; count_is = refl };
  contents = refl;
}

reset_step : (row : Row) (argument : ℕ) (t : Card) → Absent ≡ response_of row → RowLegal row t → (u : Card) × Reset row argument t u
unfolding after_reset
reset_step Cmd0 argument t e l = (after_reset t l.target, record { card = reset_taken argument t l; error = refl })
reset_step row argument t e l = absurd (cc)

-- what may come of a legal row, and of a legal command
row_step : (response : Response) (order : Order) (row : Row) (argument : ℕ) (t : Card) → response ≡ response_of row → RowLegal row t →
    (answer : Answer) × (u : Card) × RowAnswer response order row argument t answer u
row_step Absent order row argument t e l =
    let r : (u : Card) × Reset row argument t u = reset_step row argument t e l in (Sent, r.0, r.1)
row_step NotAddressed order row argument t e l = (unaddressed_answer order, t, (refl, inl refl))
row_step CardStatus order row argument t e l = (TimeOut, t, inl refl)
row_step NewAddress order row argument t e l = (TimeOut, t, inl refl)
row_step Contents order row argument t e l = (TimeOut, t, inl refl)
row_step Conditions order row argument t e l = (TimeOut, t, inl refl)

settled_step : (way : TakenAs) (order : Order) (argument : ℕ) (t : Card) → SettledLegal way t →
    (answer : Answer) × (u : Card) × SettledAnswer way order argument t answer u
settled_step Forbidden order argument t l = absurd l
settled_step Ignored order argument t l = (TimeOut, t, (refl, refl))
settled_step (By row) order argument t l = row_step (response_of row) order row argument t refl l

-- a legal phase is due
pub read_is_due : (s : State) (x : Transfer) → recv_legal s x ≡ true → read_due x ≡ true
read_is_due Data x e = e
read_is_due s x e = absurd (let f : false ≡ true = e in cc)

pub register_is_due : (s : State) (x : Transfer) → recv_reg_legal s x ≡ true → register_due x ≡ true
register_is_due Data x e = e
register_is_due s x e = absurd (let f : false ≡ true = e in cc)

pub write_is_due : (s : State) (x : Transfer) → give_legal s x ≡ true → write_due x ≡ true
write_is_due Rcv x e = e
write_is_due s x e = absurd (let f : false ≡ true = e in cc)

-- a phase that is due may be cut
pub cut_read : (x : Transfer) → read_due x ≡ true → (p : Place) × May (after_phase x Cut) p
cut_read ReadDue e = (_, here refl)
cut_read OpenReadDue e = (_, here refl)
cut_read x e = absurd (let f : false ≡ true = e in cc)

pub cut_register : (x : Transfer) → register_due x ≡ true → (p : Place) × May (after_phase x Cut) p
cut_register ScrDue e = (_, here refl)
cut_register SdStatusDue e = (_, here refl)
cut_register ExtCsdDue e = (_, here refl)
cut_register x e = absurd (let f : false ≡ true = e in cc)

pub cut_write : (x : Transfer) → write_due x ≡ true → (p : Place) × May (after_phase x Cut) p
cut_write WriteDue e = (_, here refl)
cut_write OpenWriteDue e = (_, here refl)
cut_write x e = absurd (let f : false ≡ true = e in cc)

-- a wait may be late, and leave the state
pub late_wait : (s : State) → wait_legal s ≡ true → May (after_wait s Late) s
late_wait Tran e = here refl
late_wait Prg e = here refl
late_wait s e = absurd (let f : false ≡ true = e in cc)

at_place : Card → Place → Card
at_place c p = record c { state = p.state; transfer = p.transfer }

moved_to : (c : Card) (p : (p : Place) × May (after_phase c.transfer Cut) p) → Moved Cut c (at_place c p.0)
unfolding at_place
moved_to c p = record { place = p.0; may = p.1; card = refl }

moved_writing_to : (c : Card) (p : (p : Place) × May (after_phase c.transfer Cut) p) → MovedWriting Cut c (at_place c p.0)
unfolding at_place
moved_writing_to c p = record { place = p.0; may = p.1; card = refl }

-- the blocks of a partition, put where they are
put_back : (p : Partition) (contents : Partitions) → put p (blocks_of p contents) contents ≡ contents
put_back User contents = refl
put_back Boot1 contents = refl
put_back Boot2 contents = refl

pub has_step : (k : Kind) → HasStep k
unfolding at_place
has_step k (SendCommand ask position argument) c h pair l =
    let s : (answer : Answer) × (u : Card) × SettledAnswer (card_takes c l.order argument) l.order argument c answer u =
    settled_step (card_takes c l.order argument) l.order argument c (l.settled c (inl refl)) in
    record {
      returned = Answered s.0;
      after = s.1;
      step = record { order = l.order; asks = l.asks; exchange = record { settled_card = c; settled = inl refl; answered = s.2 } };
    }
has_step k (ReceiveBlocks lines count) c h pair l =
    let due : read_due c.transfer ≡ true = read_is_due c.state c.transfer (and_left (recv_legal c.state c.transfer) _ l) in
    record {
      returned = BlocksIn Cut (replicate count []);
      after = at_place c (cut_read c.transfer due).0;
      step = record { due = due; size = length-replicate count []; truth = tt; moved = moved_to c (cut_read c.transfer due) };
    }
has_step k (ReceiveRegister lines count) c h pair l =
    let due : register_due c.transfer ≡ true = register_is_due c.state c.transfer (and_left (recv_reg_legal c.state c.transfer) _ l) in
    record {
      returned = RegisterIn Cut (replicate count 0);
      after = at_place c (cut_register c.transfer due).0;
      step = record { due = due; size = length-replicate count 0; truth = tt; moved = moved_to c (cut_register c.transfer due) };
    }
has_step k (GiveBlocks lines blocks) c h pair l =
    let due : write_due c.transfer ≡ true = write_is_due c.state c.transfer (and_left (give_legal c.state c.transfer) _ l) in
    record {
      returned = BlocksOut Cut;
      after = at_place c (cut_write c.transfer due).0;
      step = record {
        due = due;
        others = record { blocks = pair.card.contents c.mode.partition; others = put_back c.mode.partition c.contents; below = refl; above = refl };
        stored = refl;
        moved = moved_writing_to c (cut_write c.transfer due);
      };
    }
has_step k AwaitReady c h pair l = record {
  returned = Waited Late;
  after = c;
  step = record { state = c.state; may = late_wait c.state l; card = refl };
}
