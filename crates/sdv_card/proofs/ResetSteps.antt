-- CMD0 from any card of the profile.
use Rattle.std.proofs.Common.{◌≡◌, ℕ, inl, inr, refl, sym, ap, ◌∙◌, subst, arith, Bool, true, false, Option, Some, None}
use Rattle.sdv_registers.specs.declared.kind.Kind.{Kind}
use Rattle.sdv_registers.specs.declared.kind.Kind.TheVariants.{Sd, Emmc}
use Rattle.sdv_card.specs.declared.answer.Answer.{Answer}
use Rattle.sdv_card.specs.declared.answer.Answer.TheVariants.{Sent, TimeOut, Reply, Damaged}
use Rattle.sdv_card.specs.declared.command.Move.{Move}
use Rattle.sdv_card.specs.declared.command.Order.{Order}
use Rattle.sdv_card.specs.declared.command.Order.TheVariants.{GoIdleState}
use Rattle.sdv_card.specs.declared.command.Row.TheVariants.{Cmd0}
use Rattle.sdv_card.specs.declared.event.Ask.{Ask}
use Rattle.sdv_card.specs.declared.event.Aim.TheVariants.{Plain}
use Rattle.sdv_card.specs.declared.state.State.{State}
use Rattle.sdv_card.specs.declared.state.State.TheVariants.{Idle, Ready, Ident, Stby, Tran, Data, Rcv, Prg, Dis}
use Rattle.sdv_card.specs.declared.state.Transfer.TheVariants.{Nothing}
use Rattle.sdv_card.specs.declared.state.EraseStage.TheVariants.{Outside}
use Rattle.sdv_card.specs.declared.state.Width.TheVariants.{One}
use Rattle.sdv_card.specs.Card.{Card}
use Rattle.sdv_card.specs.CommandTable.{Asks, order_of, argument_or_none, addressed_blocks}
use Rattle.sdv_card.specs.Exchange.{Reset, SettledAnswer, card_takes}
use Rattle.sdv_card.specs.Host.{Host, host_after}
use Rattle.sdv_card.specs.HostEvents.{Makes}
use Rattle.sdv_card.specs.Legal.{EventLegal, InBounds, BlocksWithin, RowLegal}
use Rattle.sdv_card.specs.Lists.{May, IsOneOf}
use Rattle.sdv_card.specs.Modes.{first_mode, has_width}
use Rattle.sdv_card.specs.Profile.{IsOfProfile, IsAtStart, host_at_start}
use Rattle.sdv_card.specs.Resets.{IsReset, ResetsStartCards}
use Rattle.sdv_card.specs.ScriptEvent.{ScriptEvent, SendCommand, ReceiveBlocks, ReceiveRegister, GiveBlocks, AwaitReady, Return, Answered, BlocksIn, RegisterIn, BlocksOut, Waited}
use Rattle.sdv_card.specs.Settled.{Settled}
use Rattle.sdv_card.specs.Shapes.{IsPair}
use Rattle.sdv_card.specs.StateTable.{◌to◌, rows, every_to}
use Rattle.sdv_card.specs.Step.{Step, Sends}
use Rattle.sdv_card.specs.Taken.{SameCard, LengthAfter}
use Rattle.sdv_card.proofs.Members.{here, there, only}
use Rattle.sdv_card.proofs.AsksAddress.{asks_address}
use Rattle.sdv_card.proofs.KeepPairs.{steps_keep_pairs}

-- what a reset keeps
pub record Keeps (c u : Card) : Type 0 where
  pub same : SameCard c u
  pub next_block : c.next_block ≡ u.next_block
  pub announced : c.announced ≡ u.announced
  pub contents : c.contents ≡ u.contents

same_refl : (c : Card) → SameCard c c
same_refl c = record { kind = refl; version = refl; block_unit = refl; capacity = refl; boot_capacity = refl; csd = refl; cid = refl; ext_csd = refl; scr = refl; sd_status = refl }

same_trans : (c t u : Card) → SameCard c t → SameCard t u → SameCard c u
same_trans c t u a b = record {
  kind = a.kind ∙ b.kind;
  version = a.version ∙ b.version;
  block_unit = a.block_unit ∙ b.block_unit;
  capacity = a.capacity ∙ b.capacity;
  boot_capacity = a.boot_capacity ∙ b.boot_capacity;
  csd = a.csd ∙ b.csd;
  cid = a.cid ∙ b.cid;
  ext_csd = a.ext_csd ∙ b.ext_csd;
  scr = a.scr ∙ b.scr;
  sd_status = a.sd_status ∙ b.sd_status;
}

pub keeps_refl : (c : Card) → Keeps c c
keeps_refl c = record { same = same_refl c; next_block = refl; announced = refl; contents = refl }

pub keeps_trans : (c t u : Card) → Keeps c t → Keeps t u → Keeps c u
keeps_trans c t u a b = record {
  same = same_trans c t u a.same b.same;
  next_block = a.next_block ∙ b.next_block;
  announced = a.announced ∙ b.announced;
  contents = a.contents ∙ b.contents;
}

settled_keeps : (c t : Card) → Settled c t → Keeps c t
settled_keeps c t (inl e) = subst (Keeps c) e (keeps_refl c)
settled_keeps c t (inr (s, there_is, e)) = subst (Keeps c) e
    (record {
      same = record { kind = refl; version = refl; block_unit = refl; capacity = refl; boot_capacity = refl; csd = refl; cid = refl; ext_csd = refl; scr = refl; sd_status = refl };
      next_block = refl;
      announced = refl;
      contents = refl;
    })

-- how a reset leaves a card
pub record IsFresh (u : Card) : Type 0 where
  pub state : u.state ≡ Idle
  pub rca : u.rca ≡ None
  pub app : u.app ≡ false
  pub erase : u.erase ≡ Outside
  pub mode : u.mode ≡ first_mode
  pub preset : u.preset ≡ 0
  pub transfer : u.transfer ≡ Nothing
  pub unshown_error : u.unshown_error ≡ false
  pub block_length : u.block_unit ≡ true → u.block_length ≡ 512

to_idle : (s : State) → May (every_to Idle) (s to Idle)
to_idle Idle = here refl
to_idle Ready = there (here refl)
to_idle Ident = there (there (here refl))
to_idle Stby = there (there (there (here refl)))
to_idle Tran = there (there (there (there (here refl))))
to_idle Data = there (there (there (there (there (here refl)))))
to_idle Rcv = there (there (there (there (there (there (here refl))))))
to_idle Prg = there (there (there (there (there (there (there (here refl)))))))
to_idle Dis = there (there (there (there (there (there (there (there (here refl))))))))

idle_row : (k : Kind) (s : State) → May (rows k Cmd0) (s to Idle)
idle_row Sd s = to_idle s
idle_row Emmc s = to_idle s

from_every : (m : Move) → IsOneOf (every_to Idle) m → m.target ≡ Idle
from_every m (inl e) = sym (ap (λ (m : Move). m.target) e)
from_every m (inr (inl e)) = sym (ap (λ (m : Move). m.target) e)
from_every m (inr (inr (inl e))) = sym (ap (λ (m : Move). m.target) e)
from_every m (inr (inr (inr (inl e)))) = sym (ap (λ (m : Move). m.target) e)
from_every m (inr (inr (inr (inr (inl e))))) = sym (ap (λ (m : Move). m.target) e)
from_every m (inr (inr (inr (inr (inr (inl e)))))) = sym (ap (λ (m : Move). m.target) e)
from_every m (inr (inr (inr (inr (inr (inr (inl e))))))) = sym (ap (λ (m : Move). m.target) e)
from_every m (inr (inr (inr (inr (inr (inr (inr (inl e)))))))) = sym (ap (λ (m : Move). m.target) e)
from_every m (inr (inr (inr (inr (inr (inr (inr (inr (inl e))))))))) = sym (ap (λ (m : Move). m.target) e)
from_every m (inr (inr (inr (inr (inr (inr (inr (inr (inr e))))))))) = absurd e

row_idle : (k : Kind) (s u : State) → May (rows k Cmd0) (s to u) → u ≡ Idle
row_idle Sd s u m = from_every (s to u) m.one
row_idle Emmc s u m = from_every (s to u) m.one

length_of : (b : Bool) (length after : ℕ) → LengthAfter Cmd0 b length after → b ≡ true → after ≡ 512
length_of true length after l e = l
length_of false length after l e = absurd (let f : false ≡ true = e in cc)

length_to : (b : Bool) (length after : ℕ) → (b ≡ true → after ≡ 512) → LengthAfter Cmd0 b length after
length_to true length after f = f refl
length_to false length after f = tt

reset_fresh : (argument : ℕ) (t u : Card) → Reset Cmd0 argument t u → Keeps t u × IsFresh u
reset_fresh argument t u r = (
  record { same = r.card.same; next_block = r.card.blocks.block; announced = r.card.blocks.count_is; contents = r.card.contents },
  record {
    state = row_idle t.kind t.state u.state r.card.state;
    rca = sym r.card.rca;
    app = sym (only r.card.app);
    erase = sym r.card.erase;
    mode = sym (only r.card.mode);
    preset = sym (only r.card.preset);
    transfer = sym r.card.transfer;
    unshown_error = sym r.error;
    block_length = λ e. length_of t.block_unit t.block_length u.block_length r.card.block_length (r.card.same.block_unit ∙ e);
  },
)

fresh_reset : (argument : ℕ) (t u : Card) → Keeps t u → IsFresh u → Reset Cmd0 argument t u
fresh_reset argument t u k f = record {
  card = record {
    same = k.same;
    state = subst (λ s. May (rows t.kind Cmd0) (t.state to s)) (sym f.state) (idle_row t.kind t.state);
    reached = refl;
    app = here (sym f.app);
    erase = sym f.erase;
    block_length = length_to t.block_unit t.block_length u.block_length (λ e. f.block_length (sym k.same.block_unit ∙ e));
    preset = here (sym f.preset);
    rca = sym f.rca;
    transfer = sym f.transfer;
    mode = here (sym f.mode);
    switched = refl;
    blocks = record { block = k.next_block; count_is = k.announced };
    contents = k.contents;
  };
  error = sym f.unshown_error;
}

-- THE STEP

some_order : {x y : Order} → Some x ≡ Some y → x ≡ y
some_order e = cc

heard : (argument : ℕ) (t : Card) (answer : Answer) (u : Card) → SettledAnswer (card_takes t GoIdleState argument) GoIdleState argument t answer u
    → (answer ≡ Sent) × Reset Cmd0 argument t u
heard argument t Sent u a = (refl, a)
heard argument t TimeOut u a = absurd a
heard argument t (Reply reply) u a = absurd a
heard argument t (Damaged fault) u a = absurd a

pub record Afresh (c : Card) (returned : Return) (u : Card) : Type 0 where
  pub keeps : Keeps c u
  pub fresh : IsFresh u
  pub sent : returned ≡ Answered Sent

sent_fresh : (k : Kind) (ask : Ask) (argument : ℕ) (c : Card) (answer : Answer) (u : Card) → Asks k ask GoIdleState → k ≡ c.kind
    → Sends ask argument c answer u → Afresh c (Answered answer) u
sent_fresh k ask argument c answer u asks kind s =
    let t = s.exchange.settled_card in
    let order : s.order ≡ GoIdleState = some_order (sym s.asks.line ∙ ap (λ k. order_of k ask) (sym kind) ∙ asks.line) in
    let h = heard argument t answer u (subst (λ o. SettledAnswer (card_takes t o argument) o argument t answer u) order s.exchange.answered) in
    let f = reset_fresh argument t u h.1 in
    record {
      keeps = keeps_trans c t u (settled_keeps c t s.exchange.settled) f.0;
      fresh = f.1;
      sent = ap Answered h.0;
    }

pub fresh_after : (k : Kind) (event : ScriptEvent) (c : Card) (returned : Return) (u : Card) → IsReset k event → k ≡ c.kind → Step event c returned u
    → Afresh c returned u
fresh_after k (SendCommand ask position argument) c (Answered answer) u is kind step = sent_fresh k ask argument c answer u is.0 kind step
fresh_after k (SendCommand ask position argument) c (BlocksIn end blocks) u is kind step = absurd step
fresh_after k (SendCommand ask position argument) c (RegisterIn end bytes) u is kind step = absurd step
fresh_after k (SendCommand ask position argument) c (BlocksOut end) u is kind step = absurd step
fresh_after k (SendCommand ask position argument) c (Waited end) u is kind step = absurd step
fresh_after k (ReceiveBlocks lines count) c returned u is kind step = absurd is
fresh_after k (ReceiveRegister lines count) c returned u is kind step = absurd is
fresh_after k (GiveBlocks lines blocks) c returned u is kind step = absurd is
fresh_after k AwaitReady c returned u is kind step = absurd is

-- CMD0 leads to each such card
pub step_afresh : (k : Kind) (event : ScriptEvent) (c u : Card) → IsReset k event → k ≡ c.kind → Keeps c u → IsFresh u → Step event c (Answered Sent) u
step_afresh k (SendCommand ask position argument) c u is kind keeps fresh = record {
  order = GoIdleState;
  asks = record { line = ap (λ k. order_of k ask) (sym kind) ∙ is.0.line };
  exchange = record { settled_card = c; settled = inl refl; answered = fresh_reset argument c u keeps fresh };
}
step_afresh k (ReceiveBlocks lines count) c u is kind keeps fresh = absurd is
step_afresh k (ReceiveRegister lines count) c u is kind keeps fresh = absurd is
step_afresh k (GiveBlocks lines blocks) c u is kind keeps fresh = absurd is
step_afresh k AwaitReady c u is kind keeps fresh = absurd is

-- it is legal at each card, and addresses no block
legal_reset : (ask : Ask) (argument : ℕ) (c : Card) (t : Card) → Settled c t → RowLegal Cmd0 t
legal_reset ask argument c t s = record { target = Idle; has_row = idle_row t.kind t.state; length = refl; erase = refl; preset = refl }

no_blocks : (o : Option ℕ) (c : Card) (position argument : ℕ) → None ≡ o → BlocksWithin o c position argument
no_blocks None c position argument e = tt
no_blocks (Some n) c position argument e = absurd (cc)

pub reset_legal : (k : Kind) (event : ScriptEvent) (c : Card) → IsReset k event → k ≡ c.kind → EventLegal event c
reset_legal k (SendCommand ask position argument) c is kind = record {
  order = GoIdleState;
  asks = record { line = ap (λ k. order_of k ask) (sym kind) ∙ is.0.line };
  settled = legal_reset ask argument c;
}
reset_legal k (ReceiveBlocks lines count) c is kind = absurd is
reset_legal k (ReceiveRegister lines count) c is kind = absurd is
reset_legal k (GiveBlocks lines blocks) c is kind = absurd is
reset_legal k AwaitReady c is kind = absurd is

pub reset_in_bounds : (k : Kind) (event : ScriptEvent) (c : Card) → IsReset k event → InBounds event c
reset_in_bounds k (SendCommand ask position argument) c is =
    no_blocks (addressed_blocks ask) c position argument (asks_address k ask GoIdleState is.0.line)
reset_in_bounds k (ReceiveBlocks lines count) c is = absurd is
reset_in_bounds k (ReceiveRegister lines count) c is = absurd is
reset_in_bounds k (GiveBlocks lines blocks) c is = absurd is
reset_in_bounds k AwaitReady c is = absurd is

-- A CARD AFTER A RESET

one_line : (k : Kind) → has_width k One ≡ true
one_line Sd = refl
one_line Emmc = refl

pub pair_anywhere : (k : Kind) (c : Card) (n : ℕ) → k ≡ c.kind → IsOfProfile c → IsPair k c (host_at_start n)
pair_anywhere k c n kind profile = record { kind = kind; card = profile.card; lines = one_line k; flags = omega arith; rca = omega arith }

pub makes_reset : (k : Kind) (event : ScriptEvent) (h : Host) → IsReset k event → Makes k event h
makes_reset k (SendCommand ask position argument) h is = record {
  address = 0;
  same = is.1 ∙ sym (ap (λ o. argument_or_none o ask.argument h.rca 0) is.0.line);
}
makes_reset k (ReceiveBlocks lines count) h is = absurd is
makes_reset k (ReceiveRegister lines count) h is = absurd is
makes_reset k (GiveBlocks lines blocks) h is = absurd is
makes_reset k AwaitReady h is = absurd is

pub profile_kept : (c u : Card) (k : Kind) (h : Host) → IsPair k u h → SameCard c u → IsOfProfile c → IsOfProfile u
profile_kept c u k h pair same of = record {
  card = pair.card;
  version = rw (sym same.kind, sym same.version, sym same.block_unit) of.version;
  least = rw (sym same.capacity) of.least;
  most = rw (sym same.capacity, sym same.kind, sym same.block_unit) of.most;
  readable = rw (sym same.kind, sym same.csd) of.readable;
  told = rw (sym same.kind, sym same.block_unit, sym same.csd, sym same.ext_csd, sym same.capacity) of.told;
  told_boot = rw (sym same.kind, sym same.ext_csd, sym same.boot_capacity) of.told_boot;
}

pub start_after : (k : Kind) (event : ScriptEvent) (c : Card) (returned : Return) (u : Card) → IsReset k event → k ≡ c.kind → IsOfProfile c
    → Step event c returned u → IsAtStart u
start_after k event c returned u is kind profile step =
    let h : Host = host_at_start 0 in
    let a = fresh_after k event c returned u is kind step in
    let pair = steps_keep_pairs k event c h returned u (pair_anywhere k c 0 kind profile) (makes_reset k event h is) step in
    record {
      profile = profile_kept c u k (host_after k event returned h) pair a.keeps.same profile;
      state = a.fresh.state;
      rca = a.fresh.rca;
      app = a.fresh.app;
      erase = a.fresh.erase;
      mode = a.fresh.mode;
      preset = a.fresh.preset;
      transfer = a.fresh.transfer;
      unshown_error = a.fresh.unshown_error;
    }

pub step_again : (k : Kind) (event : ScriptEvent) (c : Card) (returned : Return) (u : Card) → IsReset k event → k ≡ c.kind → Step event c returned u
    → Step event u returned u
step_again k event c returned u is kind step =
    let a = fresh_after k event c returned u is kind step in
    subst (λ r. Step event u r u) (sym a.sent) (step_afresh k event u u is (kind ∙ a.keeps.same.kind) (keeps_refl u) a.fresh)

pub resets_start_cards : (k : Kind) → ResetsStartCards k
resets_start_cards k = record {
  legal = reset_legal k;
  bounds = λ event c is kind. reset_in_bounds k event c is;
  reborn = λ event c returned u is kind profile step. (
      let a = fresh_after k event c returned u is kind step in
      record {
        start = start_after k event c returned u is kind profile step;
        same = a.keeps.same;
        contents = a.keeps.contents;
        sent = a.sent;
        again = step_again k event c returned u is kind step;
      });
}

-- one of the cards after a reset
abbrev pub reset_of : Card → Card
reset_of c = record c {
  state = Idle;
  rca = None;
  app = false;
  block_length = 512;
  erase = Outside;
  mode = first_mode;
  preset = 0;
  transfer = Nothing;
  unshown_error = false;
}

pub reset_keeps : (c : Card) → Keeps c (reset_of c)
reset_keeps c = record {
  same = record { kind = refl; version = refl; block_unit = refl; capacity = refl; boot_capacity = refl; csd = refl; cid = refl; ext_csd = refl; scr = refl; sd_status = refl };
  next_block = refl;
  announced = refl;
  contents = refl;
}

pub reset_is_fresh : (c : Card) → IsFresh (reset_of c)
reset_is_fresh c = record { state = refl; rca = refl; app = refl; erase = refl; mode = refl; preset = refl; transfer = refl; unshown_error = refl; block_length = λ e. refl }

-- CMD0 itself
abbrev pub reset_ask : Ask
reset_ask = record { index = 0; aim = Plain; argument = 0; count = 0 }

pub reset_line : (k : Kind) → Asks k reset_ask GoIdleState
unfolding order_of
reset_line Sd = record { line = refl }
reset_line Emmc = record { line = refl }

pub reset_start : (k : Kind) (c : Card) → k ≡ c.kind → IsOfProfile c → IsAtStart (reset_of c)
reset_start k c kind profile =
    let event : ScriptEvent = SendCommand reset_ask 0 0 in
    start_after k event c (Answered Sent) (reset_of c) (reset_line k, refl) kind profile
    (step_afresh k event c (reset_of c) (reset_line k, refl) kind (reset_keeps c) (reset_is_fresh c))
