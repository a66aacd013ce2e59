-- The example: a card is brought up, and an answer is lost.
use Rattle.std.proofs.Common.{◌≡◌, inl, inr, refl, subst, sym, ◌∙◌, ap, Bool, true, false, ℕ, List, [], ◌∷◌, replicate, All, Option, Some, None, lit<, lit≤}
use Rattle.std.specs.List.{AllByRecursion}
use Rattle.std.proofs.lemmas.List.Elements.{All-from_recursion, All-replicate}
use Rattle.sdv_registers.specs.declared.kind.Kind.{Kind}
use Rattle.sdv_registers.specs.declared.kind.Kind.TheVariants.{Sd}
use Rattle.sdv_frames.specs.Bits.{bits, bits_of, number_of}
use Rattle.sdv_frames.specs.declared.reply.Reply.TheVariants.{R1, R2, R3, R6, R7}
use Rattle.sdv_card.specs.declared.state.State.{State}
use Rattle.sdv_card.specs.declared.state.State.TheVariants.{Idle, Ready, Ident, Stby, Tran, Data, Rcv, Prg}
use Rattle.sdv_card.specs.declared.state.Transfer.TheVariants.{ReadOver}
use Rattle.sdv_card.specs.declared.state.Partition.TheVariants.{User, Boot1, Boot2}
use Rattle.sdv_card.specs.declared.event.Aim.TheVariants.{Rca, Plain}
use Rattle.sdv_card.specs.declared.event.Ask.{Ask}
use Rattle.sdv_card.specs.declared.command.Order.{Order}
use Rattle.sdv_card.specs.declared.command.Order.TheVariants.{GoIdleState, SendIfCond, AppCommand, SdSendOpCond, AllSendCid, SendRelativeAddress, SendCsd, SelectCard, SetBlockLength, SendStatus, StopTransmission}
use Rattle.sdv_card.specs.declared.command.Row.TheVariants.{Cmd7Addressed, Cmd9, Cmd12, Cmd13, Cmd16}
use Rattle.sdv_card.specs.StateTable.{rows, ◌to◌}
use Rattle.sdv_card.specs.declared.answer.Answer.{Answer}
use Rattle.sdv_card.specs.declared.answer.Answer.TheVariants.{Sent, TimeOut, Reply as Replied}
use Rattle.sdv_card.specs.Lists.{May, IsOneOf}
use Rattle.sdv_card.specs.States.{own_target}
use Rattle.sdv_card.specs.CommandTable.{order_of, argument_of}
use Rattle.sdv_card.specs.Card.{Card, IsRegister, AreBlocks, ContentsFit, IsByte, Block}
use Rattle.sdv_card.specs.Settled.{Settled}
use Rattle.sdv_card.specs.Exchange.{card_takes, SettledAnswer}
use Rattle.sdv_card.specs.Legal.{SettledLegal, SendLegal, RowLegal}
use Rattle.sdv_card.specs.Step.{Sends}
use Rattle.sdv_card.specs.Host.{Host}
use Rattle.sdv_card.specs.HostEvents.{ArgumentFits}
use Rattle.sdv_card.specs.Profile.{IsAtStart, host_at_start}
use Rattle.sdv_card.proofs.ExampleAnswers as example
use Rattle.sdv_card.proofs.ExampleAnswers.{no_error, no_blocks}
use Rattle.sdv_card.specs.BringUp.{Happens, example_csd, example_cid, example_scr, example_card, command, ask_conditions, BringUpHappens, LostAnswerHappens, ProgrammingEnds, DoubtStays, StopIsNotLegal, selected_card, example_host}

-- a card that has no step of its own is settled as it is
settled_as_is : (P : Card → Type 0) (c t : Card) → own_target c.state c.transfer ≡ None → P c → Settled c t → P t
settled_as_is P c t e p (inl same) = subst P same p
settled_as_is P c t e p (inr own) = absurd (let f : None ≡ Some own.0 = sym e ∙ own.1 in cc)

-- what happens at a card that has no step of its own
pub happens : (ask : Ask) (argument : ℕ) (order : Order) (answer : Answer) (c u : Card) (h : Host) →
    own_target c.state c.transfer ≡ None → order_of c.kind ask ≡ Some order → ArgumentFits c.kind ask argument h →
    SettledLegal (card_takes c order argument) c → SettledAnswer (card_takes c order argument) order argument c answer u →
    SendLegal ask argument c × Sends ask argument c answer u
happens ask argument order answer c u h own line made legal step = (
  record { order = order; asks = record { line = line }; settled = λ t s. settled_as_is (λ t. SettledLegal (card_takes t order argument) t) c t own legal s },
  record { order = order; asks = record { line = line }; exchange = record { settled_card = c; settled = inl refl; answered = step } },
)

pub first : {A : Type 0} {x : A} {xs : List A} → May (x ∷ xs) x
first = record { one = inl refl }

second : {A : Type 0} {x y : A} {xs : List A} → May (y ∷ x ∷ xs) x
second = record { one = inr (inl refl) }

-- THE CARD AND THE HOST between the commands

-- the card in a state, with a relative card address and the application flag
abbrev card : List Block → State → Option ℕ → Bool → Card
card contents state rca app = example.card contents 0 state rca app

-- the host with a relative card address and a CSD
abbrev host : ℕ → Option (List ℕ) → Host
host rca csd = record (host_at_start 0) { rca = rca; csd = csd }

pub made : {k : Kind} {ask : Ask} {argument : ℕ} {h : Host} → argument ≡ argument_of k ask h.rca 0 → ArgumentFits k ask argument h
made same = record { address = 0; same = same }

-- EACH COMMAND

reset : (cs : List Block) → Happens (command 0 Plain 0 Sent) (card cs Idle None false) (host 0 None) (card cs Idle None false)
unfolding order_of
reset cs =
    let both = happens _ 0 GoIdleState Sent (card cs Idle None false) (card cs Idle None false) (host 0 None) refl refl (made refl)
    (record { target = Idle; has_row = first; length = refl; erase = refl; preset = refl })
    (example.reset cs 0 Idle None false 0 first) in
    record { made = made refl; legal = both.0; bounds = tt; step = both.1 }

interface : (cs : List Block) → Happens (command 8 Plain 0x1aa (Replied (R7 0x1aa))) (card cs Idle None false) (host 0 None) (card cs Idle None false)
unfolding order_of
interface cs =
    let both = happens _ 0x1aa SendIfCond (Replied (R7 0x1aa)) (card cs Idle None false) (card cs Idle None false) (host 0 None) refl refl (made refl)
    (record { target = Idle; has_row = first; length = refl; erase = refl; preset = refl })
    (example.interface cs 0 0x1aa) in
    record { made = made refl; legal = both.0; bounds = tt; step = both.1 }

application : (cs : List Block) → Happens (command 55 Rca 0 (Replied (R1 55 0x120))) (card cs Idle None false) (host 0 None) (card cs Idle None true)
unfolding order_of bits number_of
application cs =
    let both = happens _ 0 AppCommand (Replied (R1 55 0x120)) (card cs Idle None false) (card cs Idle None true) (host 0 None) refl refl (made refl)
    (record { target = Idle; has_row = first; length = refl; erase = refl; preset = refl })
    (example.application_idle cs 0 false 0) in
    record { made = made refl; legal = both.0; bounds = tt; step = both.1 }

conditions : (cs : List Block) → Happens (ask_conditions (Replied (R3 0xc0ff8000))) (card cs Idle None true) (host 0 None) (card cs Ready None false)
unfolding order_of bits number_of
conditions cs =
    let both = happens _ 0x40ff8000 (SdSendOpCond true) (Replied (R3 0xc0ff8000)) (card cs Idle None true) (card cs Ready None false) (host 0 None) refl refl
    (made refl)
    (record { target = Ready; has_row = first; length = refl; erase = refl; preset = refl })
    (example.is_ready cs 0 true 0x40ff8000 refl) in
    record { made = made refl; legal = both.0; bounds = tt; step = both.1 }

conditions_lost : (cs : List Block) → Happens (ask_conditions TimeOut) (card cs Idle None true) (host 0 None) (card cs Ready None false)
unfolding order_of
conditions_lost cs =
    let both = happens _ 0x40ff8000 (SdSendOpCond true) TimeOut (card cs Idle None true) (card cs Ready None false) (host 0 None) refl refl (made refl)
    (record { target = Ready; has_row = first; length = refl; erase = refl; preset = refl })
    (inr (inl (record { card = example.goes_ready cs 0 true 0x40ff8000 refl; error = refl }))) in
    record { made = made refl; legal = both.0; bounds = tt; step = both.1 }

identification : (cs : List Block) → Happens (command 2 Plain 0 (Replied (R2 example_cid))) (card cs Ready None false) (host 0 None) (card cs Ident None false)
unfolding order_of
identification cs =
    let both = happens _ 0 AllSendCid (Replied (R2 example_cid)) (card cs Ready None false) (card cs Ident None false) (host 0 None) refl refl (made refl)
    (record { target = Ident; has_row = first; length = refl; erase = refl; preset = refl })
    (example.identified cs 0 0) in
    record { made = made refl; legal = both.0; bounds = tt; step = both.1 }

address : (cs : List Block) → Happens (command 3 Plain 0 (Replied (R6 0x12340500))) (card cs Ident None false) (host 0 None) (card cs Stby (Some 0x1234) false)
unfolding order_of bits number_of
address cs =
    let both = happens _ 0 SendRelativeAddress (Replied (R6 0x12340500)) (card cs Ident None false) (card cs Stby (Some 0x1234) false) (host 0 None) refl refl
    (made refl)
    (record { target = Stby; has_row = first; length = refl; erase = refl; preset = refl })
    (example.addressed cs 0 0) in
    record { made = made refl; legal = both.0; bounds = tt; step = both.1 }

specific_data : (cs : List Block) → Happens (command 9 Rca 0x12340000 (Replied (R2 example_csd))) (card cs Stby (Some 0x1234) false) (host 0x1234 None)
    (card cs Stby (Some 0x1234) false)
unfolding order_of
specific_data cs =
    let both = happens _ 0x12340000 SendCsd (Replied (R2 example_csd)) (card cs Stby (Some 0x1234) false) (card cs Stby (Some 0x1234) false)
    (host 0x1234 None) refl refl (made refl)
    (record { target = Stby; has_row = first; length = refl; erase = refl; preset = refl })
    (record {
      shown = refl;
      error = refl;
      card = example.taken cs 0 Cmd9 0x12340000 Stby Stby (Some 0x1234) (Some 0x1234) false false first refl first refl refl refl first refl first refl
          (no_blocks _ _ refl refl) refl;
    }) in
    record { made = made refl; legal = both.0; bounds = tt; step = both.1 }

selection : (cs : List Block) → Happens (command 7 Rca 0x12340000 (Replied (R1 7 0x700))) (card cs Stby (Some 0x1234) false) (host 0x1234 (Some example_csd))
    (card cs Tran (Some 0x1234) false)
unfolding order_of bits number_of
selection cs =
    let both = happens _ 0x12340000 SelectCard (Replied (R1 7 0x700)) (card cs Stby (Some 0x1234) false) (card cs Tran (Some 0x1234) false)
    (host 0x1234 (Some example_csd)) refl refl (made refl)
    (record { target = Tran; has_row = first; length = refl; erase = refl; preset = refl })
    (record {
      is_word = lit< tt;
      same_index = refl;
      state = refl;
      app = tt;
      switch = tt;
      error = no_error _ _ _ refl refl;
      card = inl (example.taken cs 0 Cmd7Addressed 0x12340000 Stby Tran (Some 0x1234) (Some 0x1234) false false first refl first refl refl refl
          first refl first refl
          (no_blocks _ _ refl refl) refl);
    }) in
    record { made = made refl; legal = both.0; bounds = tt; step = both.1 }

block_length : (cs : List Block) → Happens (command 16 Plain 512 (Replied (R1 16 0x900))) (card cs Tran (Some 0x1234) false) (host 0x1234 (Some example_csd))
    (card cs Tran (Some 0x1234) false)
unfolding order_of bits number_of
block_length cs =
    let both = happens _ 512 SetBlockLength (Replied (R1 16 0x900)) (card cs Tran (Some 0x1234) false) (card cs Tran (Some 0x1234) false)
    (host 0x1234 (Some example_csd)) refl refl (made refl)
    (record { target = Tran; has_row = first; length = refl; erase = refl; preset = refl })
    (record {
      is_word = lit< tt;
      same_index = refl;
      state = refl;
      app = tt;
      switch = tt;
      error = no_error _ _ _ refl refl;
      card = inl (example.taken cs 0 Cmd16 512 Tran Tran (Some 0x1234) (Some 0x1234) false false first refl first refl refl refl first refl first refl
          (no_blocks _ _ refl refl) refl);
    }) in
    record { made = made refl; legal = both.0; bounds = tt; step = both.1 }

-- THE CARD AT THE START

pub bytes_fit : (xs : List ℕ) → AllByRecursion IsByte xs → All IsByte xs
bytes_fit xs h = All-from_recursion IsByte xs h

csd_fits : IsRegister 15 example_csd
csd_fits = record {
  size = refl;
  bytes_fit = bytes_fit example_csd (
    lit< tt,
    (
      lit< tt,
      (
        lit< tt,
        (
          lit< tt,
          (
            lit< tt,
            (
              lit< tt,
              (lit< tt, (lit< tt, (lit< tt, (lit< tt, (lit< tt, (lit< tt, (lit< tt, (lit< tt, (lit< tt, tt))))))))),
            ),
          ),
        ),
      ),
    ),
  );
}

cid_fits : IsRegister 15 example_cid
cid_fits = record {
  size = refl;
  bytes_fit = bytes_fit example_cid (
    lit< tt,
    (
      lit< tt,
      (
        lit< tt,
        (
          lit< tt,
          (
            lit< tt,
            (
              lit< tt,
              (lit< tt, (lit< tt, (lit< tt, (lit< tt, (lit< tt, (lit< tt, (lit< tt, (lit< tt, (lit< tt, tt))))))))),
            ),
          ),
        ),
      ),
    ),
  );
}

scr_fits : IsRegister 8 example_scr
scr_fits = record {
  size = refl;
  bytes_fit = bytes_fit example_scr
      (lit< tt, (lit< tt, (lit< tt, (lit< tt, (lit< tt, (lit< tt, (lit< tt, (lit< tt, tt))))))));
}

sd_status_fits : IsRegister 64 (replicate 64 0)
sd_status_fits = record { size = refl; bytes_fit = All-replicate IsByte 64 0 (lit< tt) }

pub no_boot_blocks : AreBlocks 0 []
no_boot_blocks = record { size = refl; blocks_fit = All-from_recursion (IsRegister 512) [] tt }

start_contents : (cs : List Block) → AreBlocks 1024 cs → ContentsFit (example_card cs)
start_contents cs blocks User = blocks
start_contents cs blocks Boot1 = no_boot_blocks
start_contents cs blocks Boot2 = no_boot_blocks

at_start : (cs : List Block) → AreBlocks 1024 cs → IsAtStart (example_card cs)
unfolding bits bits_of number_of
at_start cs blocks = record {
  profile = record {
    card = record {
      csd = csd_fits;
      cid = cid_fits;
      registers = record { scr = scr_fits; sd_status = sd_status_fits };
      address = refl;
      transfer = refl;
      kind_rules = refl;
      block_length = refl;
      preset = lit< tt;
      announced = lit< tt;
      mode = refl;
      contents = start_contents cs blocks;
    };
    version = inl refl;
    least = lit≤ tt;
    most = lit≤ tt;
    readable = refl;
    told = refl;
    told_boot = refl;
  };
  state = refl;
  rca = refl;
  app = refl;
  erase = refl;
  preset = refl;
  transfer = refl;
  mode = refl;
  unshown_error = refl;
}

-- THE WHOLE

pub bring_up_happens : BringUpHappens
unfolding order_of bits number_of
bring_up_happens = record {
  start = at_start;
  all = λ cs. (
    card cs Idle None false,
    reset cs,
    (
      card cs Idle None false,
      interface cs,
      (
        card cs Idle None true,
        application cs,
        (
          card cs Ready None false,
          conditions cs,
          (
            card cs Ident None false,
            identification cs,
            (
              card cs Stby (Some 0x1234) false,
              address cs,
              (
                card cs Stby (Some 0x1234) false,
                specific_data cs,
                (
                  card cs Tran (Some 0x1234) false,
                  selection cs,
                  (card cs Tran (Some 0x1234) false, block_length cs, refl),
                ),
              ),
            ),
          ),
        ),
      ),
    ),
  );
}

pub lost_answer_happens : LostAnswerHappens
unfolding order_of bits number_of
lost_answer_happens cs = (
  card cs Idle None false,
  reset cs,
  (
    card cs Idle None false,
    interface cs,
    (
      card cs Idle None true,
      application cs,
      (card cs Ready None false, conditions_lost cs, refl),
    ),
  ),
)

-- WHAT ELSE A CARD MAY DO

pub programming_ends : ProgrammingEnds
unfolding order_of bits number_of
programming_ends cs =
    let prg = record (selected_card cs) { state = Prg } in
    record {
      made = made refl;
      bounds = tt;
      legal = record { order = SendStatus; asks = record { line = refl }; settled = λ t s. either t s };
      step = record {
        order = SendStatus;
        asks = record { line = refl };
        exchange = record {
          settled_card = selected_card cs;
          settled = inr (Tran, refl, refl);
          answered = record {
            is_word = lit< tt;
            same_index = refl;
            state = refl;
            app = tt;
            switch = λ e. absurd (let f : false ≡ true = e in cc);
            error = no_error _ _ _ refl refl;
            card = inl (example.taken cs 0 Cmd13 0x12340000 Tran Tran (Some 0x1234) (Some 0x1234) false false second refl first refl refl refl
                first refl first refl
                (no_blocks _ _ refl refl) refl);
          };
        };
      };
    }
  where
    either : (t : Card) → Settled (record (selected_card cs) { state = Prg }) t → SettledLegal (card_takes t SendStatus 0x12340000) t
    either t (inl same) = subst (λ v. SettledLegal (card_takes v SendStatus 0x12340000) v) same
        (record { target = Prg; has_row = record { one = inr (inr (inr (inr (inl refl)))) }; length = refl; erase = refl; preset = refl })
    either t (inr own) = subst (λ v. SettledLegal (card_takes v SendStatus 0x12340000) v) own.2 (after own.0 own.1)
      where
        after : (s : State) → Some Tran ≡ Some s → SettledLegal (card_takes (record (selected_card cs) { state = s }) SendStatus 0x12340000)
            (record (selected_card cs) { state = s })
        after s e = subst (λ v. SettledLegal (card_takes (record (selected_card cs) { state = v }) SendStatus 0x12340000)
            (record (selected_card cs) { state = v }))
            (let same : Tran ≡ s = cc in same)
            (record { target = Tran; has_row = second; length = refl; erase = refl; preset = refl })

pub doubt_stays : DoubtStays
unfolding order_of bits number_of
doubt_stays cs =
    let both = happens _ 0x12340000 SelectCard (Replied (R1 7 0x80600)) (card cs Stby (Some 0x1234) false)
    (card cs Stby (Some 0x1234) false) example_host refl refl (made refl)
    (record { target = Tran; has_row = first; length = refl; erase = refl; preset = refl })
    (record {
      is_word = lit< tt;
      same_index = refl;
      state = refl;
      app = tt;
      switch = tt;
      error = no_error _ _ _ refl refl;
      card = inr (
        refl,
        record {
          same = record {
            kind = refl;
            version = refl;
            block_unit = refl;
            capacity = refl;
            boot_capacity = refl;
            csd = refl;
            cid = refl;
            ext_csd = refl;
            scr = refl;
            sd_status = refl;
          };
          state = refl;
          app = refl;
          erase = first;
          block_length = refl;
          preset = first;
          rca = refl;
          transfer = refl;
          mode = first;
          blocks = no_blocks _ _ refl refl;
          contents = refl;
        },
      );
    }) in
    record { made = made refl; legal = both.0; bounds = tt; step = both.1 }

-- the row of CMD12 has no move from transfer state
no_stop : (target : State) → IsOneOf (rows Sd Cmd12) (Tran to target) → ⊥
no_stop target (inl e) = let s : Data ≡ Tran = ap (λ m. m.source) e in cc
no_stop target (inr (inl e)) = let s : Rcv ≡ Tran = ap (λ m. m.source) e in cc
no_stop target (inr (inr e)) = e

pub stop_is_not_legal : StopIsNotLegal
unfolding order_of
stop_is_not_legal cs l =
    let reading = record (selected_card cs) { state = Data; transfer = ReadOver } in
    let order : StopTransmission ≡ l.order = let line = l.asks.line in cc in
    let legal : SettledLegal (card_takes (selected_card cs) l.order 0) (selected_card cs) = l.settled (selected_card cs) (inr (Tran, refl, refl)) in
    let row : RowLegal Cmd12 (selected_card cs) = subst (λ o. SettledLegal (card_takes (selected_card cs) o 0) (selected_card cs)) (sym order) legal in
    no_stop row.target row.has_row.one
