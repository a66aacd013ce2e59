-- What the card of the example answers to the commands of its identification, and where it is then.
use Rattle.std.proofs.Common.{◌≡◌, inl, refl, sym, ◌∙◌, ap, Bool, true, false, IsTrue, ℕ, List, Option, Some, None, ◌&&◌, not, lit<}
use Rattle.sdv_registers.specs.declared.kind.Kind.TheVariants.{Sd}
use Rattle.sdv_frames.specs.Bits.{bits, number_of}
use Rattle.sdv_frames.specs.declared.reply.Reply.TheVariants.{R1, R2, R3, R6, R7}
use Rattle.sdv_card.specs.declared.state.State.{State}
use Rattle.sdv_card.specs.declared.state.State.TheVariants.{Idle, Ready, Ident, Stby}
use Rattle.sdv_card.specs.declared.state.Transfer.TheVariants.{Nothing}
use Rattle.sdv_card.specs.declared.state.EraseStage.TheVariants.{Outside}
use Rattle.sdv_card.specs.declared.answer.Answer.{Answer}
use Rattle.sdv_card.specs.declared.answer.Answer.TheVariants.{Sent, Reply as Replied}
use Rattle.sdv_card.specs.declared.command.Order.{Order}
use Rattle.sdv_card.specs.declared.command.Order.TheVariants.{GoIdleState, AllSendCid, SendRelativeAddress, SendIfCond, SdSendOpCond, AppCommand}
use Rattle.sdv_card.specs.declared.command.Row.{Row}
use Rattle.sdv_card.specs.declared.command.Row.TheVariants.{Cmd0, Cmd2, Cmd3Sd, Cmd8Sd, Cmd55, Acmd41}
use Rattle.sdv_card.specs.declared.command.TakenAs.TheVariants.{By}
use Rattle.sdv_card.specs.Agrees.{ErrorShown}
use Rattle.sdv_card.specs.BringUp.{example_card, example_cid}
use Rattle.sdv_card.specs.Card.{Card, Block}
use Rattle.sdv_card.specs.Exchange.{SettledAnswer, card_takes}
use Rattle.sdv_card.specs.Lists.{May}
use Rattle.sdv_card.specs.RowRules.{may_reach, app_after, erase_after, preset_after, mode_after, may_switch, transfer_after}
use Rattle.sdv_card.specs.Modes.{first_mode}
use Rattle.sdv_card.specs.StateTable.{rows, ◌to◌}
use Rattle.sdv_card.specs.Taken.{Taken, RcaAfter, LengthAfter, BlocksAfter, ContentsAfter, SameBlocks}
use Rattle.sdv_card.proofs.Members.{here, there}

pub no_blocks : (c u : Card) → c.next_block ≡ u.next_block → c.announced ≡ u.announced → SameBlocks c u
no_blocks c u block count = record { block = block; count_is = count }

-- an error that is not pending is shown by no status
pub no_error : (t u : Card) (shown : Bool) → t.unshown_error ≡ false → u.unshown_error ≡ false → ErrorShown t shown u
no_error t u shown before after = record {
  ends = after ∙ sym (ap (λ v. v && not shown) before);
  must = λ tran pending. absurd (let f : true ≡ false = sym pending ∙ before in cc);
}

-- with any blocks, of which a host announced n
module _ (cs : List Block) (n : ℕ) where
  -- the card in a state, with a relative card address and the application flag
  abbrev pub card : State → Option ℕ → Bool → Card
  card state rca app = record (example_card cs) { state = state; rca = rca; app = app; announced = n }

  -- a row that changes state, address and flag alone
  pub taken : {heard : Bool} (row : Row) (argument : ℕ) (s s' : State) (r r' : Option ℕ) (a a' : Bool) →
      May (rows Sd row) (s to s') → IsTrue (may_reach row true s') → May (app_after row) a' → RcaAfter row r r' →
      erase_after row Outside ≡ Outside → LengthAfter row true 512 512 → May (preset_after Sd row 0) 0 → transfer_after row 0 Nothing ≡ Nothing →
      May (mode_after row heard s first_mode) first_mode → IsTrue (may_switch row 0 false) →
      BlocksAfter row argument (card s r a) (card s' r' a') → ContentsAfter row (card s r a) (card s' r' a') →
      Taken row heard argument (card s r a) (card s' r' a')
  taken row argument s s' r r' a a' state reached app rca erase length preset transfer mode switched blocks same = record {
    same = record {
      kind = refl;
      version = refl;
      block_unit = refl;
      capacity = refl;
      boot_capacity = refl;
      csd = refl;
      cid = refl;
      ext_csd = refl;
      scr = refl;
      sd_status = refl;
    };
    state = state;
    reached = reached;
    app = app;
    erase = erase;
    block_length = length;
    preset = preset;
    rca = rca;
    transfer = transfer;
    mode = mode;
    switched = switched;
    blocks = blocks;
    contents = same;
  }

  -- what comes of an order at the card
  abbrev pub Comes : Order → ℕ → Card → Answer → Card → Type 0
  Comes order argument c answer u = SettledAnswer (card_takes c order argument) order argument c answer u

  -- CMD0 from any state that has a row for it
  pub reset : (state : State) (rca : Option ℕ) (app : Bool) (argument : ℕ) → May (rows Sd Cmd0) (state to Idle) →
      Comes GoIdleState argument (card state rca app) Sent (card Idle None false)
  reset state rca app argument from = record {
    card = taken Cmd0 argument state Idle rca None app false from refl (here refl) refl refl refl (here refl) refl (here refl) refl
        (no_blocks _ _ refl refl) refl;
    error = refl;
  }

  -- CMD2
  pub identified : (argument : ℕ) → Comes AllSendCid argument (card Ready None false) (Replied (R2 example_cid)) (card Ident None false)
  identified argument = record {
    shown = refl;
    error = refl;
    card = taken Cmd2 argument Ready Ident None None false false (here refl) refl (here refl) refl refl refl (here refl) refl (here refl) refl
        (no_blocks _ _ refl refl) refl;
  }

  -- CMD3, for the first time and again
  pub addressed : (argument : ℕ) → Comes SendRelativeAddress argument (card Ident None false) (Replied (R6 0x12340500)) (card Stby (Some 0x1234) false)
  unfolding bits number_of
  addressed argument = record {
    is_word = lit< tt;
    state = refl;
    error = refl;
    card = inl (record {
      rca = refl;
      card = taken Cmd3Sd argument Ident Stby None (Some 0x1234) false false (here refl) refl (here refl) (0x1234, refl, lit< tt, lit< tt) refl refl
          (here refl) refl (here refl) refl (no_blocks _ _ refl refl) refl;
    });
  }

  pub addressed_again : (argument : ℕ) → Comes SendRelativeAddress argument (card Stby (Some 0x1234) false) (Replied (R6 0x12340700))
      (card Stby (Some 0x1234) false)
  unfolding bits number_of
  addressed_again argument = record {
    is_word = lit< tt;
    state = refl;
    error = refl;
    card = inl (record {
      rca = refl;
      card = taken Cmd3Sd argument Stby Stby (Some 0x1234) (Some 0x1234) false false (there (here refl)) refl (here refl)
          (0x1234, refl, lit< tt, lit< tt) refl refl (here refl) refl (here refl) refl (no_blocks _ _ refl refl) refl;
    });
  }

  -- CMD8
  pub interface : (argument : ℕ) → Comes SendIfCond argument (card Idle None false) (Replied (R7 0x1aa)) (card Idle None false)
  interface argument = record {
    shown = record { is_word = lit< tt; echo = refl; version = refl };
    error = refl;
    card = taken Cmd8Sd argument Idle Idle None None false false (here refl) refl (here refl) refl refl refl (here refl) refl (here refl) refl
        (no_blocks _ _ refl refl) refl;
  }

  -- ACMD41, with which the card gets ready or not yet
  pub goes_ready : {heard : Bool} (high : Bool) (argument : ℕ) → IsTrue (may_reach (Acmd41 high) true Ready)
      → Taken (Acmd41 high) heard argument (card Idle None true) (card Ready None false)
  goes_ready high argument may = taken (Acmd41 high) argument Idle Ready None None true false (here refl) may (here refl) refl refl refl
      (here refl) refl (here refl) refl
      (no_blocks _ _ refl refl) refl

  pub is_ready : (high : Bool) (argument : ℕ) → IsTrue (may_reach (Acmd41 high) true Ready)
      → Comes (SdSendOpCond high) argument (card Idle None true) (Replied (R3 0xc0ff8000)) (card Ready None false)
  unfolding bits number_of
  is_ready high argument may = record {
    is_word = lit< tt;
    windows = refl;
    ready = refl;
    unit = λ r. refl;
    card = goes_ready high argument may;
    error = refl;
  }

  pub not_ready : (high : Bool) (argument : ℕ) → IsTrue (may_reach (Acmd41 high) true Idle)
      → Comes (SdSendOpCond high) argument (card Idle None true) (Replied (R3 0x00ff8000)) (card Idle None false)
  unfolding bits number_of
  not_ready high argument may = record {
    is_word = lit< tt;
    windows = refl;
    ready = refl;
    unit = λ r. absurd (let f : false ≡ true = r in cc);
    card = taken (Acmd41 high) argument Idle Idle None None true false (there (here refl)) may (here refl) refl refl refl (here refl) refl (here refl) refl
        (no_blocks _ _ refl refl) refl;
    error = refl;
  }

  -- CMD55
  pub application_idle : (app : Bool) (argument : ℕ) → Comes AppCommand argument (card Idle None app) (Replied (R1 55 0x120)) (card Idle None true)
  unfolding bits number_of
  application_idle app argument = record {
    is_word = lit< tt;
    same_index = refl;
    state = refl;
    app = refl;
    switch = tt;
    error = no_error _ _ _ refl refl;
    card = inl (taken Cmd55 argument Idle Idle None None app true (here refl) refl (there (here refl)) refl refl refl (here refl) refl (here refl) refl
        (no_blocks _ _ refl refl) refl);
  }

  -- to the card's own address
  pub application_stby : (app : Bool) (argument : ℕ) → SettledAnswer (By Cmd55) AppCommand argument (card Stby (Some 0x1234) app) (Replied (R1 55 0x720))
      (card Stby (Some 0x1234) true)
  unfolding bits number_of
  application_stby app argument = record {
    is_word = lit< tt;
    same_index = refl;
    state = refl;
    app = refl;
    switch = tt;
    error = no_error _ _ _ refl refl;
    card = inl (taken Cmd55 argument Stby Stby (Some 0x1234) (Some 0x1234) app true (there (here refl)) refl (there (here refl)) refl refl refl
        (here refl) refl (here refl) refl
        (no_blocks _ _ refl refl) refl);
  }
