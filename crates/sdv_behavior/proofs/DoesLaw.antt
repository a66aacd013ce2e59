-- What comes of a row at a simulated card is what the tables allow.
use Rattle.std.proofs.Common.{◌≡◌, ℕ, ◌<◌, ◌==◌, ◌&&◌, ◌^◌, inl, inr, refl, sym, ap, subst, ◌∙◌, not, Bool, true, false, List, Option, Some, None, if◌then◌else◌, lit<, eqb-true}
use Rattle.std.specs.Prelude.{IfSome}
use Rattle.std.proofs.lemmas.List.Elements.{recursion_from_All}
use Rattle.sdv_registers.specs.declared.kind.Kind.{Kind}
use Rattle.sdv_registers.specs.declared.kind.Kind.TheVariants.{Sd, Emmc}
use Rattle.sdv_registers.specs.Ocr.{ccs, access_mode}
use Rattle.sdv_frames.specs.Frame.{IsReply}
use Rattle.sdv_frames.specs.declared.reply.Reply.{Reply}
use Rattle.sdv_frames.specs.declared.reply.Reply.TheVariants.{R1, R2, R3, R6, R7}
use Rattle.sdv_card.specs.declared.answer.Answer.{Answer}
use Rattle.sdv_card.specs.declared.answer.Answer.TheVariants.{Sent, TimeOut, Reply as Replied}
use Rattle.sdv_card.specs.declared.state.State.{State}
use Rattle.sdv_card.specs.declared.state.State.TheVariants.{Idle}
use Rattle.sdv_card.specs.declared.command.Order.{Order}
use Rattle.sdv_card.specs.declared.command.Order.TheVariants.{DeselectCards}
use Rattle.sdv_card.specs.declared.command.Row.{Row}
use Rattle.sdv_card.specs.declared.command.Row.TheVariants.{Cmd0, Cmd1, Cmd2, Cmd3Sd, Cmd7NotAddressed, Cmd8Sd, Cmd9, Cmd10, Cmd13, Cmd38, Cmd55, Acmd41}
use Rattle.sdv_card.specs.Card.{Card, Partitions, IsRegister}
use Rattle.sdv_card.specs.Agrees.{ErrorShown}
use Rattle.sdv_card.specs.Exchange.{RowAnswer, unaddressed_answer}
use Rattle.sdv_card.specs.Legal.{RowLegal}
use Rattle.sdv_card.specs.Lists.{May}
use Rattle.sdv_card.specs.Modes.{may_stay_pending}
use Rattle.sdv_card.specs.declared.state.Mode.{Mode}
use Rattle.sdv_card.specs.Responses.{response_of, row_index}
use Rattle.sdv_card.specs.States.{is_ready as is_ready_state}
use Rattle.sdv_card.specs.StateTable.{rows, targets}
use Rattle.sdv_card.specs.Taken.{Taken, ContentsAfter}
use Rattle.sdv_card.proofs.Members.{May-targets}
use Rattle.sdv_behavior.specs.declared.behavior.Behavior.{Behavior}
use Rattle.sdv_behavior.specs.declared.behavior.Deed.{Deed}
use Rattle.sdv_behavior.specs.declared.behavior.Deed.TheVariants.{Loses, TakesUnheard, Takes, StaysUnheard, Stays}
use Rattle.sdv_behavior.specs.declared.card_desc.CardDesc.{CardDesc}
use Rattle.sdv_behavior.specs.declared.card_state.CardState.{CardState}
use Rattle.sdv_behavior.specs.declared.choice.Choice.{Choice}
use Rattle.sdv_behavior.specs.CardOf.{card_with}
use Rattle.sdv_behavior.proofs.Described.{IsDescribed}
use Rattle.sdv_registers.specs.Status.{has_doubt}
use Rattle.sdv_behavior.specs.declared.behavior.StatusError.{StatusError}
use Rattle.sdv_behavior.specs.Heard.{reports, row_deed, choice_of, answered, does, is_erase, is_heard}
use Rattle.sdv_behavior.specs.Registers.{cid_of}
use Rattle.sdv_behavior.specs.Replies.{reply_of, shows_app, error_shown}
use Rattle.sdv_behavior.specs.RowTaken.{state_next, mode_left, taken_by, stays}
use Rattle.sdv_behavior.proofs.Told.{Tells, LeavesBlocks}
use Rattle.sdv_behavior.specs.Words.{leaves_doubt, doubt_of, status_word, address_word, conditions_word}
use Rattle.sdv_behavior.proofs.TakenLaw.{announced_with, ChoiceFits, KeepsFit, choice_fits, taken_law, stayed_law}
use Rattle.sdv_behavior.proofs.WordLaws.{StatusShows, status_shows, doubt_is, doubt_shown, conditions_show, sd_unit, emmc_unit, address_shows}

-- an answer of the tables at t, which leaves u, as the reply tells it
pub record RowTold (order : Order) (row : Row) (argument : ℕ) (t u : Card) (reply : Option Reply) : Type 0 where
  pub answer : Answer
  pub told : Tells reply answer
  pub is_reply : IfSome reply IsReply
  pub answered : RowAnswer (response_of row) order row argument t answer u

-- DEEDS

-- CMD0 is taken, and a card stays only where a status or an address answers
abbrev pub DeedFits : Deed → Row → Type 0
DeedFits Loses Cmd0 = ⊥
DeedFits Loses row = Unit {0}
DeedFits TakesUnheard Cmd0 = ⊥
DeedFits TakesUnheard row = Unit {0}
DeedFits Takes row = Unit {0}
DeedFits StaysUnheard row = reports (response_of row) ≡ true
DeedFits Stays row = reports (response_of row) ≡ true

taken_fits : (row : Row) → DeedFits (row_deed Takes row) row
taken_fits Cmd0 = tt
taken_fits row = tt

unheard_fits : (row : Row) → DeedFits (row_deed TakesUnheard row) row
unheard_fits Cmd0 = tt
unheard_fits row = tt

loss_fits : (row : Row) → DeedFits (row_deed Loses row) row
loss_fits Cmd0 = tt
loss_fits row = tt

stay_fits : (row : Row) → DeedFits (row_deed Stays row) row
stay_fits Cmd0 = tt
stay_fits Cmd1 = tt
stay_fits Cmd2 = tt
stay_fits Cmd7NotAddressed = tt
stay_fits Cmd8Sd = tt
stay_fits Cmd9 = tt
stay_fits Cmd10 = tt
stay_fits (Acmd41 high) = tt
stay_fits row = refl

unheard_stay_fits : (row : Row) → DeedFits (row_deed StaysUnheard row) row
unheard_stay_fits Cmd0 = tt
unheard_stay_fits Cmd1 = tt
unheard_stay_fits Cmd2 = tt
unheard_stay_fits Cmd7NotAddressed = tt
unheard_stay_fits Cmd8Sd = tt
unheard_stay_fits Cmd9 = tt
unheard_stay_fits Cmd10 = tt
unheard_stay_fits (Acmd41 high) = tt
unheard_stay_fits row = refl

deed_fits : (deed : Deed) (row : Row) → DeedFits (row_deed deed row) row
deed_fits Loses row = loss_fits row
deed_fits TakesUnheard row = unheard_fits row
deed_fits Takes row = taken_fits row
deed_fits StaysUnheard row = unheard_stay_fits row
deed_fits Stays row = stay_fits row

-- the blocks that the host announced last, as the deed leaves them
abbrev pub announced_by : Deed → Row → ℕ → ℕ
announced_by Loses row before = before
announced_by StaysUnheard row before = before
announced_by Stays row before = before
announced_by deed row before = announced_with row before

-- WHERE NO CARD IS ADDRESSED the host hears nothing
unheard_answer : (order : Order) → Tells None (unaddressed_answer order)
unheard_answer DeselectCards = inl refl
unheard_answer order = inr refl

-- a card that is asked for its conditions is ready, or idle
conditions_state : (k : Kind) (high ready : Bool) (state : State) {target : State} → May (targets (rows k (Acmd41 high)) state) target →
    is_ready_state (state_next k (Acmd41 high) ready state) ≡ ready
conditions_state Emmc high ready state m = absurd m.one
conditions_state Sd high true Idle m = refl
conditions_state Sd high false Idle m = refl
conditions_state Sd high ready state m = absurd m.one

op_cond_state : (k : Kind) (ready : Bool) (state : State) {target : State} → May (targets (rows k Cmd1) state) target →
    is_ready_state (state_next k Cmd1 ready state) ≡ ready
op_cond_state Sd ready state m = absurd m.one
op_cond_state Emmc true Idle m = refl
op_cond_state Emmc false Idle m = refl
op_cond_state Emmc ready state m = absurd m.one

left_after : (d : CardDesc) (row : Row) (t u : CardState) (n m : ℕ) (contents contents' : Partitions) →
    LeavesBlocks (is_erase row) d t.mode.partition contents contents' → ContentsAfter row (card_with d t n contents) (card_with d u m contents')
left_after d Cmd38 t u n m contents contents' l = record { others = l.others; blocks = l.blocks }
left_after d row t u n m contents contents' l = l

register_reply : (bytes : List ℕ) → IsRegister 15 bytes → IsReply (R2 bytes)
register_reply bytes r = (r.size, recursion_from_All _ bytes r.bytes_fit)

cid_reply : (k : Kind) → IsReply (R2 (cid_of k))
cid_reply Sd = (
  refl,
  (
    lit< tt,
    (
      lit< tt,
      (
        lit< tt,
        (
          lit< tt,
          (lit< tt, (lit< tt, (lit< tt, (lit< tt, (lit< tt, (lit< tt, (lit< tt, (lit< tt, (lit< tt, (lit< tt, (lit< tt, tt))))))))))),
        ),
      ),
    ),
  ),
)
cid_reply Emmc = (
  refl,
  (
    lit< tt,
    (
      lit< tt,
      (
        lit< tt,
        (
          lit< tt,
          (lit< tt, (lit< tt, (lit< tt, (lit< tt, (lit< tt, (lit< tt, (lit< tt, (lit< tt, (lit< tt, (lit< tt, (lit< tt, tt))))))))))),
        ),
      ),
    ),
  ),
)

index_small : (row : Row) → row_index row < 2 ^ 6
index_small Cmd0 = lit< tt
index_small row = lit< tt

-- an error of an earlier write is shown by a status that leaves a doubt
error_told : {word : ℕ} {state : State} {a w : Bool} (error : StatusError) (pending : Bool) (t u : Card) → t.unshown_error ≡ pending →
    u.unshown_error ≡ false → StatusShows word state a w (leaves_doubt (error_shown error pending)) → ErrorShown t (has_doubt word) u
error_told {word = word} error false t u before after shows = record {
  ends = after ∙ sym (ap (λ v. v && not (has_doubt word)) before);
  must = λ tran is. absurd (let f : true ≡ false = sym is ∙ before in cc);
}
error_told {word = word} error true t u before after shows =
    let doubt : has_doubt word ≡ true = shows.error ∙ doubt_is error in
    record {
      ends = after ∙ sym (ap (λ v. v && not (has_doubt word)) before ∙ ap not doubt);
      must = λ tran is. doubt;
    }

-- bit 7 of an answer to CMD13 tells whether a pending switch error ends
switch_told : (keeps : Bool) (mode : Mode) → mode.error ≡ true → (mode.error && not keeps) ≡ not (mode_left Cmd13 keeps mode).error
switch_told true mode pending = rw pending refl
switch_told false mode pending = rw pending refl

-- an answer that is heard stays so, whether the card may stay at the row or not
stays_heard : (may : Bool) → is_heard (if may then Stays else Takes) ≡ true
stays_heard true = refl
stays_heard false = refl

-- what is kept may be kept
kept : (heard heard' keeps : Bool) (from : State) (mode : Mode) → (heard ≡ true → heard' ≡ true) → (keeps && may_stay_pending heard from mode) ≡ true →
    may_stay_pending heard' from mode ≡ true
kept true heard' true from mode still e = rw (still refl) e
kept false heard' true from mode still e = absurd (let f : false ≡ true = e in cc)
kept heard heard' false from mode still e = absurd (let f : false ≡ true = e in cc)

-- THE ROWS

module _ (d : CardDesc) (is : IsDescribed d) (csd : IsRegister 15 d.csd) (order : Order) (argument : ℕ) (t : CardState) (announced : ℕ)
    (contents : Partitions) where
  abbrev before : Card
  before = card_with d t announced contents

  -- the card after a row that it takes, whose answer the host heard or not
  abbrev taken : Row → (heard : Bool) → Choice → Partitions → Card
  taken row heard choice contents' = card_with d (answered d row heard (taken_by d row argument choice t)) (announced_with row announced) contents'

  -- an error of an earlier write that no status has shown then
  abbrev error_left : Row → (heard : Bool) → Bool
  error_left row heard = (answered d row heard t).unshown_error

  -- one that stays
  abbrev stayed : Row → (heard : Bool) → Choice → Card
  stayed row heard choice = card_with d (answered d row heard (stays d.kind row choice t)) announced contents

  -- a pending switch error is kept only where the tables leave it that
  abbrev Keeps : (heard : Bool) → Choice → Type 0
  Keeps heard choice = choice.keeps_switch_error ≡ true → may_stay_pending heard t.state t.mode ≡ true

  -- the command did not reach it
  lost : (row : Row) → DeedFits Loses row → RowTold order row argument before before None
  lost Cmd0 f = absurd f
  lost Cmd7NotAddressed f = record { answer = unaddressed_answer order; told = unheard_answer order; is_reply = tt; answered = (refl, inl refl) }
  lost row f = record { answer = TimeOut; told = inr refl; is_reply = tt; answered = inl refl }

  -- the answer did not reach the host
  unheard_row : (row : Row) (choice : Choice) (contents' : Partitions) → DeedFits TakesUnheard row → Keeps false choice →
      ((heard : Bool) → KeepsFit row heard choice.keeps_switch_error t.state t.mode → Taken row heard argument before (taken row false choice contents')) →
      RowTold order row argument before (taken row false choice contents') None
  unheard_row Cmd0 choice contents' f keeps card = absurd f
  unheard_row Cmd7NotAddressed choice contents' f keeps card = record {
    answer = unaddressed_answer order;
    told = unheard_answer order;
    is_reply = tt;
    answered = (refl, inr (record { card = card true tt; error = refl }));
  }
  unheard_row Cmd13 choice contents' f keeps card =
      record { answer = TimeOut; told = inr refl; is_reply = tt; answered = inr (inl (record { card = card false keeps; error = refl })) }
  unheard_row row choice contents' f keeps card =
      record { answer = TimeOut; told = inr refl; is_reply = tt; answered = inr (inl (record { card = card false tt; error = refl })) }

  -- CMD8 of an SD card, by its version
  interface : (contents' : Partitions) (choice : Choice) (is_2 : Bool) → (d.version == 2) ≡ is_2 →
      ((heard : Bool) → Unit {0} → Taken Cmd8Sd heard argument before (taken Cmd8Sd true choice contents')) →
      RowTold order Cmd8Sd argument before (taken Cmd8Sd true choice contents') (if is_2 then Some (R7 0x1aa) else None)
  interface contents' choice true e card = record {
    answer = Replied (R7 0x1aa);
    told = refl;
    is_reply = lit< tt;
    answered = record {
      shown = record { is_word = lit< tt; echo = refl; version = eqb-true d.version 2 e };
      card = card true tt;
      error = sym (ap (λ v. v && t.unshown_error) e);
    };
  }
  interface contents' choice false e card = record {
    answer = TimeOut;
    told = inr refl;
    is_reply = tt;
    answered = inr (inl (record { card = card false tt; error = sym (ap (λ v. v && t.unshown_error) e) }));
  }

  -- it takes the row and answers
  answered_row : (row : Row) (choice : Choice) (contents' : Partitions) → RowLegal row before → ChoiceFits d row choice → Keeps true choice →
      ((heard : Bool) → KeepsFit row heard choice.keeps_switch_error t.state t.mode → Taken row heard argument before (taken row true choice contents')) →
      RowTold order row argument before (taken row true choice contents') (reply_of d row t choice.app choice.error choice)
  answered_row Cmd0 choice contents' legal fits keeps card =
      record { answer = Sent; told = inl refl; is_reply = tt; answered = record { card = card true tt; error = refl } }
  answered_row Cmd1 choice contents' legal fits keeps card =
      let s = conditions_show Emmc d.block_unit choice.ready in
      let e = op_cond_state d.kind choice.ready t.state (May-targets legal.has_row) in
      record {
        answer = Replied (R3 (conditions_word Emmc d.block_unit choice.ready));
        told = refl;
        is_reply = s.is_word;
        answered = record {
          is_word = s.is_word;
          windows = s.windows;
          ready = s.ready ∙ sym e;
          unit = λ r. let is : choice.ready ≡ true = sym e ∙ r in
              subst (λ v. access_mode (conditions_word Emmc d.block_unit v) ≡ (if d.block_unit then 2 else 0)) (sym is) (emmc_unit d.block_unit);
          card = card true tt;
          error = refl;
        };
      }
  answered_row Cmd2 choice contents' legal fits keeps card =
      record {
        answer = Replied (R2 (cid_of d.kind));
        told = refl;
        is_reply = cid_reply d.kind;
        answered = record { shown = refl; card = card true tt; error = refl };
      }
  answered_row Cmd3Sd choice contents' legal fits keeps card =
      let s = address_shows choice.address (leaves_doubt choice.error) t.state fits.address_fits in
      record {
        answer = Replied (R6 (address_word choice.address t.state (leaves_doubt choice.error)));
        told = refl;
        is_reply = s.is_word;
        answered = record { is_word = s.is_word; state = s.state; card = inl (record { card = card true tt; rca = ap Some s.rca }); error = refl };
      }
  answered_row Cmd7NotAddressed choice contents' legal fits keeps card = record {
    answer = unaddressed_answer order;
    told = unheard_answer order;
    is_reply = tt;
    answered = (refl, inr (record { card = card true tt; error = refl }));
  }
  answered_row Cmd8Sd choice contents' legal fits keeps card = interface contents' choice (d.version == 2) refl card
  answered_row Cmd9 choice contents' legal fits keeps card =
      record {
        answer = Replied (R2 d.csd);
        told = refl;
        is_reply = register_reply d.csd csd;
        answered = record { shown = refl; card = card true tt; error = refl };
      }
  answered_row Cmd10 choice contents' legal fits keeps card =
      record {
        answer = Replied (R2 (cid_of d.kind));
        told = refl;
        is_reply = cid_reply d.kind;
        answered = record { shown = refl; card = card true tt; error = refl };
      }
  answered_row (Acmd41 high) choice contents' legal fits keeps card =
      let s = conditions_show Sd d.block_unit choice.ready in
      let e = conditions_state d.kind high choice.ready t.state (May-targets legal.has_row) in
      record {
        answer = Replied (R3 (conditions_word Sd d.block_unit choice.ready));
        told = refl;
        is_reply = s.is_word;
        answered = record {
          is_word = s.is_word;
          windows = s.windows;
          ready = s.ready ∙ sym e;
          unit = λ r. let is : choice.ready ≡ true = sym e ∙ r in
              subst (λ v. ccs (conditions_word Sd d.block_unit v) ≡ d.block_unit) (sym is) (sd_unit d.block_unit);
          card = card true tt;
          error = refl;
        };
      }
  answered_row Cmd55 choice contents' legal fits keeps card =
      let s = status_shows choice.app false (error_shown choice.error t.unshown_error) t.state in
      record {
        answer = Replied (R1 55 (status_word t.state choice.app false (error_shown choice.error t.unshown_error)));
        told = refl;
        is_reply = (lit< tt, s.is_word);
        answered = record {
          is_word = s.is_word;
          same_index = refl;
          state = s.state;
          card = inl (card true tt);
          app = s.app;
          switch = tt;
          error = error_told choice.error t.unshown_error _ _ refl refl s;
        };
      }
  answered_row Cmd13 choice contents' legal fits keeps card =
      let s = status_shows false (t.mode.error && not choice.keeps_switch_error) (error_shown choice.error t.unshown_error) t.state in
      record {
        answer = Replied (R1 13 (status_word t.state false (t.mode.error && not choice.keeps_switch_error) (error_shown choice.error t.unshown_error)));
        told = refl;
        is_reply = (lit< tt, s.is_word);
        answered = record {
          is_word = s.is_word;
          same_index = refl;
          state = s.state;
          card = inl (card true keeps);
          app = tt;
          switch = λ pending. s.switch ∙ switch_told choice.keeps_switch_error t.mode pending;
          error = error_told choice.error t.unshown_error _ _ refl refl s;
        };
      }
  answered_row row choice contents' legal fits keeps card =
      let s = status_shows (shows_app row && choice.app) false (error_shown choice.error t.unshown_error) t.state in
      record {
        answer = Replied (R1 (row_index row) (status_word t.state (shows_app row && choice.app) false (error_shown choice.error t.unshown_error)));
        told = refl;
        is_reply = (index_small row, s.is_word);
        answered = record {
          is_word = s.is_word;
          same_index = refl;
          state = s.state;
          card = inl (card true tt);
          app = tt;
          switch = tt;
          error = error_told choice.error t.unshown_error _ _ refl refl s;
        };
      }

  -- it did not take the row, and answers with an error
  stayed_row : (row : Row) (choice : Choice) → reports (response_of row) ≡ true → ChoiceFits d row choice → Keeps true choice →
      RowTold order row argument before (stayed row true choice) (reply_of d row t false (doubt_of choice.error) choice)
  stayed_row Cmd0 choice f fits keeps = absurd (let f : false ≡ true = f in cc)
  stayed_row Cmd1 choice f fits keeps = absurd (let f : false ≡ true = f in cc)
  stayed_row Cmd2 choice f fits keeps = absurd (let f : false ≡ true = f in cc)
  stayed_row Cmd7NotAddressed choice f fits keeps = absurd (let f : false ≡ true = f in cc)
  stayed_row Cmd8Sd choice f fits keeps = absurd (let f : false ≡ true = f in cc)
  stayed_row Cmd9 choice f fits keeps = absurd (let f : false ≡ true = f in cc)
  stayed_row Cmd10 choice f fits keeps = absurd (let f : false ≡ true = f in cc)
  stayed_row (Acmd41 high) choice f fits keeps = absurd (let f : false ≡ true = f in cc)
  stayed_row Cmd3Sd choice f fits keeps =
      let s = address_shows choice.address (leaves_doubt (doubt_of choice.error)) t.state fits.address_fits in
      record {
        answer = Replied (R6 (address_word choice.address t.state (leaves_doubt (doubt_of choice.error))));
        told = refl;
        is_reply = s.is_word;
        answered = record { is_word = s.is_word; state = s.state; card = inr (s.error ∙ doubt_is choice.error, stayed_law d is Cmd3Sd argument t announced contents true (error_left Cmd3Sd true) choice tt); error = refl };
      }
  stayed_row Cmd55 choice f fits keeps =
      let s = status_shows false false (error_shown (doubt_of choice.error) t.unshown_error) t.state in
      record {
        answer = Replied (R1 55 (status_word t.state false false (error_shown (doubt_of choice.error) t.unshown_error)));
        told = refl;
        is_reply = (lit< tt, s.is_word);
        answered = record {
          is_word = s.is_word;
          same_index = refl;
          state = s.state;
          card = inr (s.error ∙ doubt_shown choice.error t.unshown_error, stayed_law d is Cmd55 argument t announced contents true (error_left Cmd55 true) choice tt);
          app = s.app;
          switch = tt;
          error = error_told (doubt_of choice.error) t.unshown_error _ _ refl refl s;
        };
      }
  stayed_row Cmd13 choice f fits keeps =
      let s = status_shows false (t.mode.error && not choice.keeps_switch_error) (error_shown (doubt_of choice.error) t.unshown_error) t.state in
      record {
        answer = Replied (R1 13 (status_word t.state false (t.mode.error && not choice.keeps_switch_error) (error_shown (doubt_of choice.error) t.unshown_error)));
        told = refl;
        is_reply = (lit< tt, s.is_word);
        answered = record {
          is_word = s.is_word;
          same_index = refl;
          state = s.state;
          card = inr (s.error ∙ doubt_shown choice.error t.unshown_error, stayed_law d is Cmd13 argument t announced contents true (error_left Cmd13 true) choice keeps);
          app = tt;
          switch = λ pending. s.switch ∙ switch_told choice.keeps_switch_error t.mode pending;
          error = error_told (doubt_of choice.error) t.unshown_error _ _ refl refl s;
        };
      }
  stayed_row row choice f fits keeps =
      let s = status_shows false false (error_shown (doubt_of choice.error) t.unshown_error) t.state in
      record {
        answer = Replied (R1 (row_index row) (status_word t.state false false (error_shown (doubt_of choice.error) t.unshown_error)));
        told = refl;
        is_reply = (index_small row, s.is_word);
        answered = record {
          is_word = s.is_word;
          same_index = refl;
          state = s.state;
          card = inr (s.error ∙ doubt_shown choice.error t.unshown_error, stayed_law d is row argument t announced contents true (error_left row true) choice tt);
          app = tt;
          switch = tt;
          error = error_told (doubt_of choice.error) t.unshown_error _ _ refl refl s;
        };
      }

  -- it did not take the row, and its answer did not reach the host
  stayed_unheard : (row : Row) (choice : Choice) → reports (response_of row) ≡ true → Keeps false choice →
      RowTold order row argument before (stayed row false choice) None
  stayed_unheard Cmd0 choice f keeps = absurd (let f : false ≡ true = f in cc)
  stayed_unheard Cmd1 choice f keeps = absurd (let f : false ≡ true = f in cc)
  stayed_unheard Cmd2 choice f keeps = absurd (let f : false ≡ true = f in cc)
  stayed_unheard Cmd7NotAddressed choice f keeps = absurd (let f : false ≡ true = f in cc)
  stayed_unheard Cmd8Sd choice f keeps = absurd (let f : false ≡ true = f in cc)
  stayed_unheard Cmd9 choice f keeps = absurd (let f : false ≡ true = f in cc)
  stayed_unheard Cmd10 choice f keeps = absurd (let f : false ≡ true = f in cc)
  stayed_unheard (Acmd41 high) choice f keeps = absurd (let f : false ≡ true = f in cc)
  stayed_unheard Cmd13 choice f keeps = record {
    answer = TimeOut;
    told = inr refl;
    is_reply = tt;
    answered = inr (inr (record { card = stayed_law d is Cmd13 argument t announced contents false (error_left Cmd13 false) choice keeps; error = refl }));
  }
  stayed_unheard row choice f keeps = record {
    answer = TimeOut;
    told = inr refl;
    is_reply = tt;
    answered = inr (inr (record { card = stayed_law d is row argument t announced contents false (error_left row false) choice tt; error = refl }));
  }

  -- a row, by the deed
  does_law : (deed : Deed) (row : Row) (choice : Choice) (contents' : Partitions) → DeedFits deed row → ChoiceFits d row choice →
      Keeps (is_heard deed) choice →
      RowLegal row before →
      LeavesBlocks (does d deed row argument choice t).erases d t.mode.partition contents contents' →
      RowTold order row argument before (card_with d (does d deed row argument choice t).after (announced_by deed row announced) contents')
      (does d deed row argument choice t).reply
  does_law Loses row choice contents' f fits keeps legal left =
      subst (λ (cs : Partitions). RowTold order row argument before (card_with d t announced cs) None) left (lost row f)
  does_law TakesUnheard row choice contents' f fits keeps legal left =
      unheard_row row choice contents' f keeps
      (taken_law d is row argument t announced contents choice contents' fits legal (error_left row false)
      (left_after d row t (answered d row false (taken_by d row argument choice t)) announced (announced_with row announced) contents contents' left))
  does_law Takes row choice contents' f fits keeps legal left =
      answered_row row choice contents' legal fits keeps
      (taken_law d is row argument t announced contents choice contents' fits legal (error_left row true)
      (left_after d row t (answered d row true (taken_by d row argument choice t)) announced (announced_with row announced) contents contents' left))
  does_law StaysUnheard row choice contents' f fits keeps legal left =
      subst (λ (cs : Partitions). RowTold order row argument before (card_with d (answered d row false (stays d.kind row choice t)) announced cs) None) left
      (stayed_unheard row choice f keeps)
  does_law Stays row choice contents' f fits keeps legal left =
      subst (λ (cs : Partitions). RowTold order row argument before (card_with d (answered d row true (stays d.kind row choice t)) announced cs)
      (reply_of d row t false (doubt_of choice.error) choice)) left
      (stayed_row row choice f fits keeps)

  -- a row, by the behavior
  heard_still : (deed : Deed) (row : Row) → is_heard deed ≡ true → is_heard (row_deed deed row) ≡ true
  heard_still Takes Cmd0 e = refl
  heard_still Takes row e = refl
  heard_still Stays Cmd0 e = refl
  heard_still Stays row e = stays_heard (reports (response_of row))
  heard_still deed row e = absurd (let f : false ≡ true = e in cc)

  keeps_fit : (behavior : Behavior) (row : Row) → Keeps (is_heard (row_deed behavior.deed row)) (choice_of d behavior row t)
  keeps_fit behavior row e = kept (is_heard behavior.deed) (is_heard (row_deed behavior.deed row)) behavior.keeps_switch_error t.state t.mode (heard_still behavior.deed row) e

  pub behaves_law : (behavior : Behavior) (row : Row) (contents' : Partitions) → RowLegal row before →
      LeavesBlocks (does d (row_deed behavior.deed row) row argument (choice_of d behavior row t) t).erases d t.mode.partition contents contents' →
      RowTold order row argument before
      (card_with d (does d (row_deed behavior.deed row) row argument (choice_of d behavior row t) t).after
      (announced_by (row_deed behavior.deed row) row announced) contents')
      (does d (row_deed behavior.deed row) row argument (choice_of d behavior row t) t).reply
  behaves_law behavior row contents' legal left =
      does_law (row_deed behavior.deed row) row (choice_of d behavior row t) contents' (deed_fits behavior.deed row) (choice_fits d is behavior row t)
      (keeps_fit behavior row) legal left
