-- The phases and waits of a simulator are steps of the card that it shows.
use Rattle.std.proofs.Common.{◌≡◌, ◌⊎◌, ℕ, ◌≤◌, ◌<◌, ◌+◌, ◌==◌, ◌||◌, ◌&&◌, inl, inr, refl, sym, ap, subst, ◌∙◌, Bool, true, false, List, [], ◌∷◌, length, take, drop, Option, Some, None, eq-eqb, le-leb, arith}
use Rattle.sdv_card.specs.declared.answer.DataEnd.{DataEnd}
use Rattle.sdv_card.specs.declared.answer.DataEnd.TheVariants.{Ok, Cut}
use Rattle.sdv_card.specs.declared.answer.WaitEnd.{WaitEnd}
use Rattle.sdv_card.specs.declared.answer.WaitEnd.TheVariants.{Ok as Over, Late}
use Rattle.sdv_card.specs.declared.state.Place.{Place}
use Rattle.sdv_card.specs.declared.state.Width.{Width}
use Rattle.sdv_card.specs.declared.state.Width.TheVariants.{One, Four, Eight}
use Rattle.sdv_card.specs.declared.state.State.{State}
use Rattle.sdv_card.specs.declared.state.State.TheVariants.{Tran, Data, Rcv, Prg}
use Rattle.sdv_card.specs.declared.state.Transfer.{Transfer}
use Rattle.sdv_card.specs.declared.state.Transfer.TheVariants.{ReadDue, OpenReadDue, ScrDue, SdStatusDue, ExtCsdDue, WriteDue, OpenWriteDue}
use Rattle.sdv_card.specs.Card.{Card, Block, Partitions, AreBlocks, ContentsFit, blocks_of}
use Rattle.sdv_card.specs.Legal.{recv_legal, recv_reg_legal, give_legal, wait_legal, TransferOnCard}
use Rattle.sdv_card.specs.Lists.{May}
use Rattle.sdv_card.specs.Modes.{line_count, same_width}
use Rattle.sdv_card.specs.Phases.{after_phase, after_wait, read_due, register_due, write_due, blocks_due, due_register, BlocksTrue, RegisterTrue, StoredOrNot}
use Rattle.sdv_card.specs.Port.{count_known, Kept}
use Rattle.sdv_card.specs.ScriptEvent.{ReceiveBlocks, ReceiveRegister, GiveBlocks, AwaitReady, BlocksIn, RegisterIn, BlocksOut, Waited}
use Rattle.sdv_card.specs.States.{is_open}
use Rattle.sdv_card.proofs.Members.{here, there, both_true, and_left, and_right}
use Rattle.sdv_behavior.specs.declared.card_desc.CardDesc.{CardDesc}
use Rattle.sdv_behavior.specs.declared.card_state.CardState.{CardState}
use Rattle.sdv_behavior.specs.CardOf.{card_of, card_with}
use Rattle.sdv_behavior.specs.Layout.{partition_size, image_size, contents_of}
use Rattle.sdv_behavior.proofs.LayoutLaws.{OnlyThere, shown_there, only_there, contents_sized, whole_sized}
use Rattle.sdv_image.specs.Images.{Shown, OnlyThese, OnlyAt, AreSized}
use Rattle.sdv_behavior.specs.SimSteps.{SimState, behavior_of, card_shown, shown_card, Goes, length_fits, next_place, placed_at, moved_to, register_of, padded, IfEndedWell, receives, receives_register, takes_blocks, Receives, ReceivesRegister, TakesBlocks, StoresBlocks, IsCutOff, IsUnstored, with_error, waited_in, wait_state, Waits}
use Rattle.sdv_behavior.proofs.CountLaw.{Knows, no}
use Rattle.sdv_behavior.proofs.RegisterLaws.{register_true}

-- WHICH PHASE IS DUE

read_is_due : (state : State) (x : Transfer) → recv_legal state x ≡ true → read_due x ≡ true
read_is_due Data x e = e
read_is_due state x e = no e

register_is_due : (state : State) (x : Transfer) → recv_reg_legal state x ≡ true → register_due x ≡ true
register_is_due Data x e = e
register_is_due state x e = no e

write_is_due : (state : State) (x : Transfer) → give_legal state x ≡ true → write_due x ≡ true
write_is_due Rcv x e = e
write_is_due state x e = no e

read_blocks_due : (x : Transfer) → read_due x ≡ true → blocks_due x ≡ true
read_blocks_due ReadDue e = refl
read_blocks_due OpenReadDue e = refl
read_blocks_due x e = no e

write_blocks_due : (x : Transfer) → write_due x ≡ true → blocks_due x ≡ true
write_blocks_due WriteDue e = refl
write_blocks_due OpenWriteDue e = refl
write_blocks_due x e = no e

-- a block phase that is due has the length that the host announced
counts : (x : Transfer) (count known announced : ℕ) → blocks_due x ≡ true → (count_known x ≡ true → known ≡ announced) → count ≡ announced →
    (is_open x || (count == known)) ≡ true
counts ReadDue count known announced e knows same = eq-eqb count known (same ∙ sym (knows refl))
counts OpenReadDue count known announced e knows same = refl
counts WriteDue count known announced e knows same = eq-eqb count known (same ∙ sym (knows refl))
counts OpenWriteDue count known announced e knows same = refl
counts x count known announced e knows same = no e

fits : (d : CardDesc) (s : CardState) (count announced : ℕ) (contents : Partitions) → blocks_due s.transfer ≡ true → Knows s announced →
    TransferOnCard (card_with d s announced contents) → count ≡ announced → length_fits d s count ≡ true
fits d s count announced contents due knows on_card same =
    let has = on_card due in
    let some = has.some in
    let room = has.room in
    both_true _ _
    (both_true _ _ (le-leb 1 count (omega (arith, some, same))) (le-leb (s.next_block + count) (partition_size d s.mode.partition) (omega (arith, room, same))))
    (counts s.transfer count s.announced announced due knows same)

-- WHERE THE CARD IS AFTERWARDS

-- the place where the card is that moves on or not
record AfterPhase (moves : Bool) (x : Transfer) (end : DataEnd) : Type 0 where
  place : Place
  over : (s : CardState) → moved_to moves (after_phase x end) s ≡ placed_at place s
  may : May (after_phase x end) place
  unknown : count_known place.transfer ≡ false

only : {moves : Bool} {x : Transfer} {end : DataEnd} (place : Place) → after_phase x end ≡ place ∷ [] → count_known place.transfer ≡ false →
    AfterPhase moves x end
only {moves = moves} place e u = record {
  place = place;
  over = λ s. ap (λ ps. moved_to moves ps s) e;
  may = subst (λ ps. May ps place) (sym e) (here refl);
  unknown = u;
}

either : (moves : Bool) {x : Transfer} {end : DataEnd} (place second : Place) → after_phase x end ≡ place ∷ second ∷ [] → count_known place.transfer ≡ false →
    count_known second.transfer ≡ false → AfterPhase moves x end
either false place second e u v = record {
  place = place;
  over = λ s. ap (λ ps. moved_to false ps s) e;
  may = subst (λ ps. May ps place) (sym e) (here refl);
  unknown = u;
}
either true place second e u v = record {
  place = second;
  over = λ s. ap (λ ps. moved_to true ps s) e;
  may = subst (λ ps. May ps second) (sym e) (there (here refl));
  unknown = v;
}

read_after : (moves : Bool) (x : Transfer) (end : DataEnd) → read_due x ≡ true → AfterPhase moves x end
read_after moves ReadDue Ok e = only _ refl refl
read_after moves ReadDue Cut e = either moves _ _ refl refl refl
read_after moves OpenReadDue end e = only _ refl refl
read_after moves x end e = no e

register_after : (moves : Bool) (x : Transfer) (end : DataEnd) → register_due x ≡ true → AfterPhase moves x end
register_after moves ScrDue Ok e = only _ refl refl
register_after moves ScrDue Cut e = either moves _ _ refl refl refl
register_after moves SdStatusDue Ok e = only _ refl refl
register_after moves SdStatusDue Cut e = either moves _ _ refl refl refl
register_after moves ExtCsdDue Ok e = only _ refl refl
register_after moves ExtCsdDue Cut e = either moves _ _ refl refl refl
register_after moves x end e = no e

write_after : (moves : Bool) (x : Transfer) (end : DataEnd) → write_due x ≡ true → AfterPhase moves x end
write_after moves WriteDue Ok e = only _ refl refl
write_after moves WriteDue Cut e = either moves _ _ refl refl refl
write_after moves OpenWriteDue end e = only _ refl refl
write_after moves x end e = no e

-- where a card is that took the blocks of a phase: a place that the tables have however the host sees the end
record AfterTaken (moves : Bool) (x : Transfer) (end : DataEnd) : Type 0 where
  place : Place
  over : (s : CardState) → moved_to moves (after_phase x Ok) s ≡ placed_at place s
  may : May (after_phase x end) place
  unknown : count_known place.transfer ≡ false

taken_only : {moves : Bool} {x : Transfer} {end : DataEnd} (place : Place) → after_phase x Ok ≡ place ∷ [] → May (after_phase x end) place →
    count_known place.transfer ≡ false → AfterTaken moves x end
taken_only {moves = moves} place e m u = record { place = place; over = λ s. ap (λ ps. moved_to moves ps s) e; may = m; unknown = u }

taken_after : (moves : Bool) (x : Transfer) (end : DataEnd) → write_due x ≡ true → AfterTaken moves x end
taken_after moves WriteDue Ok e = taken_only _ refl (here refl) refl
taken_after moves WriteDue Cut e = taken_only _ refl (there (here refl)) refl
taken_after moves OpenWriteDue end e = taken_only _ refl (here refl) refl
taken_after moves x end e = no e

-- THE DATA LINES of a legal phase are the card's

same_lines : (a b : Width) → same_width a b ≡ true → (line_count a == line_count b) ≡ true
same_lines One One e = refl
same_lines Four Four e = refl
same_lines Eight Eight e = refl
same_lines a b e = no e

-- THE STEPS

module _ (s s' : SimState) (all : List Block) (shows : s.blocks ≡ Some all) (announced : ℕ) (knows : Knows s.card announced) where
  -- what the card holds
  abbrev contents : Partitions
  contents = contents_of s.desc all

  abbrev before : Card
  before = card_with s.desc s.card announced contents

  -- the card at another place
  abbrev at : Place → CardState
  at place = placed_at place s.card

  -- where a card moves on
  abbrev moves : Bool
  moves = (behavior_of s).moves_on

  -- the simulator shows the card afterwards
  now_shown : (card : CardState) (all' : List Block) → Some all' ≡ s'.blocks → Goes card s s' → card_shown s' ≡ Some (card_of s.desc card all')
  now_shown card all' e goes =
      sym (ap (λ b. shown_card s.desc card b) e ∙ (ap (λ d. shown_card d card s'.blocks) goes.desc ∙ ap (λ c. shown_card s'.desc c s'.blocks) goes.state))

  -- the partition in access has the blocks of the transfer
  room : blocks_due s.card.transfer ≡ true → TransferOnCard before → s.card.next_block + announced ≤ partition_size s.desc s.card.mode.partition
  room due on_card = (on_card due).room

  -- the blocks that a phase moves
  moved_blocks : (blocks : List Block) (b : Option (List Block)) (now : List Block) → Some now ≡ b → length blocks ≡ announced →
      s.card.next_block + announced ≤ partition_size s.desc s.card.mode.partition → Shown (next_place s.desc s.card) blocks b →
      blocks ≡ take announced (drop s.card.next_block (blocks_of s.card.mode.partition (contents_of s.desc now)))
  moved_blocks blocks b now e size room shown =
      subst (λ (n : ℕ). blocks ≡ take n (drop (next_place s.desc s.card) now)) size (subst (λ v. Shown (next_place s.desc s.card) blocks v) (sym e) shown)
      ∙ shown_there s.desc s.card.mode.partition s.card.next_block announced now room

  pub receive_law : (lines : Width) (count : ℕ) (end : DataEnd) (blocks : List Block) → recv_legal s.card.state s.card.transfer ≡ true →
      TransferOnCard before → count ≡ announced → length blocks ≡ count → Receives end blocks s s' →
      Kept card_shown (ReceiveBlocks lines count) before (BlocksIn end blocks) s'
  receive_law lines count end blocks legal on_card bounds size r =
      let due = read_is_due s.card.state s.card.transfer legal in
      let a = read_after moves s.card.transfer end due in
      record {
        after = card_with s.desc (at a.place) announced contents;
        step = record { due = due; size = size; truth = truth end r.truth; moved = record { place = a.place; may = a.may; card = refl } };
        shown = record {
          shown = card_of s.desc (at a.place) all;
          shows = now_shown (at a.place) all (sym shows ∙ r.same) (subst (λ c. Goes c s s') (a.over s.card) r.goes);
          same = refl;
          count = λ k. no (sym a.unknown ∙ k);
        };
      }
    where
      has_room : s.card.next_block + announced ≤ partition_size s.desc s.card.mode.partition
      has_room = room (read_blocks_due s.card.transfer (read_is_due s.card.state s.card.transfer legal)) on_card

      truth : (end : DataEnd) → IfEndedWell end (Shown (next_place s.desc s.card) blocks s.blocks) → BlocksTrue end before blocks
      truth Ok t = moved_blocks blocks s.blocks all (sym shows) (size ∙ bounds) has_room t
      truth Cut t = tt

  -- a phase from a card that is due is one that the simulator takes
  pub receives_law : (lines : Width) (count : ℕ) → (recv_legal s.card.state s.card.transfer && same_width lines s.card.mode.width) ≡ true →
      TransferOnCard before → count ≡ announced → receives s (line_count lines) count ≡ true
  receives_law lines count legal on_card bounds =
      let due = and_left (recv_legal s.card.state s.card.transfer) (same_width lines s.card.mode.width) legal in
      let alike = and_right (recv_legal s.card.state s.card.transfer) (same_width lines s.card.mode.width) legal in
      both_true _ _ (both_true _ _ due (same_lines lines s.card.mode.width alike)) (fits s.desc s.card count announced contents
      (read_blocks_due s.card.transfer (read_is_due s.card.state s.card.transfer due)) knows on_card bounds)

  pub takes_law : (lines : Width) (count : ℕ) → (give_legal s.card.state s.card.transfer && same_width lines s.card.mode.width) ≡ true →
      TransferOnCard before → count ≡ announced → takes_blocks s (line_count lines) count ≡ true
  takes_law lines count legal on_card bounds =
      let due = and_left (give_legal s.card.state s.card.transfer) (same_width lines s.card.mode.width) legal in
      let alike = and_right (give_legal s.card.state s.card.transfer) (same_width lines s.card.mode.width) legal in
      both_true _ _ (both_true _ _ due (same_lines lines s.card.mode.width alike)) (fits s.desc s.card count announced contents
      (write_blocks_due s.card.transfer (write_is_due s.card.state s.card.transfer due)) knows on_card bounds)

  pub receives_register_law : (lines : Width) (count : ℕ) → (recv_reg_legal s.card.state s.card.transfer && same_width lines s.card.mode.width) ≡ true →
      0 < count → receives_register s (line_count lines) count ≡ true
  receives_register_law lines count legal some =
      let due = and_left (recv_reg_legal s.card.state s.card.transfer) (same_width lines s.card.mode.width) legal in
      let alike = and_right (recv_reg_legal s.card.state s.card.transfer) (same_width lines s.card.mode.width) legal in
      both_true _ _ (both_true _ _ due (same_lines lines s.card.mode.width alike)) (le-leb 1 count (omega (arith, some)))

  pub register_law : (lines : Width) (count : ℕ) (end : DataEnd) (bytes : List ℕ) → recv_reg_legal s.card.state s.card.transfer ≡ true →
      length bytes ≡ count → ReceivesRegister end bytes s s' →
      Kept card_shown (ReceiveRegister lines count) before (RegisterIn end bytes) s'
  register_law lines count end bytes legal size r =
      let due = register_is_due s.card.state s.card.transfer legal in
      let a = register_after moves s.card.transfer end due in
      record {
        after = card_with s.desc (at a.place) announced contents;
        step = record { due = due; size = size; truth = truth end r.truth; moved = record { place = a.place; may = a.may; card = refl } };
        shown = record {
          shown = card_of s.desc (at a.place) all;
          shows = now_shown (at a.place) all (sym shows ∙ r.same.blocks) (subst (λ c. Goes c s s') (a.over s.card) r.goes);
          same = refl;
          count = λ k. no (sym a.unknown ∙ k);
        };
      }
    where
      truth : (end : DataEnd) → IfEndedWell end (bytes ≡ padded (register_of s.card.transfer s.desc s.card.mode) (length bytes)) →
          RegisterTrue end s.card.transfer (due_register s.card.transfer before) bytes
      truth Ok t = register_true s.card.transfer s.desc s.card announced contents bytes (register_is_due s.card.state s.card.transfer legal) t
      truth Cut t = tt

  -- the blocks that a write leaves in the image
  record Written (end : DataEnd) (blocks : List Block) : Type 0 where
    all' : List Block
    shown : Some all' ≡ s'.blocks
    sized : AreBlocks (image_size s.desc) all'
    there : OnlyThere s.desc s.card.mode.partition s.card.next_block (length blocks) all all'

  written : (end : DataEnd) (blocks : List Block) → ContentsFit before → s.card.next_block + length blocks ≤ partition_size s.desc s.card.mode.partition →
      TakesBlocks end blocks s s' → Written end blocks
  written end blocks fit room r = go s.blocks shows r.others
    where
      whole : AreSized (image_size s.desc) s.blocks
      whole = subst (λ b. AreSized (image_size s.desc) b) (sym shows) (whole_sized s.desc all fit)

      go : (b : Option (List Block)) → b ≡ Some all → OnlyAt (next_place s.desc s.card) (length blocks) b s'.blocks → Written end blocks
      go None e o = absurd (cc)
      go (Some old) e o =
          let same : old ≡ all = cc in
          record {
            all' = o.0;
            shown = o.1;
            sized = subst (λ b. AreSized (image_size s.desc) b) (sym o.1) (r.fit whole);
            there = only_there s.desc s.card.mode.partition s.card.next_block (length blocks) all o.0 room
                (subst (λ (v : List Block). OnlyThese (next_place s.desc s.card) (length blocks) v o.0) same o.2);
          }

  -- where a write leaves the card, and what it leaves in it
  record AfterWrite (end : DataEnd) (blocks : List Block) : Type 0 where
    place : Place
    error : Bool
    goes : Goes (record (at place) { unshown_error = error }) s s'
    may : May (after_phase s.card.transfer end) place
    unknown : count_known place.transfer ≡ false
    stored : (all' : List Block) → Some all' ≡ s'.blocks →
        StoredOrNot end before blocks (card_with s.desc (record (at place) { unshown_error = error }) announced (contents_of s.desc all'))

  -- the card stores the blocks, whatever the host sees
  after_stored : (end : DataEnd) (blocks : List Block) → write_due s.card.transfer ≡ true → length blocks ≡ announced →
      s.card.next_block + announced ≤ partition_size s.desc s.card.mode.partition → StoresBlocks end blocks s s' → AfterWrite end blocks
  after_stored end blocks due size room r = record {
    place = a.place;
    error = s.card.unshown_error;
    goes = subst (λ c. Goes c s s') (a.over s.card) r.goes;
    may = a.may;
    unknown = a.unknown;
    stored = stored end;
  }
    where
      a : AfterTaken moves s.card.transfer end
      a = taken_after moves s.card.transfer end due

      stored : (end : DataEnd) (all' : List Block) → Some all' ≡ s'.blocks →
          StoredOrNot end before blocks (card_with s.desc (at a.place) announced (contents_of s.desc all'))
      stored Ok all' e = inl (record { stored = sym (moved_blocks blocks s'.blocks all' e size room r.stored); error = refl })
      stored Cut all' e = refl

  after_cut : (end : DataEnd) (blocks : List Block) → write_due s.card.transfer ≡ true → IsCutOff end s s' → AfterWrite end blocks
  after_cut Ok blocks due r = absurd (let f : Cut ≡ Ok = r.end_is in cc)
  after_cut Cut blocks due r =
      let a = write_after moves s.card.transfer Cut due in
      record {
        place = a.place;
        error = s.card.unshown_error;
        goes = subst (λ c. Goes c s s') (a.over s.card) r.goes;
        may = a.may;
        unknown = a.unknown;
        stored = λ all' e. refl;
      }

  -- nothing is stored, and a later status shows the error
  after_failed : (end : DataEnd) (blocks : List Block) → write_due s.card.transfer ≡ true → IsUnstored end s s' → AfterWrite end blocks
  after_failed Cut blocks due r = absurd (let f : Ok ≡ Cut = r.end_is in cc)
  after_failed Ok blocks due r =
      let a = write_after moves s.card.transfer Ok due in
      record {
        place = a.place;
        error = true;
        goes = subst (λ (c : CardState). Goes (with_error c) s s') (a.over s.card) r.goes;
        may = a.may;
        unknown = a.unknown;
        stored = λ all' e. inr refl;
      }

  after_write : (end : DataEnd) (blocks : List Block) → write_due s.card.transfer ≡ true → length blocks ≡ announced →
      s.card.next_block + announced ≤ partition_size s.desc s.card.mode.partition → StoresBlocks end blocks s s' ⊎ (IsCutOff end s s' ⊎ IsUnstored end s s') → AfterWrite end blocks
  after_write end blocks due size room (inl r) = after_stored end blocks due size room r
  after_write end blocks due size room (inr (inl r)) = after_cut end blocks due r
  after_write end blocks due size room (inr (inr r)) = after_failed end blocks due r

  pub give_law : (lines : Width) (end : DataEnd) (blocks : List Block) → ContentsFit before → give_legal s.card.state s.card.transfer ≡ true →
      TransferOnCard before → length blocks ≡ announced → TakesBlocks end blocks s s' →
      Kept card_shown (GiveBlocks lines blocks) before (BlocksOut end) s'
  give_law lines end blocks fit legal on_card bounds r =
      let due = write_is_due s.card.state s.card.transfer legal in
      let a = after_write end blocks due bounds has_room r.taken in
      let w = written end blocks fit (subst (λ (n : ℕ). s.card.next_block + n ≤ partition_size s.desc s.card.mode.partition) (sym bounds) has_room) r in
      record {
        after = card_with s.desc (record (at a.place) { unshown_error = a.error }) announced (contents_of s.desc w.all');
        step = record {
          due = due;
          others = record {
            blocks = contents_sized s.desc w.all' w.sized s.card.mode.partition;
            others = w.there.others;
            below = w.there.these.below;
            above =
                subst (λ (n : ℕ).
                drop (s.card.next_block + n) (blocks_of s.card.mode.partition contents)
                ≡ drop (s.card.next_block + n) (blocks_of s.card.mode.partition (contents_of s.desc w.all'))) bounds w.there.these.above;
          };
          stored = a.stored w.all' w.shown;
          moved = record { place = a.place; may = a.may; card = refl };
        };
        shown = record {
          shown = card_of s.desc (record (at a.place) { unshown_error = a.error }) w.all';
          shows = now_shown (record (at a.place) { unshown_error = a.error }) w.all' w.shown a.goes;
          same = refl;
          count = λ k. no (sym a.unknown ∙ k);
        };
      }
    where
      has_room : s.card.next_block + announced ≤ partition_size s.desc s.card.mode.partition
      has_room = room (write_blocks_due s.card.transfer (write_is_due s.card.state s.card.transfer legal)) on_card

  -- a wait ends in a state that the tables have
  wait_may : (on : Bool) (state : State) (end : WaitEnd) → wait_legal state ≡ true →
      May (after_wait state end) (waited_in on (after_wait state end) state)
  wait_may on Tran end e = here refl
  wait_may on Prg Over e = here refl
  wait_may false Prg Late e = here refl
  wait_may true Prg Late e = there (here refl)
  wait_may on state end e = no e

  -- only data and receive state have a transfer whose count is known; a wait leaves the transfer
  pub wait_law : (end : WaitEnd) → wait_legal s.card.state ≡ true → Waits end s s' → Kept card_shown AwaitReady before (Waited end) s'
  wait_law end legal w = record {
    after = card_with s.desc (wait_state moves s.card.state end s.card) announced contents;
    step = record { state = waited_in moves (after_wait s.card.state end) s.card.state; may = wait_may moves s.card.state end legal; card = refl };
    shown = record {
      shown = card_of s.desc (wait_state moves s.card.state end s.card) all;
      shows = now_shown (wait_state moves s.card.state end s.card) all (sym shows ∙ w.same.blocks) w.goes;
      same = refl;
      count = knows;
    };
  }
