-- Each branch of an order at a settled card's fields is of that order at the card.
use Rattle.std.proofs.Common.{◌≡◌, ℕ, ◌<◌, ◌⊎◌, ◌==◌, inl, inr, refl, ap, subst, sym, ◌∙◌, Bool, true, false, IsTrue, ◌∷◌, Some, None, if◌then◌else◌, lit<}
use Rattle.sdv_registers.specs.declared.kind.Kind.{Kind}
use Rattle.sdv_registers.specs.declared.kind.Kind.TheVariants.{Sd, Emmc}
use Rattle.sdv_frames.specs.declared.reply.Reply.{Reply}
use Rattle.sdv_registers.specs.Status.{rca as published_rca}
use Rattle.sdv_frames.specs.declared.reply.Reply.TheVariants.{R2, R3, R6, R7}
use Rattle.sdv_card.specs.declared.state.State.{State}
use Rattle.sdv_card.specs.declared.fields.Fields.{Fields}
use Rattle.sdv_card.specs.declared.event.Seen.TheVariants.{Sent as SeenSent, TimeOut as SeenTimeOut, Bare, Ocr}
use Rattle.sdv_card.specs.declared.event.Branch.{Branch}
use Rattle.sdv_card.specs.declared.answer.Answer.{Answer}
use Rattle.sdv_card.specs.declared.answer.Answer.TheVariants.{Sent, TimeOut, Reply as Replied}
use Rattle.sdv_card.specs.declared.command.Order.{Order}
use Rattle.sdv_card.specs.declared.command.Order.TheVariants.{DeselectCards}
use Rattle.sdv_card.specs.declared.command.Row.{Row}
use Rattle.sdv_card.specs.declared.command.Row.TheVariants.{Cmd1, Cmd2, Cmd3Sd, Cmd8Sd, Cmd9, Cmd10}
use Rattle.sdv_card.specs.declared.command.Response.{Response}
use Rattle.sdv_card.specs.declared.command.Response.TheVariants.{Absent, NotAddressed, CardStatus, NewAddress, Contents, Conditions}
use Rattle.sdv_card.specs.declared.command.TakenAs.{TakenAs}
use Rattle.sdv_card.specs.declared.command.TakenAs.TheVariants.{Forbidden, Ignored, By}
use Rattle.sdv_card.specs.Lists.{May, IsOneOf}
use Rattle.sdv_card.specs.States.{is_ready}
use Rattle.sdv_card.specs.StateTable.{◌to◌, rows}
use Rattle.sdv_card.specs.RowRules.{may_reach}
use Rattle.sdv_card.specs.Responses.{response_of}
use Rattle.sdv_card.specs.Seen.{answer_seen}
use Rattle.sdv_card.specs.ScriptEvent.{Answered}
use Rattle.sdv_card.specs.declared.guard.Guard.TheVariants.{OcrBlock}
use Rattle.sdv_card.specs.Guards.{verdict, Open, Fails}
use Rattle.sdv_registers.specs.Ocr.{is_powered_up, access_mode, is_block_addressed}
use Rattle.sdv_outcomes.specs.OpenGuards.{OpenGuards, OpenGuardsAre}
use Rattle.sdv_card.specs.Takes.{matches}
use Rattle.sdv_card.specs.Card.{Card}
use Rattle.sdv_card.specs.Host.{Host, rca_known}
use Rattle.sdv_card.specs.Agrees.{UnitShown, ContentsShown}
use Rattle.sdv_card.specs.Exchange.{SettledAnswer, unaddressed_answer}
use Rattle.sdv_card.specs.Shapes.{view}
use Rattle.sdv_card.specs.Outcomes.{branch, with_seen, taken, lost, with_conditions, conditions_seen, unaddressed_seen, row_branches, settled_branches}
use Rattle.sdv_card.proofs.Members.{May-from_targets}
use Rattle.sdv_card.proofs.TakenFields.{same_view}
use Rattle.sdv_card.proofs.Matches.{same_unaddressed}
use Rattle.sdv_card.proofs.RowOutcomes.{heard, heard_host, bare_seen, unit_law, conditions_law, unaddressed_law}
use Rattle.sdv_outcomes.proofs.MembersBack.{May-map_back, May-append_back, May-filter_back, May-cons_back, none_back}
use Rattle.sdv_outcomes.proofs.ResponseWords.{ConditionsWord, conditions}
use Rattle.sdv_outcomes.proofs.TakenCards.{TakenParts, taken_parts, taken_to, taken_is, taken_view, AddressAfter, heard_address}
use Rattle.sdv_outcomes.proofs.RowSteps.{CanTake, RowStep, ImpossibleRow, same_branch, not_absent, time_out_back, unheard_step, status_step, address_step, shows_address, shows_none, closed_guards}

reply_for : (row : Row) (t : Card) → Contents ≡ response_of row → (Cmd8Sd ≡ row → t.version ≡ 2) →
    (reply : Reply) × ContentsShown row t reply × (shows_address (Replied reply) ≡ false)
reply_for Cmd2 t is v = (R2 t.cid, refl, refl)
reply_for Cmd8Sd t is v = (R7 0x1aa, record { is_word = lit< tt; echo = refl; version = v refl }, refl)
reply_for Cmd9 t is v = (R2 t.csd, refl, refl)
reply_for Cmd10 t is v = (R2 t.cid, refl, refl)
reply_for row t is v = absurd (cc)

-- CMD8 with an R7 is a row of SD alone
is_sd : (k : Kind) (row : Row) (a b : State) → Cmd8Sd ≡ row → IsOneOf (rows k row) (a to b) → Sd ≡ k
is_sd Sd row a b e m = refl
is_sd Emmc row a b e m = absurd (subst (λ r. IsOneOf (rows Emmc r) (a to b)) (sym e) m)

not_new : (response : Response) (row : Row) → response ≡ response_of row → (NewAddress ≡ response → ⊥) → NewAddress ≡ response_of row → ⊥
not_new response row is other e = other (e ∙ sym is)

-- the unit that an OCR shows: that of a card that is ready, or any
abbrev shown_unit : (ready unit wanted : Bool) → Bool
shown_unit true unit wanted = unit
shown_unit false unit wanted = wanted

unit_is : (row : Row) (ready unit : Bool) (w : ConditionsWord ready unit) → UnitShown row w.word unit
unit_is Cmd1 ready unit w = w.emmc
unit_is row ready unit w = w.sd

unit_at : (row : Row) (ready unit wanted : Bool) (w : ConditionsWord ready (shown_unit ready unit wanted)) → IsTrue ready → UnitShown row w.word unit
unit_at row true unit wanted w e = unit_is row true unit w
unit_at row false unit wanted w e = absurd (let f : false ≡ true = e in cc)

emmc_unit : (b : Bool) (n : ℕ) → n ≡ (if b then 2 else 0) → (n == 2) ≡ b
emmc_unit true n e = rw e refl
emmc_unit false n e = rw e refl

block_shown : (k : Kind) (ready unit : Bool) (w : ConditionsWord ready unit) → is_block_addressed k w.word ≡ unit
block_shown Sd ready unit w = w.sd
block_shown Emmc ready unit w = emmc_unit unit (access_mode w.word) w.emmc

unit_open : (ready shown x wanted : Bool) → (ready ≡ false → x ≡ wanted) → verdict OcrBlock (Ocr ready (if ready then Some shown else None)) ≡ Open → x ≡ wanted
unit_open true true x wanted f e = absurd (cc)
unit_open true false x wanted f e = absurd (cc)
unit_open false shown x wanted f e = f refl

open_unit : (ready unit wanted : Bool) → ready ≡ false → shown_unit ready unit wanted ≡ wanted
open_unit true unit wanted e = absurd (let f : true ≡ false = e in cc)
open_unit false unit wanted e = refl

conditions_guards : (k : Kind) (guards : OpenGuards) (pending ready unit : Bool) (w : ConditionsWord ready (shown_unit ready unit guards.block)) →
    OpenGuardsAre k guards (answer_seen k pending (Replied (R3 w.word))) (Answered (Replied (R3 w.word)))
conditions_guards k guards pending ready unit w = record {
  clean = λ e. absurd (let f : Fails ≡ Open = e in cc);
  ready = λ e. absurd (let f : Fails ≡ Open = e in cc);
  block = unit_open (is_powered_up w.word) (is_block_addressed k w.word) (is_block_addressed k w.word) guards.block
      (λ e. block_shown k ready (shown_unit ready unit guards.block) w ∙ open_unit ready unit guards.block (sym w.ready_is ∙ e));
}

unaddressed_none : (order : Order) → shows_address (unaddressed_answer order) ≡ false
unaddressed_none DeselectCards = refl
unaddressed_none order = refl

unaddressed_guards : (k : Kind) (guards : OpenGuards) (pending : Bool) (order : Order) →
    OpenGuardsAre k guards (answer_seen k pending (unaddressed_answer order)) (Answered (unaddressed_answer order))
unaddressed_guards k guards pending DeselectCards = closed_guards k guards SeenSent (Answered Sent) refl
unaddressed_guards k guards pending order = closed_guards k guards SeenTimeOut (Answered TimeOut) refl

new_address : (row : Row) → NewAddress ≡ response_of row → Cmd3Sd ≡ row
new_address Cmd3Sd is = refl
new_address row is = absurd (cc)

pub record ImpossibleSettled (way : TakenAs) (h : Host) (b : Branch) : Type 0 where
  pub row : Row
  pub by : way ≡ By row
  pub impossible : ImpossibleRow row h b

module _ (guards : OpenGuards) where
  -- CONTENTS

  contents_taken : (k : Kind) (order : Order) (row : Row) (argument : ℕ) (h : Host) (t : Card) (v : Fields) → Contents ≡ response_of row →
      CanTake k order row t h → May (taken k row true (view t h)) v → RowStep guards Contents k order row argument h t (branch v Bare)
  contents_taken k order row argument h t v is can m =
      let p : TakenParts k row true (view t h) v = taken_parts k row true (view t h) v m in
      let r : (reply : Reply) × ContentsShown row t reply × (shows_address (Replied reply) ≡ false) =
      reply_for row t is (λ e. can.version (is_sd k row t.state can.legal.target e
      (subst (λ v. IsOneOf (rows v row) (t.state to can.legal.target)) (sym can.at.kind) can.legal.has_row.one))) in
      let answer : Answer = Replied r.0 in
      let other : NewAddress ≡ response_of row → ⊥ = not_new Contents row is (λ e. let f : NewAddress ≡ Contents = e in cc) in
      let x : AddressAfter row answer t.rca h.rca p.matched = heard_address row answer t.rca h.rca p.matched other p.in_matches in
      record {
        answer = answer;
        after = taken_to k row true argument h t v p x.rca;
        answered = record {
          shown = r.1;
          card = taken_is k row true argument h t v p x.rca can.at.kind can.at.card can.boot_blocks x.after;
          error = can.all_shown;
        };
        all_shown = refl;
        published = λ word e. shows_none answer word r.2 e;
        guards_are = subst (λ x. OpenGuardsAre k guards x (Answered answer)) (bare_seen k t.mode.error row t r.0 r.1)
            (closed_guards k guards Bare (Answered answer) refl);
        same = same_branch (taken_view k row true argument h (heard order answer h) t v p x.rca (heard_host order answer h)
            (ap (λ n. matches x.rca n) (can.at.says.rca answer h.rca) ∙ x.is))
            (bare_seen k t.mode.error row t r.0 r.1);
      }

  contents_step : (k : Kind) (order : Order) (row : Row) (argument : ℕ) (h : Host) (t : Card) (b : Branch) → Contents ≡ response_of row →
      CanTake k order row t h → May (row_branches k order row Contents (view t h)) b →
      RowStep guards Contents k order row argument h t b ⊎ ImpossibleRow row h b
  contents_step k order row argument h t b is can m =
      elim (May-append_back (with_seen SeenTimeOut (lost k Contents row (view t h))) (with_seen Bare (taken k row true (view t h))) m) [
        | inl a ↦ elim (time_out_back Contents k order row argument h t b
            (not_absent Contents row is (λ e. let f : Absent ≡ Contents = e in cc)) can a) [
              | inl x ↦ inl (unheard_step guards Contents k order row argument h t b (λ e. let f : Absent ≡ Contents = e in cc)
                  (λ e. let f : NotAddressed ≡ Contents = e in cc) x)
              | inr x ↦ inr x
            ]
        | inr a ↦
            let x = May-map_back (λ (u : Fields). branch u Bare) (taken k row true (view t h)) a in
            inl (subst (λ c. RowStep guards Contents k order row argument h t c) x.2 (contents_taken k order row argument h t x.0 is can x.1))
      ]

  -- CONDITIONS

  conditions_taken : (k : Kind) (order : Order) (row : Row) (argument : ℕ) (h : Host) (t : Card) (v : Fields) → Conditions ≡ response_of row →
      CanTake k order row t h → May (taken k row true (view t h)) v → RowStep guards Conditions k order row argument h t (branch v (conditions_seen v))
  conditions_taken k order row argument h t v is can m =
      let p : TakenParts k row true (view t h) v = taken_parts k row true (view t h) v m in
      let unit : Bool = shown_unit (is_ready p.state) t.block_unit guards.block in
      let w : ConditionsWord (is_ready p.state) unit = conditions (is_ready p.state) unit in
      let answer : Answer = Replied (R3 w.word) in
      let other : NewAddress ≡ response_of row → ⊥ = not_new Conditions row is (λ e. let f : NewAddress ≡ Conditions = e in cc) in
      let x : AddressAfter row answer t.rca h.rca p.matched = heard_address row answer t.rca h.rca p.matched other p.in_matches in
      let u : Card = taken_to k row true argument h t v p x.rca in
      let same_fields : v ≡ view u (heard order answer h) =
      taken_view k row true argument h (heard order answer h) t v p x.rca (heard_host order answer h)
      (ap (λ n. matches x.rca n) (can.at.says.rca answer h.rca) ∙ x.is) in
      let move : May (rows k row) (t.state to p.state) = May-from_targets (May-filter_back (may_reach row t.block_unit) _ p.in_states).0 in
      record {
        answer = answer;
        after = u;
        answered = record {
          is_word = w.is_word;
          windows = w.windows;
          ready = w.ready_is;
          unit = λ e. unit_at row (is_ready p.state) t.block_unit guards.block w e;
          card = taken_is k row true argument h t v p x.rca can.at.kind can.at.card can.boot_blocks x.after;
          error = can.all_shown;
        };
        all_shown = refl;
        published = λ word e. shows_none answer word refl e;
        guards_are = conditions_guards k guards t.mode.error (is_ready p.state) t.block_unit w;
        same = same_branch same_fields (ap (λ f. conditions_seen f) same_fields
            ∙ sym (conditions_law _ _ _ _ w.ready_is
            (λ e. unit_law k row w.word t.block_unit t.state p.state is move (unit_at row (is_ready p.state) t.block_unit guards.block w e))));
      }

  conditions_step : (k : Kind) (order : Order) (row : Row) (argument : ℕ) (h : Host) (t : Card) (b : Branch) → Conditions ≡ response_of row →
      CanTake k order row t h → May (row_branches k order row Conditions (view t h)) b →
      RowStep guards Conditions k order row argument h t b ⊎ ImpossibleRow row h b
  conditions_step k order row argument h t b is can m =
      elim (May-append_back (with_seen SeenTimeOut (lost k Conditions row (view t h))) (with_conditions (taken k row true (view t h))) m) [
        | inl a ↦ elim (time_out_back Conditions k order row argument h t b
            (not_absent Conditions row is (λ e. let f : Absent ≡ Conditions = e in cc)) can a) [
              | inl x ↦ inl (unheard_step guards Conditions k order row argument h t b (λ e. let f : Absent ≡ Conditions = e in cc)
                  (λ e. let f : NotAddressed ≡ Conditions = e in cc) x)
              | inr x ↦ inr x
            ]
        | inr a ↦
            let x = May-map_back (λ (u : Fields). branch u (conditions_seen u)) (taken k row true (view t h)) a in
            inl (subst (λ c. RowStep guards Conditions k order row argument h t c) x.2 (conditions_taken k order row argument h t x.0 is can x.1))
      ]

  -- NO RESPONSE IS WAITED FOR

  absent_step : (k : Kind) (order : Order) (row : Row) (argument : ℕ) (h : Host) (t : Card) (b : Branch) → Absent ≡ response_of row →
      CanTake k order row t h → May (row_branches k order row Absent (view t h)) b → RowStep guards Absent k order row argument h t b
  absent_step k order row argument h t b is can m =
      let y = May-map_back (λ (u : Fields). branch u SeenSent) (taken k row true (view t h)) m in
      let v : Fields = y.0 in
      let p : TakenParts k row true (view t h) v = taken_parts k row true (view t h) v y.1 in
      let other : NewAddress ≡ response_of row → ⊥ = not_new Absent row is (λ e. let f : NewAddress ≡ Absent = e in cc) in
      let x : AddressAfter row Sent t.rca h.rca p.matched = heard_address row Sent t.rca h.rca p.matched other p.in_matches in
      record {
        answer = Sent;
        after = taken_to k row true argument h t v p x.rca;
        answered = record { card = taken_is k row true argument h t v p x.rca can.at.kind can.at.card can.boot_blocks x.after; error = refl };
        all_shown = refl;
        published = λ word e. shows_none Sent word refl e;
        guards_are = closed_guards k guards SeenSent (Answered Sent) refl;
        same = sym y.2 ∙ ap (λ f. branch f SeenSent) (taken_view k row true argument h (heard order Sent h) t v p x.rca (heard_host order Sent h)
            (ap (λ n. matches x.rca n) (can.at.says.rca Sent h.rca) ∙ x.is));
      }

  unseen_taken : (k : Kind) (order : Order) (row : Row) (argument : ℕ) (h : Host) (t : Card) (v : Fields) → NotAddressed ≡ response_of row →
      CanTake k order row t h → May (taken k row true (view t h)) v → RowStep guards NotAddressed k order row argument h t (branch v (unaddressed_seen order))
  unseen_taken k order row argument h t v is can m =
      let answer : Answer = unaddressed_answer order in
      let p : TakenParts k row true (view t h) v = taken_parts k row true (view t h) v m in
      let other : NewAddress ≡ response_of row → ⊥ = not_new NotAddressed row is (λ e. let f : NewAddress ≡ NotAddressed = e in cc) in
      let x : AddressAfter row answer t.rca h.rca p.matched = heard_address row answer t.rca h.rca p.matched other p.in_matches in
      record {
        answer = answer;
        after = taken_to k row true argument h t v p x.rca;
        answered = (
          refl,
          inr (record {
            card = taken_is k row true argument h t v p x.rca can.at.kind can.at.card can.boot_blocks x.after;
            error = can.all_shown;
          }),
        );
        all_shown = refl;
        published = λ word e. shows_none answer word (unaddressed_none order) e;
        guards_are = unaddressed_guards k guards t.mode.error order;
        same = same_branch (taken_view k row true argument h (heard order answer h) t v p x.rca (heard_host order answer h)
            (ap (λ n. matches x.rca n) (can.at.says.rca answer h.rca) ∙ x.is))
            (unaddressed_law k t.mode.error order answer refl);
      }

  unseen_step : (k : Kind) (order : Order) (row : Row) (argument : ℕ) (h : Host) (t : Card) (b : Branch) → NotAddressed ≡ response_of row →
      CanTake k order row t h → May (row_branches k order row NotAddressed (view t h)) b → RowStep guards NotAddressed k order row argument h t b
  unseen_step k order row argument h t b is can m =
      let answer : Answer = unaddressed_answer order in
      let y = May-map_back (λ (u : Fields). branch u (unaddressed_seen order)) (view t h ∷ taken k row true (view t h)) m in
      elim (May-cons_back y.1) [
        | inl e ↦ record {
          answer = answer;
          after = t;
          answered = (refl, inl refl);
          all_shown = can.all_shown;
          published = λ word e. shows_none answer word (unaddressed_none order) e;
          guards_are = unaddressed_guards k guards t.mode.error order;
          same = sym y.2 ∙ same_branch (sym e ∙ same_view h (heard order answer h) t (heard_host order answer h)
              (same_unaddressed row answer t.rca h.rca is ∙ sym (ap (λ n. matches t.rca n) (can.at.says.rca answer h.rca))))
              (unaddressed_law k t.mode.error order answer refl);
        }
        | inr a ↦ subst (λ c. RowStep guards NotAddressed k order row argument h t c) y.2 (unseen_taken k order row argument h t y.0 is can a)
      ]

  -- A ROW

  row_step : (response : Response) (k : Kind) (order : Order) (row : Row) (argument : ℕ) (h : Host) (t : Card) (b : Branch) → response ≡ response_of row →
      CanTake k order row t h → May (row_branches k order row response (view t h)) b →
      RowStep guards response k order row argument h t b ⊎ ImpossibleRow row h b
  row_step Absent k order row argument h t b is can m = inl (absent_step k order row argument h t b is can m)
  row_step NotAddressed k order row argument h t b is can m = inl (unseen_step k order row argument h t b is can m)
  row_step CardStatus k order row argument h t b is can m = status_step guards k order row argument h t b is can m
  row_step NewAddress k order row argument h t b is can m =
      let e : Cmd3Sd ≡ row = new_address row is in
      subst (λ r. RowStep guards NewAddress k order r argument h t b ⊎ ImpossibleRow r h b) e
      (address_step guards k order argument h t b (subst (λ r. CanTake k order r t h) (sym e) can)
      (subst (λ r. May (row_branches k order r NewAddress (view t h)) b) (sym e) m))
  row_step Contents k order row argument h t b is can m = contents_step k order row argument h t b is can m
  row_step Conditions k order row argument h t b is can m = conditions_step k order row argument h t b is can m

  -- AN ORDER, by the way in which a settled card takes it

  pub record SettledStep (way : TakenAs) (k : Kind) (order : Order) (argument : ℕ) (h : Host) (t : Card) (b : Branch) : Type 0 where
    pub answer : Answer
    pub after : Card
    pub answered : SettledAnswer way order argument t answer after
    pub all_shown : after.unshown_error ≡ false
    pub published : (word : ℕ) → answer ≡ Replied (R6 word) → 0 < published_rca word
    pub guards_are : OpenGuardsAre k guards (answer_seen k t.mode.error answer) (Answered answer)
    pub same : b ≡ branch (view after (heard order answer h)) (answer_seen k t.mode.error answer)

  pub settled_step : (way : TakenAs) (k : Kind) (order : Order) (argument : ℕ) (h : Host) (t : Card) (b : Branch) →
      (way ≡ Ignored → rca_known order TimeOut h.rca ≡ h.rca) → t.unshown_error ≡ false → ((row : Row) → way ≡ By row → CanTake k order row t h) →
      May (settled_branches k order (view t h) way) b → SettledStep way k order argument h t b ⊎ ImpossibleSettled way h b
  settled_step Forbidden k order argument h t b ignored all_shown can m = absurd (none_back m)
  settled_step Ignored k order argument h t b ignored all_shown can m = elim (May-cons_back m) [
    | inl e ↦ inl (record {
      answer = TimeOut;
      after = t;
      answered = (refl, refl);
      all_shown = all_shown;
      published = λ word e. shows_none TimeOut word refl e;
      guards_are = closed_guards k guards SeenTimeOut (Answered TimeOut) refl;
      same = sym e ∙ ap (λ v. branch v SeenTimeOut)
          (same_view h (heard order TimeOut h) t (heard_host order TimeOut h) (ap (λ n. matches t.rca n) (sym (ignored refl))));
    })
    | inr n ↦ absurd (none_back n)
  ]
  settled_step (By row) k order argument h t b ignored all_shown can m =
      elim (row_step (response_of row) k order row argument h t b refl (can row refl) m) [
        | inl x ↦ inl (record {
          answer = x.answer;
          after = x.after;
          answered = x.answered;
          all_shown = x.all_shown;
          published = x.published;
          guards_are = x.guards_are;
          same = x.same;
        })
        | inr x ↦ inr (record { row = row; by = refl; impossible = x })
      ]
