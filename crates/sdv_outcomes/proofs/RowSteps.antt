-- Each branch of a row at a settled card's fields is of that row at the card: responses with a status, an address, or none.
use Rattle.std.proofs.Common.{◌≡◌, ℕ, ◌<◌, zero, suc, ◌⊎◌, ◌&&◌, inl, inr, refl, ap, subst, sym, ◌∙◌, Bool, true, false, not, List, [], ◌∷◌, ◌++◌, ◌==◌, Option, Some, None, lit<, arith, rules}
use Rattle.std.proofs.lemmas.Bool.Decides.{nat_tests}
use Rattle.sdv_registers.specs.declared.kind.Kind.{Kind}
use Rattle.sdv_registers.specs.declared.kind.Kind.TheVariants.{Sd, Emmc}
use Rattle.sdv_registers.specs.Status.{state as state_field, is_switch_error, is_app_cmd, is_clean, is_clean_r6, has_doubt, has_doubt_r6, rca as published_rca}
use Rattle.sdv_frames.specs.declared.reply.Reply.TheVariants.{R1, R6}
use Rattle.sdv_card.specs.declared.state.State.{State}
use Rattle.sdv_card.specs.declared.state.State.TheVariants.{Ident, Stby}
use Rattle.sdv_card.specs.declared.fields.Fields.{Fields}
use Rattle.sdv_card.specs.declared.event.Seen.{Seen}
use Rattle.sdv_card.specs.declared.event.Seen.TheVariants.{TimeOut as SeenTimeOut, Ocr, Status as SeenStatus}
use Rattle.sdv_card.specs.declared.event.Branch.{Branch}
use Rattle.sdv_card.specs.declared.answer.Answer.{Answer}
use Rattle.sdv_card.specs.declared.answer.Answer.TheVariants.{TimeOut, Reply as Replied}
use Rattle.sdv_card.specs.declared.command.Order.{Order}
use Rattle.sdv_card.specs.declared.command.Row.{Row}
use Rattle.sdv_card.specs.declared.command.Row.TheVariants.{Cmd3Sd, Cmd13, Cmd55}
use Rattle.sdv_card.specs.declared.command.Response.{Response}
use Rattle.sdv_card.specs.declared.command.Response.TheVariants.{Absent, NotAddressed, CardStatus, NewAddress, Contents, Conditions}
use Rattle.sdv_card.specs.Lists.{May, IsOneOf}
use Rattle.sdv_card.specs.StateTable.{◌to◌, rows}
use Rattle.sdv_card.specs.RowRules.{may_reach, matched_stayed, preset_after}
use Rattle.sdv_card.specs.Responses.{response_of, row_index}
use Rattle.sdv_card.specs.Seen.{answer_seen, app_of, switch_of}
use Rattle.sdv_card.specs.Takes.{matches}
use Rattle.sdv_card.specs.ScriptEvent.{Return, Answered}
use Rattle.sdv_card.specs.declared.guard.Guard.TheVariants.{Clean}
use Rattle.sdv_card.specs.Guards.{verdict, Open, Fails}
use Rattle.sdv_outcomes.specs.OpenGuards.{OpenGuards, OpenGuardsAre}
use Rattle.sdv_card.specs.Card.{Card, AddressFits}
use Rattle.sdv_card.specs.Host.{Host}
use Rattle.sdv_card.specs.Agrees.{AppShown, SwitchShown, ErrorShown}
use Rattle.sdv_card.specs.Exchange.{Lost, RowAnswer}
use Rattle.sdv_card.specs.Legal.{RowLegal}
use Rattle.sdv_card.specs.Shapes.{view}
use Rattle.sdv_card.specs.Outcomes.{branch, with_seen, taken, stayed, lost, lost_stayed, statuses, status_seen, with_status, row_branches, switch_shown}
use Rattle.sdv_card.proofs.Members.{only, May-from_targets}
use Rattle.sdv_card.proofs.PartsKept.{preset_small}
use Rattle.sdv_card.proofs.TakenFields.{same_view, Allowed}
use Rattle.sdv_card.proofs.Matches.{same_unheard, same_status}
use Rattle.sdv_card.proofs.RowOutcomes.{AtRow, heard, heard_host, app_law, switch_law, same_status_seen}
use Rattle.sdv_outcomes.proofs.MembersBack.{May-map_back, May-append_back, May-filter_back, May-cons_back, none_back}
use Rattle.sdv_outcomes.proofs.ResponseWords.{StatusWord, status, AddressWord, first_address, doubted_address}
use Rattle.sdv_outcomes.proofs.TakenCards.{TakenParts, taken_parts, taken_to, taken_is, taken_view, StayedParts, stayed_parts, stayed_to, stayed_is, stayed_view, AddressAfter, lost_address, heard_address}

-- a settled card beside its host can take the row, and has none of the limits that its fields do not show
pub record CanTake (k : Kind) (order : Order) (row : Row) (t : Card) (h : Host) : Type 0 where
  pub at : AtRow k order row t
  pub legal : RowLegal row t
  pub all_shown : t.unshown_error ≡ false
  pub version : Sd ≡ k → t.version ≡ 2
  pub boot_blocks : Emmc ≡ k → 0 < t.boot_capacity
  pub small : h.rca < 65536

-- the exception, as a row and a branch show it
pub record ImpossibleRow (row : Row) (h : Host) (b : Branch) : Type 0 where
  pub row_is : row ≡ Cmd3Sd
  pub none : h.rca ≡ 0
  pub seen : b.seen ≡ SeenTimeOut
  pub state : b.fields.state ≡ Stby
  pub matched : b.fields.matched ≡ true
  pub flags : b.fields.flags ≡ h.flags
  pub preset : b.fields.preset < 65536

pub same_branch : {f f' : Fields} {s s' : Seen} → f ≡ f' → s ≡ s' → branch f s ≡ branch f' s'
same_branch e f = cc

-- WHICH ANSWERS SHOW AN ADDRESS

abbrev pub shows_address : Answer → Bool
shows_address (Replied (R6 word)) = true
shows_address answer = false

pub shows_none : (answer : Answer) (word : ℕ) → shows_address answer ≡ false → answer ≡ Replied (R6 word) → 0 < published_rca word
shows_none answer word none e = absurd (let f : true ≡ false = sym (ap shows_address e) ∙ none in cc)

shows_more : (w word n : ℕ) → published_rca w ≡ n → 0 < n → Replied (R6 w) ≡ Replied (R6 word) → 0 < published_rca word
shows_more w word n is h e =
    let f : w ≡ word = cc in subst (λ v. 0 < published_rca v) f (subst (λ v. 0 < v) (sym is) h)

-- NO RESPONSE

record LostTo (response : Response) (order : Order) (row : Row) (argument : ℕ) (h : Host) (t : Card) (v : Fields) : Type 0 where
  after : Card
  lost_is : Lost response row argument t after
  all_shown : after.unshown_error ≡ false
  same : v ≡ view after (heard order TimeOut h)

record ImpossibleFields (row : Row) (h : Host) (v : Fields) : Type 0 where
  row_is : row ≡ Cmd3Sd
  none : h.rca ≡ 0
  state : v.state ≡ Stby
  matched : v.matched ≡ true
  flags : v.flags ≡ h.flags
  preset : v.preset < 65536

same_heard : (k : Kind) (order : Order) (row : Row) (t : Card) (h : Host) → (Absent ≡ response_of row → ⊥) → AtRow k order row t →
    matches t.rca h.rca ≡ matches t.rca (heard order TimeOut h).rca
same_heard k order row t h other at =
    same_unheard row t.rca h.rca other at.given ∙ sym (ap (λ n. matches t.rca n) (at.says.rca TimeOut h.rca))

new_state : (k : Kind) (row : Row) (a b : State) → row ≡ Cmd3Sd → May (rows k row) (a to b) → b ≡ Stby
new_state k row a b e m = by_kind k a b (subst (λ r. IsOneOf (rows k r) (a to b)) e m.one)
  where
    by_kind : (k : Kind) (a b : State) → IsOneOf (rows k Cmd3Sd) (a to b) → b ≡ Stby
    by_kind Sd a b (inl e) = let g : Stby ≡ b = ap (λ m. m.target) e in sym g
    by_kind Sd a b (inr (inl e)) = let g : Stby ≡ b = ap (λ m. m.target) e in sym g
    by_kind Sd a b (inr (inr m)) = absurd m
    by_kind Emmc a b m = absurd m

lost_taken : (response : Response) (k : Kind) (order : Order) (row : Row) (argument : ℕ) (h : Host) (t : Card) (v : Fields) → CanTake k order row t h →
    May (taken k row false (view t h)) v → LostTo response order row argument h t v ⊎ ImpossibleFields row h v
lost_taken response k order row argument h t v can m =
    let p : TakenParts k row false (view t h) v = taken_parts k row false (view t h) v m in
    elim (lost_address row t.rca h.rca p.matched can.small p.in_matches) [
      | inl x ↦ inl (record {
        after = taken_to k row false argument h t v p x.rca;
        lost_is = inr (inl (record { card = taken_is k row false argument h t v p x.rca can.at.kind can.at.card can.boot_blocks x.after; error = refl }));
        all_shown = refl;
        same = taken_view k row false argument h (heard order TimeOut h) t v p x.rca (heard_host order TimeOut h)
            (ap (λ n. matches x.rca n) (can.at.says.rca TimeOut h.rca) ∙ x.is);
      })
      | inr x ↦ inr (record {
        row_is = x.0;
        none = x.1;
        state = sym (ap (λ f. f.state) p.same)
            ∙ new_state k row t.state p.state x.0 (May-from_targets (May-filter_back (may_reach row t.block_unit) _ p.in_states).0);
        matched = sym (ap (λ f. f.matched) p.same) ∙ x.2;
        flags = sym (ap (λ f. f.flags) p.same);
        preset = subst (λ f. f.preset < 65536) p.same
            (preset_small k Cmd3Sd t.preset p.preset (lit< tt) can.at.card.preset (subst (λ r. May (preset_after k r t.preset) p.preset) x.0 p.in_presets));
      })
    ]

stayed_unheard : (k : Kind) (order : Order) (row : Row) (h : Host) (t : Card) (v : Fields) → (Absent ≡ response_of row → ⊥) →
    CanTake k order row t h → (p : StayedParts k row false (matches t.rca h.rca ∷ []) (view t h) v) →
    v ≡ view (stayed_to k row false (matches t.rca h.rca ∷ []) h t v p) (heard order TimeOut h)
stayed_unheard k order row h t v other can p =
    stayed_view k row false (matches t.rca h.rca ∷ []) h (heard order TimeOut h) t v p (heard_host order TimeOut h)
    (sym (same_heard k order row t h other can.at) ∙ only p.in_matches)

lost_stay : (response : Response) (k : Kind) (order : Order) (row : Row) (argument : ℕ) (h : Host) (t : Card) (v : Fields) → (Absent ≡ response_of row → ⊥) →
    CanTake k order row t h → May (lost_stayed k response row (view t h)) v → LostTo response order row argument h t v
lost_stay CardStatus k order row argument h t v other can m =
    let p : StayedParts k row false (matches t.rca h.rca ∷ []) (view t h) v = stayed_parts k row false _ (view t h) v m in
    record {
      after = stayed_to k row false _ h t v p;
      lost_is = inr (inr (record { card = stayed_is k row false _ h t v p can.at.kind; error = refl }));
      all_shown = refl;
      same = stayed_unheard k order row h t v other can p;
    }
lost_stay NewAddress k order row argument h t v other can m =
    let p : StayedParts k row false (matches t.rca h.rca ∷ []) (view t h) v = stayed_parts k row false _ (view t h) v m in
    record {
      after = stayed_to k row false _ h t v p;
      lost_is = inr (inr (record { card = stayed_is k row false _ h t v p can.at.kind; error = refl }));
      all_shown = refl;
      same = stayed_unheard k order row h t v other can p;
    }
lost_stay response k order row argument h t v other can m = absurd (none_back m)

lost_back : (response : Response) (k : Kind) (order : Order) (row : Row) (argument : ℕ) (h : Host) (t : Card) (v : Fields) → (Absent ≡ response_of row → ⊥) →
    CanTake k order row t h → May (lost k response row (view t h)) v → LostTo response order row argument h t v ⊎ ImpossibleFields row h v
lost_back response k order row argument h t v other can m = elim (May-cons_back m) [
  | inl e ↦ inl (record {
    after = t;
    lost_is = inl refl;
    all_shown = can.all_shown;
    same = sym e ∙ same_view h (heard order TimeOut h) t (heard_host order TimeOut h) (same_heard k order row t h other can.at);
  })
  | inr n ↦ elim (May-append_back (taken k row false (view t h)) (lost_stayed k response row (view t h)) n) [
    | inl a ↦ lost_taken response k order row argument h t v can a
    | inr a ↦ inl (lost_stay response k order row argument h t v other can a)
  ]
]

-- as a branch with a time-out
pub record UnheardTo (response : Response) (order : Order) (row : Row) (argument : ℕ) (h : Host) (t : Card) (b : Branch) : Type 0 where
  pub after : Card
  pub lost_is : Lost response row argument t after
  pub all_shown : after.unshown_error ≡ false
  pub same : b ≡ branch (view after (heard order TimeOut h)) SeenTimeOut

pub time_out_back : (response : Response) (k : Kind) (order : Order) (row : Row) (argument : ℕ) (h : Host) (t : Card) (b : Branch) →
    (Absent ≡ response_of row → ⊥) → CanTake k order row t h → May (with_seen SeenTimeOut (lost k response row (view t h))) b →
    UnheardTo response order row argument h t b ⊎ ImpossibleRow row h b
time_out_back response k order row argument h t b other can m =
    let x = May-map_back (λ (u : Fields). branch u SeenTimeOut) (lost k response row (view t h)) m in
    elim (lost_back response k order row argument h t x.0 other can x.1) [
      | inl y ↦ inl (record { after = y.after; lost_is = y.lost_is; all_shown = y.all_shown; same = sym x.2 ∙ ap (λ f. branch f SeenTimeOut) y.same })
      | inr y ↦ inr (record {
        row_is = y.row_is;
        none = y.none;
        seen = sym (ap (λ z. z.seen) x.2);
        state = sym (ap (λ z. z.fields.state) x.2) ∙ y.state;
        matched = sym (ap (λ z. z.fields.matched) x.2) ∙ y.matched;
        flags = sym (ap (λ z. z.fields.flags) x.2) ∙ y.flags;
        preset = subst (λ z. z.fields.preset < 65536) x.2 y.preset;
      })
    ]

-- STATUS

app_is : (row : Row) (word : ℕ) (u : Card) → is_app_cmd word ≡ u.app → AppShown row word u
app_is Cmd55 word u e = e
app_is row word u e = tt

none_shown : (t u : Card) (shown : Bool) → t.unshown_error ≡ false → u.unshown_error ≡ false → ErrorShown t shown u
none_shown t u shown e f = record {
  ends = f ∙ sym (ap (λ b. b && not shown) e);
  must = λ s g. absurd (let h : true ≡ false = sym g ∙ e in cc);
}

not_new : (row : Row) → CardStatus ≡ response_of row → NewAddress ≡ response_of row → ⊥
not_new row is e = let f : NewAddress ≡ CardStatus = e ∙ sym is in cc

-- a branch with a status is of a card that took the row, with or without a doubt, or of one that stayed
statuses_back : (row : Row) (t : Fields) (took stay : List Fields) (b : Branch) → May (statuses row t took stay) b →
    ((v : Fields) × (d : Bool) × May took v × (branch v (status_seen row d t v) ≡ b))
    ⊎ ((v : Fields) × May stay v × (branch v (status_seen row true t v) ≡ b))
statuses_back row t took stay b m = elim (May-append_back (with_status row false t took) (with_status row true t (took ++ stay)) m) [
  | inl a ↦ let x = May-map_back (λ (u : Fields). branch u (status_seen row false t u)) took a in inl (x.0, false, x.1, x.2)
  | inr a ↦
      let x = May-map_back (λ (u : Fields). branch u (status_seen row true t u)) (took ++ stay) a in
      elim (May-append_back took stay x.1) [
        | inl y ↦ inl (x.0, true, y, x.2)
        | inr y ↦ inr (x.0, y, x.2)
      ]
]

pub not_absent : (response : Response) (row : Row) → response ≡ response_of row → (Absent ≡ response → ⊥) → Absent ≡ response_of row → ⊥
not_absent response row is other e = other (e ∙ sym is)

-- a number that a card which stays can show for its address
record ShownNumber (s : State) (a : Option ℕ) (matched : Bool) : Type 0 where
  number : ℕ
  positive : 0 < number
  word : (ready clean : Bool) → AddressWord s true number ready clean
  is : matches a number ≡ matched

other_number : (n : ℕ) → (x : ℕ) × (0 < x) × (x < 65536) × ((n == x) ≡ false)
other_number zero = (1, lit< tt, lit< tt, refl)
other_number (suc zero) = (2, lit< tt, lit< tt, refl)
other_number (suc (suc n)) = (1, lit< tt, lit< tt, grind (arith, nat_tests))

same_itself : (n : ℕ) → (n == n) ≡ true
same_itself n = search rules

shown_stby : (a : Option ℕ) (matched : Bool) → AddressFits Stby a → ShownNumber Stby a matched
shown_stby a true fits = record {
  number = fits.0;
  positive = fits.2;
  word = λ ready clean. doubted_address Stby fits.0 ready clean fits.3;
  is = subst (λ v. matches v fits.0 ≡ true) fits.1 (same_itself fits.0);
}
shown_stby a false fits =
    let x = other_number fits.0 in
    record {
      number = x.0;
      positive = x.1;
      word = λ ready clean. doubted_address Stby x.0 ready clean x.2;
      is = subst (λ v. matches v x.0 ≡ false) fits.1 x.3;
    }

shown_ident : (a : Option ℕ) (matched : Bool) → AddressFits Ident a → May (matched_stayed Ident) matched → ShownNumber Ident a matched
shown_ident a matched fits m = record {
  number = 1;
  positive = lit< tt;
  word = λ ready clean. first_address Ident true ready clean;
  is = subst (λ v. matches v 1 ≡ matched) fits (only m);
}

shown_at : (k : Kind) (s b : State) (a : Option ℕ) (matched : Bool) → IsOneOf (rows k Cmd3Sd) (s to b) → AddressFits s a → May (matched_stayed s) matched →
    ShownNumber s a matched
shown_at Sd s b a matched (inl e) fits m =
    let f : Ident ≡ s = ap (λ x. x.source) e in
    subst (λ v. ShownNumber v a matched) f
    (shown_ident a matched (subst (λ v. AddressFits v a) (sym f) fits) (subst (λ v. May (matched_stayed v) matched) (sym f) m))
shown_at Sd s b a matched (inr (inl e)) fits m =
    let f : Stby ≡ s = ap (λ x. x.source) e in
    subst (λ v. ShownNumber v a matched) f (shown_stby a matched (subst (λ v. AddressFits v a) (sym f) fits))
shown_at Sd s b a matched (inr (inr n)) fits m = absurd n
shown_at Emmc s b a matched n fits m = absurd n

-- THE OPEN GUARDS

clean_open : (s : ℕ) (d : Bool) (app x : Option Bool) (is wanted : Bool) → (d ≡ false → (x ≡ Some true → ⊥) → is ≡ wanted) →
    verdict Clean (SeenStatus s d app x) ≡ Open → is ≡ wanted
clean_open s true app x is wanted f e = absurd (cc)
clean_open s false app (Some true) is wanted f e = absurd (cc)
clean_open s false app (Some false) is wanted f e = f refl (λ g. let h : Some false ≡ Some true = g in cc)
clean_open s false app None is wanted f e = f refl (λ g. let h : None ≡ Some true = g in cc)

-- the switch error that is shown, or none
abbrev pub shown_switch : Row → (before after : Bool) → Bool
shown_switch Cmd13 true after = not after
shown_switch row before after = false

switch_bit : (row : Row) (word : ℕ) (t u : Card) → is_switch_error word ≡ shown_switch row t.mode.error u.mode.error → SwitchShown row t word u
switch_bit Cmd13 word t u e = λ h. e ∙ ap (λ b. shown_switch Cmd13 b u.mode.error) h
switch_bit row word t u e = tt

none_true : (row : Row) (before after : Bool) → (switch_shown row before after ≡ Some true → ⊥) → shown_switch row before after ≡ false
none_true Cmd13 true true f = refl
none_true Cmd13 true false f = absurd (f refl)
none_true row before after f = refl

status_guards : (k : Kind) (guards : OpenGuards) (row : Row) (t u : Card) (d app : Bool)
    (w : StatusWord t.state d app (shown_switch row t.mode.error u.mode.error) guards.ready guards.clean) →
    Allowed row t →
    OpenGuardsAre k guards (answer_seen k t.mode.error (Replied (R1 (row_index row) w.word))) (Answered (Replied (R1 (row_index row) w.word)))
status_guards k guards row t u d app w allowed = record {
  clean = clean_open (state_field w.word) (has_doubt w.word) (app_of (row_index row) w.word) (switch_of (row_index row) t.mode.error w.word)
      (is_clean k w.word) guards.clean
      (λ e f. w.clean_is k (sym w.doubt_is ∙ e)
      (none_true row t.mode.error u.mode.error (λ g. f (switch_law row w.word t u allowed (switch_bit row w.word t u w.switch_is) ∙ g))));
  ready = λ e. w.ready_is;
  block = λ e. absurd (let f : Fails ≡ Open = e in cc);
}

address_guards : (k : Kind) (guards : OpenGuards) (pending : Bool) (s : State) (d : Bool) (n : ℕ) (w : AddressWord s d n guards.ready guards.clean) →
    OpenGuardsAre k guards (answer_seen k pending (Replied (R6 w.word))) (Answered (Replied (R6 w.word)))
address_guards k guards pending s d n w = record {
  clean = clean_open (state_field w.word) (has_doubt_r6 w.word) None None (is_clean_r6 w.word) guards.clean (λ e f. w.clean_is (sym w.doubt_is ∙ e));
  ready = λ e. w.ready_is;
  block = λ e. absurd (let f : Fails ≡ Open = e in cc);
}

-- no guard is open
abbrev pub is_closed : Seen → Bool
is_closed (SeenStatus s d app switch) = false
is_closed (Ocr ready block) = false
is_closed seen = true

pub closed_guards : (k : Kind) (guards : OpenGuards) (seen : Seen) (returned : Return) → is_closed seen ≡ true → OpenGuardsAre k guards seen returned
closed_guards k guards (SeenStatus s d app switch) returned e = absurd (let f : false ≡ true = e in cc)
closed_guards k guards (Ocr ready block) returned e = absurd (let f : false ≡ true = e in cc)
closed_guards k guards seen returned e = record {
  clean = λ g. absurd (let f : Fails ≡ Open = g in cc);
  ready = λ g. absurd (let f : Fails ≡ Open = g in cc);
  block = λ g. absurd (let f : Fails ≡ Open = g in cc);
}

module _ (guards : OpenGuards) where
  -- an answer to the row, and the card afterwards, that the branch shows
  pub record RowStep (response : Response) (k : Kind) (order : Order) (row : Row) (argument : ℕ) (h : Host) (t : Card) (b : Branch) : Type 0 where
    pub answer : Answer
    pub after : Card
    pub answered : RowAnswer response order row argument t answer after
    pub all_shown : after.unshown_error ≡ false
    pub published : (word : ℕ) → answer ≡ Replied (R6 word) → 0 < published_rca word
    pub guards_are : OpenGuardsAre k guards (answer_seen k t.mode.error answer) (Answered answer)
    pub same : b ≡ branch (view after (heard order answer h)) (answer_seen k t.mode.error answer)

  -- where no response is heard
  unheard_answer : (response : Response) (order : Order) (row : Row) (argument : ℕ) (t u : Card) → (Absent ≡ response → ⊥) → (NotAddressed ≡ response → ⊥) →
      Lost response row argument t u → RowAnswer response order row argument t TimeOut u
  unheard_answer Absent order row argument t u other addressed l = absurd (other refl)
  unheard_answer NotAddressed order row argument t u other addressed l = absurd (addressed refl)
  unheard_answer CardStatus order row argument t u other addressed l = l
  unheard_answer NewAddress order row argument t u other addressed l = l
  unheard_answer Contents order row argument t u other addressed l = l
  unheard_answer Conditions order row argument t u other addressed l = l

  pub unheard_step : (response : Response) (k : Kind) (order : Order) (row : Row) (argument : ℕ) (h : Host) (t : Card) (b : Branch) →
      (Absent ≡ response → ⊥) → (NotAddressed ≡ response → ⊥) → UnheardTo response order row argument h t b →
      RowStep response k order row argument h t b
  unheard_step response k order row argument h t b other addressed x = record {
    answer = TimeOut;
    after = x.after;
    answered = unheard_answer response order row argument t x.after other addressed x.lost_is;
    all_shown = x.all_shown;
    published = λ word e. shows_none TimeOut word refl e;
    guards_are = closed_guards k guards SeenTimeOut (Answered TimeOut) refl;
    same = x.same;
  }

  StatusStep : (k : Kind) (order : Order) (row : Row) (argument : ℕ) (h : Host) (t : Card) (d : Bool) (v : Fields) → Type 0
  StatusStep k order row argument h t d v = RowStep CardStatus k order row argument h t (branch v (status_seen row d (view t h) v))

  status_taken : (k : Kind) (order : Order) (row : Row) (argument : ℕ) (h : Host) (t : Card) (d : Bool) (v : Fields) → CardStatus ≡ response_of row →
      CanTake k order row t h → May (taken k row true (view t h)) v → StatusStep k order row argument h t d v
  unfolding StatusStep
  status_taken k order row argument h t d v is can m =
      let p : TakenParts k row true (view t h) v = taken_parts k row true (view t h) v m in
      let bit : Bool = shown_switch row t.mode.error p.mode.error in
      let w : StatusWord t.state d p.app bit guards.ready guards.clean = status t.state d p.app bit guards.ready guards.clean in
      let answer : Answer = Replied (R1 (row_index row) w.word) in
      let x : AddressAfter row answer t.rca h.rca p.matched = heard_address row answer t.rca h.rca p.matched (not_new row is) p.in_matches in
      let u : Card = taken_to k row true argument h t v p x.rca in
      let same_fields : v ≡ view u (heard order answer h) =
      taken_view k row true argument h (heard order answer h) t v p x.rca (heard_host order answer h)
      (ap (λ n. matches x.rca n) (can.at.says.rca answer h.rca) ∙ x.is) in
      record {
        answer = answer;
        after = u;
        answered = record {
          is_word = w.is_word;
          same_index = refl;
          state = w.state;
          card = inl (taken_is k row true argument h t v p x.rca can.at.kind can.at.card can.boot_blocks x.after);
          app = app_is row w.word u w.app_is;
          switch = switch_bit row w.word t u w.switch_is;
          error = none_shown t u _ can.all_shown refl;
        };
        all_shown = refl;
        published = λ word e. shows_none answer word refl e;
        guards_are = status_guards k guards row t u d p.app w can.at.allowed;
        same = same_branch same_fields (ap (λ f. status_seen row d (view t h) f) same_fields
            ∙ (ap (λ b. status_seen row b (view t h) (view u (heard order answer h))) (sym w.doubt_is)
            ∙ same_status_seen (sym w.state) (sym (app_law row w.word u (app_is row w.word u w.app_is)))
            (sym (switch_law row w.word t u can.at.allowed (switch_bit row w.word t u w.switch_is)))));
      }

  status_stayed : (k : Kind) (order : Order) (row : Row) (argument : ℕ) (h : Host) (t : Card) (v : Fields) → CardStatus ≡ response_of row →
      CanTake k order row t h → May (stayed k row true (matches t.rca h.rca ∷ []) (view t h)) v → StatusStep k order row argument h t true v
  unfolding StatusStep
  status_stayed k order row argument h t v is can m =
      let p : StayedParts k row true (matches t.rca h.rca ∷ []) (view t h) v = stayed_parts k row true _ (view t h) v m in
      let bit : Bool = shown_switch row t.mode.error p.mode.error in
      let w : StatusWord t.state true false bit guards.ready guards.clean = status t.state true false bit guards.ready guards.clean in
      let answer : Answer = Replied (R1 (row_index row) w.word) in
      let u : Card = stayed_to k row true (matches t.rca h.rca ∷ []) h t v p in
      let same_host : matches t.rca h.rca ≡ matches t.rca (heard order answer h).rca =
      same_status row answer t.rca h.rca is can.at.given ∙ sym (ap (λ n. matches t.rca n) (can.at.says.rca answer h.rca)) in
      let same_fields : v ≡ view u (heard order answer h) =
      stayed_view k row true _ h (heard order answer h) t v p (heard_host order answer h) (sym same_host ∙ only p.in_matches) in
      record {
        answer = answer;
        after = u;
        answered = record {
          is_word = w.is_word;
          same_index = refl;
          state = w.state;
          card = inr (w.doubt_is, stayed_is k row true _ h t v p can.at.kind);
          app = app_is row w.word u w.app_is;
          switch = switch_bit row w.word t u w.switch_is;
          error = none_shown t u _ can.all_shown refl;
        };
        all_shown = refl;
        published = λ word e. shows_none answer word refl e;
        guards_are = status_guards k guards row t u true false w can.at.allowed;
        same = same_branch same_fields (ap (λ f. status_seen row true (view t h) f) same_fields
            ∙ (ap (λ b. status_seen row b (view t h) (view u (heard order answer h))) (sym w.doubt_is)
            ∙ same_status_seen (sym w.state) (sym (app_law row w.word u (app_is row w.word u w.app_is)))
            (sym (switch_law row w.word t u can.at.allowed (switch_bit row w.word t u w.switch_is)))));
      }

  pub status_step : (k : Kind) (order : Order) (row : Row) (argument : ℕ) (h : Host) (t : Card) (b : Branch) → CardStatus ≡ response_of row →
      CanTake k order row t h → May (row_branches k order row CardStatus (view t h)) b →
      RowStep CardStatus k order row argument h t b ⊎ ImpossibleRow row h b
  unfolding StatusStep
  status_step k order row argument h t b is can m =
      elim (May-append_back (with_seen SeenTimeOut (lost k CardStatus row (view t h))) _ m) [
        | inl a ↦ elim (time_out_back CardStatus k order row argument h t b
            (not_absent CardStatus row is (λ e. let f : Absent ≡ CardStatus = e in cc)) can a) [
              | inl x ↦ inl (unheard_step CardStatus k order row argument h t b (λ e. let f : Absent ≡ CardStatus = e in cc)
                  (λ e. let f : NotAddressed ≡ CardStatus = e in cc) x)
              | inr x ↦ inr x
            ]
        | inr a ↦ elim (statuses_back row (view t h) (taken k row true (view t h)) (stayed k row true (matches t.rca h.rca ∷ []) (view t h)) b a) [
          | inl x ↦ inl (subst (λ c. RowStep CardStatus k order row argument h t c) x.3 (status_taken k order row argument h t x.1 x.0 is can x.2))
          | inr x ↦ inl (subst (λ c. RowStep CardStatus k order row argument h t c) x.2 (status_stayed k order row argument h t x.0 is can x.1))
        ]
      ]

  -- NEW ADDRESS

  address_taken : (k : Kind) (order : Order) (argument : ℕ) (h : Host) (t : Card) (d : Bool) (v : Fields) → CanTake k order Cmd3Sd t h →
      May (taken k Cmd3Sd true (view t h)) v → RowStep NewAddress k order Cmd3Sd argument h t (branch v (status_seen Cmd3Sd d (view t h) v))
  address_taken k order argument h t d v can m =
      let p : TakenParts k Cmd3Sd true (view t h) v = taken_parts k Cmd3Sd true (view t h) v m in
      let w : AddressWord t.state d 1 guards.ready guards.clean = first_address t.state d guards.ready guards.clean in
      let answer : Answer = Replied (R6 w.word) in
      let u : Card = taken_to k Cmd3Sd true argument h t v p (Some 1) in
      let same_fields : v ≡ view u (heard order answer h) =
      taken_view k Cmd3Sd true argument h (heard order answer h) t v p (Some 1) (heard_host order answer h)
      (ap (λ n. matches (Some 1) n) (can.at.says.rca answer h.rca ∙ w.rca_is) ∙ only p.in_matches) in
      record {
        answer = answer;
        after = u;
        answered = record {
          is_word = w.is_word;
          state = w.state;
          card = inl (record {
            card = taken_is k Cmd3Sd true argument h t v p (Some 1) can.at.kind can.at.card can.boot_blocks (1, refl, lit< tt, lit< tt);
            rca = ap Some w.rca_is;
          });
          error = can.all_shown;
        };
        all_shown = refl;
        published = λ word e. shows_more w.word word 1 w.rca_is (lit< tt) e;
        guards_are = address_guards k guards t.mode.error t.state d 1 w;
        same = same_branch same_fields (ap (λ f. status_seen Cmd3Sd d (view t h) f) same_fields
            ∙ (ap (λ b. status_seen Cmd3Sd b (view t h) (view u (heard order answer h))) (sym w.doubt_is)
            ∙ same_status_seen (sym w.state) refl refl));
      }

  address_stayed : (k : Kind) (order : Order) (argument : ℕ) (h : Host) (t : Card) (v : Fields) → CanTake k order Cmd3Sd t h →
      May (stayed k Cmd3Sd true (matched_stayed t.state) (view t h)) v →
      RowStep NewAddress k order Cmd3Sd argument h t (branch v (status_seen Cmd3Sd true (view t h) v))
  address_stayed k order argument h t v can m =
      let p : StayedParts k Cmd3Sd true (matched_stayed t.state) (view t h) v = stayed_parts k Cmd3Sd true _ (view t h) v m in
      let n : ShownNumber t.state t.rca p.matched =
      shown_at t.kind t.state can.legal.target t.rca p.matched can.legal.has_row.one can.at.card.address p.in_matches in
      let w : AddressWord t.state true n.number guards.ready guards.clean = n.word guards.ready guards.clean in
      let answer : Answer = Replied (R6 w.word) in
      let u : Card = stayed_to k Cmd3Sd true (matched_stayed t.state) h t v p in
      let same_fields : v ≡ view u (heard order answer h) =
      stayed_view k Cmd3Sd true _ h (heard order answer h) t v p (heard_host order answer h)
      (ap (λ x. matches t.rca x) (can.at.says.rca answer h.rca ∙ w.rca_is) ∙ n.is) in
      record {
        answer = answer;
        after = u;
        answered = record {
          is_word = w.is_word;
          state = w.state;
          card = inr (w.doubt_is, stayed_is k Cmd3Sd true _ h t v p can.at.kind);
          error = can.all_shown;
        };
        all_shown = refl;
        published = λ word e. shows_more w.word word n.number w.rca_is n.positive e;
        guards_are = address_guards k guards t.mode.error t.state true n.number w;
        same = same_branch same_fields (ap (λ f. status_seen Cmd3Sd true (view t h) f) same_fields
            ∙ (ap (λ b. status_seen Cmd3Sd b (view t h) (view u (heard order answer h))) (sym w.doubt_is)
            ∙ same_status_seen (sym w.state) refl refl));
      }

  pub address_step : (k : Kind) (order : Order) (argument : ℕ) (h : Host) (t : Card) (b : Branch) →
      CanTake k order Cmd3Sd t h → May (row_branches k order Cmd3Sd NewAddress (view t h)) b →
      RowStep NewAddress k order Cmd3Sd argument h t b ⊎ ImpossibleRow Cmd3Sd h b
  address_step k order argument h t b can m =
      elim (May-append_back (with_seen SeenTimeOut (lost k NewAddress Cmd3Sd (view t h))) _ m) [
        | inl a ↦ elim (time_out_back NewAddress k order Cmd3Sd argument h t b (λ e. cc) can a) [
          | inl x ↦ inl (unheard_step NewAddress k order Cmd3Sd argument h t b (λ e. cc) (λ e. cc) x)
          | inr x ↦ inr x
        ]
        | inr a ↦
            elim (statuses_back Cmd3Sd (view t h) (taken k Cmd3Sd true (view t h)) (stayed k Cmd3Sd true (matched_stayed t.state) (view t h)) b a) [
              | inl x ↦ inl (subst (λ c. RowStep NewAddress k order Cmd3Sd argument h t c) x.3 (address_taken k order argument h t x.1 x.0 can x.2))
              | inr x ↦ inl (subst (λ c. RowStep NewAddress k order Cmd3Sd argument h t c) x.2 (address_stayed k order argument h t x.0 can x.1))
            ]
      ]
