-- THE LOOP until a card is ready: past it the first flag tells whether the card's addresses count blocks.
use Rattle.std.proofs.Common.{◌≡◌, ℕ, zero, suc, ◌<◌, ◌^◌, ◌/◌, ◌==◌, inl, inr, refl, sym, ap, ◌∙◌, subst, arith, Bool, true, false, List, [], ◌∷◌, ◌++◌, append_assoc, Option, Some}
use Rattle.std.specs.Prelude.{◌⊎◌, ◌&&◌, codes, if◌then◌else◌}
use Rattle.std.specs.Str.{bytes_eq}
use Rattle.sdv_registers.specs.Ocr.{access_mode}
use Rattle.sdv_registers.specs.declared.kind.Kind.{Kind}
use Rattle.sdv_registers.specs.declared.kind.Kind.TheVariants.{Sd, Emmc}
use Rattle.sdv_frames.specs.declared.reply.Reply.TheVariants.{R3}
use Rattle.sdv_card.specs.declared.answer.Answer.{Answer}
use Rattle.sdv_card.specs.declared.answer.Answer.TheVariants.{Reply as Replied}
use Rattle.sdv_card.specs.declared.command.Order.TheVariants.{SdSendOpCond, SendOpCond}
use Rattle.sdv_card.specs.declared.event.Aim.TheVariants.{Plain, Rca}
use Rattle.sdv_card.specs.declared.event.Ask.{Ask}
use Rattle.sdv_card.specs.declared.guard.Guard.TheVariants.{Answer as SomeAnswer, App, OcrReady, OcrBlock}
use Rattle.sdv_card.specs.Card.{Card}
use Rattle.sdv_card.specs.CommandTable.{order_of}
use Rattle.sdv_card.specs.Exchange.{SettledAnswer, card_takes}
use Rattle.sdv_card.specs.Guards.{answer_passes}
use Rattle.sdv_card.specs.Host.{Host, host_after}
use Rattle.sdv_card.specs.ScriptEvent.{Answered}
use Rattle.sdv_card.specs.Step.{Sends}
use Rattle.sdv_card.specs.Taken.{SameCard}
use Rattle.sdv_card.specs.Takes.{taken_as_of, matches}
use Rattle.sdv_card.proofs.Members.{and_left, and_right}
use Rattle.sdv_card.proofs.Same.{same_both, same_itself}
use Rattle.sdv_graph.specs.declared.tree.ScriptCommand.{ScriptCommand}
use Rattle.sdv_card.specs.ShapeBits.{is_flag_set, put_bit}
use Rattle.sdv_graph.specs.Conditions.{with_flag}
use Rattle.sdv_graph.specs.Tree.{Statement, nothing, first, send, way, otherwise}
use Rattle.sdv_graph.specs.Walk.{Pair, Ending, Open, Failed, Rest, Stops, Either, all_pass, rounds, walk_statements, walk_ways, given}
use Rattle.sdv_facts.specs.Keeps.{IsHonest}
use Rattle.sdv_block.specs.RequestStatements.{fails}
use Rattle.sdv_block.specs.BringUpStatements.{plain, ocr_ways, ocr_statement, app_statement, op_cond_statement}
use Rattle.sdv_block.specs.Served.{AllowedSteps, blocks_read}
use Rattle.sdv_block.proofs.CardSteps.{Spares, spares}
use Rattle.sdv_block.proofs.Knowing.{Knowing, known_after}
use Rattle.sdv_block.proofs.Parts.{Halts, halts, halts_in_fault, either, command_at, argument_at, Sent, send_part, Past}
use Rattle.sdv_block.proofs.Quiet.{HaltedQuiet, halted_later, halted_here, read_none, gave_none}
use Rattle.sdv_block.proofs.UserArea.{IsUser}

-- THE CARD'S ANSWER: ready, it shows its unit

some_same : {A : Type 0} → (x y : A) (o : Option A) → o ≡ Some x → o ≡ Some y → x ≡ y
some_same x y o e f = cc

-- what an answer to the command says of the unit
abbrev pub ShowsUnit : Kind → Ask → Type 0
ShowsUnit k ask = (argument : ℕ) (c u : Card) (answer : Answer) → k ≡ c.kind → Sends ask argument c answer u →
    answer_passes k OcrReady answer ≡ true → answer_passes k OcrBlock answer ≡ u.block_unit

abbrev ocr_ask : Ask
ocr_ask = (plain 41 Plain 0x40ff8000).ask

ocr_order : order_of Sd ocr_ask ≡ Some (SdSendOpCond true)
unfolding order_of
ocr_order = refl

ocr_heard : (app matched : Bool) (argument : ℕ) (t u : Card) (answer : Answer) →
    SettledAnswer (taken_as_of (SdSendOpCond true) app matched) (SdSendOpCond true) argument t answer u →
    answer_passes Sd OcrReady answer ≡ true → answer_passes Sd OcrBlock answer ≡ u.block_unit
ocr_heard false matched argument t u answer a ready = absurd a
ocr_heard true matched argument t u (Replied (R3 word)) a ready = a.unit (sym a.ready ∙ ready)
ocr_heard true matched argument t u (Replied reply) a ready = absurd a
ocr_heard true matched argument t u answer a ready = absurd (let f : false ≡ true = ready in cc)

ocr_unit : ShowsUnit Sd ocr_ask
ocr_unit argument c u answer kind s ready =
    let t : Card = s.exchange.settled_card in
    let line : order_of c.kind ocr_ask ≡ Some (SdSendOpCond true) = subst (λ k. order_of k ocr_ask ≡ Some (SdSendOpCond true)) kind ocr_order in
    let order : s.order ≡ SdSendOpCond true = some_same s.order (SdSendOpCond true) (order_of c.kind ocr_ask) s.asks.line line in
    ocr_heard t.app (matches t.rca (argument / 65536)) argument t u answer
    (subst (λ o. SettledAnswer (card_takes t o argument) o argument t answer u) order s.exchange.answered) ready

abbrev op_cond_ask : Ask
op_cond_ask = (plain 1 Plain 0).ask

op_cond_order : order_of Emmc op_cond_ask ≡ Some SendOpCond
unfolding order_of
op_cond_order = refl

mode_told : (word : ℕ) (unit : Bool) → access_mode word ≡ (if unit then 2 else 0) → (access_mode word == 2) ≡ unit
mode_told word true e = ap (λ (m : ℕ). m == 2) e
mode_told word false e = ap (λ (m : ℕ). m == 2) e

op_cond_heard : (app matched : Bool) (argument : ℕ) (t u : Card) (answer : Answer) →
    SettledAnswer (taken_as_of SendOpCond app matched) SendOpCond argument t answer u →
    answer_passes Emmc OcrReady answer ≡ true → answer_passes Emmc OcrBlock answer ≡ u.block_unit
op_cond_heard true matched argument t u answer a ready = absurd a
op_cond_heard false matched argument t u (Replied (R3 word)) a ready = mode_told word u.block_unit (a.unit (sym a.ready ∙ ready))
op_cond_heard false matched argument t u (Replied reply) a ready = absurd a
op_cond_heard false matched argument t u answer a ready = absurd (let f : false ≡ true = ready in cc)

op_cond_unit : ShowsUnit Emmc op_cond_ask
op_cond_unit argument c u answer kind s ready =
    let t : Card = s.exchange.settled_card in
    let line : order_of c.kind op_cond_ask ≡ Some SendOpCond = subst (λ k. order_of k op_cond_ask ≡ Some SendOpCond) kind op_cond_order in
    let order : s.order ≡ SendOpCond = some_same s.order SendOpCond (order_of c.kind op_cond_ask) s.asks.line line in
    op_cond_heard t.app (matches t.rca (argument / 65536)) argument t u answer
    (subst (λ o. SettledAnswer (card_takes t o argument) o argument t answer u) order s.exchange.answered) ready

-- PAST THE LOOP

pub record FoundUnit (k : Kind) (c : Card) (h : Host) (front : List Pair) (u : Card) (h' : Host) : Type 0 where
  pub same : SameCard c u
  pub contents : c.contents ≡ u.contents
  pub user : IsUser c → IsUser u
  pub read : blocks_read front ≡ []
  pub gave : given front ≡ []
  pub honest : IsHonest k u h'
  pub numbers : h'.numbers ≡ h.numbers
  pub unit : is_flag_set h'.flags 0 ≡ u.block_unit

-- a clear flag is set
flag_put : (flags : ℕ) → flags ≡ 0 → put_bit (is_flag_set flags 0) true flags (2 ^ 0) ≡ 1
flag_put flags e = rw e refl

with_first_flag : (k : Kind) (u : Card) (h : Host) → h.flags ≡ 0 → IsHonest k u h → IsHonest k u (with_flag h 0 true)
with_first_flag k u h clear honest = record {
  pair = record {
    kind = honest.pair.kind;
    card = honest.pair.card;
    lines = honest.pair.lines;
    flags = subst (λ n. n < 16) (sym (flag_put h.flags clear)) (omega arith);
    rca = honest.pair.rca;
  };
  profile = honest.profile;
  sound = record { csd = honest.sound.csd; ext_csd = honest.sound.ext_csd; blocks = honest.sound.blocks; register = honest.sound.register };
}

module _ (k : Kind) (e : Ending) (fell broke : Rest) (last : Card) where
  abbrev body : Statement → Rest → Rest
  body asks again = walk_statements k e (first asks nothing) again fell

  abbrev other : Rest
  other = walk_statements k e (fails (codes "busy")) fell broke

  abbrev OcrOutcome : Host → List Pair → Card → Type 0
  OcrOutcome h es c = HaltedQuiet e es c last ⊎ Past (FoundUnit k c h) fell es last

  abbrev Again : Rest → Type 0
  Again again = (h : Host) (es : List Pair) (c : Card) → h.flags ≡ 0 → IsHonest k c h → again h es → AllowedSteps c es last → OcrOutcome h es c

  -- quiet events before what came of the others
  pub before : (c u : Card) (h i : Host) (es front rest : List Pair) → es ≡ front ++ rest → Knowing k c h front u i → OcrOutcome i rest u → OcrOutcome h es c
  before c u h i es front rest split w (inl halt) = inl (halted_later e es front rest c u last h i split w.quiet halt)
  before c u h i es front rest split w (inr r) = inr (record {
    front = front ++ r.front;
    rest = r.rest;
    card = r.card;
    host = r.host;
    split = split ∙ (ap (λ (es : List Pair). front ++ es) r.split ∙ sym (append_assoc front r.front r.rest));
    did = record {
      same = same_both c u r.card w.quiet.same r.did.same;
      contents = w.quiet.contents ∙ r.did.contents;
      user = λ user. r.did.user (w.quiet.user user);
      read = read_none front r.front w.quiet.read r.did.read;
      gave = gave_none front r.front w.quiet.gave r.did.gave;
      honest = r.did.honest;
      numbers = r.did.numbers ∙ w.numbers;
      unit = r.did.unit;
    };
    on = r.on;
    steps = r.steps;
  })

  -- the loop is left
  leaves : (u : Card) (h i : Host) (rest : List Pair) → IsHonest k u i → i.numbers ≡ h.numbers → is_flag_set i.flags 0 ≡ u.block_unit →
      Stops e Open rest ⊎ fell i rest → AllowedSteps u rest last → OcrOutcome h rest u
  leaves u h i rest honest numbers unit (inl s) steps = inl (halted_here e rest u last (halts e Open rest tt s) steps)
  leaves u h i rest honest numbers unit (inr on) steps = inr (record {
    front = [];
    rest = rest;
    card = u;
    host = i;
    split = refl;
    did = record {
      same = same_itself u u refl;
      contents = refl;
      user = λ user. user;
      read = refl;
      gave = refl;
      honest = honest;
      numbers = numbers;
      unit = unit;
    };
    on = on;
    steps = steps;
  })

  -- WHAT THE ANSWER LEADS TO
  module _ (name : List ℕ) (early : bytes_eq name (codes "beyond") ≡ false) (again : Rest) (later : Again again) (u : Card) (h : Host) (rest : List Pair)
      (answer : Answer) (clear : h.flags ≡ 0) (honest : IsHonest k u h) (steps : AllowedSteps u rest last)
      (shows : answer_passes k OcrReady answer ≡ true → answer_passes k OcrBlock answer ≡ u.block_unit) where
    abbrev SetsAndLeaves : Type 0
    SetsAndLeaves = Stops e Open rest ⊎ (Stops e Open rest ⊎ fell (with_flag h 0 true) rest)

    abbrev Leaves : Type 0
    Leaves = Stops e Open rest ⊎ fell h rest

    abbrev Lost : Type 0
    Lost = Stops e Open rest ⊎ Stops e (Failed name) rest

    abbrev block_ready : Bool
    block_ready = all_pass k (OcrReady ∷ OcrBlock ∷ []) (Answered answer)

    abbrev is_ready : Bool
    is_ready = all_pass k (OcrReady ∷ []) (Answered answer)

    abbrev is_answered : Bool
    is_answered = all_pass k (SomeAnswer ∷ []) (Answered answer)

    only_first : (a b : Bool) → (a && (b && true)) ≡ false → a ≡ true → b ≡ false
    only_first true true n t = absurd (let f : true ≡ false = n in cc)
    only_first true false n t = refl
    only_first false b n t = absurd (let f : false ≡ true = t in cc)

    sets : (block_ready ≡ true) → SetsAndLeaves → OcrOutcome h rest u
    sets passes (inl s) = inl (halted_here e rest u last (halts e Open rest tt s) steps)
    sets passes (inr on) = leaves u h (with_flag h 0 true) rest (with_first_flag k u h clear honest) refl
        (ap (λ n. is_flag_set n 0) (flag_put h.flags clear) ∙ (sym (and_left _ _ (and_right _ _ passes)) ∙ shows (and_left _ _ passes))) on steps

    if_answered : ((is_answered ≡ true) × again h rest) ⊎ ((is_answered ≡ false) × Lost) → OcrOutcome h rest u
    if_answered (inl x) = later h rest u clear honest x.1 steps
    if_answered (inr x) = inl (halted_here e rest u last (halts_in_fault e name rest early x.1) steps)

    if_ready : (block_ready ≡ false) → ((is_ready ≡ true) × Leaves) ⊎ ((is_ready ≡ false) × Either is_answered (again h rest) Lost) → OcrOutcome h rest u
    if_ready none (inl x) = leaves u h h rest honest refl
        (ap (λ n. is_flag_set n 0) clear
        ∙ (sym (only_first (answer_passes k OcrReady answer) (answer_passes k OcrBlock answer) none (and_left _ _ x.0)) ∙ shows (and_left _ _ x.0))) x.1
        steps
    if_ready none (inr x) = if_answered (either (again h rest) Lost is_answered x.1)

    if_block_ready : ((block_ready ≡ true) × SetsAndLeaves) ⊎ ((block_ready ≡ false) × Either is_ready Leaves (Either is_answered (again h rest) Lost)) →
        OcrOutcome h rest u
    if_block_ready (inl x) = sets x.0 x.1
    if_block_ready (inr x) = if_ready x.0 (either Leaves (Either is_answered (again h rest) Lost) is_ready x.1)

    ocr_led : walk_ways k e (ocr_ways name) (Answered answer) again fell h rest → OcrOutcome h rest u
    ocr_led on = if_block_ready (either SetsAndLeaves (Either is_ready Leaves (Either is_answered (again h rest) Lost)) block_ready on)

  -- THE COMMAND that asks for the operating conditions
  module _ (command : ScriptCommand) (spared : Spares command.ask.index) (unit : ShowsUnit k command.ask) (name : List ℕ)
      (early : bytes_eq name (codes "beyond") ≡ false) where
    of_ocr : (again : Rest) → Again again → (h : Host) (es : List Pair) (c : Card) → h.flags ≡ 0 → IsHonest k c h →
        Halts e es ⊎ Sent k e command (ocr_ways name) again fell h es c last → AllowedSteps c es last → OcrOutcome h es c
    of_ocr again later h es c clear honest (inl halt) steps = inl (halted_here e es c last halt steps)
    of_ocr again later h es c clear honest (inr s) steps =
        let i : Host = host_after k (command_at k command h s.position) (Answered s.answer) h in
        let w = known_after k command s.position c s.after h s.answer spared honest s.allowed s.sends in
        before c s.after h i es ((command_at k command h s.position, Answered s.answer) ∷ []) s.rest s.same w
        (ocr_led name early again later s.after i s.rest s.answer (w.quiet.flags ∙ clear) w.honest s.steps
        (unit (argument_at k command h s.position) c s.after s.answer honest.pair.kind s.sends) s.on)

    pub ocr_part : (again : Rest) → Again again → Again (walk_statements k e (first (send command (ocr_ways name)) nothing) again fell)
    ocr_part again later h es c clear honest walk steps =
        of_ocr again later h es c clear honest (send_part k e command (ocr_ways name) again fell h es c last walk steps) steps

  -- a turn leads to the same as the turns after it
  abbrev Turns : Statement → Type 1
  Turns asks = (again : Rest) → Again again → Again (body asks again)

  pub ready_part : (asks : Statement) → Turns asks → (n : ℕ) → Again (rounds e n (body asks) other)
  ready_part asks turn zero h es c clear honest (inl s) steps = inl (halted_here e es c last (halts e Open es tt s) steps)
  ready_part asks turn zero h es c clear honest (inr w) steps = inl (halted_here e es c last (halts_in_fault e (codes "busy") es refl w) steps)
  ready_part asks turn (suc n) h es c clear honest (inl s) steps = inl (halted_here e es c last (halts e Open es tt s) steps)
  ready_part asks turn (suc n) h es c clear honest (inr w) steps = turn (rounds e n (body asks) other) (ready_part asks turn n) h es c clear honest w steps

spares_41 : Spares 41
spares_41 = spares 41 refl refl

spares_55 : Spares 55
spares_55 = spares 55 refl refl

spares_1 : Spares 1
spares_1 = spares 1 refl refl

-- AN SD CARD is asked by CMD55 and ACMD41

module _ (e : Ending) (fell broke : Rest) (last : Card) where
  abbrev Lost55 : List Pair → Type 0
  Lost55 rest = Stops e Open rest ⊎ Stops e (Failed (codes "lost55")) rest

  abbrev ocr_walk : Rest → Rest
  ocr_walk again = walk_statements Sd e (first ocr_statement nothing) again fell

  if_app : (again : Rest) → Again Sd e fell broke last again → (h : Host) (rest : List Pair) (u : Card) (b : Bool) → h.flags ≡ 0 → IsHonest Sd u h →
      AllowedSteps u rest last →
      ((b ≡ true) × ocr_walk again h rest) ⊎ ((b ≡ false) × Lost55 rest) → OcrOutcome Sd e fell broke last h rest u
  if_app again later h rest u b clear honest steps (inl x) =
      ocr_part Sd e fell broke last (plain 41 Plain 0x40ff8000) spares_41 ocr_unit (codes "lost41") refl again later h rest u clear honest x.1 steps
  if_app again later h rest u b clear honest steps (inr x) = inl (halted_here e rest u last (halts_in_fault e (codes "lost55") rest refl x.1) steps)

  of_app : (again : Rest) → Again Sd e fell broke last again → (h : Host) (es : List Pair) (c : Card) → h.flags ≡ 0 → IsHonest Sd c h →
      Halts e es ⊎ Sent Sd e (plain 55 Rca 0) (way (App ∷ []) (first ocr_statement nothing) (otherwise (fails (codes "lost55")))) again fell h es c last →
      AllowedSteps c es last → OcrOutcome Sd e fell broke last h es c
  of_app again later h es c clear honest (inl halt) steps = inl (halted_here e es c last halt steps)
  of_app again later h es c clear honest (inr s) steps =
      let i : Host = host_after Sd (command_at Sd (plain 55 Rca 0) h s.position) (Answered s.answer) h in
      let w = known_after Sd (plain 55 Rca 0) s.position c s.after h s.answer spares_55 honest s.allowed s.sends in
      let b : Bool = all_pass Sd (App ∷ []) (Answered s.answer) in
      before Sd e fell broke last c s.after h i es ((command_at Sd (plain 55 Rca 0) h s.position, Answered s.answer) ∷ []) s.rest s.same w
      (if_app again later i s.rest s.after b (w.quiet.flags ∙ clear) w.honest s.steps (either (ocr_walk again i s.rest) (Lost55 s.rest) b s.on))

  pub app_turn : Turns Sd e fell broke last app_statement
  app_turn again later h es c clear honest walk steps =
      of_app again later h es c clear honest
      (send_part Sd e (plain 55 Rca 0)
      (way (App ∷ []) (first ocr_statement nothing) (otherwise (fails (codes "lost55")))) again fell h es c last walk steps) steps

-- AN e.MMC DEVICE is asked by CMD1
pub op_cond_turn : (e : Ending) (fell broke : Rest) (last : Card) → Turns Emmc e fell broke last op_cond_statement
op_cond_turn e fell broke last again later = ocr_part Emmc e fell broke last (plain 1 Plain 0) spares_1 op_cond_unit (codes "lost1") refl again later
