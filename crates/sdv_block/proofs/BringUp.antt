-- THE BRING-UP beside a card: the walk halts quietly, or goes on with the card's unit in the first flag.
use Rattle.std.proofs.Common.{◌≡◌, inl, inr, refl, sym, ap, ◌∙◌, List, [], ◌∷◌, ◌++◌, append_assoc}
use Rattle.std.specs.Prelude.{◌⊎◌, codes}
use Rattle.sdv_registers.specs.declared.kind.Kind.{Kind}
use Rattle.sdv_registers.specs.declared.kind.Kind.TheVariants.{Sd, Emmc}
use Rattle.sdv_card.specs.declared.event.Aim.TheVariants.{Plain, Rca}
use Rattle.sdv_card.specs.declared.guard.Guard.TheVariants.{Answer, Clean}
use Rattle.sdv_card.specs.Card.{Card}
use Rattle.sdv_card.specs.Host.{Host}
use Rattle.sdv_card.proofs.Same.{same_both}
use Rattle.sdv_card.specs.ShapeBits.{is_flag_set}
use Rattle.sdv_graph.specs.Tree.{Statements, first, send}
use Rattle.sdv_graph.specs.Walk.{Pair, Ending, Rest, walk_statements, given}
use Rattle.sdv_facts.specs.Keeps.{IsHonest}
use Rattle.sdv_block.specs.RequestStatements.{only_if}
use Rattle.sdv_block.specs.BringUpStatements.{plain, sends_anyway, until_ready, app_statement, op_cond_statement, ready_statements, select_statements}
use Rattle.sdv_block.specs.Served.{AllowedSteps, blocks_read}
use Rattle.sdv_block.proofs.CardSteps.{Spares, spares}
use Rattle.sdv_block.proofs.Knowing.{Knowing, and_on, anyway_part, guarded_part}
use Rattle.sdv_block.proofs.ReadyLoop.{FoundUnit, before, ready_part, app_turn, op_cond_turn}
use Rattle.sdv_block.proofs.Parts.{Past}
use Rattle.sdv_block.proofs.Quiet.{HaltedQuiet, read_none, gave_none}

spares_0 : Spares 0
spares_0 = spares 0 refl refl

spares_2 : Spares 2
spares_2 = spares 2 refl refl

spares_3 : Spares 3
spares_3 = spares 3 refl refl

spares_7 : Spares 7
spares_7 = spares 7 refl refl

spares_8 : Spares 8
spares_8 = spares 8 refl refl

spares_9 : Spares 9
spares_9 = spares 9 refl refl

spares_16 : Spares 16
spares_16 = spares 16 refl refl

module _ (k : Kind) (e : Ending) (fell broke : Rest) (last : Card) where
  abbrev Walks : Statements → Rest
  Walks s = walk_statements k e s fell broke

  abbrev Known : Rest → Host → List Pair → Card → Type 0
  Known next h es c = HaltedQuiet e es c last ⊎ Past (Knowing k c h) next es last

  -- from wherever the host knows nothing wrong
  abbrev Does : Statements → Rest → Type 0
  Does s after = (h : Host) (es : List Pair) (c : Card) → IsHonest k c h → Walks s h es → AllowedSteps c es last → Known after h es c

  and_then : (s : Statements) (after : Rest) → Does s after → (h : Host) (es : List Pair) (c : Card) → Known (Walks s) h es c → Known after h es c
  and_then s after does h es c (inl halt) = inl halt
  and_then s after does h es c (inr w) = and_on k e (Walks s) after h es c last w (does w.host w.rest w.card w.did.honest w.on w.steps)

  -- a first command, whatever is answered
  idle_part : (rest : Statements) → Does (first (sends_anyway 0) rest) (Walks rest)
  idle_part rest h es c honest walk steps = anyway_part k e (plain 0 Plain 0) spares_0 (Walks rest) broke h es c last honest walk steps

  if_cond_part : (rest : Statements) → Does (first (sends_anyway 8) rest) (Walks rest)
  if_cond_part rest h es c honest walk steps = anyway_part k e (plain 8 Plain 0) spares_8 (Walks rest) broke h es c last honest walk steps

  -- the commands after the loop, each with its fault
  abbrev blen_on : Statements → Statements
  blen_on rest = first (send (plain 16 Plain 0) (only_if (Clean ∷ []) (codes "blen"))) rest

  abbrev select_on : Statements → Statements
  select_on rest = first (send (plain 7 Rca 0) (only_if (Clean ∷ []) (codes "select"))) (blen_on rest)

  abbrev csd_on : Statements → Statements
  csd_on rest = first (send (plain 9 Rca 0) (only_if (Answer ∷ []) (codes "csd"))) (select_on rest)

  abbrev rca_on : Statements → Statements
  rca_on rest = first (send (plain 3 Plain 0) (only_if (Clean ∷ []) (codes "rca"))) (csd_on rest)

  blen_part : (rest : Statements) → Does (blen_on rest) (Walks rest)
  blen_part rest h es c honest walk steps =
      guarded_part k e (plain 16 Plain 0) spares_16 (Walks rest) broke h es c last honest (Clean ∷ []) (codes "blen") refl walk steps

  select_part : (rest : Statements) → Does (select_on rest) (Walks rest)
  select_part rest h es c honest walk steps =
      and_then (blen_on rest) (Walks rest) (blen_part rest) h es c
      (guarded_part k e (plain 7 Rca 0) spares_7 (Walks (blen_on rest)) broke h es c last honest (Clean ∷ []) (codes "select") refl walk steps)

  csd_part : (rest : Statements) → Does (csd_on rest) (Walks rest)
  csd_part rest h es c honest walk steps =
      and_then (select_on rest) (Walks rest) (select_part rest) h es c
      (guarded_part k e (plain 9 Rca 0) spares_9 (Walks (select_on rest)) broke h es c last honest (Answer ∷ []) (codes "csd") refl walk steps)

  rca_part : (rest : Statements) → Does (rca_on rest) (Walks rest)
  rca_part rest h es c honest walk steps =
      and_then (csd_on rest) (Walks rest) (csd_part rest) h es c
      (guarded_part k e (plain 3 Plain 0) spares_3 (Walks (csd_on rest)) broke h es c last honest (Clean ∷ []) (codes "rca") refl walk steps)

  cid_part : (rest : Statements) → Does (select_statements rest) (Walks rest)
  cid_part rest h es c honest walk steps =
      and_then (rca_on rest) (Walks rest) (rca_part rest) h es c
      (guarded_part k e (plain 2 Plain 0) spares_2 (Walks (rca_on rest)) broke h es c last honest (Answer ∷ []) (codes "cid") refl walk steps)

  -- ALL BEFORE THE CAPACITY

  abbrev Found : Rest → Host → List Pair → Card → Type 0
  Found next h es c = HaltedQuiet e es c last ⊎ Past (FoundUnit k c h) next es last

  found_then : (next after : Rest) (h : Host) (es : List Pair) (c : Card) → (w : Past (FoundUnit k c h) next es last) → Known after w.host w.rest w.card →
      Found after h es c
  found_then next after h es c w (inl halt) = inl (record {
    early = halt.early;
    contents = w.did.contents ∙ halt.contents;
    read = ap blocks_read w.split ∙ read_none w.front w.rest w.did.read halt.read;
    gave = ap given w.split ∙ gave_none w.front w.rest w.did.gave halt.gave;
  })
  found_then next after h es c w (inr r) = inr (record {
    front = w.front ++ r.front;
    rest = r.rest;
    card = r.card;
    host = r.host;
    split = w.split ∙ (ap (λ (es : List Pair). w.front ++ es) r.split ∙ sym (append_assoc w.front r.front r.rest));
    did = record {
      same = same_both c w.card r.card w.did.same r.did.quiet.same;
      contents = w.did.contents ∙ r.did.quiet.contents;
      user = λ user. r.did.quiet.user (w.did.user user);
      read = read_none w.front r.front w.did.read r.did.quiet.read;
      gave = gave_none w.front r.front w.did.gave r.did.quiet.gave;
      honest = r.did.honest;
      numbers = r.did.numbers ∙ w.did.numbers;
      unit = ap (λ n. is_flag_set n 0) r.did.quiet.flags ∙ (w.did.unit ∙ r.did.quiet.same.block_unit);
    };
    on = r.on;
    steps = r.steps;
  })

  pub then_commands : (rest : Statements) (h : Host) (es : List Pair) (c : Card) → Found (Walks (select_statements rest)) h es c → Found (Walks rest) h es c
  then_commands rest h es c (inl halt) = inl halt
  then_commands rest h es c (inr w) =
      found_then (Walks (select_statements rest)) (Walks rest) h es c w (cid_part rest w.host w.rest w.card w.did.honest w.on w.steps)

-- THE LOOP, after the first commands

sd_loop : (e : Ending) (fell broke : Rest) (last : Card) (rest : Statements) (h : Host) (es : List Pair) (c : Card) → h.flags ≡ 0 →
    Known Sd e fell broke last (Walks Sd e fell broke last (first (until_ready app_statement) rest)) h es c →
    Found Sd e fell broke last (Walks Sd e fell broke last rest) h es c
sd_loop e fell broke last rest h es c clear (inl halt) = inl halt
sd_loop e fell broke last rest h es c clear (inr w) =
    let on : Rest = walk_statements Sd e rest fell broke in
    before Sd e on broke last c w.card h w.host es w.front w.rest w.split w.did
    (ready_part Sd e on broke last app_statement (app_turn e on broke last) 1000 w.host w.rest w.card (w.did.quiet.flags ∙ clear) w.did.honest w.on w.steps)

emmc_loop : (e : Ending) (fell broke : Rest) (last : Card) (rest : Statements) (h : Host) (es : List Pair) (c : Card) → h.flags ≡ 0 →
    Known Emmc e fell broke last (Walks Emmc e fell broke last (first (until_ready op_cond_statement) rest)) h es c →
    Found Emmc e fell broke last (Walks Emmc e fell broke last rest) h es c
emmc_loop e fell broke last rest h es c clear (inl halt) = inl halt
emmc_loop e fell broke last rest h es c clear (inr w) =
    let on : Rest = walk_statements Emmc e rest fell broke in
    before Emmc e on broke last c w.card h w.host es w.front w.rest w.split w.did
    (ready_part Emmc e on broke last op_cond_statement (op_cond_turn e on broke last) 1000 w.host w.rest w.card
    (w.did.quiet.flags ∙ clear) w.did.honest w.on w.steps)

ready_then : (k : Kind) (e : Ending) (fell broke : Rest) (last : Card) (rest : Statements) (h : Host) (es : List Pair) (c : Card) → h.flags ≡ 0 →
    IsHonest k c h →
    walk_statements k e (first (sends_anyway 0) (ready_statements k rest)) fell broke h es → AllowedSteps c es last →
    Found k e fell broke last (walk_statements k e rest fell broke) h es c
ready_then Sd e fell broke last rest h es c clear honest walk steps =
    let loop : Statements = first (until_ready app_statement) rest in
    sd_loop e fell broke last rest h es c clear
    (and_then Sd e fell broke last (first (sends_anyway 8) loop) (walk_statements Sd e loop fell broke) (if_cond_part Sd e fell broke last loop) h es c
    (idle_part Sd e fell broke last (first (sends_anyway 8) loop) h es c honest walk steps))
ready_then Emmc e fell broke last rest h es c clear honest walk steps =
    emmc_loop e fell broke last rest h es c clear (idle_part Emmc e fell broke last (first (until_ready op_cond_statement) rest) h es c honest walk steps)

pub unit_part : (k : Kind) (e : Ending) (fell broke : Rest) (last : Card) (rest : Statements) (h : Host) (es : List Pair) (c : Card) → h.flags ≡ 0 →
    IsHonest k c h →
    walk_statements k e (first (sends_anyway 0) (ready_statements k (select_statements rest))) fell broke h es → AllowedSteps c es last →
    Found k e fell broke last (walk_statements k e rest fell broke) h es c
unit_part k e fell broke last rest h es c clear honest walk steps =
    then_commands k e fell broke last rest h es c (ready_then k e fell broke last (select_statements rest) h es c clear honest walk steps)
