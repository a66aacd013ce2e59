-- Which histories are those of runs of some card of the profile, and runs after which an event is not legal.
use Rattle.std.specs.Prelude.{◌↔◌}
use Rattle.std.proofs.Common.{◌≡◌, ℕ, ◌+◌, ◌≤◌, refl, ap, subst, sym, ◌∙◌, true, false, List, [], ◌∷◌, arith}
use Rattle.sdv_registers.specs.declared.kind.Kind.{Kind}
use Rattle.sdv_card.specs.declared.state.Partition.{Partition}
use Rattle.sdv_card.specs.declared.state.Partition.TheVariants.{User, Boot1, Boot2}
use Rattle.sdv_card.specs.declared.fields.Fields.{Fields}
use Rattle.sdv_card.specs.declared.event.Ask.{Ask}
use Rattle.sdv_card.specs.declared.event.Event.TheVariants.{Send, RecvBlocks, RecvReg, Give, Wait}
use Rattle.sdv_card.specs.declared.command.Order.{Order}
use Rattle.sdv_card.specs.CommandTable.{Asks}
use Rattle.sdv_card.specs.ScriptEvent.{event_of}
use Rattle.sdv_card.specs.Card.{Card, capacity_of}
use Rattle.sdv_card.specs.Host.{Host, host_after}
use Rattle.sdv_card.specs.Legal.{InBounds}
use Rattle.sdv_card.specs.LegalShapes.{legal_code}
use Rattle.sdv_card.specs.Code.{digits}
use Rattle.sdv_card.specs.Shapes.{view, pair_code, IsPair}
use Rattle.sdv_card.specs.Profile.{most_blocks, host_at_start}
use Rattle.sdv_card.specs.Laws.{StartHolds}
use Rattle.sdv_card.proofs.Digits.{digits_law}
use Rattle.sdv_card.proofs.TableLaws.{legal_is_exact, steps_keep_pairs, steps_keep_same, starts_hold}
use Rattle.sdv_outcomes.specs.Histories.{Entry, HostSets, Happens, entry_code, code_after, IsHistory, CommandWithin, EntryWithin, IsWithin}
use Rattle.sdv_outcomes.specs.Runs.{Pair, GoesTo, RunsAs, RunOf, HistoryOf}
use Rattle.sdv_outcomes.specs.StartCards.{most_boot_blocks, GreatestCard, IsWithinMost, StartRun, SomeCardRuns}
use Rattle.sdv_outcomes.specs.IllegalShapes.{IllegalShapesAreReal}
use Rattle.sdv_outcomes.proofs.MadeEvents.{HasSizes, same_sizes, event_for, event_is, event_made, sent_within}
use Rattle.sdv_outcomes.proofs.RunHistories.{set_pair, runs_have_histories, start_runs_are_histories, command_within}
use Rattle.sdv_outcomes.proofs.GreatestCards.{none_has_more, each_start_has_card}

-- MORE BLOCKS keep a history in bounds

more_blocks : (p : Partition) (m n b n' b' : ℕ) → n ≤ n' → b ≤ b' → m ≤ capacity_of p n b → m ≤ capacity_of p n' b'
more_blocks User m n b n' b' more boot h = omega arith
more_blocks Boot1 m n b n' b' more boot h = omega arith
more_blocks Boot2 m n b n' b' more boot h = omega arith

entry_in_more : (n b n' b' : ℕ) (code : ℕ) (entry : Entry) → n ≤ n' → b ≤ b' → EntryWithin n b code entry → EntryWithin n' b' code entry
entry_in_more n b n' b' code (HostSets numbers flags lines) more boot within = tt
entry_in_more n b n' b' code (Happens (Send ask) position o guards) more boot within =
    λ count e. more_blocks (digits code).mode.partition (position + count) n b n' b' more boot (within count e)
entry_in_more n b n' b' code (Happens RecvBlocks position o guards) more boot within = tt
entry_in_more n b n' b' code (Happens RecvReg position o guards) more boot within = tt
entry_in_more n b n' b' code (Happens Give position o guards) more boot within = tt
entry_in_more n b n' b' code (Happens Wait position o guards) more boot within = tt

in_more : (n b n' b' : ℕ) (code : ℕ) (entries : List Entry) → n ≤ n' → b ≤ b' → IsWithin n b code entries → IsWithin n' b' code entries
in_more n b n' b' code [] more boot within = tt
in_more n b n' b' code (entry ∷ rest) more boot within =
    (entry_in_more n b n' b' code entry more boot within.0, in_more n b n' b' (entry_code code entry) rest more boot within.1)

-- THE UNIT that a code shows is that of the card

unit_at : (k : Kind) (c : Card) (h : Host) (code : ℕ) → IsPair k c h → pair_code c h ≡ code → c.block_unit ≡ (digits code).block_unit
unit_at k c h code pair same =
    sym (ap (λ (f : Fields). f.block_unit) (digits_law (view c h) pair.flags pair.card.preset)) ∙ ap (λ n. (digits n).block_unit) same

-- SOME CARD RUNS

history_of_run : (k : Kind) (code : ℕ) (entries : List Entry) (variables : ℕ) → StartRun k code entries variables →
    IsHistory k false code entries × IsWithinMost k code entries
history_of_run k code entries variables r =
    let h : Host = host_at_start variables in
    let s : StartHolds k r.card h = starts_hold k r.card variables r.kind r.start in
    let y : HistoryOf k entries false r.card h r.run.last r.run.host =
    runs_have_histories k entries false r.card h r.run.pairs r.run.last r.run.host s.pair (λ e. refl) r.run.goes in
    let most = none_has_more k r.card r.kind r.start.profile in
    let unit : r.card.block_unit ≡ (digits code).block_unit = unit_at k r.card h code s.pair r.shape in (
      subst (λ v. IsHistory k false v entries) r.shape y.history,
      in_more r.card.capacity r.card.boot_capacity (most_blocks k (digits code).block_unit) (most_boot_blocks k) code entries
          (subst (λ u. r.card.capacity ≤ most_blocks k u) unit most.0) most.1
          (subst (λ v. IsWithin r.card.capacity r.card.boot_capacity v entries) r.shape y.within),
    )

greatest_sizes : (k : Kind) (code variables : ℕ) (g : GreatestCard k code) →
    HasSizes (most_blocks k (digits code).block_unit) (most_boot_blocks k) g.card
greatest_sizes k code variables g =
    let h : Host = host_at_start variables in
    let s : StartHolds k g.card h = starts_hold k g.card variables g.kind g.start in
    record { user = g.capacity ∙ ap (λ u. most_blocks k u) (unit_at k g.card h code s.pair (g.shape variables)); boot = g.boot_capacity }

greatest_runs : (k : Kind) (code : ℕ) (entries : List Entry) (variables : ℕ) (g : GreatestCard k code) →
    IsHistory k false code entries → IsWithinMost k code entries → RunOf k entries g.card (host_at_start variables)
greatest_runs k code entries variables g is within =
    let h : Host = host_at_start variables in
    let shape : pair_code g.card h ≡ code = g.shape variables in
    let sizes : HasSizes (most_blocks k (digits code).block_unit) (most_boot_blocks k) g.card = greatest_sizes k code variables g in
    (start_runs_are_histories k entries variables g.card g.kind g.start g.representative).1 (
      subst (λ v. IsHistory k false v entries) (sym shape) is,
      subst (λ n. IsWithin n g.card.boot_capacity (pair_code g.card h) entries) (sym sizes.user)
          (subst (λ b. IsWithin (most_blocks k (digits code).block_unit) b (pair_code g.card h) entries) (sym sizes.boot)
          (subst (λ v. IsWithin (most_blocks k (digits code).block_unit) (most_boot_blocks k) v entries) (sym shape) within)),
    )

run_end : (k : Kind) (code : ℕ) (entries : List Entry) (variables : ℕ) (g : GreatestCard k code) (r : RunOf k entries g.card (host_at_start variables)) →
    pair_code r.last r.host ≡ code_after code entries
run_end k code entries variables g r =
    let h : Host = host_at_start variables in
    let s : StartHolds k g.card h = starts_hold k g.card variables g.kind g.start in
    let y : HistoryOf k entries false g.card h r.last r.host =
    runs_have_histories k entries false g.card h r.pairs r.last r.host s.pair (λ e. refl) r.goes in
    y.code ∙ ap (λ v. code_after v entries) (g.shape variables)

pub some_card_runs : (k : Kind) → SomeCardRuns k
some_card_runs k code entries variables start =
    let g : GreatestCard k code = each_start_has_card k code start in (
      (λ r. history_of_run k code entries variables r),
      (λ x.
          let run : RunOf k entries g.card (host_at_start variables) = greatest_runs k code entries variables g x.0 x.1 in
          record {
            card = g.card;
            kind = g.kind;
            start = g.start;
            shape = g.shape variables;
            run = run;
            end = run_end k code entries variables g run;
          }),
    )

-- THE LAST CARD of a run

record StillPair (k : Kind) (n b : ℕ) (last : Card) (host : Host) : Type 0 where
  pair : IsPair k last host
  sizes : HasSizes n b last

last_pair : (k : Kind) (n b : ℕ) (entries : List Entry) (c : Card) (h : Host) (pairs : List Pair) (last : Card) (host : Host) → IsPair k c h →
    HasSizes n b c → RunsAs k entries c h pairs last host → StillPair k n b last host
last_pair k n b [] c h [] last host pair sizes run =
    subst (λ u. StillPair k n b u host) run.0 (subst (λ g. StillPair k n b c g) run.1 (record { pair = pair; sizes = sizes }))
last_pair k n b [] c h (x ∷ pairs) last host pair sizes run = absurd run
last_pair k n b (HostSets numbers flags lines ∷ rest) c h pairs last host pair sizes run =
    last_pair k n b rest c (record h { numbers = numbers; flags = flags; lines = lines }) pairs last host
    (set_pair k c h numbers flags lines pair run.0 run.1) sizes run.2
last_pair k n b (Happens event position o guards ∷ rest) c h [] last host pair sizes run = absurd run
last_pair k n b (Happens event position o guards ∷ rest) c h (x ∷ pairs) last host pair sizes run =
    let s : GoesTo k event position o guards x c h run.0 = run.1 in
    last_pair k n b rest run.0 (host_after k x.0 x.1 h) pairs last host (steps_keep_pairs k x.0 c h x.1 run.0 pair s.made s.step)
    (same_sizes n b c run.0 (steps_keep_same k x.0 c x.1 run.0 pair.kind s.step) sizes) run.2

-- A COMMAND OF THE TABLE is in bounds exactly where its entry is

command_bounds : (k : Kind) (n b : ℕ) (c : Card) (h : Host) (ask : Ask) (order : Order) (position : ℕ) → IsPair k c h → HasSizes n b c → Asks k ask order →
    InBounds (event_for k (Send ask) position c h) c ↔ CommandWithin n b (pair_code c h) ask position
command_bounds k n b c h ask order position pair sizes asks = (
  (λ bounds. command_within k n b c h ask position (event_for k (Send ask) position c h) pair sizes (event_is k (Send ask) position c h) bounds),
  (λ within. sent_within k n b c h ask order position pair sizes asks.line within),
)

-- AN ILLEGAL EVENT

pub illegal_shapes_are_real : (k : Kind) → IllegalShapesAreReal k
illegal_shapes_are_real k code entries event position variables start is within illegal =
    let h : Host = host_at_start variables in
    let g : GreatestCard k code = each_start_has_card k code start in
    let s : StartHolds k g.card h = starts_hold k g.card variables g.kind g.start in
    let n : ℕ = most_blocks k (digits code).block_unit in
    let b : ℕ = most_boot_blocks k in
    let run : RunOf k entries g.card h = greatest_runs k code entries variables g is within in
    let last : StillPair k n b run.last run.host =
    last_pair k n b entries g.card h run.pairs run.last run.host s.pair (greatest_sizes k code variables g) run.goes in
    let same : pair_code run.last run.host ≡ code_after code entries = run_end k code entries variables g run in
    record {
      before = record { card = g.card; kind = g.kind; start = g.start; shape = g.shape variables; run = run; end = same };
      event_made = event_for k event position run.last run.host;
      is = event_is k event position run.last run.host;
      made = event_made k event position run.last run.host;
      illegal = λ x is_event made legal.
          let yes : legal_code k (pair_code run.last run.host) (event_of x) ≡ true = (legal_is_exact k x run.last run.host last.pair made).0 legal in
          let here : legal_code k (code_after code entries) event ≡ true =
          subst (λ v. legal_code k v event ≡ true) same (subst (λ v. legal_code k (pair_code run.last run.host) v ≡ true) is_event yes) in
          let bad : true ≡ false = sym here ∙ illegal in
          cc;
      bounds = λ ask order is_ask asks.
          subst (λ e. InBounds (event_for k e position run.last run.host) run.last ↔ CommandWithin n b (code_after code entries) ask position) (sym is_ask)
          (subst (λ v. InBounds (event_for k (Send ask) position run.last run.host) run.last ↔ CommandWithin n b v ask position) same
          (command_bounds k n b run.last run.host ask order position last.pair last.sizes asks));
    }
