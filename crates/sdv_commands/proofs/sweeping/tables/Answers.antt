use Rattle.std.proofs.Common.{◌≡◌, ◌∙◌, arith, length, option_map, sym, subst, ap, inr, List, ◌||◌}
use Rattle.std.specs.Borrow.{Bor}
use Rattle.std.specs.Prelude.{slice_get}
use Rattle.std.proofs.lemmas.List.{length-map}
use Rattle.std.proofs.lemmas.Option.{slice_get-map, slice_get-get_or}
use Rattle.clap.specs.Walk.{texts}
use Rattle.clap.specs.Words.{Text}
use native.Mathlib.Numerals.{unary_clauses}
use Rattle.sdv_search.specs.Table.{fails}
use Rattle.sdv_commands.specs.Sweep.{AreUnswept, SweptUpTo}
use Rattle.sdv_commands.proofs.SweepLaws.{passed_on, short}
use Rattle.sdv_commands.proofs.sweeping.tables.Goals as goal

pub loop-card-preserved : goal.loop-card-preserved
loop-card-preserved g c = simp unary_clauses (
  c.loop-card.is_found,
  c.loop-card.invariant,
  record {
    file = _;
    named = slice_get-map (λ file. file.now) c.args.names.now.more_cards.items c.loop-card.card-index
        ∙ ap (option_map (λ file. file.now))
        (ap (λ (cards : List (Bor Text)). slice_get cards c.loop-card.card-index) (sym c.deref-card-items.ensures.value)
        ∙ slice_get-get_or c.deref-card-items.result.now c.loop-card.card-index _ c.loop-card-test.true);
    table = c.in_ok-table.table;
    swept = c.in_ok-table.ensures.swept;
    found = c.either-is_found.ensures ∙ ap (λ b. c.loop-card.is_found || b) c.fails.ensures;
  },
)

pub returns-in_err-table_text-clause-refused : goal.returns-in_err-table_text-clause-refused
returns-in_err-table_text-clause-refused g c =
    let files = g.S.Store.known c.args.files.now in
    let given = c.args.given.now in
    let more = texts c.args.names.now.more_cards.items in
    passed_on (AreUnswept files more given.script.now given.card.now given.image.now) _ (short files given.script.now more given.card.now given.image.now)
    c.from_residual-in_err-table_text.result c.from_residual-in_err-table_text.ensures.1

pub returns-in_err-extend_from_slice-clause-refused : goal.returns-in_err-extend_from_slice-clause-refused
returns-in_err-extend_from_slice-clause-refused g c =
    let files = g.S.Store.known c.args.files.now in
    let given = c.args.given.now in
    let more = texts c.args.names.now.more_cards.items in
    passed_on (AreUnswept files more given.script.now given.card.now given.image.now) _ (short files given.script.now more given.card.now given.image.now)
    c.from_residual-in_err-extend_from_slice.result c.from_residual-in_err-extend_from_slice.ensures.1

pub returns-in_err-table_text-2-clause-refused : goal.returns-in_err-table_text-2-clause-refused
returns-in_err-table_text-2-clause-refused g c =
    let files = g.S.Store.known c.args.files.now in
    let given = c.args.given.now in
    let more = texts c.args.names.now.more_cards.items in
    passed_on (AreUnswept files more given.script.now given.card.now given.image.now) _ (short files given.script.now more given.card.now given.image.now)
    c.from_residual-in_err-table_text-2.result c.from_residual-in_err-table_text-2.ensures.1

pub returns-in_err-table-clause-refused : goal.returns-in_err-table-clause-refused
returns-in_err-table-clause-refused g c =
    let files = g.S.Store.known c.args.files.now in
    let given = c.args.given.now in
    let more = texts c.args.names.now.more_cards.items in
    let named = slice_get-map (λ (file : Bor Text). file.now) c.args.names.now.more_cards.items c.loop-card.card-index
    ∙ ap (option_map (λ (file : Bor Text). file.now))
    (ap (λ (cards : List (Bor Text)). slice_get cards c.loop-card.card-index) (sym c.deref-card-items.ensures.value)
    ∙ slice_get-get_or c.deref-card-items.result.now c.loop-card.card-index _ c.loop-card-test.true) in
    passed_on (AreUnswept files more given.script.now given.card.now given.image.now) c.in_err-table.field-0.0
    (inr (c.loop-card.card-index, _, named, c.in_err-table.ensures.refused)) c.from_residual-in_err-table.result c.from_residual-in_err-table.ensures.1

pub returns-clause-swept : goal.returns-clause-swept
returns-clause-swept g c =
    let given = c.args.given.now in
    let more = texts c.args.names.now.more_cards.items in
    let here : length c.deref-card-items.result.now ≡ length more =
    ap length c.deref-card-items.ensures.value ∙ sym (length-map c.args.names.now.more_cards.items (λ file. file.now)) in
    let end : c.loop-card.card-index ≡ length more = omega (arith, here, c.loop-card-test.false, c.loop-card.auto) in (
      c.in_ok-first.first,
      c.in_ok-first.ensures.swept,
      c.loop-card.is_found,
      subst (λ n. SweptUpTo (g.S.Store.known c.args.files.now) given.script.now given.input.now more n (fails c.in_ok-first.first) c.loop-card.is_found)
          end c.loop-card.invariant,
      c.found_if.ensures.same,
    )
