-- The forms of a part come from those of its parts, and are few enough to be counted.
use Rattle.std.proofs.Common.{rules, ◌≡◌, ◌+◌, ◌<◌, ◌^◌, [], ◌∷◌, ◌++◌, map, reverse, max, Some, inl, inr, refl, sym, ap, ◌∙◌, subst, arith}
use Rattle.sdv_graph.specs.Moves.{statements_moves, statement_moves}
use Rattle.sdv_graph.specs.Tree.{statements_of, ways_of, statement_of}
use Rattle.sdv_certify.specs.Spans.{spans_statements}
use Rattle.sdv_certify.specs.Forms.{leads_to, either_form, form_statements, forms_of_statements, full_form, in_full}
use Rattle.sdv_certify.specs.LoopTurns.{StatementsTurn, StatementTurns}
use Rattle.sdv_certify.proofs.FormLaws.{either_same, leads_same}
use Rattle.sdv_certify.proofs.SameForms.{same_before}
use Rattle.std.proofs.lemmas.List.{map-append}
use Rattle.sdv_graph.proofs.Sizes.{ways_size, statements_size, statement_size}
use Rattle.sdv_certify.proofs.RowLaws.{row_begins, row_fits, row_goes_on, row_before_end, row_forms_end}
use Rattle.sdv_certify.proofs.BoundLaws.{HasBoth, phase_both, choice_both, if_ok, form_same, room_first, room_send, room_last, room_before, room_body, forms_three, forms_first, forms_loop, before_whole, LoopParts}
use Rattle.sdv_certify.proofs.bounds.+forms.Goals as goal

pub put_block-put_stmt-requires : goal.put_block-put_stmt-requires
put_block-put_stmt-requires t c =
    let s = statement_of c.in-Then.stmt in
    let r = statements_of c.in-Then.rest.value in
    let m = subst (λ b. statements_moves (statements_of b) + max (leads_to c.args.after).base (leads_to c.args.out).base
    < 2 ^ 128) c.in-Then.is c.requires.few in
    let e : in_full c.in_ok-next-in-Then.next ≡ in_full (form_statements r c.args.after c.args.out) = search rules in
    let few = room_first s r c.in_ok-next-in-Then.next c.args.after c.args.out m e in
    let all = subst (λ b. StatementsTurn (statements_of b)) c.in-Then.is c.requires.turns in
    let one = all.0 in
    search rules

pub put_block-returns-in_ok-form-in-Then-clause-before : goal.put_block-returns-in_ok-form-in-Then-clause-before
put_block-returns-in_ok-form-in-Then-clause-before t c =
    let s = statement_of c.in-Then.stmt in
    let r = statements_of c.in-Then.rest.value in
    let e : in_full c.in_ok-next-in-Then.next ≡ in_full (form_statements r c.args.after c.args.out) = search rules in
    let f = c.in_ok-form-in-Then.ensures.before ∙ same_before s c.in_ok-next-in-Then.next
    (form_statements r c.args.after c.args.out) c.args.out c.args.out e refl in
    rw c.in-Then.is (ap Some f)

pub put_block-returns-in_ok-form-in-Then-clause-forms : goal.put_block-returns-in_ok-form-in-Then-clause-forms
put_block-returns-in_ok-form-in-Then-clause-forms t c =
    let s = statement_of c.in-Then.stmt in
    let r = statements_of c.in-Then.rest.value in
    let e : in_full c.in_ok-next-in-Then.next ≡ in_full (form_statements r c.args.after c.args.out) = search rules in
    let f : map full_form c.put_block.new.forms.items ≡ map full_form c.args.forms.now.items ++ reverse
    (map full_form (forms_of_statements r c.args.after c.args.out)) = search rules in
    rw c.in-Then.is
    (forms_first s r c.in_ok-next-in-Then.next c.args.after c.args.out c.args.forms.now.items c.put_block.new.forms.items c.put_stmt.new.forms.items e
    c.in_ok-form-in-Then.ensures.forms f)

pub put_stmt-sends_then-requires : goal.put_stmt-sends_then-requires
put_stmt-sends_then-requires t c =
    let w = ways_of c.in-Send.cases in
    let m = subst (λ s. statement_moves (statement_of s) + max (leads_to c.args.after).base (leads_to c.args.out).base < 2 ^ 128) c.in-Send.is c.requires.few in
    room_send w c.in_ok-next-in-Send.next c.args.after c.args.out m c.in_ok-next-in-Send.ensures.before

pub put_stmt-put_both-requires : goal.put_stmt-put_both-requires
put_stmt-put_both-requires t c =
    let a = statements_of c.in-Phase.a.value in
    let b = statements_of c.in-Phase.b.value in
    let both : HasBoth (statement_of c.args.stmt.now) a b = elim c.in-Phase.is [
      | inl h ↦ subst (λ s. HasBoth (statement_of s) a b) (sym h.1) (phase_both h.0 a b)
      | inr h ↦ subst (λ s. HasBoth (statement_of s) a b) (sym h.1) (choice_both h.0 a b)
    ] in
    let m = both.moves in
    let z = both.size in
    let f = c.requires.few in
    let few : statements_moves a + statements_moves b + max (leads_to c.args.after).base (leads_to c.args.out).base < 2 ^ 128 = omega (arith, m, f) in
    let small : 1 + statements_size a + statements_size b < statement_size (statement_of c.args.stmt.now) = omega (arith, z) in
    let turned = both.turns c.requires.turns in
    let one = turned.0 in
    let other = turned.1 in
    search rules

pub put_stmt-put_loop-requires : goal.put_stmt-put_loop-requires
put_stmt-put_loop-requires t c =
    let few = subst (λ s. statement_moves (statement_of s) + max (leads_to c.args.after).base (leads_to c.args.out).base < 2 ^ 128) c.in-Loop.is c.requires.few
    in
    let all = subst (λ s. StatementTurns (statement_of s)) c.in-Loop.is c.requires.turns in
    let turned = all.0 in
    let one = all.1 in
    let other = all.2 in
    search rules

pub put_stmt-returns-in-Phase-clause-before : goal.put_stmt-returns-in-Phase-clause-before
put_stmt-returns-in-Phase-clause-before t c =
    let a = statements_of c.in-Phase.a.value in
    let b = statements_of c.in-Phase.b.value in
    let both : HasBoth (statement_of c.args.stmt.now) a b = elim c.in-Phase.is [
      | inl h ↦ subst (λ s. HasBoth (statement_of s) a b) (sym h.1) (phase_both h.0 a b)
      | inr h ↦ subst (λ s. HasBoth (statement_of s) a b) (sym h.1) (choice_both h.0 a b)
    ] in
    rw (both.before c.args.after c.args.out, ← c.deref-in-Phase.ensures, ← c.deref-in-Phase-2.ensures) c.put_both.ensures.before

pub put_stmt-returns-in-Phase-clause-forms : goal.put_stmt-returns-in-Phase-clause-forms
put_stmt-returns-in-Phase-clause-forms t c =
    let a = statements_of c.in-Phase.a.value in
    let b = statements_of c.in-Phase.b.value in
    let both : HasBoth (statement_of c.args.stmt.now) a b = elim c.in-Phase.is [
      | inl h ↦ subst (λ s. HasBoth (statement_of s) a b) (sym h.1) (phase_both h.0 a b)
      | inr h ↦ subst (λ s. HasBoth (statement_of s) a b) (sym h.1) (choice_both h.0 a b)
    ] in
    rw (both.forms c.args.after c.args.out, ← c.deref-in-Phase.ensures, ← c.deref-in-Phase-2.ensures) c.put_both.ensures.forms

pub put_stmt-returns-in-Loop-clause-before : goal.put_stmt-returns-in-Loop-clause-before
put_stmt-returns-in-Loop-clause-before t c =
    rw (c.in-Loop.is, ← c.deref.ensures, ← c.deref-in-Loop.ensures) c.put_loop.ensures.before

pub put_stmt-returns-in-Loop-clause-forms : goal.put_stmt-returns-in-Loop-clause-forms
put_stmt-returns-in-Loop-clause-forms t c =
    rw (c.in-Loop.is, ← c.deref.ensures, ← c.deref-in-Loop.ensures) c.put_loop.ensures.forms

pub put_both-returns-clause-before : goal.put_both-returns-clause-before
put_both-returns-clause-before t c =
    let a = statements_of c.args.a.now in
    let b = statements_of c.args.b.now in
    let x = form_statements a c.args.after c.args.out in
    let y = form_statements b c.args.after c.args.out in
    let e : in_full c.in_ok-one.one ≡ in_full x = search rules in
    let f : in_full c.in_ok-other.other ≡ in_full y = search rules in
    let g = c.leads_to.ensures ∙ leads_same c.either_form.result (either_form x y)
    (c.either_form.ensures ∙ either_same c.in_ok-one.one x c.in_ok-other.other y e f) in
    form_same c.push.result c.leads_to.result (leads_to (either_form x y)) c.push.ensures.same g

pub put_both-returns-clause-forms : goal.put_both-returns-clause-forms
put_both-returns-clause-forms t c =
    let a = statements_of c.args.a.now in
    let b = statements_of c.args.b.now in
    let x = form_statements a c.args.after c.args.out in
    let y = form_statements b c.args.after c.args.out in
    let e : in_full c.in_ok-one.one ≡ in_full x = search rules in
    let f : in_full c.in_ok-other.other ≡ in_full y = search rules in
    let g = c.leads_to.ensures ∙ leads_same c.either_form.result (either_form x y)
    (c.either_form.ensures ∙ either_same c.in_ok-one.one x c.in_ok-other.other y e f) in
    let one : map full_form c.put_block.new.forms.items ≡ map full_form c.args.forms.now.items ++ reverse
    (map full_form (forms_of_statements b c.args.after c.args.out)) = search rules in
    let two : map full_form c.put_block-2.new.forms.items
    ≡ map full_form c.put_block.new.forms.items ++ reverse (map full_form (forms_of_statements a c.args.after c.args.out)) = search rules in
    if_ok c.push.result (λ pushed. forms_three c.args.forms.now.items c.put_block.new.forms.items c.put_block-2.new.forms.items c.push.new.forms.items
    c.leads_to.result (leads_to (either_form x y))
    (forms_of_statements a c.args.after c.args.out) (forms_of_statements b c.args.after c.args.out) pushed two one g) c.push.ensures.items

pub put_loop-last_turn-last-requires : goal.put_loop-last_turn-last-requires
put_loop-last_turn-last-requires t c =
    let a = statements_of c.args.a.now in
    let e : c.block_spans-body.result ≡ spans_statements a = search rules in
    room_last c.args.count a (statements_of c.args.b.now) c.block_spans-body.result c.args.after c.args.out c.leads_to-2.result c.requires.few e
    c.leads_to-2.ensures

pub put_loop-put_block-requires-2 : goal.put_loop-put_block-requires-2
put_loop-put_block-requires-2 t c =
    let n = c.args.count in
    let a = statements_of c.args.a.now in
    let b = statements_of c.args.b.now in
    let after = c.args.after in
    let out = c.args.out in
    let u = c.block_spans-body.result in
    let spans : u ≡ spans_statements a = search rules in
    let before : in_full c.in_ok-other.other ≡ in_full (form_statements b after out) = search rules in
    let parts : LoopParts a b after out u c.in_ok-other.other c.leads_to.result c.leads_to-2.result c.last_turn-last.result
    = record {
      spans = spans;
      before = before;
      other_is = c.leads_to.ensures;
      behind_is = c.leads_to-2.ensures;
      last_is = c.last_turn-last.ensures;
    } in
    let one = c.requires.turns.0 in
    let two = c.requires.turns.1 in
    let few = room_body a b after out u c.in_ok-other.other c.leads_to.result c.leads_to-2.result c.last_turn-last.result parts n
    c.head_form-head.result c.inside_too.result one c.requires.few c.head_form-head.ensures c.inside_too.ensures in
    search rules

pub put_loop-before_loop-requires : goal.put_loop-before_loop-requires
put_loop-before_loop-requires t c =
    let n = c.args.count in
    let a = statements_of c.args.a.now in
    let b = statements_of c.args.b.now in
    let after = c.args.after in
    let out = c.args.out in
    let u = c.block_spans-body.result in
    let spans : u ≡ spans_statements a = search rules in
    let before : in_full c.in_ok-other.other ≡ in_full (form_statements b after out) = search rules in
    let parts : LoopParts a b after out u c.in_ok-other.other c.leads_to.result c.leads_to-2.result c.last_turn-last.result
    = record {
      spans = spans;
      before = before;
      other_is = c.leads_to.ensures;
      behind_is = c.leads_to-2.ensures;
      last_is = c.last_turn-last.ensures;
    } in
    room_before a b after out u c.in_ok-other.other c.leads_to.result c.leads_to-2.result c.last_turn-last.result parts n c.requires.few

pub put_loop-returns-clause-before : goal.put_loop-returns-clause-before
put_loop-returns-clause-before t c =
    let n = c.args.count in
    let a = statements_of c.args.a.now in
    let b = statements_of c.args.b.now in
    let after = c.args.after in
    let out = c.args.out in
    let u = c.block_spans-body.result in
    let spans : u ≡ spans_statements a = search rules in
    let before : in_full c.in_ok-other.other ≡ in_full (form_statements b after out) = search rules in
    let parts : LoopParts a b after out u c.in_ok-other.other c.leads_to.result c.leads_to-2.result c.last_turn-last.result
    = record {
      spans = spans;
      before = before;
      other_is = c.leads_to.ensures;
      behind_is = c.leads_to-2.ensures;
      last_is = c.last_turn-last.ensures;
    } in
    before_whole a b after out u c.in_ok-other.other c.leads_to.result c.leads_to-2.result c.last_turn-last.result parts n c.before_loop.result
    c.before_loop.ensures

pub put_loop-returns-clause-forms : goal.put_loop-returns-clause-forms
put_loop-returns-clause-forms t c =
    let n = c.args.count in
    let a = statements_of c.args.a.now in
    let b = statements_of c.args.b.now in
    let after = c.args.after in
    let out = c.args.out in
    let u = c.block_spans-body.result in
    let spans : u ≡ spans_statements a = search rules in
    let before : in_full c.in_ok-other.other ≡ in_full (form_statements b after out) = search rules in
    let parts : LoopParts a b after out u c.in_ok-other.other c.leads_to.result c.leads_to-2.result c.last_turn-last.result
    = record {
      spans = spans;
      before = before;
      other_is = c.leads_to.ensures;
      behind_is = c.leads_to-2.ensures;
      last_is = c.last_turn-last.ensures;
    } in
    let one : map full_form c.put_block.new.forms.items
    ≡ map full_form c.args.forms.now.items ++ reverse (map full_form (forms_of_statements b after out)) = search rules in
    let two : map full_form c.put_block-2.new.forms.items
    ≡ map full_form c.put_block.new.forms.items ++ reverse
    (map full_form (forms_of_statements a (Some c.head_form-head.result) c.inside_too.result)) = search rules in
    forms_loop a b after out u c.in_ok-other.other c.leads_to.result c.leads_to-2.result c.last_turn-last.result parts n c.head_form-head.result
    c.inside_too.result c.args.forms.now.items c.put_block.new.forms.items c.put_block-2.new.forms.items c.push.new.forms.items
    c.head_form-head.ensures c.inside_too.ensures c.in_ok-push.ensures.items two one

pub put_cases-loop-block-init : goal.put_cases-loop-block-init
put_cases-loop-block-init t c =
    row_begins (ways_size (ways_of c.args.cases.now)) c.args.after c.args.out (ways_of c.args.cases.now) c.args.forms.now.items _ c.in_ok-blocks.ensures
    (omega arith) c.requires.few c.requires.turns

pub put_cases-put_block-requires : goal.put_cases-put_block-requires
put_cases-put_block-requires t c =
    let size = ways_size (ways_of c.args.cases.now) in
    let front = map (λ b. statements_of b.now) c.pop.new.self.items in
    let blocks = map (λ b. statements_of b.now) c.loop-block.blocks.items in
    let b = statements_of c.in-Some.block.now in
    let is : blocks ≡ front ++ b ∷ [] = ap (map (λ b. statements_of b.now)) c.in-Some.ensures.items
    ∙ map-append (λ b. statements_of b.now) c.pop.new.self.items (c.in-Some.block ∷ []) in
    let fits = row_fits size c.args.after c.args.out
    (ways_of c.args.cases.now) c.args.forms.now.items front blocks b c.loop-block.before c.loop-block.forms.items is c.loop-block.invariant in
    let small = fits.small in
    let few = fits.few in
    let turn = fits.turns in
    search rules

pub put_cases-loop-block-preserved : goal.put_cases-loop-block-preserved
put_cases-loop-block-preserved t c =
    let size = ways_size (ways_of c.args.cases.now) in
    let front = map (λ b. statements_of b.now) c.pop.new.self.items in
    let blocks = map (λ b. statements_of b.now) c.loop-block.blocks.items in
    let b = statements_of c.in-Some.block.now in
    let is : blocks ≡ front ++ b ∷ [] = ap (map (λ b. statements_of b.now)) c.in-Some.ensures.items
    ∙ map-append (λ b. statements_of b.now) c.pop.new.self.items (c.in-Some.block ∷ []) in
    row_goes_on size c.args.after c.args.out
    (ways_of c.args.cases.now) c.args.forms.now.items front blocks b c.loop-block.before c.loop-block.forms.items is c.loop-block.invariant
    c.in_ok-one.one c.either_form-before.result c.put_block.new.forms.items c.in_ok-one.ensures.before c.either_form-before.ensures c.in_ok-one.ensures.forms

pub put_cases-returns-clause-before : goal.put_cases-returns-clause-before
put_cases-returns-clause-before t c =
    let size = ways_size (ways_of c.args.cases.now) in
    let e : map (λ b. statements_of b.now) c.loop-block.blocks.items ≡ [] = search rules in
    row_before_end size c.args.after c.args.out
    (ways_of c.args.cases.now) c.args.forms.now.items _ c.loop-block.before c.loop-block.forms.items e c.loop-block.invariant

pub put_cases-returns-clause-forms : goal.put_cases-returns-clause-forms
put_cases-returns-clause-forms t c =
    let size = ways_size (ways_of c.args.cases.now) in
    let e : map (λ b. statements_of b.now) c.loop-block.blocks.items ≡ [] = search rules in
    row_forms_end size c.args.after c.args.out
    (ways_of c.args.cases.now) c.args.forms.now.items _ c.loop-block.before c.loop-block.forms.items e c.loop-block.invariant
