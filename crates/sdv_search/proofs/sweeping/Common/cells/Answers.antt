use Rattle.std.proofs.Common.{refl, rules}
use native.Mathlib.Numerals.{unary_clauses}
use Rattle.std.proofs.lemmas.List.Elements.{All-push}
use Rattle.sdv_search.specs.Swept.{IsCell}
use Rattle.sdv_search.specs.Table.{can_have_code}
use Rattle.sdv_search.proofs.SweptLaws.{codes_more, codes_same}
use Rattle.sdv_search.proofs.sweeping.Common.cells.Goals.{then-can_have+in_ok-end+in_ok-push, else-can_have}
use Rattle.sdv_search.proofs.sweeping.Common.cells.Goals as goal

pub loop-code-preserved : goal.loop-code-preserved
loop-code-preserved c = simp unary_clauses (elim c.if-can_have.branch [
  | then-can_have+in_ok-end+in_ok-push w ↦ rw (w.cells-is, w.in_ok-push.ensures.items) (
    codes_more (can_have_code c.args.next.now) c.loop-code.code c.loop-code.cells.items _ c.loop-code.invariant.0 refl (search rules),
    All-push (IsCell c.args.self.now.graph.now c.args.self.now.desc c.args.self.now.image.now c.args.self.now.input.now c.args.number)
        c.loop-code.cells.items _ c.loop-code.invariant.1 (search rules),
  )
  | else-can_have w ↦ rw w.cells-is (
    codes_same (can_have_code c.args.next.now) c.loop-code.code _ c.loop-code.invariant.0 (search rules),
    c.loop-code.invariant.1,
  )
])
