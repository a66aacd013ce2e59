use Rattle.std.proofs.Common.{◌≡◌, rules, Option, Some, None}
use Rattle.std.specs.Prelude.{IfNone}
use Rattle.sdv_certify.proofs.AssembledLaws.{closed_for}
use Rattle.sdv_verdict.proofs.judging.judge.Goals as goal

where_none : {A : Type 0} (o : Option A) (P : Type 0) → o ≡ None → IfNone o P → P
where_none None P is given = given
where_none (Some a) P is given = cc

pub accepted-requires : goal.accepted-requires
accepted-requires c =
    let none : c.in-Ok.field-0.refusal ≡ None = search rules in
    record {
      closed = closed_for c.args.script.now c.in-Ok.field-0.known.points (where_none c.in-Ok.field-0.refusal _ none c.in-Ok.ensures.certified)
          c.args.graph.now c.requires.graph;
    }
