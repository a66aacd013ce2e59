use Rattle.std.proofs.Common.{ℕ, List, rules, subst}
use Rattle.sdv_explain.specs.Lines.{line_at}
use Rattle.sdv_explain.specs.Places.{IsPlaceIn}
use Rattle.sdv_explain.proofs.hints.page.fault_page.Goals as goal

pub returns : goal.returns
returns c = record {
  place = c.in_ok-told.told.place;
  line = subst (λ (t : List ℕ). IsPlaceIn (line_at c.args.fault.line t) c.in_ok-told.told.place) c.as_bytes.ensures.value c.in_ok-told.ensures;
  behind = c.in_ok-words.words.items;
  shown = search rules;
}
