use Rattle.std.proofs.Common.{rules}
use Rattle.sdv_script.specs.Shown.{shown}
use Rattle.sdv_search.specs.Refuted.{IsRefutation}
use Rattle.sdv_search.proofs.RefutedLaws.{popped}
use Rattle.sdv_search.proofs.brief.first_run.Goals as goal

pub returns : goal.returns
returns c = popped (IsRefutation (shown c.args.script.now).text) c.in_ok-refutations.field-0.refutations.items _ _ c.pop.result (search rules)
    c.pop.ensures.cases c.pop.ensures.value c.in_ok-refutations.ensures.found
