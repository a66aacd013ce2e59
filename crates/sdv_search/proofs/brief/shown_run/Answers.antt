use Rattle.std.proofs.Common.{rules}
use Rattle.sdv_script.specs.Shown.{shown}
use Rattle.sdv_search.specs.Refuted.{IsRefutation}
use Rattle.sdv_search.proofs.brief.shown_run.Goals as goal

pub returns-in_ok-words-in-Some : goal.returns-in_ok-words-in-Some
returns-in_ok-words-in-Some c =
    let refutes : IsRefutation (shown c.args.script.now).text c.in-Some.run' = search rules in
    (c.in-Some.run', refutes)
