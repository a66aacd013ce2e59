use Rattle.std.proofs.Common.{ap, inr, option_map, rules, sym}
use Rattle.sdv_commands.proofs.drive.drive_traced.Goals as goal

pub returns-then-not-finish-clause-fails : goal.returns-then-not-finish-clause-fails
returns-then-not-finish-clause-fails g c = (
  sym (ap (option_map (λ file. file.now)) c.in-Some.is),
  inr (
    c.finish.ensures.unfinished (search rules),
    record {
      outcome = c.in_ok-outcome-in-Some.outcome;
      out = _;
      out' = _;
      trace = _;
      trace' = _;
      drive = c.in_ok-outcome-in-Some.ensures.drove;
    },
  ),
)
