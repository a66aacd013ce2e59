use Rattle.std.proofs.Common.{subst, sym}
use Rattle.sdv_check.specs.Headline.{EachRunOf}
use Rattle.sdv_check.proofs.TextRuns.{runs_of_text}
use Rattle.sdv_check.proofs.verifying.verify.Goals as goal

pub new-requires : goal.new-requires
new-requires c =
    let found = c.in-Ok-read.ensures.found in
    let closed = c.in-Ok-check.ensures.checked in
    ∣ record {
      script = c.args.script.now;
      certificate = c.args.certificate.now;
      accepted = record {
        graph = c.in-Ok.ensures;
        facts = c.in-Ok-read.certificate;
        text = record { limits = found.0; written = found.1 };
        closed = closed.0;
        bound = closed.1;
      };
    } ∣₁

pub returns-in-Ok-check-clause-headline : goal.returns-in-Ok-check-clause-headline
returns-in-Ok-check-clause-headline c =
    let runs = runs_of_text c.args.script.now c.in-Ok.graph c.in-Ok-read.certificate.points c.in-Ok-check.bound c.in-Ok.ensures c.in-Ok-check.ensures.promised in
    subst (λ a. EachRunOf c.args.script.now a.bound) (sym c.new.ensures) runs
