use Rattle.std.proofs.Common.{rules, refl}
use Rattle.std.specs.Prelude.{string_bytes}
use Rattle.sdv_behavior.specs.Gives.{Describes}
use Rattle.sdv_search.specs.Losses.{IsLack, IsSeenRun}
use Rattle.sdv_search.proofs.loss.confirm.Goals as goal

pub returns-then-fits_file : goal.returns-then-fits_file
returns-then-fits_file c =
    let described : Describes (string_bytes c.args.likely.card) c.in-Ok.desc = rw c.as_str.ensures.value at c.in-Ok.ensures in
    let seen : IsSeenRun c.args.graph.now c.in-Ok.desc c.as_slice.result.now c.as_slice-2.result.now c.args.likely.lack.place c.in-Some.seen =
    rw c.in-Some.is at c.in_ok-seen.ensures in
    let by_schedule : IsSeenRun c.args.graph.now c.in-Ok.desc c.args.likely.schedule.items c.as_slice-2.result.now c.args.likely.lack.place c.in-Some.seen =
    rw c.as_slice.ensures.value at seen in
    let run : IsSeenRun c.args.graph.now c.in-Ok.desc c.args.likely.schedule.items c.args.likely.input.items c.args.likely.lack.place c.in-Some.seen =
    rw c.as_slice-2.ensures.value at by_schedule in
    let lacks : IsLack c.args.likely.lack.why c.args.likely.input.items c.in-Some.seen.was c.in-Some.seen.there = search rules in
    record {
      desc = c.in-Ok.desc;
      described = described;
      seen = c.in-Some.seen;
      trace = refl;
      run = run;
      lacks = lacks;
      within = search rules;
      fits = search rules;
    }
