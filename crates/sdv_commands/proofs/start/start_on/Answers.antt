use Rattle.std.proofs.Common.{◌≡◌, ◌∙◌, ap, map, drop, refl, Some}
use Rattle.std.specs.Prelude.{string_bytes}
use Rattle.clap.specs.Walk.{texts}
use Rattle.sdv_commands.specs.Ends.{for_memory}
use Rattle.sdv_program.specs.declared.fault.Fault.TheVariants.{Memory}
use Rattle.sdv_program.proofs.StartLaws.{keeps_same, map_but_the_first}
use Rattle.sdv_commands.proofs.start.start_on.Goals as goal

pub returns-in-Ok : goal.returns-in-Ok
returns-in-Ok g c =
    let words : texts c.as_slice.result.now ≡ drop 1 (map string_bytes c.args.words.now) =
    ap texts c.as_slice.ensures.value ∙ c.in-Ok.ensures ∙ ap (map string_bytes) c.but_the_first.ensures ∙ map_but_the_first string_bytes c.args.words.now in
    rw words at c.program_over_lines.ensures.ended

pub returns-in-Err : goal.returns-in-Err
returns-in-Err g c = record {
  outcome = Some Memory;
  status_is = c.report.ensures.status;
  ended = for_memory refl refl (keeps_same _);
  said = c.report.ensures.said;
}
