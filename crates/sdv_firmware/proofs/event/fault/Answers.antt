use Rattle.std.proofs.Common.{◌≡◌, ◌∙◌, ◌<◌, get_or, ℕ, ◌+◌, slice_set, arith, ap, sym, subst, min, rules}
use Rattle.std.proofs.lemmas.List.Edits.{fill_by_more}
use Rattle.sdv_table.specs.Reading.{name_of}
use Rattle.sdv_firmware.proofs.Names.{length-name_of}
use Rattle.sdv_firmware.proofs.event.fault.Goals as goal

pub loop-at-preserved : goal.loop-at-preserved
loop-at-preserved c =
    let name = name_of c.args.name.length c.args.name.words.now in
    let at = c.loop-at.at in
    record {
      room = search rules;
      bytes = subst (λ b. (k : ℕ) → k < at + 1 → get_or (slice_set c.loop-at.bytes at b) k 0 ≡ get_or name k 0) (sym c.byte_at.ensures)
          (fill_by_more (λ k. get_or name k 0) c.loop-at.bytes at 0 (omega (arith, c.loop-at.invariant.room, c.loop-at-test.true, c.min-count.ensures)) c.loop-at.invariant.bytes);
    }

pub returns-clause-fault : goal.returns-clause-fault
returns-clause-fault c = record {
  what_is = search rules;
  count_is = c.min-count.ensures ∙ ap (λ n. min n 16) (c.from.ensures ∙ sym (length-name_of c.args.name.length c.args.name.words.now));
  bytes_are = λ k less. c.loop-at.invariant.bytes k (omega (arith, less, c.loop-at-test.false));
}
