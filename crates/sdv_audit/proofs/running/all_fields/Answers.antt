use Rattle.std.proofs.Common.{◌∙◌, ap, [], ◌∷◌}
use Rattle.sdv_audit.specs.declared.running.TheConstants.{STATES, TRANSFERS, ERASE_STAGES, BLOCK_UNITS, LENGTHS, APPLICATION_FLAGS, WIDTHS, PARTITIONS, ERRORS}
use Rattle.sdv_audit.specs.AnyShape.{spread}
use Rattle.sdv_audit.proofs.running.all_fields.Goals as goal

pub returns : goal.returns
returns c =
    (c.in_ok-all.ensures ∙ ap (spread ERRORS) (c.as_slice-8.ensures.value
    ∙ (c.in_ok-partitions.ensures ∙ ap (spread PARTITIONS) (c.as_slice-7.ensures.value
    ∙ (c.in_ok-widths.ensures ∙ ap (spread WIDTHS) (c.as_slice-6.ensures.value
    ∙ (c.in_ok-flags.ensures ∙ ap (spread APPLICATION_FLAGS) (c.as_slice-5.ensures.value
    ∙ (c.in_ok-lengths.ensures ∙ ap (spread LENGTHS) (c.as_slice-4.ensures.value
    ∙ (c.in_ok-units.ensures ∙ ap (spread BLOCK_UNITS) (c.as_slice-3.ensures.value
    ∙ (c.in_ok-stages.ensures ∙ ap (spread ERASE_STAGES) (c.as_slice-2.ensures.value
    ∙ (c.in_ok-transfers.ensures ∙ ap (spread TRANSFERS) (c.as_slice.ensures.value
    ∙ (c.in_ok-states.ensures ∙ ap (λ v. spread STATES (v ∷ [])) c.matched.ensures)))))))))))))))))
