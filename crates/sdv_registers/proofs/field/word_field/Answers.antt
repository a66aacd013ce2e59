use Rattle.std.proofs.Common.{◌∙◌, sym}
use Rattle.sdv_registers.proofs.FieldLaws.{field-bits}
use Rattle.sdv_registers.proofs.field.word_field.Goals as goal

pub returns-clause-value : goal.returns-clause-value
returns-clause-value c =
    c.cut.ensures ∙ sym (field-bits 31 c.args.high c.args.low c.args.word c.requires.order c.requires.within)
