use Rattle.sdv_text.proofs.WrittenLaws.{then_more, part_before}
use Rattle.sdv_script.proofs.printing.put_spaced.Goals as goal

pub returns-in-Ok : goal.returns-in-Ok
returns-in-Ok g c = then_more c.write_text-in-Ok.result _ _ _ _ _ c.in-Ok.ensures c.write_text-in-Ok.ensures

pub returns-in-Err : goal.returns-in-Err
returns-in-Err g c = part_before _ _ _ _ c.in-Err.ensures
