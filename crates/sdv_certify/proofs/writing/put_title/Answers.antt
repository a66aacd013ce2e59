use Rattle.std.proofs.Common.{◌∙◌}
use Rattle.sdv_certify.proofs.Written.{title_made, same_text}
use Rattle.sdv_certify.proofs.writing.put_title.Goals as goal

pub returns : goal.returns
returns g c =
    same_text c.write_text.result _ _ _ _ (c.as_slice.ensures.value
    ∙ title_made c.args.version c.new-line.result.items c.push_version.new.line.items c.push.new.line.items c.push_number.new.line.items c.push-2.new.line.items
    c.args.count c.new-line.ensures c.push_version.ensures.items c.push.ensures.items c.push_number.ensures.items c.push-2.ensures.items) c.write_text.ensures
