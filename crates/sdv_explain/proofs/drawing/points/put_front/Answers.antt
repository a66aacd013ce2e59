use Rattle.sdv_explain.proofs.PieceLaws.{three_pieces}
use Rattle.sdv_explain.proofs.drawing.points.put_front.Goals as goal

pub returns : goal.returns
returns c =
    three_pieces c.put_numbered.result c.args.text.now.items c.put_with_number.new.text.items c.put_with_number-2.new.text.items
    c.put_numbered.new.text.items _ _ _ c.in_ok-put_with_number.ensures c.in_ok-put_with_number-2.ensures c.put_numbered.ensures
