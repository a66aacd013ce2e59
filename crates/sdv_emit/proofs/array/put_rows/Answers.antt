use Rattle.sdv_emit.proofs.Pieces.{three_pieces}
use Rattle.sdv_emit.proofs.array.put_rows.Goals as goal

pub returns : goal.returns
returns c =
    three_pieces c.put-2.result c.args.text.now.items c.put.new.text.items c.put_words.new.text.items c.put-2.new.text.items _ _ _ c.in_ok-put.ensures
    c.in_ok-put_words.ensures c.put-2.ensures
