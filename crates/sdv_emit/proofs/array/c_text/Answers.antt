use Rattle.std.proofs.Common.{arith, ap, ◌∙◌}
use Rattle.sdv_emit.specs.CText.{c_text}
use Rattle.sdv_emit.specs.Reading.{words_in}
use Rattle.sdv_emit.proofs.Pieces.{whole_of_four}
use Rattle.sdv_emit.proofs.Texts.{text_read}
use Rattle.sdv_emit.proofs.array.c_text.Goals as goal

pub returns-clause-text : goal.returns-clause-text
unfolding c_text
returns-clause-text c =
    whole_of_four c.new-text.result.items c.put_top.new.text.items c.put_declaration.new.text.items c.put_array.new.text.items c.put_count.new.text.items _ _ _ _
    c.new-text.ensures.items c.in_ok-put_top.ensures c.in_ok-put_declaration.ensures c.in_ok-put_array.ensures c.in_ok-put_count.ensures

pub returns-clause-read : goal.returns-clause-read
returns-clause-read c =
    λ is. ap words_in (returns-clause-text c)
    ∙ text_read c.args.labels.now.file.now c.args.labels.now.name.now c.args.bound c.args.graph.now c.args.words.now is
    (λ i. omega (arith, c.type_inv.words i)) c.requires.heads
