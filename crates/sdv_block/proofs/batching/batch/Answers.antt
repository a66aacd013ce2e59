use Rattle.std.proofs.Common.{◌≡◌, true, sym, ◌∙◌}
use Rattle.std.specs.List.{list_all}
use Rattle.sdv_block.specs.Batch.{is_in_range}
use Rattle.sdv_block.proofs.BatchLaws.{script_if, served_if, refused_if}
use Rattle.sdv_block.proofs.batching.batch.Goals as goal

pub returns-clause-script : goal.returns-clause-script
returns-clause-script c =
    let fit : list_all is_in_range c.args.requests.now ≡ true = sym c.are_in_range.ensures ∙ c.if-not-are_in_range.false in
    script_if c.script_text.result c.args.kind c.args.requests.now fit c.script_text.ensures.short

pub returns-clause-served : goal.returns-clause-served
returns-clause-served c =
    let fit : list_all is_in_range c.args.requests.now ≡ true = sym c.are_in_range.ensures ∙ c.if-not-are_in_range.false in
    served_if c.script_text.result c.args.kind c.args.requests.now (sym c.is_empty.ensures ∙ c.if-is_empty.false) fit c.script_text.ensures.short

pub returns-clause-refused : goal.returns-clause-refused
returns-clause-refused c =
    let fit : list_all is_in_range c.args.requests.now ≡ true = sym c.are_in_range.ensures ∙ c.if-not-are_in_range.false in
    refused_if c.script_text.result c.args.kind c.args.requests.now (sym c.is_empty.ensures ∙ c.if-is_empty.false) fit c.script_text.ensures.long
