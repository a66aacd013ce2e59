use Rattle.sdv_facts.proofs.AnyStart.{scripts_anywhere}
use Rattle.sdv_facts.proofs.laws.resets_let_any_card_start.Goals as goal

pub returns : goal.returns
returns c = scripts_anywhere
