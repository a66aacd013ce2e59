use Rattle.sdv_script.specs.Shown.{shown}
use Rattle.sdv_certify.proofs.TurnLaws.{script_turns}
use Rattle.sdv_certify.proofs.bounds.bound_forms.Goals as goal

pub block_forms-requires-clause-turns : goal.block_forms-requires-clause-turns
block_forms-requires-clause-turns c = rw c.body.ensures.body (script_turns (shown c.args.script.now) c.body.ensures.script)
