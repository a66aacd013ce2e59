use Rattle.std.proofs.Common.{◌≡◌, ◌∙◌, Bor, None, Option, Some, ap, is_some, option_map, refl}
use Rattle.sdv_program.specs.Commands.{seen_command}
use Rattle.sdv_program.specs.declared.table.CommandEntry.{CommandEntry as Entry}
use Rattle.sdv_program.proofs.pages.command_named.Goals as goal

mapped : {A B : Type 0} (f : A → B) (o : Option A) → is_some o ≡ is_some (option_map f o)
mapped f None = refl
mapped f (Some x) = refl

pub returns : goal.returns
returns c = mapped (λ (entry : Bor Entry). seen_command entry.now) c.command_in.result ∙ ap is_some c.command_in.ensures
