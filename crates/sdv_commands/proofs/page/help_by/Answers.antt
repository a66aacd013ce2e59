use Rattle.std.proofs.Common.{◌≡◌, ◌≤◌, ℕ, List, [], ◌∷◌, Bor, false, arith, length, refl, sym}
use Rattle.clap.specs.Words.{Text}
use Rattle.clap.specs.Walk.{texts}
use Rattle.sdv_commands.specs.Page.{help_by}
use Rattle.sdv_commands.proofs.page.help_by.Goals as goal

-- a longer line asks for no page
longer : (name word : Text) (rest : List (Bor (List ℕ))) → 1 ≤ length rest → help_by name word (texts rest) ≡ false
longer name word [] more = absurd (omega (arith, more))
longer name word (w ∷ ws) more = refl

pub returns-in-len1-up : goal.returns-in-len1-up
returns-in-len1-up c = sym (longer c.args.name.now c.args.word.now c.args.rest.now c.in-len1-up.len_at_least)
