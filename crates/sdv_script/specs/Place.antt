-- The tokens from a place in a text on, and the names that a script declares.
use Rattle.std.specs.Prelude.{◌≡◌, ℕ, Bool, true, false, List, map, Option, Some, None}
use Rattle.sdv_script.specs.declared.cursor.Cursor.{Cursor}
use Rattle.sdv_script.specs.declared.progress.Progress.{Progress as From}
use Rattle.sdv_graph.specs.declared.tree.Names.{Names}
use Rattle.sdv_script.specs.Reading.{Progress}
use Rattle.sdv_script.specs.Tokens.{Token, tokens}
use Rattle.sdv_script.specs.TokenView.{list_of}
use Rattle.sdv_graph.specs.declared.tree.Block.{Block}
use Rattle.sdv_script.specs.Script.{Parsed}
use Rattle.sdv_graph.specs.Tree.{Declared, statements_of}
use Rattle.std.specs.Borrow.{Bor}

abbrev pub tokens_at : Cursor → List Token
tokens_at cursor = list_of cursor.token (tokens cursor.rest.now)

-- A word that may stand at a place was taken, and the place is behind it; or it does not stand there, and the place is the same.
abbrev pub Takes : (taken : Bool) (before after : Cursor) → (behind : Option (List Token)) → Type 0
Takes true before after behind = behind ≡ Some (tokens_at after)
Takes false before after behind = (behind ≡ None) × (after ≡ before)

abbrev pub progress_of : From → Progress
progress_of from = record { tokens = tokens_at from.at; begun = from.begun }

abbrev pub texts : List (Bor (List ℕ)) → List (List ℕ)
texts names = map (λ n. n.now) names

abbrev pub names_of : Names → Declared
names_of names = record { kind = names.kind; flags = texts names.flags.items; numbers = texts names.numbers.items }

abbrev pub parsed_of : List ℕ → Names → Block → Parsed
parsed_of text names body = record { text = text; names = names_of names; body = statements_of body }
