-- The lines that are found in a driver's text are those of the first tokens of its statements.
use Rattle.std.proofs.Common.{◌≡◌, ℕ, ◌+◌, Bool, false, List, [], ◌∷◌, length, refl, subst, ap, ◌∙◌, arith, Option, Some, None}
use Rattle.std.specs.Prelude.{IfSome}
use Rattle.sdv_card.specs.declared.state.Partition.{Partition}
use Rattle.sdv_card.specs.Modes.{partition_number}
use Rattle.sdv_graph.specs.Counts.{statements_count}
use Rattle.sdv_graph.specs.Tree.{Declared}
use Rattle.sdv_script.specs.FoundLines.{found_lines}
use Rattle.sdv_script.specs.Grammar.{list_written, number_name}
use Rattle.sdv_script.specs.Lines.{inside, token_lines}
use Rattle.sdv_script.specs.Tokens.{Token, Key, Name, Number, Mark, tokens}
use Rattle.sdv_script.specs.declared.keyword.Keyword.TheVariants as word
use Rattle.sdv_script.specs.declared.lines.Before.TheVariants.{Other}
use Rattle.sdv_script.specs.declared.token.Sign.TheVariants as sign
use Rattle.sdv_script.proofs.HeadsFound.{Reads, skip, begin, many, open_brace, close_brace, rows, flag_list, number_list, kind_skipped, no_line}
use Rattle.sdv_script.proofs.LineLaws.{length-token_lines}
use Rattle.sdv_driver.specs.declared.tree.Input.{Input}
use Rattle.sdv_driver.specs.declared.tree.Within.{Within}
use Rattle.sdv_driver.specs.declared.words.TheConstants.{DRIVER, ENTRY, BLOCKS}
use Rattle.sdv_driver.specs.Driver.{Parsed, IsDriver}
use Rattle.sdv_driver.specs.Fits.{EachFits}
use Rattle.sdv_driver.specs.Grammar.{buffer_written, input_written, access_written, more_written, within_written, entry_written, entries_written, driver_written}
use Rattle.sdv_driver.specs.Lines.{within_heads, entry_heads, entries_heads, driver_heads, driver_lines, within_count, begun_count}
use Rattle.sdv_driver.specs.Tree.{Entry, Tree}
use Rattle.sdv_driver.proofs.Taken.{driver-took}

module _ {n : ℕ} {ts : List Token} (us : List Token) (ms : List Bool) (r : Reads Other n ts (inside us ms)) where
  buffer : (o : Option ℕ) → Reads Other n (buffer_written o ts) (inside (buffer_written o us) ms)
  buffer None = r
  buffer (Some k) = skip Other (Name BLOCKS.now) refl (skip Other (Number k) refl r)

  input : (names : Declared) (o : Option Input) → Reads Other n (input_written names o ts) (inside (input_written names o us) ms)
  input names None = r
  input names (Some i) = skip Other (number_name names i.place) refl (buffer i.blocks)

  access : (o : Option Partition) → Reads Other n (access_written o ts) (inside (access_written o us) ms)
  access None = r
  access (Some p) = skip Other (Key word.PartAccess) refl (skip Other (Number (partition_number p)) refl r)

  more : (o : Option ℕ) → Reads Other n (more_written o ts) (inside (more_written o us) ms)
  more None = r
  more (Some k) = skip Other (Mark sign.Plus) refl (skip Other (Number k) refl r)

within : (names : Declared) (o : Option Within) {n : ℕ} {ts : List Token} (ms : List Bool) → Reads Other n ts ms
    → Reads Other (within_count o + n) (within_written names o ts) (within_heads names o ms)
within names None ms r = many (omega arith) r
within names (Some w) ms r =
    many (omega arith) (begin (Key word.If) refl (skip Other (number_name names w.input) refl
    (more (Mark sign.Below ∷ Mark sign.Equals ∷ number_name names w.most ∷ []) ms
    (skip Other (Mark sign.Below) refl (skip Other (Mark sign.Equals) refl (skip Other (number_name names w.most) refl r))) w.more)))

entry : (e : Entry) {n : ℕ} {ts : List Token} (ms : List Bool) → Reads Other n ts ms
    → Reads Other (within_count e.within + (statements_count e.body + n)) (entry_written e ts) (entry_heads e ms)
entry e ms r =
    let body = open_brace (rows e.names e.body (false ∷ ms) (close_brace r)) in
    let head = within e.names e.within _ body in
    skip Other (Name ENTRY.now) refl (skip Other (Name e.name) refl
    (input (access_written e.partition []) _ (access [] _ head e.partition) e.names e.input))

entries : (es : List Entry) → Reads Other (begun_count es) (entries_written es) (entries_heads es)
entries [] = record { all = no_line }
entries (e ∷ es) = entry e (entries_heads es) (entries es)

whole : (d : Tree) → Reads Other (begun_count d.entries) (driver_written d) (driver_heads d)
whole d =
    let all = entries d.entries in
    let numbers = number_list d.names.numbers [] (entries_heads d.entries) all in
    let flags = flag_list d.names.flags (list_written word.Nums d.names.numbers []) (entries_heads d.entries) numbers in
    skip Other (Name DRIVER.now) refl (kind_skipped d.names.kind flags)

-- DRIVERS

-- what stands in a driver's text, and that each entry fits
pub parts : (d : Parsed) → IsDriver d → (tokens d.text ≡ driver_written d.tree) × EachFits d.tree.names d.tree.entries
parts d is = subst (λ (o : Option Tree). IfSome o (λ t. (tokens d.text ≡ driver_written t) × EachFits t.names t.entries)) is.read (driver-took (tokens d.text))

line_each : (d : Parsed) → IsDriver d → length (token_lines 1 d.text) ≡ length (driver_written d.tree)
line_each d is = length-token_lines 1 d.text ∙ ap length (parts d is).0

pub lines_found : (d : Parsed) → IsDriver d → found_lines Other (tokens d.text) (token_lines 1 d.text) ≡ driver_lines d
lines_found d is =
    ap (λ (ts : List Token). found_lines Other ts (token_lines 1 d.text)) (parts d is).0
    ∙ ((whole d.tree).all (token_lines 1 d.text) (line_each d is)).0

pub each_has_line : (d : Parsed) → IsDriver d → length (driver_lines d) ≡ begun_count d.tree.entries
each_has_line d is = ((whole d.tree).all (token_lines 1 d.text) (line_each d is)).1
