-- A text that is read as a script is one, and no other text is.
use Rattle.std.proofs.Common.{◌≡◌, ℕ, ◌≤◌, List, length, subst, sym, ap, ◌∙◌, arith, Option, Some, None}
use Rattle.std.specs.Prelude.{IfSome}
use Rattle.sdv_script.specs.Tokens.{tokens}
use Rattle.sdv_graph.specs.Tree.{Declared, Statements}
use Rattle.sdv_script.specs.Grammar.{script_written}
use Rattle.sdv_script.specs.Rules.{max_bytes, ScriptFits}
use Rattle.sdv_script.specs.Reading.{Whole, read_script}
use Rattle.sdv_script.specs.Script.{Parsed, IsScript}
use Rattle.sdv_script.proofs.TokensLaws.{length-tokens}
use Rattle.sdv_script.proofs.TakenScript.{script-took}
use Rattle.sdv_script.proofs.AgainScript.{script-again}

abbrev some_whole : Whole → Option Whole
some_whole w = Some w

pub is_script : (text : List ℕ) (names : Declared) (body : Statements) → length text ≤ max_bytes → read_script (tokens text) ≡ Some (names, body)
    → IsScript (record { text = text; names = names; body = body })
is_script text names body small e =
    let took : (tokens text ≡ script_written names body) × ScriptFits names body
    = subst (λ (o : Option Whole). IfSome o (λ w. (tokens text ≡ script_written w.0 w.1) × ScriptFits w.0 w.1)) e (script-took (tokens text)) in
    record { small = small; written = took.0; fits = took.1 }

-- what is no script is read as none
pub no_script : (text : List ℕ) → read_script (tokens text) ≡ None → (s : Parsed) → s.text ≡ text → IsScript s → ⊥
no_script text e s same is =
    let few = length-tokens s.text in
    let written : tokens text ≡ script_written s.names s.body = rw (← same) is.written in
    let short : length (script_written s.names s.body) ≤ max_bytes = omega (arith, ap length is.written, is.small) in
    let again = script-again s.names s.body is.fits short in
    let read : read_script (tokens text) ≡ Some (s.names, s.body) = rw written again in
    let clash : None ≡ some_whole (s.names, s.body) = sym e ∙ read in
    absurd cc

some_once : (w v : Whole) → some_whole w ≡ some_whole v → w ≡ v
some_once w v e = cc

-- a text has one tree at most
pub one_tree_lem : (s t : Parsed) → IsScript s → IsScript t → s.text ≡ t.text → (s.names ≡ t.names) × (s.body ≡ t.body)
one_tree_lem s t is it same =
    let few = length-tokens s.text in
    let also = length-tokens t.text in
    let first : read_script (tokens s.text) ≡ Some (s.names, s.body) =
    rw is.written (script-again s.names s.body is.fits (omega (arith, ap length is.written, is.small))) in
    let second : read_script (tokens t.text) ≡ Some (t.names, t.body) =
    rw it.written (script-again t.names t.body it.fits (omega (arith, ap length it.written, it.small))) in
    let both : some_whole (s.names, s.body) ≡ some_whole (t.names, t.body) = sym first ∙ ap (λ (text : List ℕ). read_script (tokens text)) same ∙ second in
    let whole = some_once _ _ both in
    (ap (λ (w : Whole). w.0) whole, ap (λ (w : Whole). w.1) whole)
