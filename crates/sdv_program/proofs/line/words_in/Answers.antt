use Rattle.std.proofs.Common.{◌≡◌, ◌∙◌, [], ap, List, None, Ok, Err, Option, Result, Some, IfOk}
use Rattle.std.specs.Borrow.{Bor}
use Rattle.std.specs.Prelude.{unwrap_or}
use Rattle.std.specs.declared.alloc.AllocError.{AllocError}
use Rattle.clap.proofs.WalkLemmas.{raw_values-rows}
use Rattle.clap.specs.Walk.{texts}
use Rattle.clap.specs.Words.{Row, Text, all_of, found_of, rows_of}
use Rattle.sdv_program.specs.Lines.{words_of}
use Rattle.sdv_program.proofs.line.words_in.Goals as goal

given : (name : Text) (rows : List Row) (words : List Text) → Some words ≡ all_of name rows → words ≡ words_of name rows
given name rows words is = ap (λ o. unwrap_or o []) is

none_given : (name : Text) (rows : List Row) → None ≡ all_of name rows → [] ≡ words_of name rows
none_given name rows is = ap (λ (o : Option (List Text)). unwrap_or o []) is

copied : {V : Type 0} (items : V → List (Bor Text)) (r : Result V AllocError) (words : List (Bor Text)) (wanted : List Text)
    → IfOk r (λ copy. items copy ≡ words) → texts words ≡ wanted → IfOk r (λ copy. texts (items copy) ≡ wanted)
copied items (Ok copy) words wanted same is = ap texts same ∙ is
copied items (Err e) words wanted same is = tt

pub returns-in-Some : goal.returns-in-Some
returns-in-Some c =
    let all = c.get_raw.ensures ∙ raw_values-rows (found_of c.args.matches.now) c.args.name.now in
    copied (λ copy. copy.items) c.from_slice.result c.in-Some.words.now _ c.from_slice.ensures.items
    (given c.args.name.now (rows_of (found_of c.args.matches.now)) (texts c.in-Some.words.now) (rw c.in-Some.is at all))

pub returns-in-None : goal.returns-in-None
returns-in-None c =
    let all = c.get_raw.ensures ∙ raw_values-rows (found_of c.args.matches.now) c.args.name.now in
    ap texts c.new.ensures.items ∙ none_given c.args.name.now (rows_of (found_of c.args.matches.now)) (rw c.in-None.is at all)
