-- What a parse of the program's command line says of the meaning of the words.
use Rattle.std.proofs.Common.{arith, Bool, false, not, ◌&&◌, ◌≢◌, cond, codes, inl, inr, is_some, ◌≡◌, ◌∙◌, refl, sym, ap, true, [], ◌∷◌, ◌++◌, List, ℕ, Option, Some, None, Result, Ok, IfOk, map, option_map, option_and_then}
use Rattle.std.specs.Prelude.{find, fold, IfSome, slice_get, unwrap_or}
use Rattle.std.specs.List.{AllByRecursion}
use Rattle.std.specs.Option.{ok_or, option_map_or}
use Rattle.clap.specs.declared.builder.command.Command.{Command as ClapCommand}
use Rattle.clap.specs.declared.builder.command.Command.TheViews.{out-Command}
use Rattle.clap.specs.Walk.{answers_to, is_empty, nothing_held, stop_after}
use Rattle.clap.specs.Simple.{entered, filled_from, help_rule, index_after, label_of, names_of, rows_at}
use Rattle.clap.specs.Faults.{entered_fault, level_fault}
use Rattle.clap.specs.Words.{App, app_of, HasKind, Kinds, Row, Shape, Text, built, fault_of, first_of, is_simple, is_simple_and_free, kind_of, matches_of, subcommand_of, takes}
use Rattle.clap.specs.declared.error.Error.{Error}
use Rattle.sdv_program.specs.Commands.{Command, Word, commands, required, optional, several, with_value, repeated, flag}
use Rattle.sdv_program.specs.Lines.{Line, by_word, line_in, seen_line}
use Rattle.sdv_program.specs.CommandLine.{app_for, command_line, fault_of_clap, meaning_of, line_without, rule_for, with_word}
use Rattle.sdv_program.specs.declared.line.Line.{Line as CodeLine}
use Rattle.sdv_program.specs.declared.line.LineFault.{LineFault}
use Rattle.sdv_program.specs.declared.line.LineFault.TheVariants.{Usage}
use Rattle.sdv_program.proofs.WordsGiven.{TakesOneWord, leaf_required, subcommand_given}

-- ---- the table as clap knows it

pub fold_map : {A B C : Type 0} (f : A → B → A) (g : C → B) (a : A) (xs : List C) → fold (λ a x. f a (g x)) a xs ≡ fold f a (map g xs)
fold_map f g a [] = refl
fold_map f g a (x ∷ xs) = fold_map f g (f a (g x)) xs

with_words-plain : (a : App) (words : List Word) → (fold with_word a words).top.is_plain ≡ a.top.is_plain
with_words-plain a [] = refl
with_words-plain a (word ∷ words) = with_words-plain (with_word a word) words

pub app_for-plain : (c : Command) → (app_for c).top.is_plain ≡ true
app_for-plain c = with_words-plain _ c.words

no_global : (a b g rest : Bool) → (a && (not b && (not g && rest))) ≡ true → g ≡ false
no_global false b g rest is = cc
no_global true true g rest is = cc
no_global true false true rest is = cc
no_global true false false rest is = refl

-- a plain command has no global arguments
pub no_globals : (c : ClapCommand) (a : App) → app_of c ≡ a → a.top.is_plain ≡ true → (out-Command c).has_globals ≡ false
no_globals c a is plain =
    let fields = out-Command c in
    no_global (is_empty fields.groups.items) fields.allow_external_subcommands fields.has_globals _ (ap (λ (a : App). a.top.is_plain) is ∙ plain)

command_line_is_simple : is_simple command_line ≡ true
command_line_is_simple = refl

command_line_is_free : is_simple_and_free command_line ≡ true
command_line_is_free = refl

-- ---- a parse

-- where clap finds no fault, the words mean what is in the matches
meaning-no_fault : (words : List Text) → fault_of command_line words ≡ [] → meaning_of words ≡ option_and_then line_in (subcommand_of command_line words)
meaning-no_fault words none = rw none refl

-- a parse by the command line succeeds only where clap finds no fault
pub no_fault-parsed : (app : App) (words : List Text) → app ≡ command_line → (is_simple_and_free app ≡ true → fault_of app words ≡ [])
    → fault_of command_line words ≡ []
no_fault-parsed app words is faults = rw is at faults command_line_is_free

-- a parse by the command line that does not fail for memory fails only where clap finds a fault
pub usage-parsed : (app : App) (words : List Text) (error : Error) → app ≡ command_line
    → (is_simple_and_free app ≡ true → HasKind (fault_of app words) error) → Usage ≡ fault_of_clap (kind_of error) → fault_of command_line words ≢ []
usage-parsed app words error is fails becomes empty = go (rw is at fails command_line_is_free)
  where
    go : HasKind (fault_of command_line words) error → ⊥
    go (inl memory) = let same = rw memory at becomes in absurd (cc same)
    go (inr among) = rw empty at among

-- what a parse by the command line promises of words that clap takes
pub taken-parsed : (app : App) (words : List Text) (P : Type 0) → app ≡ command_line → (takes app words ≡ true → P) → takes command_line words ≡ true → P
taken-parsed app words P is passes = rw is at passes

-- the meaning of the words is that of the matches that a parse by the command line gave
pub meaning-parsed : (app : App) (words : List Text) (rows : List Row) (found : Option (Text × List Row)) → app ≡ command_line
    → fault_of command_line words ≡ []
    → (is_simple app ≡ true → (rows ≡ matches_of app words) × (found ≡ subcommand_of app words))
    → meaning_of words ≡ option_and_then line_in found
meaning-parsed app words rows found is none matches =
    let same : found ≡ subcommand_of command_line words = (rw is at matches command_line_is_simple).1 in
    meaning-no_fault words none ∙ ap (option_and_then line_in) (sym same)

-- words in which clap finds a fault mean nothing
pub meaning-fault : (words : List Text) → fault_of command_line words ≢ [] → meaning_of words ≡ None
meaning-fault words some = go (fault_of command_line words) some
  where
    go : (kinds : Kinds) → kinds ≢ [] → line_without kinds (subcommand_of command_line words) ≡ None
    go [] some = absurd (some refl)
    go (k ∷ ks) some = refl

-- ---- words in which clap finds no fault mean a request

-- each word of the table takes one word, or is a flag
one_word : (i : ℕ) (words : List Word) → AllByRecursion TakesOneWord (filled_from i (map rule_for words ++ help_rule ∷ []))
one_word i [] = (inr (inr (inr refl)), tt)
one_word i (required name ∷ words) = (inl (refl, refl), one_word (index_after i (rule_for (required name))) words)
one_word i (optional name ∷ words) = (inl (refl, refl), one_word (index_after i (rule_for (optional name))) words)
one_word i (several name ∷ words) = (inr (inl (refl, refl)), one_word (index_after i (rule_for (several name))) words)
one_word i (with_value name ∷ words) = (inl (refl, refl), one_word (index_after i (rule_for (with_value name))) words)
one_word i (repeated name ∷ words) = (inr (inl (refl, refl)), one_word (index_after i (rule_for (repeated name))) words)
one_word i (flag name ∷ words) = (inr (inr (inl (refl, omega arith))), one_word (index_after i (rule_for (flag name))) words)

-- a command as it is built, and its words
abbrev shape : ℕ → Shape
shape i = unwrap_or (slice_get (built command_line).subs i) (built command_line).top

abbrev words_of : ℕ → List Word
words_of i = option_map_or (λ (c : Command). c.words) (slice_get commands i) []

-- the words of the command mean a line where clap finds no fault in them
abbrev Means : Shape → Type 0
Means s = (words : List Text) → level_fault s [] nothing_held words false [] ≡ [] → is_some (option_and_then line_in (Some (rows_at s words))) ≡ true

-- a line of as many words is there where each was given

one_given : (name : Text) (line : Text → Line) (rows : List Row) → is_some (first_of name rows) ≡ true
    → is_some (by_word name rows (λ a. Some (line a))) ≡ true
one_given name line rows given = go (first_of name rows) given
  where
    go : (a : Option Text) → is_some a ≡ true → is_some (option_and_then (λ a. Some (line a)) a) ≡ true
    go None given = cc
    go (Some a) given = refl

then_given : (name : Text) (rest : Text → Option Line) (rows : List Row) → is_some (first_of name rows) ≡ true
    → ((a : Text) → is_some (rest a) ≡ true) → is_some (by_word name rows rest) ≡ true
then_given name rest rows given others = go (first_of name rows) given
  where
    go : (a : Option Text) → is_some a ≡ true → is_some (option_and_then rest a) ≡ true
    go None given = cc
    go (Some a) given = others a

frame_means : Means (shape 0)
frame_means words none =
    let given = leaf_required (shape 0) words (one_word 1 (words_of 0)) none in
    let rows = (rows_at (shape 0) words).1 in
    then_given (codes "INDEX") _ rows (given.0 refl) (λ _. one_given (codes "ARG") _ rows (given.1.0 refl))

verify_means : Means (shape 1)
verify_means words none = refl

certify_means : Means (shape 2)
certify_means words none =
    let given = leaf_required (shape 2) words (one_word 1 (words_of 2)) none in
    let rows = (rows_at (shape 2) words).1 in
    one_given (codes "SCRIPT") _ rows (given.0 refl)

check_means : Means (shape 3)
check_means words none =
    let given = leaf_required (shape 3) words (one_word 1 (words_of 3)) none in
    let rows = (rows_at (shape 3) words).1 in
    then_given (codes "SCRIPT") _ rows (given.0 refl) (λ _. one_given (codes "CERT") _ rows (given.1.0 refl))

run_means : Means (shape 4)
run_means words none =
    let given = leaf_required (shape 4) words (one_word 1 (words_of 4)) none in
    let rows = (rows_at (shape 4) words).1 in
    then_given (codes "SCRIPT") _ rows (given.0 refl) (λ _. then_given (codes "CERT") _ rows (given.1.0 refl) (λ _. then_given (codes "CARD") _ rows (given.1.1.0 refl) (λ _. one_given (codes "IMAGE") _ rows (given.1.1.1.0 refl))))

batch_means : Means (shape 5)
batch_means words none =
    let given = leaf_required (shape 5) words (one_word 1 (words_of 5)) none in
    let rows = (rows_at (shape 5) words).1 in
    then_given (codes "KIND") _ rows (given.0 refl) (λ _. one_given (codes "REQUESTS") _ rows (given.1.0 refl))

explain_means : Means (shape 6)
explain_means words none =
    let given = leaf_required (shape 6) words (one_word 1 (words_of 6)) none in
    let rows = (rows_at (shape 6) words).1 in
    one_given (codes "SCRIPT") _ rows (given.0 refl)

emit_means : Means (shape 7)
emit_means words none =
    let given = leaf_required (shape 7) words (one_word 1 (words_of 7)) none in
    let rows = (rows_at (shape 7) words).1 in
    then_given (codes "SCRIPT") _ rows (given.0 refl) (λ _. then_given (codes "CERT") _ rows (given.1.0 refl) (λ _. one_given (codes "NAME") _ rows (given.1.1.0 refl)))

audit_means : Means (shape 8)
audit_means words none =
    let given = leaf_required (shape 8) words (one_word 1 (words_of 8)) none in
    let rows = (rows_at (shape 8) words).1 in
    then_given (codes "KIND") _ rows (given.0 refl) (λ _. one_given (codes "TRACE") _ rows (given.1.0 refl))

drive_means : Means (shape 9)
drive_means words none =
    let given = leaf_required (shape 9) words (one_word 1 (words_of 9)) none in
    let rows = (rows_at (shape 9) words).1 in
    then_given (codes "SCRIPT") _ rows (given.0 refl) (λ _. one_given (codes "CERT") _ rows (given.1.0 refl))

card_means : Means (shape 10)
card_means words none =
    let given = leaf_required (shape 10) words (one_word 1 (words_of 10)) none in
    let rows = (rows_at (shape 10) words).1 in
    one_given (codes "CARD") _ rows (given.0 refl)

try_means : Means (shape 11)
try_means words none =
    let given = leaf_required (shape 11) words (one_word 1 (words_of 11)) none in
    let rows = (rows_at (shape 11) words).1 in
    then_given (codes "SCRIPT") _ rows (given.0 refl) (λ _. then_given (codes "CARD") _ rows (given.1.0 refl) (λ _. one_given (codes "IMAGE") _ rows (given.1.1.0 refl)))

each_means : AllByRecursion Means (built command_line).subs
each_means = (frame_means, (verify_means, (certify_means, (check_means, (run_means, (batch_means, (explain_means, (emit_means, (audit_means, (drive_means, (card_means, (try_means, tt))))))))))))

found_means : (p : Shape → Bool) (shapes : List Shape) → AllByRecursion Means shapes → IfSome (find p shapes) Means
found_means p [] each = tt
found_means p (s ∷ shapes) each = go (p s) (found_means p shapes each.1)
  where
    go : (b : Bool) → IfSome (find p shapes) Means → IfSome (cond b (Some s) (find p shapes)) Means
    go true rest = each.0
    go false rest = rest

entered_given : (stop : Option (Text × List Text)) → is_some (entered (built command_line) stop) ≡ true → entered_fault (built command_line) stop ≡ []
    → is_some (option_and_then line_in (entered (built command_line) stop)) ≡ true
entered_given None has none = cc
entered_given (Some p) has none =
    let answers : Shape → Bool = λ s. answers_to p.0 (label_of s) in
    go (find answers (built command_line).subs) (found_means answers (built command_line).subs each_means) has none
  where
    go : (found : Option Shape) → IfSome found Means → is_some (option_map (λ s. rows_at s p.1) found) ≡ true
        → option_map_or (λ s. level_fault s [] nothing_held p.1 false []) found [] ≡ []
        → is_some (option_and_then line_in (option_map (λ s. rows_at s p.1) found)) ≡ true
    go None means has none = cc
    go (Some s) means has none = means p.1 none

-- the words mean a request
meaning_given : (words : List Text) → fault_of command_line words ≡ [] → is_some (meaning_of words) ≡ true
meaning_given words none =
    let top = (built command_line).top in
    let names = names_of (built command_line) in
    let stop = stop_after top.rules names words in
    let given = subcommand_given top names words (is_some (entered (built command_line) stop)) (entered_fault (built command_line) stop) refl none in
    rw (meaning-no_fault words none) (entered_given stop given.0 given.1)

-- the request in the matches is the one that the words mean
pub line_of_meaning : (words : List Text) (request : Option CodeLine) (fault : LineFault) (r : Result CodeLine LineFault)
    → meaning_of words ≡ option_map seen_line request → r ≡ ok_or request fault → IfOk r (λ q. meaning_of words ≡ Some (seen_line q))
line_of_meaning words None fault r meaning is = rw is tt
line_of_meaning words (Some q) fault r meaning is = rw is meaning

-- where clap finds no fault, there is a request
pub request_given : (words : List Text) (request : Option CodeLine) (fault : LineFault) (r : Result CodeLine LineFault)
    → fault_of command_line words ≡ [] → meaning_of words ≡ option_map seen_line request → r ≡ ok_or request fault → (q : CodeLine) × (r ≡ Ok q)
request_given words None fault r none meaning is = let given = meaning_given words none in let bad : is_some {T = Line} None ≡ true = rw meaning at given in cc
request_given words (Some q) fault r none meaning is = (q, is)
