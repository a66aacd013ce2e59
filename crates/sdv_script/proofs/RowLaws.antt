-- Statements that were read before others.
use Rattle.std.proofs.Common.{◌≡◌, ℕ, suc, List, [], ◌∷◌, ◌++◌, true, false, refl, sym, ap, ◌∙◌, map, Some, None}
use Rattle.std.specs.Prelude.{option_to_list}
use Rattle.std.proofs.lemmas.List.{map-append}
use Rattle.sdv_text.specs.Fronts.{◌>>=◌}
use Rattle.sdv_script.specs.declared.depth.Depth.{Depth}
use Rattle.sdv_graph.specs.declared.tree.Stmt.{Stmt}
use Rattle.sdv_graph.specs.Tree.{Declared, Statement, Statements, nothing, first, statement_of}
use Rattle.sdv_script.specs.InRow.{in_row}
use Rattle.sdv_script.specs.declared.fault.Stop.{Stop}
use Rattle.sdv_script.specs.declared.fault.Stop.TheVariants as stop
use Rattle.sdv_script.specs.Reading.{Fails, Progress, Reading, Blocks, WaysOf, closes, read_statement, more_statements, read_statements, read_ways}
use Rattle.sdv_script.proofs.LevelLaws.{statements_more, statements_none}

abbrev pub behind : List Statement → Reading Statements → Reading Statements
behind ss read = read >>= λ b. Some (in_row ss b.0, b.1)

pub behind_none : (read : Reading Statements) → behind [] read ≡ read
behind_none None = refl
behind_none (Some b) = refl

in_row_more : (ss : List Statement) (s : Statement) (b : Statements) → in_row (ss ++ s ∷ []) b ≡ in_row ss (first s b)
in_row_more [] s b = refl
in_row_more (d ∷ ss) s b = ap (λ (rest : Statements). first d rest) (in_row_more ss s b)

behind_more : (ss : List Statement) (s : Statement) (read : Reading Statements) → behind (ss ++ s ∷ []) read ≡ behind ss (read >>= λ b. Some (first s b.0, b.1))
behind_more ss s None = refl
behind_more ss s (Some b) = ap (λ (all : Statements). Some (all, b.1)) (in_row_more ss s b.0)

-- the last of some statements stands before others
pub row_last : (front ss : List Stmt) (s : Stmt) (others : Statements) → ss ≡ front ++ option_to_list (Some s)
    → in_row (map statement_of front) (first (statement_of s) others) ≡ in_row (map statement_of ss) others
row_last front ss s others e =
    sym (ap (λ (ds : List Stmt). in_row (map statement_of ds) others) e
    ∙ ap (λ (ds : List Statement). in_row ds others) (map-append statement_of front (s ∷ []))
    ∙ in_row_more (map statement_of front) (statement_of s) others)

row_ends : (blocks : Blocks) (ways : WaysOf) (names : Declared) (depth : Depth) (at : Progress) → closes at.tokens ≡ true
    → more_statements blocks ways names depth at ≡ Some (nothing, at)
row_ends blocks ways names depth at e = rw e refl

statement_read : (blocks : Blocks) (ways : WaysOf) (names : Declared) (depth : Depth) (at after : Progress) (s : Statement) → closes at.tokens ≡ false
    → read_statement blocks ways names depth at.tokens at.begun ≡ Some (s, after)
    → more_statements blocks ways names depth at ≡ (blocks depth after >>= λ rest. Some (first s rest.0, rest.1))
statement_read blocks ways names depth at after s is_open e = rw (is_open, e) refl

statement_fails : (blocks : Blocks) (ways : WaysOf) (names : Declared) (depth : Depth) (at : Progress) → closes at.tokens ≡ false
    → read_statement blocks ways names depth at.tokens at.begun ≡ None → more_statements blocks ways names depth at ≡ None
statement_fails blocks ways names depth at is_open e = rw (is_open, e) refl

-- another statement is read
pub behind_goes_on : (ss : List Statement) (s : Statement) (n m : ℕ) (names : Declared) (depth : Depth) (at after : Progress) → n ≡ suc m
    → closes at.tokens ≡ false
    → read_statement (read_statements m names) (read_ways m names) names depth at.tokens at.begun ≡ Some (s, after)
    → behind (ss ++ s ∷ []) (read_statements m names depth after) ≡ behind ss (read_statements n names depth at)
behind_goes_on ss s n m names depth at after same is_open e =
    behind_more ss s (read_statements m names depth after)
    ∙ ap (λ (r : Reading Statements). behind ss r) (sym (statements_more n m names depth at same
    ∙ statement_read (read_statements m names) (read_ways m names) names depth at after s is_open e))

-- the row ends behind those that were read
pub behind_ends : (ss : List Statement) (n m : ℕ) (names : Declared) (depth : Depth) (at : Progress) (all : Statements) → n ≡ suc m → closes at.tokens ≡ true
    → all ≡ in_row ss nothing
    → behind ss (read_statements n names depth at) ≡ Some (all, at)
behind_ends ss n m names depth at all same closed is =
    ap (λ (r : Reading Statements). behind ss r) (statements_more n m names depth at same
    ∙ row_ends (read_statements m names) (read_ways m names) names depth at closed)
    ∙ ap (λ (b : Statements). Some (b, at)) (sym is)

-- nothing is read where another statement is none
pub behind_fails : (stopped : Stop) (ss : List Statement) (n m : ℕ) (names : Declared) (depth : Depth) (at : Progress) → n ≡ suc m → closes at.tokens ≡ false
    → Fails stopped (read_statement (read_statements m names) (read_ways m names) names depth at.tokens at.begun)
    → Fails stopped (behind ss (read_statements n names depth at))
behind_fails stop.Memory ss n m names depth at same is_open fails = tt
behind_fails (stop.Fault what) ss n m names depth at same is_open fails =
    ap (λ (r : Reading Statements). behind ss r) (statements_more n m names depth at same
    ∙ statement_fails (read_statements m names) (read_ways m names) names depth at is_open fails)

-- nothing is read where no level is left
pub no_row_left : (ss : List Statement) (n : ℕ) (names : Declared) (depth : Depth) (at : Progress) → n ≡ 0 → behind ss (read_statements n names depth at) ≡ None
no_row_left ss n names depth at e = ap (λ (r : Reading Statements). behind ss r) (statements_none n names depth at e)
