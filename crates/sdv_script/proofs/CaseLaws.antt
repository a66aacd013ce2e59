-- Cases of a command that were read before others.
use Rattle.std.proofs.Common.{◌≡◌, ℕ, suc, List, [], ◌∷◌, ◌++◌, refl, sym, ap, ◌∙◌, map, Some, None, Option}
use Rattle.std.specs.Prelude.{option_to_list}
use Rattle.std.specs.Box.{box_value}
use Rattle.std.proofs.lemmas.List.{map-append}
use Rattle.sdv_text.specs.Fronts.{◌>>=◌}
use Rattle.sdv_card.specs.declared.command.Order.{Order}
use Rattle.sdv_script.specs.declared.keyword.Keyword.TheVariants as word
use Rattle.sdv_script.specs.declared.depth.Depth.{Depth}
use Rattle.sdv_script.specs.Tokens.{Token, Key}
use Rattle.sdv_script.specs.declared.blocks.Guarded.{Guarded as Case}
use Rattle.sdv_graph.specs.Tree.{Declared, Statements, statements_of, Ways, otherwise, way, Guarded, before}
use Rattle.sdv_script.specs.GuardedOf.{guarded_of}
use Rattle.sdv_script.specs.declared.fault.Stop.{Stop}
use Rattle.sdv_script.specs.declared.fault.Stop.TheVariants as stop
use Rattle.sdv_script.specs.Reading.{Fails, Progress, progress_to, Reading, Blocks, WaysOf, after_else, read_block, read_case, last_way, next_way, more_ways, read_statements, read_ways}
use Rattle.sdv_script.proofs.LevelLaws.{ways_more, ways_none}

abbrev pub ahead : List Guarded → Reading Ways → Reading Ways
ahead cs read = read >>= λ w. Some (before cs w.0, w.1)

pub ahead_none : (read : Reading Ways) → ahead [] read ≡ read
ahead_none None = refl
ahead_none (Some w) = refl

before_more : (cs : List Guarded) (c : Guarded) (w : Ways) → before (cs ++ c ∷ []) w ≡ before cs (way c.0 c.1 w)
before_more [] c w = refl
before_more (d ∷ cs) c w = ap (λ (rest : Ways). way d.0 d.1 rest) (before_more cs c w)

ahead_more : (cs : List Guarded) (c : Guarded) (read : Reading Ways) → ahead (cs ++ c ∷ []) read ≡ ahead cs (read >>= λ w. Some (way c.0 c.1 w.0, w.1))
ahead_more cs c None = refl
ahead_more cs c (Some w) = ap (λ (all : Ways). Some (all, w.1)) (before_more cs c w.0)

-- the last of some cases stands before others
pub before_last : (front cs : List Case) (c : Case) (others : Ways) → cs ≡ front ++ option_to_list (Some c)
    → before (map guarded_of front) (way c.guards.items (statements_of (box_value c.block)) others) ≡ before (map guarded_of cs) others
before_last front cs c others e =
    sym (ap (λ (ds : List Case). before (map guarded_of ds) others) e ∙ ap (λ (ds : List Guarded). before ds others) (map-append guarded_of front (c ∷ []))
    ∙ before_more (map guarded_of front) (guarded_of c) others)

else_stands : (blocks : Blocks) (ways : WaysOf) (depth : Depth) (order : Option Order) (ts rest : List Token) (begun : ℕ) → after_else ts ≡ Some rest
    → more_ways blocks ways depth order ts begun ≡ last_way blocks depth (progress_to rest begun)
else_stands blocks ways depth order (Key word.Else ∷ ts) rest begun e = ap (λ (r : List Token). last_way blocks depth (progress_to r begun)) (cc)
else_stands blocks ways depth order ts rest begun e = absurd (cc)

no_else : (blocks : Blocks) (ways : WaysOf) (depth : Depth) (order : Option Order) (ts : List Token) (begun : ℕ) → after_else ts ≡ None
    → more_ways blocks ways depth order ts begun ≡ next_way blocks ways depth order (progress_to ts begun)
no_else blocks ways depth order (Key word.Else ∷ ts) begun e = absurd (cc)
no_else blocks ways depth order ts begun e = refl

-- the last case is read
pub ways_end : (n m : ℕ) (names : Declared) (depth : Depth) (order : Option Order) (at : Progress) (rest : List Token) → n ≡ suc m
    → after_else at.tokens ≡ Some rest
    → read_ways n names depth order at ≡ last_way (read_statements m names) depth (progress_to rest at.begun)
ways_end n m names depth order at rest same e =
    ways_more n m names depth order at same ∙ else_stands (read_statements m names) (read_ways m names) depth order at.tokens rest at.begun e

case_read : (blocks : Blocks) (ways : WaysOf) (depth : Depth) (order : Option Order) (at after : Progress) (c : Guarded)
    → read_case blocks depth order at ≡ Some (c, after)
    → next_way blocks ways depth order at ≡ (ways depth order after >>= λ w. Some (way c.0 c.1 w.0, w.1))
case_read blocks ways depth order at after c e = rw e refl

-- another case is read
pub ways_go_on : (n m : ℕ) (names : Declared) (depth : Depth) (order : Option Order) (at : Progress) → n ≡ suc m → after_else at.tokens ≡ None
    → read_ways n names depth order at ≡ next_way (read_statements m names) (read_ways m names) depth order at
ways_go_on n m names depth order at same none =
    ways_more n m names depth order at same ∙ no_else (read_statements m names) (read_ways m names) depth order at.tokens at.begun none

pub ahead_goes_on : (cs : List Guarded) (c : Guarded) (n m : ℕ) (names : Declared) (depth : Depth) (order : Option Order) (at after : Progress) → n ≡ suc m
    → after_else at.tokens ≡ None
    → read_case (read_statements m names) depth order at ≡ Some (c, after)
    → ahead (cs ++ c ∷ []) (read_ways m names depth order after) ≡ ahead cs (read_ways n names depth order at)
ahead_goes_on cs c n m names depth order at after same none e =
    ahead_more cs c (read_ways m names depth order after)
    ∙ ap (λ (r : Reading Ways). ahead cs r) (sym (ways_go_on n m names depth order at same none
    ∙ case_read (read_statements m names) (read_ways m names) depth order at after c e))

-- the block of the last case is read
pub last_read : (blocks : Blocks) (depth : Depth) (at after : Progress) (b : Statements) → read_block blocks depth at ≡ Some (b, after)
    → last_way blocks depth at ≡ Some (otherwise b, after)
last_read blocks depth at after b e = rw e refl

-- nothing is read where the block of the last case is none
pub last_stops : (stopped : Stop) (blocks : Blocks) (depth : Depth) (at : Progress) → Fails stopped (read_block blocks depth at)
    → Fails stopped (last_way blocks depth at)
last_stops stop.Memory blocks depth at fails = tt
last_stops (stop.Fault what) blocks depth at fails = rw fails refl

-- the last case is read, and stands behind those that were read
pub ahead_ends : (cs : List Guarded) (n m : ℕ) (names : Declared) (depth : Depth) (order : Option Order) (at next after : Progress) (w all : Ways) → n ≡ suc m
    → after_else at.tokens ≡ Some next.tokens → next.begun ≡ at.begun → last_way (read_statements m names) depth next ≡ Some (w, after) → all ≡ before cs w
    → ahead cs (read_ways n names depth order at) ≡ Some (all, after)
ahead_ends cs n m names depth order at next after w all same e begun read is =
    ap (λ (r : Reading Ways). ahead cs r) (
    ways_end n m names depth order at next.tokens same e
    ∙ ap (λ (b : ℕ). last_way (read_statements m names) depth (progress_to next.tokens b)) (sym begun)
    ∙ read)
    ∙ ap (λ (v : Ways). Some (v, after)) (sym is)

-- nothing is read where the last case is none
pub last_fails : (stopped : Stop) (cs : List Guarded) (n m : ℕ) (names : Declared) (depth : Depth) (order : Option Order) (at next : Progress) → n ≡ suc m
    → after_else at.tokens ≡ Some next.tokens → next.begun ≡ at.begun → Fails stopped (last_way (read_statements m names) depth next)
    → Fails stopped (ahead cs (read_ways n names depth order at))
last_fails stop.Memory cs n m names depth order at next same e begun fails = tt
last_fails (stop.Fault what) cs n m names depth order at next same e begun fails =
    ap (λ (r : Reading Ways). ahead cs r) (
    ways_end n m names depth order at next.tokens same e
    ∙ ap (λ (b : ℕ). last_way (read_statements m names) depth (progress_to next.tokens b)) (sym begun)
    ∙ fails)

next_fails : (blocks : Blocks) (ways : WaysOf) (depth : Depth) (order : Option Order) (at : Progress) → read_case blocks depth order at ≡ None
    → next_way blocks ways depth order at ≡ None
next_fails blocks ways depth order at e = rw e refl

-- nothing is read where another case is none
pub case_fails : (stopped : Stop) (cs : List Guarded) (n m : ℕ) (names : Declared) (depth : Depth) (order : Option Order) (at : Progress) → n ≡ suc m
    → after_else at.tokens ≡ None → Fails stopped (read_case (read_statements m names) depth order at)
    → Fails stopped (ahead cs (read_ways n names depth order at))
case_fails stop.Memory cs n m names depth order at same none fails = tt
case_fails (stop.Fault what) cs n m names depth order at same none fails =
    ap (λ (r : Reading Ways). ahead cs r) (ways_go_on n m names depth order at same none
    ∙ next_fails (read_statements m names) (read_ways m names) depth order at fails)

-- nothing is read where no level is left
pub no_level_left : (cs : List Guarded) (n : ℕ) (names : Declared) (depth : Depth) (order : Option Order) (at : Progress) → n ≡ 0
    → ahead cs (read_ways n names depth order at) ≡ None
no_level_left cs n names depth order at e = ap (λ (r : Reading Ways). ahead cs r) (ways_none n names depth order at e)
