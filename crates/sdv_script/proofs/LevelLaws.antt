-- One level of a tree more.
use Rattle.std.proofs.Common.{◌≡◌, ℕ, zero, suc, ◌≤◌, refl, arith, None, Option}
use Rattle.sdv_card.specs.declared.command.Order.{Order}
use Rattle.sdv_script.specs.declared.depth.Depth.{Depth}
use Rattle.sdv_graph.specs.Tree.{Declared}
use Rattle.sdv_script.specs.Reading.{Progress, read_statements, read_ways, more_statements, more_ways}

pub statements_more : (n m : ℕ) (names : Declared) (depth : Depth) (at : Progress) → n ≡ suc m
    → read_statements n names depth at ≡ more_statements (read_statements m names) (read_ways m names) names depth at
unfolding read_statements
statements_more n m names depth at e = rw e refl

pub statements_none : (n : ℕ) (names : Declared) (depth : Depth) (at : Progress) → n ≡ 0 → read_statements n names depth at ≡ None
unfolding read_statements
statements_none n names depth at e = rw e refl

pub ways_more : (n m : ℕ) (names : Declared) (depth : Depth) (order : Option Order) (at : Progress) → n ≡ suc m
    → read_ways n names depth order at ≡ more_ways (read_statements m names) (read_ways m names) depth order at.tokens at.begun
unfolding read_ways
ways_more n m names depth order at e = rw e refl

pub ways_none : (n : ℕ) (names : Declared) (depth : Depth) (order : Option Order) (at : Progress) → n ≡ 0 → read_ways n names depth order at ≡ None
unfolding read_ways
ways_none n names depth order at e = rw e refl

pub no_level : (n : ℕ) → (1 ≤ n → ⊥) → n ≡ 0
no_level zero none = refl
no_level (suc n) none = absurd (none (omega arith))
