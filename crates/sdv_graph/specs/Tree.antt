-- The syntax tree of a script without where it lies in memory, and the tree of the code as such a tree.
use Rattle.std.specs.Prelude.{ℕ, List, [], ◌∷◌}
use Rattle.sdv_registers.specs.declared.kind.Kind.{Kind}
use Rattle.sdv_card.specs.declared.guard.Guard.{Guard}
use Rattle.sdv_card.specs.declared.state.Width.{Width}
use Rattle.sdv_graph.specs.declared.tree.Block.{Block, Empty, Then'}
use Rattle.sdv_graph.specs.declared.tree.Cases.{Cases, Else', Case'}
use Rattle.sdv_graph.specs.declared.tree.Stmt.{Stmt, Send, Phase', Let, If', Set, Clear, BusLines, Loop', Break, Done, Fault}
use Rattle.sdv_graph.specs.declared.tree.ScriptCommand.{ScriptCommand}
use Rattle.sdv_graph.specs.declared.tree.Phase.{Phase}
use Rattle.sdv_graph.specs.declared.tree.Let.{Let as Setting}
use Rattle.sdv_graph.specs.declared.tree.Condition.{Condition}

mutual
  -- statements in a row
  pub data Statements : Type 0 where
    nothing : Statements
    first : Statement → Statements → Statements

  -- what the answers to a command lead to
  pub data Ways : Type 0 where
    otherwise : Statements → Ways
    way : List Guard → Statements → Ways → Ways

  pub data Statement : Type 0 where
    send : ScriptCommand → Ways → Statement
    phase : Phase → Statements → Statements → Statement
    setting : Setting → Statement
    choice : Condition → Statements → Statements → Statement
    set : ℕ → Statement
    clear : ℕ → Statement
    bus_lines : Width → Statement
    turns : ℕ → Statements → Statements → Statement
    break : Statement
    done : Statement
    fault : List ℕ → Statement

abbrev mutual
  pub statements_of : Block → Statements
  statements_of Empty = nothing
  statements_of (Then' s p rest) = first (statement_of s) (statements_of rest)

  pub ways_of : Cases → Ways
  ways_of (Else' p b) = otherwise (statements_of b)
  ways_of (Case' guards p b q rest) = way guards.items (statements_of b) (ways_of rest)

  pub statement_of : Stmt → Statement
  statement_of (Send command cases) = send command (ways_of cases)
  statement_of (Phase' kind p a q b) = phase kind (statements_of a) (statements_of b)
  statement_of (Let l) = setting l
  statement_of (If' c p a q b) = choice c (statements_of a) (statements_of b)
  statement_of (Set f) = set f
  statement_of (Clear f) = clear f
  statement_of (BusLines width) = bus_lines width
  statement_of (Loop' n p a q b) = turns n (statements_of a) (statements_of b)
  statement_of Break = break
  statement_of Done = done
  statement_of (Fault name) = fault name.now

-- the guards of a case, and its block
abbrev pub Guarded : Type 0
Guarded = List Guard × Statements

-- cases before others
abbrev pub before : List Guarded → Ways → Ways
before [] others = others
before (c ∷ cs) others = way c.0 c.1 (before cs others)

-- what a script declares: the kind of card that it is for, and the names of its flags and of its number variables in
-- their order
pub record Declared : Type 0 where
  pub kind : Kind
  pub flags : List (List ℕ)
  pub numbers : List (List ℕ)
