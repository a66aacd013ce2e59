-- Reading a statement in two steps: what it begins with, and then its blocks.
use Rattle.std.specs.Prelude.{ℕ, ◌+◌, List, ◌∷◌, Option, Some, None, ◌&&◌, nat_lt, if◌then◌else◌}
use Rattle.sdv_text.specs.Fronts.{◌>>=◌}
use Rattle.sdv_card.specs.declared.command.Order.{Order}
use Rattle.sdv_card.specs.CommandTable.{order_of}
use Rattle.sdv_graph.specs.declared.tree.ScriptCommand.{ScriptCommand}
use Rattle.sdv_graph.specs.declared.tree.Phase.{Phase}
use Rattle.sdv_graph.specs.declared.tree.Phase.TheVariants as phases
use Rattle.sdv_graph.specs.Tree.{Declared, Statement, Statements, Ways, send, phase, choice, turns}
use Rattle.sdv_script.specs.declared.depth.Depth.{Depth}
use Rattle.sdv_script.specs.declared.heads.Fork.{Fork}
use Rattle.sdv_script.specs.declared.heads.Fork.TheVariants as forks
use Rattle.sdv_script.specs.declared.keyword.Keyword.{Keyword}
use Rattle.sdv_script.specs.declared.keyword.Keyword.TheVariants as word
use Rattle.sdv_script.specs.Tokens.{Token, Key}
use Rattle.sdv_script.specs.Rules.{in_loop, max_loops, max_statements}
use Rattle.sdv_script.specs.Reading.{Progress, progress_to, Reading, Blocks, WaysOf, after_open, after_close, after_ok, starts, read_command, read_condition, read_count, read_receive, read_plain, read_branches}

-- WHAT A STATEMENT BEGINS WITH

-- a whole statement, a command and where its cases stand, or what leads to one of two blocks and where either stands
pub data Head : Type 0 where
  plain : Statement → Head
  asked : ScriptCommand → Option Order → Depth → Head
  fork : Fork → (inside depth : Depth) → Head

-- a command, and "{"
abbrev pub send_head : Declared → Depth → Progress → Reading Head
send_head names depth at =
    read_command names at.tokens >>= λ c. after_open depth c.1 >>= λ o.
    Some (asked c.0 (order_of names.kind c.0.ask) o.0, progress_to o.1 at.begun)

-- "{" "ok"
abbrev pub phase_head : Depth → Phase → Progress → Reading Head
phase_head depth p at =
    after_open depth at.tokens >>= λ o. after_ok o.1 >>= λ ts.
    Some (fork (forks.Phase p) o.0 o.0, progress_to ts at.begun)

abbrev pub if_head : Declared → Depth → Progress → Reading Head
if_head names depth at =
    read_condition names at.tokens >>= λ c. Some (fork (forks.If c.0) depth depth, progress_to c.1 at.begun)

abbrev pub loop_head : Depth → Progress → Reading Head
loop_head depth at =
    if nat_lt depth.loops max_loops
    then (read_count at.tokens >>= λ n. Some (fork (forks.Loop n.0) (in_loop depth) depth, progress_to n.1 at.begun))
    else None

-- after a statement's first word
abbrev pub head_after : Declared → Depth → Keyword → Progress → Reading Head
head_after names depth word.Send at = send_head names depth at
head_after names depth word.Recv at =
    read_receive at.tokens >>= λ p. phase_head depth p.0 (progress_to p.1 at.begun)
head_after names depth word.Give at = phase_head depth phases.GiveBlocks at
head_after names depth word.Wait at = phase_head depth phases.Wait at
head_after names depth word.If at = if_head names depth at
head_after names depth word.Loop at = loop_head depth at
head_after names depth keyword at = read_plain names keyword at >>= λ s. Some (plain s.0, s.1)

abbrev pub read_head : Declared → Depth → List Token → ℕ → Reading Head
read_head names depth (Key k ∷ ts) begun =
    if starts k depth && nat_lt begun max_statements then head_after names depth k (progress_to ts (begun + 1))
    else None
read_head names depth ts begun = None

-- WHAT FOLLOWS IT

-- something that was read, with "}" behind it
abbrev pub before_brace : {A : Type 0} → A → Progress → Reading A
before_brace x at = after_close at.tokens >>= λ ts. Some (x, progress_to ts at.begun)

-- a command with its cases
abbrev pub read_sent : ScriptCommand → Ways → Progress → Reading Statement
read_sent c cases at = before_brace (send c cases) at

-- a statement of two blocks, of which those of a phase stand in braces
abbrev pub read_forked : Fork → (a b : Statements) → Progress → Reading Statement
read_forked (forks.Phase p) a b at = before_brace (phase p a b) at
read_forked (forks.If c) a b at = Some (choice c a b, at)
read_forked (forks.Loop n) a b at = Some (turns n a b, at)

-- the statement behind what it begins with
abbrev pub read_rest : Blocks → WaysOf → Head → Progress → Reading Statement
read_rest blocks ways (plain s) at = Some (s, at)
read_rest blocks ways (asked c order depth) at = ways depth order at >>= λ w. read_sent c w.0 w.1
read_rest blocks ways (fork f inside depth) at =
    read_branches blocks inside depth at >>= λ ab. read_forked f ab.0.0 ab.0.1 ab.1

-- what a statement begins with, and then what follows it
abbrev pub in_two_steps : Blocks → WaysOf → Declared → Depth → List Token → ℕ → Reading Statement
in_two_steps blocks ways names depth ts begun = read_head names depth ts begun >>= λ h. read_rest blocks ways h.0 h.1
