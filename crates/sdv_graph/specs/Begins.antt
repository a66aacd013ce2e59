-- SCRIPTS THAT BEGIN WITH CMD0: on each way through the text CMD0 is the first event.
use Rattle.std.specs.Prelude.{◌&&◌, Bool, true, false, ℕ, zero, suc, List, [], ◌∷◌, Option, Some}
use Rattle.sdv_registers.specs.declared.kind.Kind.{Kind}
use Rattle.sdv_card.specs.declared.command.Order.{Order}
use Rattle.sdv_card.specs.declared.command.Order.TheVariants.{GoIdleState}
use Rattle.sdv_card.specs.CommandTable.{order_of}
use Rattle.sdv_card.specs.Resets.{IsReset}
use Rattle.sdv_graph.specs.Tree.{Statements, nothing, first, Statement, send, setting, choice, set, clear, bus_lines, turns}
use Rattle.sdv_graph.specs.Walk.{Pair, Ending, Failed, Open}

-- WALKS

-- a walk without an event is open, or ended in a fault
abbrev pub IsNoEnd : Ending → Type 0
IsNoEnd Open = Unit {0}
IsNoEnd (Failed name) = Unit {0}
IsNoEnd e = ⊥

-- a walk that has an event begins with CMD0
abbrev pub IsBegun : Kind → Ending → List Pair → Type 0
IsBegun k e [] = IsNoEnd e
IsBegun k e (p ∷ rest) = IsReset k p.0

abbrev pub BeginWithReset : Kind → (Ending → List Pair → Type 0) → Type 0
BeginWithReset k walks = (e : Ending) (es : List Pair) → walks e es → IsBegun k e es

-- THE TEXT

-- the order is CMD0
abbrev pub is_reset : Option Order → Bool
is_reset (Some GoIdleState) = true
is_reset o = false

abbrev pub has_turn : ℕ → Bool
has_turn zero = false
has_turn (suc n) = true

-- The first event of the statements is CMD0: at a `send` of CMD0, also behind statements without an event, in the body of a
-- loop that has a turn, and in both blocks of a choice.
abbrev mutual
  pub begins : Kind → Statements → Bool
  begins k nothing = false
  begins k (first s rest) = begins_at k s (begins k rest)

  -- after: what follows the statement begins so
  pub begins_at : Kind → Statement → (after : Bool) → Bool
  begins_at k (send c ways) after = is_reset (order_of k c.ask)
  begins_at k (turns n a b) after = has_turn n && begins k a
  begins_at k (choice c a b) after = begins k a && begins k b
  begins_at k (setting l) after = after
  begins_at k (set f) after = after
  begins_at k (clear f) after = after
  begins_at k (bus_lines width) after = after
  begins_at k s after = false
