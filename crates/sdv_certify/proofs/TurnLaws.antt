-- Each loop of a script has a turn, and its moves can be counted.
use Rattle.std.proofs.Common.{zero, suc, ◌<◌, length, get_or, All, arith, ◌≡◌, ℕ, ◌^◌, List, [], ◌∷◌, ◌++◌, map, reverse, refl, sym, ap, ◌∙◌, Option}
use Rattle.std.proofs.lemmas.List.{map-append, reverse-append, reverse-reverse}
use Rattle.std.proofs.Props.{props}
use Rattle.std.proofs.Math.Logic.{∥∥₁_elim}
use Rattle.sdv_card.specs.declared.command.Order.{Order}
use Rattle.sdv_card.specs.CommandTable.{order_of}
use Rattle.sdv_script.specs.declared.depth.Depth.{Depth}
use Rattle.sdv_graph.specs.Tree.{Statements, nothing, first, Ways, otherwise, way, Statement, send, phase, setting, choice, set, clear, bus_lines, turns, break, done, fault, Declared}
use Rattle.sdv_graph.specs.Moves.{statements_moves}
use Rattle.sdv_script.specs.Rules.{StatementsFit, WaysFit, StatementFits, deeper, in_loop}
use Rattle.sdv_script.specs.Script.{Parsed, IsScript}
use Rattle.sdv_script.proofs.MovesBound.{few_moves}
use Rattle.sdv_certify.specs.declared.form.Form.{Form}
use Rattle.sdv_certify.specs.Forms.{full_form, FormInLimits}
use Rattle.sdv_certify.specs.LoopTurns.{StatementsTurn, WaysTurn, StatementTurns}

mutual
  statements_turn : (names : Declared) (d : Depth) (b : Statements) → StatementsFit names d b → StatementsTurn b
  statements_turn names d nothing f = tt
  statements_turn names d (first s rest) f = (statement_turns names d s f.0, statements_turn names d rest f.1)

  ways_turn : (names : Declared) (d : Depth) (order : Option Order) (c : Ways) → WaysFit names d order c → WaysTurn c
  ways_turn names d order (otherwise b) f = statements_turn names (deeper d) b f.1
  ways_turn names d order (way guards b rest) f = (statements_turn names (deeper d) b f.2, ways_turn names d order rest f.3)

  statement_turns : (names : Declared) (d : Depth) (s : Statement) → StatementFits names d s → StatementTurns s
  statement_turns names d (send c ways) f = ways_turn names (deeper d) (order_of names.kind c.ask) ways f.2
  statement_turns names d (phase p a b) f = (statements_turn names (deeper (deeper d)) a f.2, statements_turn names (deeper (deeper d)) b f.3)
  statement_turns names d (setting l) f = tt
  statement_turns names d (choice c a b) f = (statements_turn names (deeper d) a f.2, statements_turn names (deeper d) b f.3)
  statement_turns names d (set x) f = tt
  statement_turns names d (clear x) f = tt
  statement_turns names d (bus_lines width) f = tt
  statement_turns names d (turns n a b) f = (f.0, statements_turn names (deeper (in_loop d)) a f.4, statements_turn names (deeper d) b f.5)
  statement_turns names d break f = tt
  statement_turns names d done f = tt
  statement_turns names d (fault name) f = tt

mutual
  statements_prop : (b : Statements) → IsProp (StatementsTurn b)
  statements_prop nothing = hlevel props
  statements_prop (first s rest) = let h = statement_prop s in let i = statements_prop rest in hlevel (props, h, i)

  ways_prop : (c : Ways) → IsProp (WaysTurn c)
  ways_prop (otherwise b) = statements_prop b
  ways_prop (way guards b rest) = let h = statements_prop b in let i = ways_prop rest in hlevel (props, h, i)

  statement_prop : (s : Statement) → IsProp (StatementTurns s)
  statement_prop (send c ways) = ways_prop ways
  statement_prop (phase p a b) = let h = statements_prop a in let i = statements_prop b in hlevel (props, h, i)
  statement_prop (setting l) = hlevel props
  statement_prop (choice c a b) = let h = statements_prop a in let i = statements_prop b in hlevel (props, h, i)
  statement_prop (set x) = hlevel props
  statement_prop (clear x) = hlevel props
  statement_prop (bus_lines width) = hlevel props
  statement_prop (turns n a b) = let h = statements_prop a in let i = statements_prop b in hlevel (props, h, i)
  statement_prop break = hlevel props
  statement_prop done = hlevel props
  statement_prop (fault name) = hlevel props

pub script_turns : (p : Parsed) → ∥ IsScript p ∥₁ → StatementsTurn p.body
script_turns p is =
    ∥∥₁_elim is (statements_prop p.body) (λ (s : IsScript p). statements_turn p.names (record { braces = 0; loops = 0 }) p.body s.fits.statements_fit)

pub script_few : (p : Parsed) → ∥ IsScript p ∥₁ → statements_moves p.body < 2 ^ 128
script_few p is = ∥∥₁_elim is (hlevel props) (λ (s : IsScript p). few_moves p.names p.body s.fits)

map-reverse : (fs : List Form) → map full_form (reverse fs) ≡ reverse (map full_form fs)
map-reverse [] = refl
map-reverse (f ∷ fs) =
    ap (map full_form) (reverse-append (f ∷ []) fs) ∙ map-append full_form (reverse fs) (f ∷ []) ∙ ap (λ l. l ++ full_form f ∷ []) (map-reverse fs)
    ∙ sym (reverse-append (full_form f ∷ []) (map full_form fs))

pub in_order : (fs gs hs : List Form) → map full_form fs ≡ reverse (map full_form gs) → hs ≡ reverse fs → map full_form hs ≡ map full_form gs
in_order fs gs hs e h = ap (map full_form) h ∙ map-reverse fs ∙ ap reverse e ∙ reverse-reverse (map full_form gs)

-- each form is within the limits where all are
pub limits_at : (fs : List Form) (i : ℕ) (d : Form) → i < length fs → All FormInLimits (map full_form fs) → FormInLimits (full_form (get_or fs i d))
limits_at [] i d lt all = absurd (omega arith)
limits_at (f ∷ fs) zero d lt all = all 0 f (omega arith)
limits_at (f ∷ fs) (suc i) d lt all = limits_at fs i d (omega arith) (λ k e h. all (suc k) e (omega arith))
