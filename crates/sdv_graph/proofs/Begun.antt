-- Where the text begins with CMD0, each walk does.
use Rattle.std.proofs.Common.{◌≡◌, ℕ, zero, suc, inl, inr, refl, sym, ap, subst, Bool, true, false, List, length, Option, Some, None}
use Rattle.std.specs.Prelude.{◌&&◌}
use Rattle.sdv_registers.specs.declared.kind.Kind.{Kind}
use Rattle.sdv_card.specs.declared.command.Order.{Order}
use Rattle.sdv_card.specs.declared.command.Order.TheVariants.{GoIdleState}
use Rattle.sdv_card.specs.CommandTable.{Asks, order_of, argument_or_none}
use Rattle.sdv_card.specs.Host.{Host}
use Rattle.sdv_card.specs.Profile.{host_at_start}
use Rattle.sdv_card.specs.Resets.{IsReset}
use Rattle.sdv_card.specs.ScriptEvent.{Return}
use Rattle.sdv_graph.specs.declared.tree.ScriptCommand.{ScriptCommand}
use Rattle.sdv_graph.specs.AddressSent.{position_of_command, address_of_command}
use Rattle.sdv_graph.specs.Conditions.{condition_holds, with_flag, with_lines}
use Rattle.sdv_graph.specs.ValueOfLet.{value_of_let, with_number}
use Rattle.sdv_graph.specs.Tree.{Statements, nothing, first, Statement, send, phase, setting, choice, set, clear, bus_lines, turns, break, done, fault, Declared}
use Rattle.sdv_graph.specs.Walk.{Pair, Ending, Fell, Broke, Open, Rest, Stops, Here, Either, InRange, Acts, command_deed, number_fault, walk_statements, walk_statement, walk_ways, Walk, after_all}
use Rattle.sdv_graph.specs.Begins.{IsNoEnd, IsBegun, BeginWithReset, is_reset, begins, begins_at}

left_of : (a b : Bool) → a && b ≡ true → a ≡ true
left_of true b e = refl
left_of false b e = absurd (cc)

right_of : (a b : Bool) → a && b ≡ true → b ≡ true
right_of true b e = e
right_of false b e = absurd (cc)

order_is : (o : Option Order) → is_reset o ≡ true → o ≡ Some GoIdleState
order_is (Some GoIdleState) e = refl
order_is None e = absurd (cc)
order_is (Some order) e = absurd (cc)

opened : (k : Kind) (e : Ending) (es : List Pair) → Stops e Open es → IsBegun k e es
opened k e es s = subst (IsBegun k e) (sym s.0) (subst IsNoEnd (sym s.1) tt)

failed : (k : Kind) (e : Ending) (es : List Pair) → Stops e number_fault es → IsBegun k e es
failed k e es s = subst (IsBegun k e) (sym s.0) (subst IsNoEnd (sym s.1) tt)

here : (k : Kind) (e : Ending) (on : Type 0) (es : List Pair) → (on → IsBegun k e es) → Here e on es → IsBegun k e es
here k e on es f (inl s) = opened k e es s
here k e on es f (inr w) = f w

ranged : (k : Kind) (e : Ending) (o : Option ℕ) (on : ℕ → Type 0) (es : List Pair) → ((n : ℕ) → on n → IsBegun k e es) → InRange e o on es → IsBegun k e es
ranged k e None on es f s = failed k e es s
ranged k e (Some n) on es f w = f n w

either : (b : Bool) (x y z : Type 0) → (x → z) → (y → z) → Either b x y → z
either true x y z f g w = f w
either false x y z f g w = g w

sent : (k : Kind) (e : Ending) (c : ScriptCommand) (h : Host) (position : ℕ) (next : Return → Rest) (es : List Pair) → Asks k c.ask GoIdleState →
    Acts k (command_deed k c h position) h next es → IsBegun k e es
sent k e c h position next es asks (event, returned, rest, is, may, same, on) =
    subst (IsBegun k e) (sym same) (subst (IsReset k) (sym is)
    (asks, ap (λ o. argument_or_none o c.ask.argument h.rca (address_of_command h c.address position)) asks.line))

mutual
  statements_begin : (k : Kind) (e : Ending) (b : Statements) → begins k b ≡ true → (fell broke : Rest) (h : Host) (es : List Pair)
      → walk_statements k e b fell broke h es → IsBegun k e es
  statements_begin k e nothing is fell broke h es w = absurd (cc)
  statements_begin k e (first s rest) is fell broke h es w =
      statement_begins k e s (begins k rest) is (walk_statements k e rest fell broke) broke
      (λ after g gs x. statements_begin k e rest after fell broke g gs x) h es w

  statement_begins : (k : Kind) (e : Ending) (s : Statement) (after : Bool) → begins_at k s after ≡ true → (fell broke : Rest)
      → (after ≡ true → (h : Host) (es : List Pair) → fell h es → IsBegun k e es) → (h : Host) (es : List Pair)
      → walk_statement k e s fell broke h es → IsBegun k e es
  statement_begins k e (send c ways) after is fell broke f h es w =
      here k e _ es
      (λ x. ranged k e (position_of_command h c.address) _ es
      (λ position acts. sent k e c h position (λ returned. walk_ways k e ways returned fell broke) es (record { line = order_is (order_of k c.ask) is }) acts) x) w
  statement_begins k e (turns zero a b) after is fell broke f h es w = absurd (cc)
  statement_begins k e (turns (suc n) a b) after is fell broke f h es w =
      here k e _ es (λ x. statements_begin k e a is _ _ h es x) w
  statement_begins k e (choice c a b) after is fell broke f h es w =
      here k e _ es
      (λ x. either (condition_holds h c) _ _ (IsBegun k e es)
      (λ y. statements_begin k e a (left_of (begins k a) (begins k b) is) fell broke h es y)
      (λ y. statements_begin k e b (right_of (begins k a) (begins k b) is) fell broke h es y) x) w
  statement_begins k e (setting l) after is fell broke f h es w =
      here k e _ es
      (λ x. ranged k e (value_of_let k h l) _ es (λ n y. f is (with_number h l.target n) es y) x) w
  statement_begins k e (set flag) after is fell broke f h es w = here k e _ es (λ x. f is (with_flag h flag true) es x) w
  statement_begins k e (clear flag) after is fell broke f h es w = here k e _ es (λ x. f is (with_flag h flag false) es x) w
  statement_begins k e (bus_lines width) after is fell broke f h es w = here k e _ es (λ x. f is (with_lines h width) es x) w
  statement_begins k e (phase p a b) after is fell broke f h es w = absurd (cc)
  statement_begins k e break after is fell broke f h es w = absurd (cc)
  statement_begins k e done after is fell broke f h es w = absurd (cc)
  statement_begins k e (fault name) after is fell broke f h es w = absurd (cc)

pub walks_begin : (k : Kind) (names : Declared) (body : Statements) → begins k body ≡ true → BeginWithReset k (Walk k names body)
walks_begin k names body is e es w = statements_begin k e body is (after_all e Fell) (after_all e Broke) (host_at_start (length names.numbers)) es w
