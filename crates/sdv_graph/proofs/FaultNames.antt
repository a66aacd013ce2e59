-- A walk of a script that ends in a fault ends in one that the script names, or in the fault of a number.
use Rattle.std.proofs.Common.{ℕ, zero, suc, inl, inr, refl, sym, subst, List, [], ◌∷◌, ◌++◌, Bool, true, false, Option, Some, None, length}
use Rattle.std.specs.Prelude.{codes}
use Rattle.sdv_registers.specs.declared.kind.Kind.{Kind}
use Rattle.sdv_card.specs.declared.guard.Guard.TheVariants.{Ok as WentWell}
use Rattle.sdv_card.specs.Guards.{passes}
use Rattle.sdv_card.specs.Host.{Host, host_after}
use Rattle.sdv_card.specs.Lists.{IsOneOf}
use Rattle.sdv_card.specs.Profile.{host_at_start}
use Rattle.sdv_card.specs.ScriptEvent.{Return}
use Rattle.sdv_graph.specs.Tree.{Statements, nothing, first, Ways, otherwise, way, Statement, send, phase, setting, choice, set, clear, bus_lines, turns, break, done, fault, Declared}
use Rattle.sdv_graph.specs.AddressSent.{position_of_command}
use Rattle.sdv_graph.specs.Conditions.{condition_holds, with_flag, with_lines}
use Rattle.sdv_graph.specs.NamedFaults.{statements_faults, ways_faults, statement_faults, IsFaultOf, NamesFault}
use Rattle.sdv_graph.specs.ValueOfLet.{value_of_let, with_number}
use Rattle.sdv_graph.specs.Walk.{Pair, Ending, Fell, Broke, Open, Rest, Stops, Here, Either, InRange, Deed, Acts, command_deed, phase_deed, all_pass, rounds, walk_statements, walk_ways, walk_statement, after_all, Walk}

-- one list of names holds another
abbrev Within : List (List ℕ) → List (List ℕ) → Type 0
Within ns all = (n : List ℕ) → IsOneOf ns n → IsOneOf all n

or_right : (a b : List (List ℕ)) (n : List ℕ) → IsOneOf b n → IsOneOf (a ++ b) n
or_right [] b n m = m
or_right (x ∷ a) b n m = inr (or_right a b n m)

or_left : (a b : List (List ℕ)) (n : List ℕ) → IsOneOf a n → IsOneOf (a ++ b) n
or_left [] b n m = absurd m
or_left (x ∷ a) b n (inl e) = inl e
or_left (x ∷ a) b n (inr m) = inr (or_left a b n m)

front : (a b all : List (List ℕ)) → Within (a ++ b) all → Within a all
front a b all w n m = w n (or_left a b n m)

back : (a b all : List (List ℕ)) → Within (a ++ b) all → Within b all
back a b all w n m = w n (or_right a b n m)

module _ (k : Kind) (e : Ending) (all : List (List ℕ)) (has_number : IsOneOf all (codes "number")) where
  -- what still comes ends in one of these faults, if in any
  abbrev Good : Rest → Type 0
  Good rest = (h : Host) (es : List Pair) → rest h es → IsFaultOf all e

  stops_open : (es : List Pair) → Stops e Open es → IsFaultOf all e
  stops_open es s = subst (λ e. IsFaultOf all e) (sym s.1) tt

  here : (on : Type 0) (es : List Pair) → (on → IsFaultOf all e) → Here e on es → IsFaultOf all e
  here on es f (inl s) = stops_open es s
  here on es f (inr o) = f o

  either : (b : Bool) (p q : Type 0) → (p → IsFaultOf all e) → (q → IsFaultOf all e) → Either b p q → IsFaultOf all e
  either true p q f g w = f w
  either false p q f g w = g w

  in_range : (o : Option ℕ) (on : ℕ → Type 0) (es : List Pair) → ((n : ℕ) → on n → IsFaultOf all e) → InRange e o on es → IsFaultOf all e
  in_range None on es f s = subst (λ e. IsFaultOf all e) (sym s.1) (record { one = has_number })
  in_range (Some n) on es f o = f n o

  acts : (deed : Deed) (h : Host) (next : Return → Rest) (es : List Pair) → ((returned : Return) → Good (next returned)) → Acts k deed h next es
      → IsFaultOf all e
  acts deed h next es f (event, returned, rest, is, may, same, on) = f returned (host_after k event returned h) rest on

  turns_good : (n : ℕ) (body : Rest → Rest) (other : Rest) → ((r : Rest) → Good r → Good (body r)) → Good other → Good (rounds e n body other)
  turns_good zero body other f g h es w = here (other h es) es (λ o. g h es o) w
  turns_good (suc n) body other f g h es w = here (body (rounds e n body other) h es) es (λ o. f (rounds e n body other) (turns_good n body other f g) h es o) w

  mutual
    statements_good : (b : Statements) (fell broke : Rest) → Within (statements_faults b) all → Good fell → Good broke → Good (walk_statements k e b fell broke)
    statements_good nothing fell broke w f g = f
    statements_good (first s rest) fell broke w f g =
        statement_good s (walk_statements k e rest fell broke) broke (front (statement_faults s) (statements_faults rest) all w)
        (statements_good rest fell broke (back (statement_faults s) (statements_faults rest) all w) f g) g

    ways_good : (c : Ways) (returned : Return) (fell broke : Rest) → Within (ways_faults c) all → Good fell → Good broke
        → Good (walk_ways k e c returned fell broke)
    ways_good (otherwise b) returned fell broke w f g h es x = statements_good b fell broke w f g h es x
    ways_good (way guards b rest) returned fell broke w f g h es x =
        either (all_pass k guards returned) (walk_statements k e b fell broke h es) (walk_ways k e rest returned fell broke h es)
        (statements_good b fell broke (front (statements_faults b) (ways_faults rest) all w) f g h es)
        (ways_good rest returned fell broke (back (statements_faults b) (ways_faults rest) all w) f g h es) x

    statement_good : (s : Statement) (fell broke : Rest) → Within (statement_faults s) all → Good fell → Good broke → Good (walk_statement k e s fell broke)
    statement_good (send c ways) fell broke w f g h es x =
        here _ es (in_range (position_of_command h c.address)
        (λ position. Acts k (command_deed k c h position) h (λ returned. walk_ways k e ways returned fell broke) es) es
        (λ position. acts (command_deed k c h position) h (λ returned. walk_ways k e ways returned fell broke) es
        (λ returned. ways_good ways returned fell broke w f g))) x
    statement_good (phase p a b) fell broke w f g h es x =
        here _ es (acts (phase_deed p h) h (λ returned h' rest. Either (passes k WentWell returned) (walk_statements k e a fell broke h' rest)
        (walk_statements k e b fell broke h' rest)) es
        (λ returned h' rest. either (passes k WentWell returned) (walk_statements k e a fell broke h' rest) (walk_statements k e b fell broke h' rest)
        (statements_good a fell broke (front (statements_faults a) (statements_faults b) all w) f g h' rest)
        (statements_good b fell broke (back (statements_faults a) (statements_faults b) all w) f g h' rest))) x
    statement_good (setting l) fell broke w f g h es x =
        here _ es (in_range (value_of_let k h l) (λ n. fell (with_number h l.target n) es) es (λ n. f (with_number h l.target n) es)) x
    statement_good (choice c a b) fell broke w f g h es x =
        here _ es (either (condition_holds h c) (walk_statements k e a fell broke h es) (walk_statements k e b fell broke h es)
        (statements_good a fell broke (front (statements_faults a) (statements_faults b) all w) f g h es)
        (statements_good b fell broke (back (statements_faults a) (statements_faults b) all w) f g h es)) x
    statement_good (set x) fell broke w f g h es y = here _ es (f (with_flag h x true) es) y
    statement_good (clear x) fell broke w f g h es y = here _ es (f (with_flag h x false) es) y
    statement_good (bus_lines width) fell broke w f g h es y = here _ es (f (with_lines h width) es) y
    statement_good (turns n a b) fell broke w f g h es x =
        turns_good n (λ again. walk_statements k e a again fell) (walk_statements k e b fell broke)
        (λ r good. statements_good a r fell (front (statements_faults a) (statements_faults b) all w) good f)
        (statements_good b fell broke (back (statements_faults a) (statements_faults b) all w) f g) h es x
    statement_good break fell broke w f g h es x = here _ es (g h es) x
    statement_good done fell broke w f g h es x = here _ es (λ s. subst (λ e. IsFaultOf all e) (sym s.1) tt) x
    statement_good (fault name) fell broke w f g h es x = here _ es (λ s. subst (λ e. IsFaultOf all e) (sym s.1) (record { one = w name (inl refl) })) x

  none_after : (last : Ending) → IsFaultOf all last → Good (after_all e last)
  none_after last l h es x = here (Stops e last es) es (λ s. subst (λ e. IsFaultOf all e) (sym s.1) l) x

pub names_fault : (k : Kind) (names : Declared) (script : Statements) (e : Ending) (es : List Pair) → Walk k names script e es → NamesFault script e
names_fault k names script e es walk =
    let all = codes "number" ∷ statements_faults script in
    statements_good k e all (inl refl) script (after_all e Fell) (after_all e Broke) (λ n m. inr m) (none_after k e all (inl refl) Fell tt)
    (none_after k e all (inl refl) Broke tt)
    (host_at_start (length names.numbers)) es walk
