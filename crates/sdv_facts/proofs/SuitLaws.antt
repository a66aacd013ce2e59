-- The points of a script's graph keep the rules of scripts.
use Rattle.std.proofs.Common.{◌≡◌, ℕ, zero, suc, subst, List, [], ◌∷◌, true, Option, Some, None}
use Rattle.std.specs.Prelude.{slice_get}
use Rattle.std.proofs.lemmas.Bool.{ltb-true}
use Rattle.sdv_registers.specs.declared.kind.Kind.{Kind}
use Rattle.sdv_registers.specs.declared.kind.Kind.TheVariants.{Sd, Emmc}
use Rattle.sdv_card.specs.declared.command.Order.{Order}
use Rattle.sdv_card.specs.declared.event.Ask.{Ask}
use Rattle.sdv_card.specs.declared.guard.Guard.{Guard}
use Rattle.sdv_card.specs.CommandTable.{order_of}
use Rattle.sdv_card.specs.Laws.{fits_order}
use Rattle.sdv_graph.specs.declared.tree.Atom.{Atom}
use Rattle.sdv_graph.specs.declared.tree.Atom.TheVariants as atoms
use Rattle.sdv_graph.specs.GuardSuits as commands
use Rattle.sdv_graph.specs.Graph.{Graph}
use Rattle.sdv_graph.specs.GraphOf.{IsSound}
use Rattle.sdv_graph.specs.Limits.{action_keeps_limits, keeps_limits, all_keep_limits}
use Rattle.sdv_graph.specs.Path.{Case, Action, Point, sends, phases, lets, tests, flags, widths, heads, jumps, stops}
use Rattle.sdv_graph.specs.Counts.{max_flags}
use Rattle.sdv_graph.specs.Suits.{guards_suit, cases_suit, atom_suits, action_suits, all_suit}
use Rattle.sdv_facts.specs.Keeps.{MayStandIn}
use Rattle.sdv_facts.specs.Stands.{GuardsSuit, CasesSuit, ActionSuits, EachActionSuits}
use Rattle.sdv_facts.proofs.UnitLaws.{both}

same_test : (g : Guard) (o : Option Order) → commands.fits_order g o ≡ true → fits_order g o ≡ true
same_test g None e = e
same_test g (Some order) e = e

guards_at : (k : Kind) (ask : Ask) (gs : List Guard) → guards_suit (order_of k ask) gs ≡ true → GuardsSuit k ask gs
guards_at k ask [] e = tt
guards_at k ask (g ∷ gs) e =
    let p = both (commands.fits_order g (order_of k ask)) (guards_suit (order_of k ask) gs) e in
    (same_test g (order_of k ask) p.0, guards_at k ask gs p.1)

cases_at : (k : Kind) (ask : Ask) (ws : List Case) → cases_suit (order_of k ask) ws ≡ true → CasesSuit k ask ws
cases_at k ask [] e = tt
cases_at k ask (w ∷ ws) e =
    let p = both (guards_suit (order_of k ask) w.guards) (cases_suit (order_of k ask) ws) e in
    (guards_at k ask w.guards p.0, cases_at k ask ws p.1)

atom_at : (k : Kind) (a : Atom) → atom_suits k a ≡ true → MayStandIn k a
atom_at Sd (atoms.Number n) e = tt
atom_at Sd (atoms.Variable x) e = tt
atom_at Sd atoms.CsdBlocks e = tt
atom_at Sd atoms.ExtBlocks e = absurd (cc)
atom_at Sd atoms.ExtBoot e = absurd (cc)
atom_at Emmc a e = tt

action_at : (k : Kind) (action : Action) → action_suits k action ≡ true → action_keeps_limits action ≡ true → ActionSuits k action
action_at k (sends c ways other) e l = cases_at k c.ask ways e
action_at k (phases p well other) e l = tt
action_at k (lets x t) e l = atom_at k x.atom e
action_at k (tests c met unmet) e l = tt
action_at k (flags flag on t) e l = ltb-true flag max_flags l
action_at k (widths width t) e l = e
action_at k (heads n body other) e l = tt
action_at k (jumps t) e l = tt
action_at k (stops last) e l = tt

actions_at : (k : Kind) (ps : List Point) → all_suit k ps ≡ true → all_keep_limits ps ≡ true → (i : ℕ) (p : Point) → slice_get ps i ≡ Some p
    → ActionSuits k p.action
actions_at k [] e l i p is = absurd (cc)
actions_at k (q ∷ ps) e l zero p is =
    let same : q ≡ p = cc in
    let a = both (action_suits k q.action) (all_suit k ps) e in
    let b = both (keeps_limits q) (all_keep_limits ps) l in
    subst (λ p. ActionSuits k p.action) same (action_at k q.action a.0 (both (action_keeps_limits q.action) _ b.0).0)
actions_at k (q ∷ ps) e l (suc i) p is =
    actions_at k ps (both (action_suits k q.action) (all_suit k ps) e).1 (both (keeps_limits q) (all_keep_limits ps) l).1 i p is

pub each_action_suits : (g : Graph) → IsSound g → EachActionSuits g
each_action_suits g sound i p is = actions_at g.kind g.points sound.suits sound.limits i p is
