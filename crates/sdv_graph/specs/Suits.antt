-- What the rules of scripts say of the events, registers and data lines of a graph's points, by the kind of the card:
-- each guard says something of the answers to its command, and a script for an SD card names no EXT_CSD and no eight
-- data lines.
use Rattle.std.specs.Prelude.{List, [], ◌∷◌, Bool, true, false, ◌&&◌, Option}
use Rattle.sdv_registers.specs.declared.kind.Kind.{Kind}
use Rattle.sdv_registers.specs.declared.kind.Kind.TheVariants.{Sd}
use Rattle.sdv_card.specs.declared.command.Order.{Order}
use Rattle.sdv_card.specs.declared.guard.Guard.{Guard}
use Rattle.sdv_card.specs.CommandTable.{order_of}
use Rattle.sdv_card.specs.Modes.{has_width}
use Rattle.sdv_graph.specs.declared.tree.Atom.{Atom}
use Rattle.sdv_graph.specs.declared.tree.Atom.TheVariants.{ExtBlocks, ExtBoot}
use Rattle.sdv_graph.specs.GuardSuits.{fits_order}
use Rattle.sdv_graph.specs.Path.{Case, Action, Point, sends, lets, widths}

abbrev pub guards_suit : Option Order → List Guard → Bool
guards_suit order [] = true
guards_suit order (g ∷ gs) = fits_order g order && guards_suit order gs

abbrev pub cases_suit : Option Order → List Case → Bool
cases_suit order [] = true
cases_suit order (w ∷ ws) = guards_suit order w.guards && cases_suit order ws

abbrev pub atom_suits : Kind → Atom → Bool
atom_suits Sd ExtBlocks = false
atom_suits Sd ExtBoot = false
atom_suits k atom = true

abbrev pub action_suits : Kind → Action → Bool
action_suits k (sends c ways other) = cases_suit (order_of k c.ask) ways
action_suits k (lets l t) = atom_suits k l.atom
action_suits k (widths width t) = has_width k width
action_suits k action = true

abbrev pub all_suit : Kind → List Point → Bool
all_suit k [] = true
all_suit k (p ∷ ps) = action_suits k p.action && all_suit k ps
