-- One script and one of its walks, step by step.
--
--     card sd
--     nums x
--     send 0 { else { } }
--     loop 2 { send 8 { echo { break } else { } } } else { fault mute }
--     let x = 8
--     let x = x - 9
--     done
use Rattle.std.proofs.Common.{List, [], ◌∷◌, None, refl, inl, inr}
use Rattle.std.specs.Prelude.{codes}
use Rattle.sdv_registers.specs.declared.kind.Kind.TheVariants.{Sd}
use Rattle.sdv_frames.specs.declared.reply.Reply.TheVariants.{R7}
use Rattle.sdv_card.specs.declared.answer.Answer.TheVariants.{Sent, TimeOut, Reply}
use Rattle.sdv_card.specs.declared.event.Aim.TheVariants.{Plain}
use Rattle.sdv_card.specs.declared.event.Ask.{Ask}
use Rattle.sdv_card.specs.declared.guard.Guard.TheVariants.{Echo}
use Rattle.sdv_card.specs.CommandTable.{order_of}
use Rattle.sdv_card.specs.ScriptEvent.{SendCommand, Answered}
use Rattle.sdv_graph.specs.declared.tree.Atom.TheVariants as atoms
use Rattle.sdv_graph.specs.declared.tree.Change.TheVariants as changes
use Rattle.sdv_script.specs.Rules.{ask_with}
use Rattle.sdv_graph.specs.Tree.{Statements, nothing, first, otherwise, way, send, setting, turns, break, done, fault, Declared}
use Rattle.sdv_graph.specs.Walk.{Pair, Open, Walk, number_fault}

abbrev reset : Ask
reset = ask_with 0 Plain 0 0

abbrev interface_condition : Ask
interface_condition = ask_with 8 Plain 0 0

abbrev names : Declared
names = record { kind = Sd; flags = []; numbers = codes "x" ∷ [] }

abbrev script : Statements
script =
    first (send (record { ask = reset; address = None }) (otherwise nothing)) (
    first (turns 2 (first (send (record { ask = interface_condition; address = None }) (way (Echo ∷ []) (first break nothing) (otherwise nothing))) nothing)
    (first (fault (codes "mute")) nothing)) (
    first (setting (record { target = 0; atom = atoms.Number 8; change = changes.Same })) (
    first (setting (record { target = 0; atom = atoms.Variable 0; change = changes.Minus 9 })) (
    first done nothing))))

-- no answer in the first turn, and one in the second
abbrev pairs : List Pair
pairs =
    (SendCommand reset 0 0, Answered Sent)
    ∷ (SendCommand interface_condition 0 0x1aa, Answered TimeOut)
    ∷ (SendCommand interface_condition 0 0x1aa, Answered (Reply (R7 0x1aa)))
    ∷ []

-- 8 - 9 is below 0
pub example_walk : Walk Sd names script number_fault pairs
unfolding order_of
example_walk =
    inr (
      _,
      _,
      _,
      refl,
      tt,
      refl,
      inr (inr (
        _,
        _,
        _,
        refl,
        tt,
        refl,
        inr (inr (
          _,
          _,
          _,
          refl,
          tt,
          refl,
          inr (inr (inr (refl, refl))),
        )),
      )),
    )

-- the walk is open before its second event
pub example_open : Walk Sd names script Open ((SendCommand reset 0 0, Answered Sent) ∷ [])
unfolding order_of
example_open = inr (_, _, _, refl, tt, refl, inl (refl, refl))
