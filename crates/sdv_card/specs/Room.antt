-- How much room there is for the branches of a row at a settled card, before each outcome is listed once.
-- There is room for 32 branches, for those of both settled cards.
use Rattle.std.specs.Prelude.{ℕ}
use Rattle.sdv_card.specs.declared.state.State.{State}
use Rattle.sdv_card.specs.declared.state.State.TheVariants.{Tran}
use Rattle.sdv_card.specs.declared.command.Row.{Row}
use Rattle.sdv_card.specs.declared.command.Row.TheVariants.{Cmd6}
use Rattle.sdv_card.specs.declared.command.TakenAs.{TakenAs}
use Rattle.sdv_card.specs.declared.command.TakenAs.TheVariants.{Forbidden, Ignored, By}

-- the room of a row at a state: CMD6 sets its value or fails in transfer state, and can only stay in any other
abbrev pub row_room : Row → State → ℕ
row_room (Cmd6 setting) Tran = 21
row_room (Cmd6 setting) state = 11
row_room row state = 16

-- the part of it for a command or a response that is lost
abbrev pub lost_room : Row → State → ℕ
lost_room (Cmd6 setting) Tran = 9
lost_room (Cmd6 setting) state = 5
lost_room row state = 7

-- the room of an order, by how a card takes it
abbrev pub way_room : TakenAs → State → ℕ
way_room Forbidden state = 0
way_room Ignored state = 1
way_room (By row) state = row_room row state
