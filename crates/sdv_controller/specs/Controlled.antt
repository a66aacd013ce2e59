-- What a controller makes of its wire: its steps as a port.
use Rattle.std.specs.Prelude.{ℕ, List}
use Rattle.sdv_frames.specs.declared.command.Command.{Command}
use Rattle.sdv_frames.specs.declared.reply.Expect.{Expect}
use Rattle.sdv_frames.specs.Frame.{IsCommand, IsCommandFrame}
use Rattle.sdv_card.specs.declared.answer.Answer.{Answer}
use Rattle.sdv_card.specs.Port.{Call, Exchange}
use Rattle.sdv_card.specs.ScriptEvent.{Return, Answered}
use Rattle.sdv_controller.specs.declared.wire.WireEnd.{WireEnd}
use Rattle.sdv_controller.specs.declared.controller.Controller.{Controller}
use Rattle.sdv_controller.specs.declared.tolerant.TolerantController.{TolerantController}
use Rattle.sdv_controller.specs.Wire.{WireCall, WireReturn, Transfer, Transferred, OtherCall, OtherReturn}
use Rattle.sdv_controller.specs.Answers.{AnswerIs}

-- the wire of a controller
abbrev pub wire_of : {W : Type 0} → Controller W → W
wire_of c = c.wire

-- the wire of a tolerant controller
abbrev pub tolerant_wire : {W : Type 0} → TolerantController W → W
tolerant_wire c = c.controller.wire

-- one transfer of the command's frame, and the answer that its bytes are
pub record Exchanged {S : Type 0} (steps : S → WireCall → WireReturn → S → Type 0) (command : Command) (expect : Expect)
    (s : S) (answer : Answer) (s' : S) : Type 0 where
  pub is_command : IsCommand command
  pub frame : List ℕ
  pub framed : IsCommandFrame command frame
  pub end : WireEnd
  pub response : List ℕ
  pub step : steps s (Transfer frame) (Transferred end response) s'
  pub answer_is : AnswerIs expect end response answer

-- the steps of a controller, by those of its wire
abbrev pub ControllerSteps : {S : Type 0} → (S → WireCall → WireReturn → S → Type 0) → S → Call → Return → S → Type 0
ControllerSteps steps s (Exchange command expect) (Answered answer) s' = Exchanged steps command expect s answer s'
ControllerSteps steps s (Exchange command expect) returned s' = ⊥
ControllerSteps steps s call returned s' = steps s (OtherCall call) (OtherReturn returned) s'
