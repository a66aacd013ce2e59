use Rattle.std.proofs.Common.{◌≡◌, ◌≤◌, ◌∙◌, ℕ, List, ap, sym, inl, inr, refl, subst, arith, length, take, replicate, length-take-le}
use Rattle.std.proofs.lemmas.List.{length-replicate}
use Rattle.std.specs.Prelude.{Some}
use Rattle.sdv_card.specs.Port.{Exchange, DataIn, DataInRegister, WaitWhileBusy}
use Rattle.sdv_lines.specs.declared.hearing.Request.TheVariants as requests
use Rattle.sdv_lines.specs.Texts.{trimmed}
use Rattle.sdv_lines.specs.Hearing.{read_request, IsInRange}
use Rattle.sdv_lines.specs.Reading.{ReadsNoBlocks}
use Rattle.sdv_lines.specs.Serving.{Does}
use Rattle.sdv_lines.proofs.ServeLaws.{too_many, one_line, out_lines, blocks_stop, as_asked}
use Rattle.sdv_lines.proofs.card_side.serve_request.Goals as goal

pub returns-then-count-room : goal.returns-then-count-room
returns-then-count-room g c = λ text before t said read. (
  refl,
  refl,
  too_many (length c.args.room.now) c.in-DataIn.count c.in-DataIn.lines before (g.R.Read.remaining c.args.reader.now) text t read
      (inl (said ∙ ap Some c.in-DataIn.is)) c.if-count-room.true,
)

pub returns-then-count-room-2 : goal.returns-then-count-room-2
returns-then-count-room-2 g c = λ text before t said read. (
  refl,
  refl,
  too_many (length c.args.room.now) c.in-DataOut.count c.in-DataOut.lines before (g.R.Read.remaining c.args.reader.now) text t read
      (inr (said ∙ ap Some c.in-DataOut.is)) c.if-count-room-2.true,
)

pub returns-in-Exchange : goal.returns-in-Exchange
returns-in-Exchange g c = λ text before t said read.
    as_asked g.P.CardPort.steps (length c.args.room.now) c.args.request (requests.Exchange c.in-Exchange.command c.in-Exchange.expect)
    _ _ _ _ _ _ c.serve_exchange.result c.in-Exchange.is
    (one_line g.P.CardPort.steps (length c.args.room.now) (Exchange c.in-Exchange.command c.in-Exchange.expect) text
    _ _ before _ _ _ c.serve_exchange.result t read (said ∙ ap Some c.in-Exchange.is) c.serve_exchange.ensures)

pub returns-in-Wait : goal.returns-in-Wait
returns-in-Wait g c = λ text before t said read.
    as_asked g.P.CardPort.steps (length c.args.room.now) c.args.request requests.Wait _ _ _ _ _ _ c.serve_wait.result c.in-Wait.is
    (one_line g.P.CardPort.steps (length c.args.room.now) WaitWhileBusy text
    _ _ before _ _ _ c.serve_wait.result t read (said ∙ ap Some c.in-Wait.is) c.serve_wait.ensures)

pub returns-else-count-room : goal.returns-else-count-room
returns-else-count-room g c = λ text before t said read.
    let steps = g.P.CardPort.steps in
    let count = c.in-DataIn.count in
    let all : length (take count c.args.room.now) ≡ count = length-take-le count c.args.room.now c.if-count-room.false in
    let does = subst (λ n. Does steps (DataIn c.in-DataIn.lines n) c.args.port.now c.serve_data_in.new.port (g.W.Write.contents c.args.writer.now)
    (g.W.Write.contents c.serve_data_in.new.writer) c.serve_data_in.result) all c.serve_data_in.ensures in
    as_asked steps (length c.args.room.now) c.args.request (requests.DataIn count c.in-DataIn.lines)
    _ _ _ _ _ _ c.serve_data_in.result c.in-DataIn.is
    (one_line steps (length c.args.room.now) (DataIn c.in-DataIn.lines count) text
    _ _ before _ _ _ c.serve_data_in.result t read (said ∙ ap Some c.in-DataIn.is) does)

pub returns-in-Register : goal.returns-in-Register
returns-in-Register g c = λ text before t said read.
    let steps = g.P.CardPort.steps in
    let count = c.in-Register.count in
    let range : count ≤ 512 = subst (λ q. IsInRange q) c.in-Register.is c.requires in
    let zeros : List ℕ = replicate 512 0 in
    let full : length zeros ≡ 512 = length-replicate {A = ℕ} 512 0 in
    let all : length (take count zeros) ≡ count = length-take-le count zeros (omega (arith, range, full)) in
    let does = subst (λ n. Does steps (DataInRegister c.in-Register.lines n) c.args.port.now c.serve_register.new.port
    (g.W.Write.contents c.args.writer.now) (g.W.Write.contents c.serve_register.new.writer) c.serve_register.result) all c.serve_register.ensures in
    as_asked steps (length c.args.room.now) c.args.request (requests.Register count c.in-Register.lines)
    _ _ _ _ _ _ c.serve_register.result c.in-Register.is
    (one_line steps (length c.args.room.now) (DataInRegister c.in-Register.lines count) text
    _ _ before _ _ _ c.serve_register.result t read (said ∙ ap Some c.in-Register.is) does)

pub returns-in-Ok : goal.returns-in-Ok
returns-in-Ok g c = λ text before t said read.
    let steps = g.P.CardPort.steps in
    let count = c.in-DataOut.count in
    let blocks = c.read_blocks.new.blocks in
    let all : length blocks ≡ count = c.in-Ok.ensures.1 ∙ length-take-le count c.args.room.now c.if-count-room-2.false in
    let asks : read_request (trimmed text) ≡ Some (requests.DataOut (length blocks) c.in-DataOut.lines) =
    said ∙ ap Some c.in-DataOut.is ∙ ap (λ n. Some (requests.DataOut n c.in-DataOut.lines)) (sym all) in
    as_asked steps (length c.args.room.now) c.args.request (requests.DataOut (length blocks) c.in-DataOut.lines)
    _ _ _ _ _ _ c.serve_data_out.result (c.in-DataOut.is ∙ ap (λ n. requests.DataOut n c.in-DataOut.lines) (sym all))
    (out_lines steps (length c.args.room.now) c.in-DataOut.lines blocks text _ _ before (g.R.Read.remaining c.args.reader.now) _ _ _
    c.serve_data_out.result t read asks c.in-Ok.ensures.0 c.serve_data_out.ensures)

pub returns-in-Err : goal.returns-in-Err
returns-in-Err g c = λ text before t said read.
    let count = c.in-DataOut.count in
    let all : length (take count c.args.room.now) ≡ count = length-take-le count c.args.room.now c.if-count-room-2.false in
    let none = subst (λ n. ReadsNoBlocks c.in-Err.fault n (g.R.Read.remaining c.args.reader.now) (g.R.Read.remaining c.read_blocks.new.reader))
    all c.in-Err.ensures in
    blocks_stop g.P.CardPort.steps (length c.args.room.now) count c.in-DataOut.lines text c.args.port.now before
    (g.R.Read.remaining c.args.reader.now) (g.R.Read.remaining c.read_blocks.new.reader) (g.W.Write.contents c.args.writer.now)
    c.in-Err.fault t read (said ∙ ap Some c.in-DataOut.is) none
