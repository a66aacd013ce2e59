use Rattle.std.proofs.Common.{◌≤◌, length, arith}
use Rattle.sdv_run.proofs.Performs.{sent, received, received_register, gave}
use Rattle.sdv_run.proofs.performing.perform.Goals as goal

pub exchange-requires : goal.exchange-requires
exchange-requires g c = rw c.in-Send.is at c.requires

pub receive_blocks-requires : goal.receive_blocks-requires
receive_blocks-requires g c = rw c.in-ReceiveBlocks.is at c.requires

pub receive_register-end-requires : goal.receive_register-end-requires
receive_register-end-requires g c = rw c.in-ReceiveRegister.is at c.requires

pub returns-in-Send : goal.returns-in-Send
returns-in-Send g c =
    rw c.in-Send.is
    (sent _ g.P.CardPort.steps _ _ c.in-Send.ask c.in-Send.position c.in-Send.argument c.exchange.result c.args.port.now c.exchange.new.port c.exchange.ensures)

pub returns-in-ReceiveBlocks : goal.returns-in-ReceiveBlocks
returns-in-ReceiveBlocks g c =
    let room = rw c.in-ReceiveBlocks.is at c.requires in
    let same = c.receive_blocks.auto.held in
    let le : c.in-ReceiveBlocks.count ≤ length c.receive_blocks.new.held = omega (arith, room, same) in
    rw c.in-ReceiveBlocks.is
    (received _ g.P.CardPort.steps _ c.receive_blocks.new.held c.in-ReceiveBlocks.lines c.in-ReceiveBlocks.count c.receive_blocks.result
    c.args.port.now c.receive_blocks.new.port le c.receive_blocks.ensures)

pub returns-in-ReceiveRegister : goal.returns-in-ReceiveRegister
returns-in-ReceiveRegister g c =
    rw c.in-ReceiveRegister.is
    (received_register _ g.P.CardPort.steps _ _ c.in-ReceiveRegister.lines c.in-ReceiveRegister.count
    c.receive_register-end.result.0 c.receive_register-end.result.1
    c.args.port.now c.receive_register-end.new.port (rw c.in-ReceiveRegister.is at c.requires)
    c.receive_register-end.ensures.room c.receive_register-end.ensures.received)

pub returns-in_ok-give_blocks-in-GiveBlocks : goal.returns-in_ok-give_blocks-in-GiveBlocks
returns-in_ok-give_blocks-in-GiveBlocks g c =
    rw c.in-GiveBlocks.is
    (gave _ g.P.CardPort.steps _ c.in-GiveBlocks.lines c.in-GiveBlocks.count _ _
    c.in_ok-give_blocks-in-GiveBlocks.field-0 c.in_ok-give_blocks-in-GiveBlocks.ensures)
