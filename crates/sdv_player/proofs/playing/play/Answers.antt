use Rattle.std.proofs.Common.{length}
use Rattle.sdv_card.proofs.DamageLaws.{keeps_over_noise}
use Rattle.sdv_player.proofs.OverCard.{plays_beside}
use Rattle.sdv_player.proofs.playing.play.Goals as goal

pub returns-clause-beside : goal.returns-clause-beside
returns-clause-beside g c =
    let port = g.met.P.CardPort in
    plays_beside g.P.CardPort.steps g.P.CardPort.card (keeps_over_noise g.P.CardPort.steps g.P.CardPort.card port.keeps_tables) c.args.words.now
    (length c.args.held.now) c.args.state.now c.play_on.new.state (c.args.port.now, c.args.input.now.now)
    (c.play_on.new.port, c.play_on.new.input.now) c.play_on.result c.play_on.ensures.played

pub returns-clause-over_noise : goal.returns-clause-over_noise
returns-clause-over_noise g c = λ card keeps.
    plays_beside g.P.CardPort.steps card keeps c.args.words.now (length c.args.held.now)
    c.args.state.now c.play_on.new.state (c.args.port.now, c.args.input.now.now) (c.play_on.new.port, c.play_on.new.input.now) c.play_on.result
    c.play_on.ensures.played
