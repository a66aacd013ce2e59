use Rattle.std.proofs.Common.{◌≡◌, ◌≤◌, ◌/◌, ◌%◌, length, [], true, false, sym, ap, ◌∙◌, subst, arith, rules}
use Rattle.sdv_card.specs.Profile.{host_at_start}
use Rattle.sdv_graph.specs.Path.{turns_at}
use Rattle.sdv_table.specs.Reading.{target_of}
use Rattle.sdv_run.proofs.AtPoints.{begins_short}
use Rattle.sdv_player.specs.Play.{has_header}
use Rattle.sdv_player.specs.Seen.{turns_of}
use Rattle.sdv_player.proofs.Begun.{header_of, header_there, kind_read_is, begun}
use Rattle.sdv_player.proofs.player.start.Goals as goal

pub returns-then-not-has_header-clause-starts : goal.returns-then-not-has_header-clause-starts
returns-then-not-has_header-clause-starts c = λ g most table sound.
    let there = header_there g most c.args.words.now table in
    let none : has_header c.args.words.now ≡ false = search (rules, c.has_header.ensures, c.if-not-has_header.true) in
    let clash : true ≡ false = sym there ∙ none in
    absurd (cc)

pub returns-clause-starts : goal.returns-clause-starts
returns-clause-starts c = λ g most table sound.
    let ws = c.args.words.now in
    let h = header_of g most ws table in
    let few = table.fits.counts.numbers in
    let kind : c.word-counts.result / 256 % 256 ≡ _ = ap (λ w. w / 256 % 256) c.word-counts.ensures ∙ h.kind_is in
    let declared : c.word-counts.result / 65536 % 256 ≡ g.numbers = ap (λ w. w / 65536 % 256) c.word-counts.ensures ∙ h.numbers_is in
    let fits : c.word-counts.result / 65536 % 256 ≤ 8 = omega (arith, declared, few) in
    let target : c.target_of.result ≡ g.first = c.target_of.ensures ∙ ap target_of c.word.ensures ∙ h.first_is in
    let turns : turns_at c.target_of.result (turns_of c.stopped.result.place) ≡ turns_at g.first [] =
    ap (λ t. turns_at t (turns_of c.stopped.result.place)) target ∙ ap (λ ts. turns_at g.first ts) c.stopped.ensures.place in
    let short : length (turns_at c.target_of.result (turns_of c.stopped.result.place)) ≤ 4 =
    subst (λ ts. length ts ≤ 4) (sym turns) (begins_short g sound) in
    begun g most ws _ table sound (record {
      kind = kind_read_is g c.stopped.result.host.kind (c.stopped.ensures.kind ∙ kind);
      host = c.stopped.ensures.host fits ∙ ap host_at_start declared;
      remembers = c.stopped.ensures.remembers;
      moves = c.number_at-state.ensures ∙ h.moves_is;
      commands = c.number_at-state-2.ensures ∙ h.commands_is;
      point = c.go_to.ensures.point short ∙ ap (λ t. t.to) target;
      turns = c.go_to.ensures.turns short ∙ turns;
      asked = c.stopped.ensures.stopped.asked;
    })
