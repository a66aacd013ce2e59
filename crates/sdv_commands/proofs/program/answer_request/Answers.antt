use Rattle.std.proofs.Common.{refl, subst, sym}
use Rattle.sdv_program.specs.Requests.{card_names_of, seen}
use Rattle.sdv_program.proofs.StartLaws.{keeps_same}
use Rattle.sdv_program.specs.declared.request.Request.{Request}
use Rattle.sdv_program.specs.Outcomes.{outcome_of}
use Rattle.sdv_lines.specs.Streams.{Streams, streams_of}
use Rattle.sdv_commands.specs.Ends.{EndsRequest}
use Rattle.sdv_commands.proofs.EndsLaws.{card_ends}
use Rattle.sdv_commands.proofs.program.answer_request.Goals as goal

pub returns-in-Frame : goal.returns-in-Frame
returns-in-Frame g c =
    subst (λ (request : Request). EndsRequest (g.S.Store.known c.args.files.now) (streams_of g.I.Read.remaining g.L.Write.contents c.args.lines.now)
    (streams_of g.I.Read.remaining g.L.Write.contents c.args.lines.now) (seen request) (outcome_of c.print_frame.result)
    (g.O.Write.contents c.args.out.now) (g.O.Write.contents c.print_frame.new.out)) (sym c.in-Frame.is) (refl, c.print_frame.ensures)

pub returns-in-Audit : goal.returns-in-Audit
returns-in-Audit g c =
    subst (λ (request : Request). EndsRequest (g.S.Store.known c.args.files.now) (streams_of g.I.Read.remaining g.L.Write.contents c.args.lines.now)
    (streams_of g.I.Read.remaining g.L.Write.contents c.args.lines.now) (seen request) (outcome_of c.audit_file.result)
    (g.O.Write.contents c.args.out.now) (g.O.Write.contents c.audit_file.new.out)) (sym c.in-Audit.is) (refl, c.audit_file.ensures)

pub returns-in-Drive : goal.returns-in-Drive
returns-in-Drive g c =
    let s = streams_of g.I.Read.remaining g.L.Write.contents c.args.lines.now in
    let s' = streams_of g.I.Read.remaining g.L.Write.contents c.drive_files.new.port in
    subst (λ (request : Request). EndsRequest (g.S.Store.known c.args.files.now) s s' (seen request) (outcome_of c.drive_files.result)
    (g.O.Write.contents c.args.out.now) (g.O.Write.contents c.args.out.now)) (sym c.in-Drive.is) (c.drive_files.ensures, keeps_same _)

pub returns-in-Card : goal.returns-in-Card
returns-in-Card g c =
    let a = g.I.Read.remaining c.args.lines.now.reader in
    let q = g.L.Write.contents c.args.lines.now.writer in
    let a' = g.I.Read.remaining c.serve_card.new.reader in
    let q' = g.L.Write.contents c.serve_card.new.writer in
    let s = streams_of g.I.Read.remaining g.L.Write.contents c.args.lines.now in
    let s' : Streams = record { answers = a'; requests = q'; left = c.args.lines.now.commands_left; fault = c.args.lines.now.fault; unheard = c.args.lines.now.unheard } in
    subst (λ (request : Request). EndsRequest (g.S.Store.known c.args.files.now) s s' (seen request) (outcome_of c.serve_card.result)
    (g.O.Write.contents c.args.out.now) (g.O.Write.contents c.args.out.now)) (sym c.in-Card.is) (
      card_ends (g.S.Store.known c.args.files.now) (card_names_of c.in-Card.names) a a' q q' c.serve_card.result
          c.serve_card.ensures.done c.serve_card.ensures.fails,
      keeps_same _,
    )
