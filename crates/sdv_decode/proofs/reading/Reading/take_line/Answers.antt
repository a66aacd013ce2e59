use Rattle.std.proofs.Common.{◌≡◌, false, true, Ok, Err, refl, rules}
use Rattle.std.proofs.lemmas.Result.{IfErr-weaker, IfOk-weaker}
use Rattle.sdv_run.specs.Machine.{Asked}
use Rattle.sdv_run.specs.declared.next_event.Next.TheVariants as nexts
use Rattle.sdv_decode.specs.Matches.{is_end}
use Rattle.sdv_decode.specs.declared.reading.Reading.{Reading}
use Rattle.sdv_decode.proofs.StepLaws.{asked_on, end_step, stray_answer}
use Rattle.sdv_decode.proofs.reading.Reading.take_line.Goals as goal

pub returns-then-is_end-clause-steps : goal.returns-then-is_end-clause-steps
returns-then-is_end-clause-steps c =
    let r : Reading = record c.args.self.now { runner = c.ask.new.self } in
    let fits : is_end c.args.text.now c.in-Ok-End.end ≡ true = search rules in
    let next : Asked c.ask.new.self (Ok (nexts.End c.in-Ok-End.end)) = rw c.in-Ok-End.field-0-is at c.in-Ok-End.ensures.asked in
    IfOk-weaker c.end.result _ _
    (λ step h. λ at read stands. h at (asked_on c.args.self.now r at stands c.ask.ensures.came refl refl refl refl))
    (end_step r _ _ _ _ c.end.result c.in-Ok-End.end c.end.ensures.words c.end.ensures.step next c.args.text.now fits)

pub returns-else-is_end-clause-steps : goal.returns-else-is_end-clause-steps
returns-else-is_end-clause-steps c =
    let r : Reading = record c.args.self.now { runner = c.ask.new.self } in
    let other : is_end c.args.text.now c.in-Ok-End.end ≡ false = search rules in
    let next : Asked c.ask.new.self (Ok (nexts.End c.in-Ok-End.end)) = rw c.in-Ok-End.field-0-is at c.in-Ok-End.ensures.asked in
    IfOk-weaker c.stray.result _ _
    (λ step h. λ at read stands. h at read (asked_on c.args.self.now r at stands c.ask.ensures.came refl refl refl refl))
    (stray_answer r _ c.args.line _ _ _ c.stray.result c.stray.ensures.words c.stray.ensures.step (Ok (nexts.End c.in-Ok-End.end)) next c.args.text.now other)

pub returns-in-Err-clause-steps : goal.returns-in-Err-clause-steps
returns-in-Err-clause-steps c =
    let r : Reading = record c.args.self.now { runner = c.ask.new.self } in
    IfOk-weaker c.stray-in-Err.result _ _
    (λ step h. λ at read stands. h at read (asked_on c.args.self.now r at stands c.ask.ensures.came refl refl refl refl))
    (stray_answer r _ c.args.line _ _ _ c.stray-in-Err.result c.stray-in-Err.ensures.words c.stray-in-Err.ensures.step (Err c.in-Err.field-0)
    c.in-Err.ensures.asked c.args.text.now tt)

pub returns-in-Ok-Event-clause-room : goal.returns-in-Ok-Event-clause-room
returns-in-Ok-Event-clause-room c =
    let r : Reading = record c.args.self.now { runner = c.ask.new.self } in
    let next : Asked c.ask.new.self (Ok (nexts.Event c.in-Ok-Event.event)) = search rules in
    IfErr-weaker c.take_event.result _ _
    (λ fault h. λ room at read stands. h room at c.args.text.now read (asked_on c.args.self.now r at stands c.ask.ensures.came refl refl refl refl) next)
    c.take_event.ensures.room
