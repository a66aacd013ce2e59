use Rattle.std.proofs.Common.{◌≡◌, true, false, sym, ap, ◌∙◌, subst, rules}
use Rattle.sdv_card.specs.declared.answer.Answer.{Answer}
use Rattle.sdv_card.specs.ScriptEvent.{Answered}
use Rattle.sdv_graph.specs.declared.tree.ScriptCommand.{ScriptCommand}
use Rattle.sdv_graph.specs.Path.{way_of}
use Rattle.sdv_run.specs.declared.returned.Returned.TheVariants as told
use Rattle.sdv_table.specs.Reading.{cases_of}
use Rattle.sdv_player.specs.Hearing.{heard, is_heard, registers_after}
use Rattle.sdv_player.specs.Play.{GoesOn, Refuses}
use Rattle.sdv_player.specs.Seen.{Remembers, kind_of, host_of}
use Rattle.sdv_player.proofs.Taken.{refuses_answer, refuses, takes_answer}
use Rattle.sdv_player.proofs.player.answer.Goals as goal

pub returns-in_default-clause-takes : goal.returns-in_default-clause-takes
returns-in_default-clause-takes c = λ g r stands some.
    let none = rw c.in_default.is at c.command_at.ensures.none in
    refuses_answer g c.args.words.now c.args.state.now r stands (heard c.args.answer.now) none

pub returns-then-not-hear-clause-takes : goal.returns-then-not-hear-clause-takes
returns-then-not-hear-clause-takes c = λ g r stands some.
    let s = c.args.state.now in
    let row = c.in-Some.row in
    let is = rw c.in-Some.is at c.command_at.ensures.some in
    let command : ScriptCommand = record { ask = row.ask; address = is.0 } in
    let refused : is_heard (kind_of s.host) row.ask c.sending_at.result c.heard-came.result ≡ false =
    search (rules, c.hear.ensures.heard, c.if-not-hear.true) in
    subst (λ (a : Answer). Refuses g s r (told.Answered a)) c.heard-came.ensures
    (refuses g c.args.words.now s r stands command (cases_of row.cases.count row.cases.words.now) row.other is.1 c.sending_at.result
    c.sending_at.ensures.table c.heard-came.result refused)

pub returns-clause-takes : goal.returns-clause-takes
returns-clause-takes c = λ g r stands.
    let s = c.args.state.now in
    let row = c.in-Some.row in
    let is = rw c.in-Some.is at c.command_at.ensures.some in
    let command : ScriptCommand = record { ask = row.ask; address = is.0 } in
    let sending = c.sending_at.result in
    let a = c.heard-came.result in
    let cs = cases_of row.cases.count row.cases.words.now in
    let is_true : c.hear.result ≡ true = search (rules, c.if-not-hear.false) in
    let heard : is_heard (kind_of s.host) row.ask sending a ≡ true = sym c.hear.ensures.heard ∙ is_true in
    let r' = registers_after row.ask.index a r in
    let kind : kind_of c.hear.new.self ≡ kind_of s.host = ap (λ n. kind_of (record s.host { kind = n })) c.hear.ensures.kind in
    let way : c.way-target.result ≡ way_of (kind_of s.host) cs row.other (Answered a) =
    c.way-target.ensures ∙ ap (λ k. way_of k cs row.other (Answered a)) (c.kind.ensures ∙ kind) in
    subst (λ (a : Answer). GoesOn g c.args.words.now s c.go_on.new.self r (told.Answered a)) c.heard-came.ensures
    (takes_answer g c.args.words.now s r stands command cs row.other is.1 sending c.sending_at.ensures.table a c.go_on.new.self r' c.way-target.result heard
    c.if-state-eq0.false way (record {
      remembers = subst (λ h. Remembers h r') (sym c.go_on.ensures.host) (c.hear.ensures.remembers r is_true stands.remembers);
      host = ap (λ h. host_of h r') c.go_on.ensures.host ∙ c.hear.ensures.host r is_true;
      kind = ap (λ h. h.kind) c.go_on.ensures.host ∙ c.hear.ensures.kind;
      gone = c.go_on.ensures.gone;
      moves = c.go_on.ensures.moves;
      asked = c.go_on.ensures.asked;
    }))
