use Rattle.std.proofs.Common.{◌≡◌, sym, ap, ◌∙◌, subst}
use Rattle.std.specs.Prelude.{if◌then◌else◌}
use Rattle.sdv_player.specs.Hearing.{bytes_of, registers_ended}
use Rattle.sdv_player.specs.Seen.{Remembers, Gone, host_of}
use Rattle.sdv_player.proofs.Taken.{refuses_end, takes_end}
use Rattle.sdv_player.proofs.player.ended.Goals as goal
use Rattle.sdv_player.proofs.player.ended.Goals.{then-well, else-well}

pub returns-in_default-clause-takes : goal.returns-in_default-clause-takes
returns-in_default-clause-takes c = λ returned is g r stands some.
    let none = rw c.in_default.is at c.phase_at.ensures.none in
    refuses_end g c.args.words.now c.args.state.now r stands returned c.args.well (bytes_of c.args.register) none is

pub returns-clause-takes : goal.returns-clause-takes
returns-clause-takes c = λ returned end g r stands.
    let s = c.args.state.now in
    let row = c.in-Some.row in
    let well = c.args.well in
    let came = bytes_of c.args.register in
    let r' = registers_ended row.phase well s.host.register_length came r in
    let is = rw c.in-Some.is at c.phase_at.ensures.some in
    let target : c.if-well.go_on ≡ (if well then row.good else row.other) = elim c.if-well.branch [
      | then-well w ↦ w.go_on-is ∙ ap (λ b. if b then row.good else row.other) (sym w.if-well.true)
      | else-well w ↦ w.go_on-is ∙ ap (λ b. if b then row.good else row.other) (sym w.if-well.false)
    ] in
    takes_end g c.args.words.now s r stands row.phase row.good row.other is returned well came end c.go_on.new.self (record {
      remembers = subst (λ h. Remembers h r') (sym c.go_on.ensures.host) (c.hear_end.ensures.remembers r stands.remembers);
      host = ap (λ h. host_of h r') c.go_on.ensures.host ∙ c.hear_end.ensures.host r';
      kind = ap (λ h. h.kind) c.go_on.ensures.host ∙ c.hear_end.ensures.kind;
      gone = subst (λ t. Gone t s.place c.go_on.new.self.place) target c.go_on.ensures.gone;
      moves = c.go_on.ensures.moves;
      asked = c.go_on.ensures.asked;
    })
