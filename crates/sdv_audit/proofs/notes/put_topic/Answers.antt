use Rattle.std.proofs.Common.{◌≡◌, [], Bool, false, true, refl, sym, subst, ◌∙◌}
use Rattle.std.proofs.lemmas.List.{append-nil}
use Rattle.std.proofs.lemmas.Result.{on_ok_weaker}
use Rattle.sdv_audit.specs.Notes.{HasNotes, Note, is_noted, note_if, note_text}
use Rattle.sdv_audit.proofs.notes.put_topic.Goals as goal

pub returns-then-not-is_noted : goal.returns-then-not-is_noted
returns-then-not-is_noted c =
    let note : Note = record { number = c.args.at.number; line = c.args.at.line.now; topic = c.args.topic; premises = c.args.at.premises } in
    let due : is_noted c.args.at.style c.args.found.now c.args.topic ≡ false = sym c.is_noted.ensures ∙ c.if-not-is_noted.true in
    ([], sym (append-nil c.args.text.now.items), subst (λ (b : Bool). HasNotes c.args.at.style (note_if b note) []) (sym due) refl)

pub returns : goal.returns
returns c =
    let note : Note = record { number = c.args.at.number; line = c.args.at.line.now; topic = c.args.topic; premises = c.args.at.premises } in
    let due : is_noted c.args.at.style c.args.found.now c.args.topic ≡ true = sym c.is_noted.ensures ∙ c.if-not-is_noted.false in
    let text = note_text c.args.at.style note c.deref.result.now in
    on_ok_weaker c.put_note.result
    (λ added. (
      text,
      added,
      subst (λ (b : Bool). HasNotes c.args.at.style (note_if b note) text) (sym due) (c.deref.result.now, [], sym (append-nil text), refl),
    ))
    c.put_note.ensures
