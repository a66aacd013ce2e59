use Rattle.std.proofs.Common.{Err, rules, false, ◌≡◌, ap, refl, subst, sym, ◌∙◌, ◌∷◌, true, ◌||◌}
use Rattle.sdv_card.specs.Lists.{May, all}
use Rattle.sdv_audit.specs.declared.audit.Audit.{Audit}
use Rattle.sdv_audit.specs.declared.audit.Findings.{Findings}
use Rattle.sdv_audit.specs.Audited.{is_empty, is_unanswered}
use Rattle.sdv_audit.specs.Lived.{LivedFor, turn_within}
use Rattle.sdv_audit.proofs.Audits.{no_bounds, some_forbidden, some_reckless, lived_more, one_more, none_left, left_empty}
use Rattle.sdv_audit.proofs.Courses.{Advanced, found_so, is_at_next, bounded_then, bounded_else}
use Rattle.sdv_audit.proofs.RoomLaws.{room_on}
use Rattle.sdv_audit.proofs.audit.Audit.advance.Goals as goal
use Rattle.sdv_audit.proofs.audit.Audit.advance.Goals.{then-self, else-self}

pub returns-clause-stands : goal.returns-clause-stands
returns-clause-stands c past s =
    let more = one_more c.args.self.now.kind c.args.self.now.known c.after_line-self.result c.args.self.now.shapes.items c.in_ok-shapes.shapes.items
    c.turn-turn.result c.args.told.now past s.known s.covers c.turn-turn.ensures c.after_line-self.ensures c.in_ok-shapes.ensures.members in
    record {
      known = more.known_is;
      covers = more.covers;
      lived = λ e t m.
          elim c.if-self.branch [
            | then-self w ↦
                subst (λ v. LivedFor c.args.self.now.kind (c.args.told.now ∷ past) v.announced t) (sym more.known_is)
                (lived_more c.args.self.now.kind c.args.self.now.known c.args.self.now.shapes.items c.in_ok-shapes.shapes.items c.turn-turn.result
                c.args.told.now past s.known c.turn-turn.ensures c.in_ok-shapes.ensures.members (s.lived w.if-self.true)
                (λ v n. w.all_within-self.ensures.0 (sym w.self-is ∙ e) v (subst (λ xs. May xs v) (sym w.as_slice-then-self.ensures.value) n)) t m)
            | else-self w ↦ absurd (let f : false ≡ true = cc in cc)
          ];
    }

pub returns-clause-real : goal.returns-clause-real
returns-clause-real c = some_reckless c.args.self.now c.turn-turn.result c.reckless-reckless.result c.reckless-reckless.ensures.found

pub returns-clause-forbidden : goal.returns-clause-forbidden
returns-clause-forbidden c =
    some_forbidden c.args.self.now c.turn-turn.result c.args.told.now c.in_ok-shapes.shapes.items c.reckless-reckless.result
    c.reckless-reckless.ensures.found c.reckless-reckless.ensures.forbidden (λ t m. (c.in_ok-shapes.ensures.members t).0 m)
    (λ past s.
    (one_more c.args.self.now.kind c.args.self.now.known c.after_line-self.result c.args.self.now.shapes.items c.in_ok-shapes.shapes.items
    c.turn-turn.result c.args.told.now past s.known s.covers c.turn-turn.ensures c.after_line-self.ensures c.in_ok-shapes.ensures.members).covers)

pub returns-clause-unanswered : goal.returns-clause-unanswered
returns-clause-unanswered c e past s =
    let more = one_more c.args.self.now.kind c.args.self.now.known c.after_line-self.result c.args.self.now.shapes.items c.in_ok-shapes.shapes.items
    c.turn-turn.result c.args.told.now past s.known s.covers c.turn-turn.ensures c.after_line-self.ensures c.in_ok-shapes.ensures.members in
    none_left c.args.self.now.kind (c.args.told.now ∷ past) c.in_ok-shapes.shapes.items
    (subst (λ v. is_empty v ≡ true) c.as_slice-2.ensures.value
    (left_empty c.reckless-reckless.result c.as_slice.result.now c.as_slice-2.result.now (sym c.is_unanswered-unanswered.ensures ∙ e)))
    more.covers

pub returns-clause-beyond : goal.returns-clause-beyond
returns-clause-beyond c e past s =
    no_bounds c.args.self.now c.turn-turn.result c.args.told.now past c.turn-turn.ensures (c.beyond-beyond.ensures.0 e).1 s

after : goal.After-drop-self → Audit
after c = record {
  alloc = c.args.self.now.alloc;
  kind = c.args.self.now.kind;
  known = c.after_line-self.result;
  shapes = c.in_ok-shapes.shapes;
  bounded = c.if-self.self;
  running = c.either-self.result;
}

found : goal.After-drop-self → Findings
found c = record {
  turn = c.turn-turn.result;
  reckless = c.reckless-reckless.result;
  unanswered = c.is_unanswered-unanswered.result;
  beyond = c.beyond-beyond.result;
  restarted = false;
  resumed = false;
}

advanced : (c : goal.After-drop-self) → Advanced c.args.self.now (after c) c.args.told.now (found c)
unfolding after found
advanced c = record {
  turn = c.turn-turn.ensures;
  known = c.after_line-self.ensures;
  shapes = c.in_ok-shapes.ensures.members;
  reckless = c.reckless-reckless.ensures.least;
  unanswered = c.is_unanswered-unanswered.ensures ∙ (ap (λ v. is_unanswered c.reckless-reckless.result v c.as_slice-2.result.now) c.as_slice.ensures.value
      ∙ ap (λ v. is_unanswered c.reckless-reckless.result c.args.self.now.shapes.items v) c.as_slice-2.ensures.value);
  beyond = c.beyond-beyond.ensures;
  restarted = refl;
  resumed = refl;
  running = c.either-self.ensures ∙ ap (λ v. c.args.self.now.running || v) c.is_resumed.ensures;
  bounded = elim c.if-self.branch [
    | then-self w ↦
        w.self-is ∙ bounded_then w.all_within-self.result c.args.self.now.bounded
        (λ s. turn_within c.args.self.now.kind c.turn-turn.result c.args.told.now.line s.0) c.args.self.now.shapes.items w.as_slice-then-self.result.now
        w.if-self.true w.as_slice-then-self.ensures.value w.all_within-self.ensures
    | else-self w ↦
        bounded_else c.if-self.self c.args.self.now.bounded
        (all (λ s. turn_within c.args.self.now.kind c.turn-turn.result c.args.told.now.line s.0) c.args.self.now.shapes.items) w.if-self.false
        (w.self-is ∙ w.if-self.false)
  ];
}

pub returns-clause-found : goal.returns-clause-found
unfolding after found
returns-clause-found c course at = found_so c.args.self.now (after c) c.args.told.now (found c) course (advanced c) at

pub returns-clause-course : goal.returns-clause-course
unfolding after found
returns-clause-course c course at = is_at_next c.args.self.now (after c) c.args.told.now (found c) course (advanced c) at

pub returns-in_err-shapes-clause-room : goal.returns-in_err-shapes-clause-room
returns-in_err-shapes-clause-room c =
    let is : c.from_residual.result ≡ Err c.in_err-shapes.field-0.0 = search rules in
    rw is (λ e course at.
    room_on c.args.self.now c.turn-turn.result c.args.told.now course c.turn-turn.ensures at (c.in_err-shapes.ensures.room e))
