-- One line more: where a reading stands after it, and what it is.
use Rattle.std.proofs.Common.{◌≡◌, ◌∙◌, ℕ, Bool, false, true, List, Option, Some, Result, Ok, Err, inl, inr, refl, sym, ap, subst, option_map}
use Rattle.std.specs.Prelude.{IfOk, OnOk, is_err}
use Rattle.sdv_telling.specs.Statements.{Text}
use Rattle.sdv_audit.specs.Course.{Course, IsAt}
use Rattle.sdv_audit.specs.Reading.{read_line}
use Rattle.sdv_audit.specs.declared.fault.AuditFault.{AuditFault}
use Rattle.sdv_audit.specs.declared.line.TraceLine.{TraceLine}
use Rattle.sdv_audit.specs.Notes.{counted}
use Rattle.sdv_registers.specs.declared.kind.Kind.{Kind}
use Rattle.sdv_run.specs.Machine.{Asked, Came, Machine, TookOn, Went}
use Rattle.sdv_run.specs.declared.fault.RunFault.{RunFault}
use Rattle.sdv_run.specs.declared.next_event.Next.{Next}
use Rattle.sdv_run.specs.declared.next_event.Next.TheVariants as nexts
use Rattle.sdv_run.specs.declared.next_event.NextEvent.{NextEvent}
use Rattle.sdv_run.specs.declared.returned.Returned.{Returned}
use Rattle.sdv_trace.specs.declared.end.End.{End}
use Rattle.sdv_decode.specs.Decoded.{ComesNext, Misfits, Place, Strays, course_before, course_behind, line_behind, off_behind, place_after, spot_of, told_with}
use Rattle.sdv_decode.specs.LineWords.{AddsLine, Spot, announces, end_told, printed, spot_seen, told}
use Rattle.sdv_decode.specs.Matches.{given_after, is_end, is_of, register_told, returned_of}
use Rattle.sdv_decode.specs.Room.{AreTooMany, LacksRoom}
use Rattle.sdv_decode.specs.declared.form.Form.{Form}
use Rattle.sdv_graph.specs.Graph.{Graph}
use Rattle.sdv_decode.specs.declared.line_words.Spot.{Spot as CodeSpot}
use Rattle.sdv_decode.specs.Steps.{GoesOn, IsAsked, IsCrowded, IsPlace, Steps, given_of}
use Rattle.sdv_decode.specs.declared.fault.TraceOff.TheVariants.{Script}
use Rattle.sdv_decode.specs.declared.reading.Reading.{Reading}
use Rattle.sdv_decode.specs.declared.reading.Step.{Step}
use Rattle.sdv_decode.specs.declared.reading.Step.TheVariants.{Passed, Stopped}

-- where the reading stands after the line of an event
pub went_on : (r r' : Reading) (event : NextEvent) (line : TraceLine) (next : Option TraceLine)
    → Went r.runner (returned_of line (register_told (given_of r) line)) r'.runner → r'.audit.kind ≡ r.audit.kind
    → ((c : Course) → IsAt r.audit c → IsAt r'.audit (course_behind r.audit.kind (told_with line next) (course_before r.audit.kind event c)))
    → r'.app ≡ announces line → given_of r' ≡ given_after (given_of r) line → r'.number ≡ counted true r.number
    → GoesOn r event line next r' true
went_on r r' event line next went kind course app given number at asked =
    let beside = asked.beside in
    let same : r.audit.kind ≡ r'.runner.graph.kind = beside.kind ∙ sym (ap (λ g. g.kind) went.same) in (
      r'.runner,
      went,
      record {
        machine = refl;
        beside = record {
          kind = kind ∙ same;
          course = subst (λ (k : Kind). IsAt r'.audit (course_behind k (told_with line next) (course_before k event at.course))) same
              (course at.course beside.course);
          app = app;
          given = given ∙ ap (λ (bytes : Option (List ℕ)). given_after bytes line) beside.given;
          number = number ∙ ap (counted true) beside.number;
        };
      },
    )

-- WHERE A READING STANDS in words
abbrev pub spot_at : Reading → Spot
spot_at r = record { graph = r.runner.graph; form = r.form; number = r.number; point = r.runner.stand.point }

-- the line of an event that the run returned
abbrev comes_next : (r : Reading) (at : Place) → IsAsked r at → (text : Text) (event : NextEvent) (line : TraceLine) (after : Machine)
    → read_line text ≡ Ok line → Asked r.runner (Ok (nexts.Event event)) → is_of event line ≡ true
    → Went r.runner (returned_of line (register_told (given_of r) line)) after → ComesNext at text
comes_next r at asked text event line after read next fits went = record {
  line = line;
  read = read;
  here = r.runner;
  came = asked.came;
  event = event;
  asked = next;
  fits = fits;
  after = after;
  went = subst (λ (given : Option (List ℕ)). Went r.runner (returned_of line (register_told given line)) after) asked.beside.given went;
}

module _ (r : Reading) (at : Place) (asked : IsAsked r at) (text : Text) (behind : List Text) where
  spot_is : spot_at r ≡ spot_of r.form at r.runner
  spot_is = ap (λ (n : ℕ). record { graph = r.runner.graph; form = r.form; number = n; point = r.runner.stand.point }) asked.beside.number

  -- a line that the run does not come to
  module _ (line : TraceLine) (read : read_line text ≡ Ok line) (answer : Result Next RunFault) (next : Asked r.runner answer)
      (misfits : Misfits r.runner text line (register_told (given_of r) line) answer) where
    strays : (words : Text) → Strays r.form at text (printed (spot_at r) (told false line) words)
    strays words = record {
      line = line;
      read = read;
      here = r.runner;
      came = asked.came;
      asked = answer;
      next = next;
      misfits = subst (λ (given : Option (List ℕ)). Misfits r.runner text line (register_told given line) answer) asked.beside.given misfits;
      told_is = (words, ap (λ (spot : Spot). printed spot (told false line) words) spot_is);
    }

    pub stopped_astray : (old new : Text) (r' : Reading) (step : Step) → AddsLine (spot_at r) (told false line) old new → step ≡ Stopped (Some (Script r.number))
        → Steps r.form at text behind old new r' step
    stopped_astray old new r' step (words, added) is =
        subst (λ (s : Step). Steps r.form at text behind old new r' s) (sym is)
        (printed (spot_at r) (told false line) words, added, inr (inr (strays words, ap (λ (n : ℕ). Some (Script n)) asked.beside.number)))

  -- the end of the run
  pub stopped_at_end : (end : End) → Asked r.runner (Ok (nexts.End end)) → is_end text end ≡ true → (old new : Text) (r' : Reading) (step : Step)
      → AddsLine (spot_at r) (end_told end) old new → step ≡ Stopped (off_behind (counted true r.number) behind) → Steps r.form at text behind old new r' step
  stopped_at_end end next fits old new r' step (words, added) is =
      subst (λ (s : Step). Steps r.form at text behind old new r' s) (sym is) (
        printed (spot_at r) (end_told end) words,
        added,
        inl (
          record {
            here = r.runner;
            came = asked.came;
            end = end;
            asked = next;
            fits = fits;
            told_is = (words, ap (λ (spot : Spot). printed spot (end_told end) words) spot_is);
          },
          ap (λ (n : ℕ). off_behind (counted true n) behind) asked.beside.number,
        ),
      )

  -- the line of an event
  pub passed_by : (event : NextEvent) (line : TraceLine) (r' : Reading) → read_line text ≡ Ok line → Asked r.runner (Ok (nexts.Event event))
      → is_of event line ≡ true → GoesOn r event line (line_behind behind) r' true → (old new : Text)
      → AddsLine (spot_at r) (told r.app line) old new → Steps r.form at text behind old new r' Passed
  passed_by event line r' read next fits on old new (words, added) =
      let went = on at asked in
      let at' : Place = place_after at went.0 event line (line_behind behind) in
      let stands : IsPlace r' at' = went.2 in (
        printed (spot_at r) (told r.app line) words,
        added,
        (
          at',
          record {
            comes = comes_next r at asked text event line went.0 read next fits went.1;
            leads = refl;
            told_is = (
              words,
              ap (λ (spot : Spot). printed spot (told r.app line) words) spot_is
                  ∙ ap (λ (app : Bool). printed (spot_of r.form at r.runner) (told app line) words) asked.beside.app,
            );
          },
          stands,
        ),
      )

-- the run goes on, and there are too many shapes
pub went_by : (m m' : Machine) (returned : Returned) (result : Result (Unit {0}) RunFault) → is_err result ≡ false → TookOn m returned m' result
    → Went m returned m'
went_by m m' returned (Ok done) passed took = took
went_by m m' returned (Err fault) passed took = absurd (cc)

pub crowded_by : (r : Reading) (event : NextEvent) (line : TraceLine) (next : Option TraceLine) (after : Machine)
    → Went r.runner (returned_of line (register_told (given_of r) line)) after
    → ((c : Course) → IsAt r.audit c → AreTooMany r.audit.kind event (told_with line next) c) → IsCrowded r event line next
crowded_by r event line next after went many at asked =
    let same : r.audit.kind ≡ after.graph.kind = asked.beside.kind ∙ sym (ap (λ g. g.kind) went.same) in
    (after, went, subst (λ (k : Kind). AreTooMany k event (told_with line next) at.course) same (many at.course asked.beside.course))

-- the line of an event, at which there are too many shapes
pub lacks_room : (r : Reading) (at : Place) (event : NextEvent) (line : TraceLine) (next next' : Option TraceLine) (text : Text)
    → IsCrowded r event line next' → next' ≡ next → read_line text ≡ Ok line → IsAsked r at → Asked r.runner (Ok (nexts.Event event))
    → is_of event line ≡ true → LacksRoom at text next
lacks_room r at event line next next' text crowded same read asked event_next fits =
    let went = subst (λ (n : Option TraceLine). IsCrowded r event line n) same crowded at asked in record {
      comes = comes_next r at asked text event line went.0 read event_next fits went.1;
      many = went.2;
    }

-- the code's spot is that of the reading
pub spot_same : (s : CodeSpot) (r : Reading) → s.graph.now ≡ r.runner.graph → s.form ≡ r.form → s.number ≡ r.number → s.point ≡ r.runner.stand.point
    → spot_seen s ≡ spot_at r
spot_same s r graph form number point =
    ap (λ (g : Graph). record { graph = g; form = s.form; number = s.number; point = s.point }) graph
    ∙ (ap (λ (f : Form). record { graph = r.runner.graph; form = f; number = s.number; point = s.point }) form
    ∙ (ap (λ (n : ℕ). record { graph = r.runner.graph; form = r.form; number = n; point = s.point }) number
    ∙ ap (λ (n : ℕ). record { graph = r.runner.graph; form = r.form; number = r.number; point = n }) point))

-- the run was asked for its next event
pub asked_on : (r r' : Reading) (at : Place) → IsPlace r at → Came r.runner r'.runner → r'.audit ≡ r.audit → r'.app ≡ r.app → r'.given ≡ r.given
    → r'.number ≡ r.number → IsAsked r' at
asked_on r r' at stands came audit app given number =
    let beside = stands.beside in record {
      came = subst (λ (m : Machine). Came m r'.runner) stands.machine came;
      beside = record {
        kind = ap (λ a. a.kind) audit ∙ (beside.kind ∙ sym (ap (λ g. g.kind) came.same));
        course = subst (λ a. IsAt a at.course) (sym audit) beside.course;
        app = app ∙ beside.app;
        given = ap (option_map (λ bytes. bytes.now)) given ∙ beside.given;
        number = number ∙ beside.number;
      };
    }

-- a run that refuses what it is told stays where it is
pub refused : (r : Reading) (m' : Machine) (returned : Returned) (result : Result (Unit {0}) RunFault) → is_err result ≡ true
    → TookOn r.runner returned m' result
    → (record r { runner = m' } ≡ r) × ((fault : RunFault) × TookOn r.runner returned r.runner (Err fault))
refused r m' returned (Ok done) failed took = cc
refused r m' returned (Err fault) failed took = (ap (λ (m : Machine). record r { runner = m }) took.0, (fault, (refl, took.1)))

module _ (r r' : Reading) (line : TraceLine) (behind : List Text) (old new : Text) (result : Result Step AuditFault)
    (words : OnOk result (AddsLine (spot_at r) (told false line) old new)) (is : IfOk result (λ step. step ≡ Stopped (Some (Script r.number)))) where
  -- a line that the run does not come to, by the answer of a function
  pub stray_step : (event : NextEvent)
      → ((text : Text) → Misfits r.runner text line (register_told (given_of r) line) (Ok (nexts.Event event)))
      → IfOk result (λ step. (at : Place) (text : Text) → read_line text ≡ Ok line → IsAsked r at → Asked r.runner (Ok (nexts.Event event))
      → Steps r.form at text behind old new r' step)
  stray_step event misfits = go result words is
    where
      go : (result : Result Step AuditFault) → OnOk result (AddsLine (spot_at r) (told false line) old new)
          → IfOk result (λ step. step ≡ Stopped (Some (Script r.number)))
          → IfOk result (λ step. (at : Place) (text : Text) → read_line text ≡ Ok line → IsAsked r at → Asked r.runner (Ok (nexts.Event event))
          → Steps r.form at text behind old new r' step)
      go (Ok step) words is = λ at text read asked next.
          stopped_astray r at asked text behind line read (Ok (nexts.Event event)) next (misfits text) old new r' step words is
      go (Err fault) words is = tt

  -- whatever the run was asked
  pub stray_answer : (answer : Result Next RunFault) → Asked r.runner answer → (text : Text)
      → Misfits r.runner text line (register_told (given_of r) line) answer
      → IfOk result (λ step. (at : Place) → read_line text ≡ Ok line → IsAsked r at → Steps r.form at text behind old new r' step)
  stray_answer answer next text misfits = go result words is
    where
      go : (result : Result Step AuditFault) → OnOk result (AddsLine (spot_at r) (told false line) old new)
          → IfOk result (λ step. step ≡ Stopped (Some (Script r.number)))
          → IfOk result (λ step. (at : Place) → read_line text ≡ Ok line → IsAsked r at → Steps r.form at text behind old new r' step)
      go (Ok step) words is = λ at read asked.
          stopped_astray r at asked text behind line read answer next misfits old new r' step words is
      go (Err fault) words is = tt

module _ (r r' : Reading) (behind : List Text) (old new : Text) (result : Result Step AuditFault) (end : End)
    (words : OnOk result (AddsLine (spot_at r) (end_told end) old new))
    (is : IfOk result (λ step. step ≡ Stopped (off_behind (counted true r.number) behind))) where
  -- the end of the run, by the answer of a function
  pub end_step : Asked r.runner (Ok (nexts.End end)) → (text : Text) → is_end text end ≡ true
      → IfOk result (λ step. (at : Place) → IsAsked r at → Steps r.form at text behind old new r' step)
  end_step next text fits = go result words is
    where
      go : (result : Result Step AuditFault) → OnOk result (AddsLine (spot_at r) (end_told end) old new)
          → IfOk result (λ step. step ≡ Stopped (off_behind (counted true r.number) behind))
          → IfOk result (λ step. (at : Place) → IsAsked r at → Steps r.form at text behind old new r' step)
      go (Ok step) words is = λ at asked. stopped_at_end r at asked text behind end next fits old new r' step words is
      go (Err fault) words is = tt
