-- Lines are judged one after another, each with the one behind it.
use Rattle.std.proofs.Common.{◌≡◌, ℕ, true, false, List, [], ◌∷◌, ◌++◌, Option, Some, None, Result, Ok, Err, inl, inr, refl, sym, ap, subst, ◌∙◌, append_assoc}
use Rattle.std.proofs.lemmas.List.{append-nil}
use Rattle.std.specs.Prelude.{OnOk, IfErr, IfSome}
use Rattle.std.specs.Io.KnownBytes.{Consumes}
use Rattle.sdv_registers.specs.declared.kind.Kind.{Kind}
use Rattle.sdv_audit.specs.declared.line.TraceLine.{TraceLine}
use Rattle.sdv_audit.specs.declared.turn.Told.{Told}
use Rattle.sdv_audit.specs.declared.style.Style.{Style}
use Rattle.sdv_audit.specs.declared.fault.TraceFault.{TraceFault}
use Rattle.sdv_audit.specs.declared.report.Report.{Report}
use Rattle.sdv_audit.specs.Report.{AddsNotes, Progress, ReportAt, at_start, line_notes, progress_after, notes, progress_from}
use Rattle.sdv_audit.specs.Notes.{Note}
use Rattle.sdv_audit.proofs.NoteLaws.{adds_more, adds_none}
use Rattle.sdv_audit.specs.declared.fault.NoteFault.{NoteFault}
use Rattle.sdv_audit.specs.declared.fault.TraceFault.TheVariants as faults
use Rattle.sdv_audit.specs.declared.style.Tally.{Tally}
use Rattle.sdv_audit.specs.declared.input.TextEnd.{TextEnd}
use Rattle.sdv_audit.specs.declared.input.TextEnd.TheVariants as ends
use Rattle.sdv_audit.specs.declared.input.TextFault.{TextFault}
use Rattle.sdv_audit.specs.declared.trace.Pending.{Pending}
use Rattle.sdv_audit.specs.Input.{line_feed, IsText, lines_of, ReadsText, AreRead, LinesRead, is_over, last_texts, TraceRead}
use Rattle.sdv_text.specs.Fronts.{is_end}
use Rattle.sdv_audit.specs.declared.texts.Numbered.{Numbered}
use Rattle.sdv_audit.specs.declared.texts.Said.{Said}
use Rattle.sdv_audit.specs.Texts.{Trace, next_number, no_trace, read_said, with_said}
use Rattle.sdv_audit.specs.AuditedTrace.{Written, Waits, LacksRoom, Finished, StopsAt, StopsReading, EndsReport, Goes, Audits, NoRoom, StoppedByRoom}
use Rattle.sdv_audit.specs.Faults.{fault_of_note}
use Rattle.sdv_audit.specs.declared.fault.NoteFault.TheVariants as note_faults
use Rattle.sdv_card.specs.Lists.{May}
use Rattle.sdv_audit.specs.Room.{AreMany}
use Rattle.sdv_audit.proofs.InputLaws.{consumes_none, consumes_more}
use Rattle.sdv_audit.specs.declared.fault.TraceLineFault.{TraceLineFault}

-- the line with the one behind it
abbrev pub told_with : TraceLine → Option TraceLine → Told
told_with line next = record { line = line; next = next }

-- what a report did with a line
pub record Took (old new : Report) (number : ℕ) (told : Told) (out now : Option (List ℕ)) : Type 0 where
  pub kind : new.kind ≡ old.kind
  pub style_is : new.style ≡ old.style
  pub course : (p : Progress) → ReportAt old p → ReportAt new (progress_after old.kind old.style p told)
  pub written : (p : Progress) → ReportAt old p → AddsNotes old.style (line_notes old.kind old.style p number told) out now

-- the first line
pub first_held : (report : Report) (k : Kind) (style : Style) (read : List Numbered) (line : Numbered) (old now : Option (List ℕ)) →
    Written report None k style read old now → Written report (Some line) k style (read ++ line ∷ []) old now
first_held report k style read line old now w = record {
  kind = w.kind;
  style_is = w.style_is;
  progress = w.progress;
  at = w.at;
  noted = w.noted;
  pending = record {
    notes_are = λ rest. ap (notes k style (at_start style)) (append_assoc read (line ∷ []) rest) ∙ w.pending.notes_are (line ∷ rest);
    leads = λ rest. ap (progress_from k style (at_start style)) (append_assoc read (line ∷ []) rest) ∙ w.pending.leads (line ∷ rest);
  };
  written_is = w.written_is;
}

-- a line behind another one
pub next_held : (report new : Report) (k : Kind) (style : Style) (read : List Numbered) (held line : Numbered) (old out now : Option (List ℕ)) →
    Written report (Some held) k style read old out → Took report new held.number (told_with held.line (Some line.line)) out now →
    Written new (Some line) k style (read ++ line ∷ []) old now
next_held report new k style read held line old out now w t = record {
  kind = t.kind ∙ w.kind;
  style_is = t.style_is ∙ w.style_is;
  progress = progress_after k style w.progress (told_with held.line (Some line.line));
  at = subst (λ v. ReportAt new (progress_after k v w.progress (told_with held.line (Some line.line)))) w.style_is
      (subst (λ v. ReportAt new (progress_after v report.style w.progress (told_with held.line (Some line.line)))) w.kind (t.course w.progress w.at));
  noted = w.noted ++ line_notes k style w.progress held.number (told_with held.line (Some line.line));
  pending = record {
    notes_are = λ rest.
        ap (notes k style (at_start style)) (append_assoc read (line ∷ []) rest) ∙ (w.pending.notes_are (line ∷ rest)
        ∙ sym (append_assoc w.noted (line_notes k style w.progress held.number (told_with held.line (Some line.line)))
        (notes k style (progress_after k style w.progress (told_with held.line (Some line.line))) (line ∷ rest))));
    leads = λ rest. ap (progress_from k style (at_start style)) (append_assoc read (line ∷ []) rest) ∙ w.pending.leads (line ∷ rest);
  };
  written_is = adds_more style w.noted (line_notes k style w.progress held.number (told_with held.line (Some line.line))) old out now w.written_is
      (subst (λ v. AddsNotes v (line_notes k v w.progress held.number (told_with held.line (Some line.line))) out now) w.style_is
      (subst (λ v. AddsNotes report.style (line_notes v report.style w.progress held.number (told_with held.line (Some line.line))) out now) w.kind (t.written w.progress w.at)));
}

-- no line waits
pub none_held : (report : Report) (k : Kind) (style : Style) (read : List Numbered) (old now : Option (List ℕ)) →
    Written report None k style read old now → Finished report k style read old now
none_held report k style read old now w = record {
  style_is = w.style_is;
  at = subst (ReportAt report) (sym (ap (progress_from k style (at_start style)) (sym (append-nil read)) ∙ w.pending.leads [])) w.at;
  written_is = subst (λ (v : List Note). AddsNotes style v old now)
      (sym (ap (notes k style (at_start style)) (sym (append-nil read)) ∙ (w.pending.notes_are [] ∙ append-nil w.noted))) w.written_is;
}

-- the last line
pub last_held : (report new : Report) (k : Kind) (style : Style) (read : List Numbered) (held : Numbered) (old out now : Option (List ℕ)) →
    Written report (Some held) k style read old out → Took report new held.number (told_with held.line None) out now → Finished new k style read old now
last_held report new k style read held old out now w t = record {
  style_is = t.style_is ∙ w.style_is;
  at = subst (ReportAt new) (sym (ap (progress_from k style (at_start style)) (sym (append-nil read)) ∙ w.pending.leads []))
      (subst (λ v. ReportAt new (progress_after k v w.progress (told_with held.line None))) w.style_is
      (subst (λ v. ReportAt new (progress_after v report.style w.progress (told_with held.line None))) w.kind (t.course w.progress w.at)));
  written_is = subst (λ (v : List Note). AddsNotes style v old now)
      (sym (ap (notes k style (at_start style)) (sym (append-nil read)) ∙ (w.pending.notes_are []
      ∙ ap (λ (v : List Note). w.noted ++ v) (append-nil (line_notes k style w.progress held.number (told_with held.line None))))))
      (adds_more style w.noted (line_notes k style w.progress held.number (told_with held.line None)) old out now w.written_is
      (subst (λ v. AddsNotes v (line_notes k v w.progress held.number (told_with held.line None)) out now) w.style_is
      (subst (λ v. AddsNotes report.style (line_notes v report.style w.progress held.number (told_with held.line None)) out now) w.kind (t.written w.progress w.at))));
}

-- before the first line
pub begins : (report : Report) (k : Kind) (style : Style) (now : Option (List ℕ)) → report.kind ≡ k → report.style ≡ style → ReportAt report (at_start style) →
    Written report None k style [] now now
begins report k style now kind style_is at = record {
  kind = kind;
  style_is = style_is;
  progress = at_start style;
  at = at;
  noted = [];
  pending = record { notes_are = λ rest. refl; leads = λ rest. refl };
  written_is = adds_none style now;
}

-- the last line, where its notes could be written
pub finish_last : (r : Result (Unit {0}) NoteFault) (report new : Report) (held : Numbered) (out now : Option (List ℕ)) → new.kind ≡ report.kind →
    new.style ≡ report.style → OnOk r ((p : Progress) → ReportAt report p → ReportAt new (progress_after report.kind report.style p (told_with held.line None))) →
    OnOk r ((p : Progress) → ReportAt report p → AddsNotes report.style (line_notes report.kind report.style p held.number (told_with held.line None)) out now) →
    OnOk r ((k : Kind) (style : Style) (read : List Numbered) (old : Option (List ℕ)) → Written report (Some held) k style read old out →
    Finished new k style read old now)
finish_last (Ok x) report new held out now kind style_is course written = λ k style read old w.
    last_held report new k style read held old out now w (record { kind = kind; style_is = style_is; course = course; written = written })
finish_last (Err x) report new held out now kind style_is course written = tt

-- TEXTS THAT WERE READ

pub no_lines : (style : Style) (known : Option (List ℕ)) → LinesRead style known known no_trace
no_lines style known = record { texts = []; are = refl; read = consumes_none known }

are_more : (style : Style) (a b : Trace) (texts : List (List ℕ)) (text : List ℕ) (s : Said) → AreRead style a texts b → IsText text → read_said text ≡ Ok s →
    AreRead style a (texts ++ text ∷ []) (with_said style s b)
are_more style a b [] text s r t e = (s, t, e, ap (with_said style s) r)
are_more style a b (x ∷ texts) text s (said, is, eq, r) t e = (said, is, eq, are_more style (with_said style said a) b texts text s r t e)

lines_more : (texts : List (List ℕ)) (text : List ℕ) → lines_of (texts ++ text ∷ []) ≡ lines_of texts ++ (text ++ line_feed)
lines_more [] text = refl
lines_more (x ∷ texts) text =
    ap (λ v. x ++ (line_feed ++ v)) (lines_more texts text)
    ∙ sym (append_assoc x (line_feed ++ lines_of texts) (text ++ line_feed))

pub one_more_line : (style : Style) (old mid new : Option (List ℕ)) (trace : Trace) (text : List ℕ) (s : Said) → LinesRead style old mid trace →
    ReadsText mid new text (Ok ends.Feed) → read_said text ≡ Ok s → LinesRead style old new (with_said style s trace)
one_more_line style old mid new trace text s l r e = record {
  texts = l.texts ++ text ∷ [];
  are = are_more style no_trace trace l.texts text s l.are r.0 e;
  read = subst (Consumes old new) (sym (lines_more l.texts text)) (consumes_more old mid new (lines_of l.texts) (text ++ line_feed) l.read r.1);
}

-- up to the end, with no text behind the last line feed
none_is : (text : List ℕ) → is_end text ≡ true → text ≡ []
none_is [] e = refl
none_is (x ∷ text) e = absurd (let f : false ≡ true = e in cc)

pub no_more : (style : Style) (old mid new : Option (List ℕ)) (trace : Trace) (text : List ℕ) (end : TextEnd) → LinesRead style old mid trace →
    ReadsText mid new text (Ok end) → is_over end text ≡ true → TraceRead style old new trace
no_more style old mid new trace text ends.Feed l r e = absurd (let f : false ≡ true = e in cc)
no_more style old mid new trace text ends.End l r e = record {
  texts = l.texts;
  last = [];
  are = subst (λ v. AreRead style no_trace v trace) (sym (append-nil l.texts)) l.are;
  read = consumes_more old mid new (lines_of l.texts) [] l.read (subst (Consumes mid new) (none_is text e) r.1);
  end = r.2;
}

last_is : (text : List ℕ) → is_end text ≡ false → last_texts text ≡ text ∷ []
last_is [] e = absurd (let f : true ≡ false = e in cc)
last_is (x ∷ text) e = refl

-- with one
pub last_more : (style : Style) (old mid new : Option (List ℕ)) (trace : Trace) (text : List ℕ) (s : Said) → LinesRead style old mid trace →
    ReadsText mid new text (Ok ends.End) → is_over ends.End text ≡ false → read_said text ≡ Ok s → TraceRead style old new (with_said style s trace)
last_more style old mid new trace text s l r some e = record {
  texts = l.texts;
  last = text;
  are = subst (λ v. AreRead style no_trace (l.texts ++ v) (with_said style s trace)) (sym (last_is text some)) (are_more style no_trace trace l.texts text s l.are r.0 e);
  read = consumes_more old mid new (lines_of l.texts) text l.read r.1;
  end = r.2;
}

-- a text at the front
begins_with : (mid new : Option (List ℕ)) (text more : List ℕ) → Consumes mid new (text ++ more) → IfSome mid (λ bytes. (rest : List ℕ) × (bytes ≡ text ++ rest))
begins_with None new text more c = tt
begins_with (Some xs) None text more c = absurd c
begins_with (Some xs) (Some ys) text more c = (more ++ ys, c ∙ append_assoc text more ys)

front_of : (mid new : Option (List ℕ)) (text : List ℕ) (end : TextEnd) → ReadsText mid new text (Ok end) →
    IsText text × IfSome mid (λ bytes. (rest : List ℕ) × (bytes ≡ text ++ rest))
front_of mid new text ends.Feed r = (r.0, begins_with mid new text line_feed r.1)
front_of mid new text ends.End r = (r.0, begins_with mid new text [] (subst (Consumes mid new) (sym (append-nil text)) r.1))

-- THE WHOLE

pub reading_stops : (k : Kind) (style : Style) (pending : Pending) (old mid new out now after : Option (List ℕ)) (text : List ℕ) (fault : TextFault)
    (r : Result Tally TraceFault) → Goes k style pending old mid out now → ReadsText mid new text (Err fault) →
    ((trace : Trace) → Waits pending k style trace out now → StopsReading k style trace out after fault r) →
    Audits k style old new out after r
reading_stops k style pending old mid new out now after text fault (Ok tally) g t s = absurd (s g.trace g.waits)
reading_stops k style pending old mid new out now after text fault (Err (faults.Line why number)) g t s = absurd (s g.trace g.waits)
reading_stops k style pending old mid new out now after text fault (Err (faults.Length number)) g t s =
    let x : StopsReading k style g.trace out after fault (Err (faults.Length number)) = s g.trace g.waits in
    record {
      left = mid;
      stopped = record { trace = g.trace; read = g.lines_read; number_is = x.1; written_is = x.2 };
      long = subst (λ f. ReadsText mid new text (Err f)) x.0 t;
    }
reading_stops k style pending old mid new out now after text fault (Err faults.Read) g t s = record {
  left = mid;
  number = next_number g.trace;
  stopped = record { trace = g.trace; read = g.lines_read; number_is = refl; written_is = s g.trace g.waits };
}
reading_stops k style pending old mid new out now after text fault (Err faults.Write) g t s = tt
reading_stops k style pending old mid new out now after text fault (Err faults.Memory) g t s = tt
reading_stops k style pending old mid new out now after text fault (Err faults.Room) g t s =
    record { left = mid; trace = g.trace; read = inl g.lines_read; next = None; no_room = s g.trace g.waits }

pub line_stops : (k : Kind) (style : Style) (pending : Pending) (old mid new out now after : Option (List ℕ)) (text : List ℕ) (end : TextEnd) (fault : TraceLineFault)
    (r : Result Tally TraceFault) → Goes k style pending old mid out now → ReadsText mid new text (Ok end) → read_said text ≡ Err fault →
    ((trace : Trace) → Waits pending k style trace out now → StopsAt k style trace out after fault r) →
    Audits k style old new out after r
line_stops k style pending old mid new out now after text end fault (Ok tally) g t e s = absurd (s g.trace g.waits)
line_stops k style pending old mid new out now after text end fault (Err (faults.Line why number)) g t e s =
    let x : StopsAt k style g.trace out after fault (Err (faults.Line why number)) = s g.trace g.waits in
    let f = front_of mid new text end t in
    record {
      left = mid;
      stopped = record { trace = g.trace; read = g.lines_read; number_is = x.1; written_is = x.2 };
      text = text;
      is_text = f.0;
      is_none = e ∙ ap Err (sym x.0);
      front = f.1;
    }
line_stops k style pending old mid new out now after text end fault (Err (faults.Length number)) g t e s = absurd (s g.trace g.waits)
line_stops k style pending old mid new out now after text end fault (Err faults.Read) g t e s = absurd (s g.trace g.waits)
line_stops k style pending old mid new out now after text end fault (Err faults.Write) g t e s = tt
line_stops k style pending old mid new out now after text end fault (Err faults.Memory) g t e s = tt
line_stops k style pending old mid new out now after text end fault (Err faults.Room) g t e s =
    record { left = mid; trace = g.trace; read = inl g.lines_read; next = None; no_room = s g.trace g.waits }

pub all_ends : (k : Kind) (style : Style) (old new out after : Option (List ℕ)) (trace : Trace) (r : Result Tally TraceFault) →
    TraceRead style old new trace → EndsReport k style trace out after r → Audits k style old new out after r
all_ends k style old new out after trace (Ok tally) t e = record { trace = trace; read = t; written_is = e.0; tally_is = e.1 }
all_ends k style old new out after trace (Err (faults.Line why number)) t e = absurd e
all_ends k style old new out after trace (Err (faults.Length number)) t e = absurd e
all_ends k style old new out after trace (Err faults.Read) t e = absurd e
all_ends k style old new out after trace (Err faults.Write) t e = tt
all_ends k style old new out after trace (Err faults.Memory) t e = tt
all_ends k style old new out after trace (Err faults.Room) t e =
    record { left = new; trace = trace; read = inr t; next = None; no_room = e }

-- WHERE NOTES ARE NOT WRITTEN

-- the last line was judged, and more shapes follow it than an audit keeps
pub no_room : (report : Report) (held : Numbered) (next : Option TraceLine) (k : Kind) (style : Style) (read : List Numbered) (old now : Option (List ℕ)) →
    Written report (Some held) k style read old now →
    ((p : Progress) → ReportAt report p → AreMany (May (progress_after report.kind report.style p (told_with held.line next)).course.shapes)) → NoRoom k style read next
no_room report held next k style read old now w many = record {
  progress = w.progress;
  last = held;
  noted = w.noted;
  waits = w.pending;
  many = subst (λ v. AreMany (May (progress_after k v w.progress (told_with held.line next)).course.shapes)) w.style_is
      (subst (λ v. AreMany (May (progress_after v report.style w.progress (told_with held.line next)).course.shapes)) w.kind (many w.progress w.at));
}

pub finish_room : (r : Result (Unit {0}) NoteFault) (report : Report) (held : Numbered) (out : Option (List ℕ)) →
    IfErr r (λ fault. fault ≡ note_faults.Room → (p : Progress) → ReportAt report p →
    AreMany (May (progress_after report.kind report.style p (told_with held.line None)).course.shapes)) →
    IfErr r (λ fault. fault ≡ note_faults.Room → (k : Kind) (style : Style) (read : List Numbered) (old : Option (List ℕ)) →
    Written report (Some held) k style read old out → NoRoom k style read None)
finish_room (Ok x) report held out many = tt
finish_room (Err x) report held out many = λ e k style read old w. no_room report held None k style read old out w (many e)

pub stops_at_note : (f : NoteFault) (k : Kind) (style : Style) (trace : Trace) (old now : Option (List ℕ)) (fault : TraceLineFault) →
    (f ≡ note_faults.Room → NoRoom k style trace.lines None) → StopsAt k style trace old now fault (Err (fault_of_note f))
stops_at_note note_faults.Write k style trace old now fault room = tt
stops_at_note note_faults.Memory k style trace old now fault room = tt
stops_at_note note_faults.Room k style trace old now fault room = room refl

pub stops_reading_note : (f : NoteFault) (k : Kind) (style : Style) (trace : Trace) (old now : Option (List ℕ)) (fault : TextFault) →
    (f ≡ note_faults.Room → NoRoom k style trace.lines None) → StopsReading k style trace old now fault (Err (fault_of_note f))
stops_reading_note note_faults.Write k style trace old now fault room = tt
stops_reading_note note_faults.Memory k style trace old now fault room = tt
stops_reading_note note_faults.Room k style trace old now fault room = room refl

pub ends_note : (f : NoteFault) (k : Kind) (style : Style) (trace : Trace) (old now : Option (List ℕ)) →
    (f ≡ note_faults.Room → NoRoom k style trace.lines None) → EndsReport k style trace old now (Err (fault_of_note f))
ends_note note_faults.Write k style trace old now room = tt
ends_note note_faults.Memory k style trace old now room = tt
ends_note note_faults.Room k style trace old now room = room refl

-- an audit that ends before its first line, or at one that is judged with the next
pub audits_note : (f : NoteFault) (k : Kind) (style : Style) (old new written after : Option (List ℕ)) → (f ≡ note_faults.Room → StoppedByRoom k style old) →
    Audits k style old new written after (Err (fault_of_note f))
audits_note note_faults.Write k style old new written after room = tt
audits_note note_faults.Memory k style old new written after room = tt
audits_note note_faults.Room k style old new written after room = room refl

-- WHERE A LINE IS TAKEN IN, and more shapes follow the one before it than an audit keeps

pub lacks_room : (r : Result (Unit {0}) NoteFault) (old : Pending) (line : TraceLine) (out : Option (List ℕ)) →
    IfErr r (λ fault. fault ≡ note_faults.Room → (k : Kind) (style : Style) (read : List Numbered) (first : Option (List ℕ)) →
    Written old.report old.held k style read first out → NoRoom k style read (Some line)) →
    IfErr r (λ fault. fault ≡ note_faults.Room → (k : Kind) (style : Style) (trace : Trace) (first : Option (List ℕ)) →
    Waits old k style trace first out → LacksRoom k style trace.lines)
lacks_room (Ok x) old line out h = tt
lacks_room (Err x) old line out h = λ e k style trace first w. (Some line, h e k style trace.lines first w.written)
