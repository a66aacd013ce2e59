-- A trace with its data lines: what was put so far, and what is to be of the lines that are left.
use Rattle.std.proofs.Common.{◌≡◌, ◌∙◌, false, List, [], ◌∷◌, ◌++◌, Option, None, inl, inr, refl, sym, ap, subst, append_assoc}
use Rattle.std.proofs.lemmas.List.{append-nil}
use Rattle.std.specs.Prelude.{if◌then◌else◌}
use Rattle.sdv_card.specs.declared.state.Width.{Width}
use Rattle.sdv_card.specs.Modes.{same_width}
use Rattle.sdv_audit.specs.Spelling.{line_text}
use Rattle.sdv_audit.specs.declared.line.TraceLine.TheVariants.{Lines}
use Rattle.sdv_telling.specs.Statements.{Text}
use Rattle.sdv_run.specs.Machine.{Machine}
use Rattle.sdv_decode.specs.Decoded.{Place, line_behind}
use Rattle.sdv_decode.specs.Lined.{Put, change, fed, lines_at}
use Rattle.sdv_decode.specs.Room.{LacksRoom, StopsByRoom}
use Rattle.sdv_decode.specs.Steps.{IsPlace, Steps}
use Rattle.sdv_decode.specs.declared.fault.TraceOff.{TraceOff}
use Rattle.sdv_decode.specs.declared.form.Form.{Form}
use Rattle.sdv_decode.specs.declared.form.Form.TheVariants.{Words}
use Rattle.sdv_decode.specs.declared.reading.Reading.{Reading}
use Rattle.sdv_decode.specs.declared.reading.Step.{Step}
use Rattle.sdv_decode.specs.declared.reading.Step.TheVariants.{Passed, Stopped}

-- the reading stands at a place, from which the lines that are left are to be put
pub record PutSoFar (first : Place) (all left : List Text) (text : Text) (r : Reading) : Type 0 where
  pub at : Place
  pub stands : IsPlace r at
  pub puts : (words : Text) (off : Option TraceOff) → Put at left words off → Put first all (text ++ words) off
  pub room : StopsByRoom Words at left → StopsByRoom Words first all

pub begins : (first : Place) (all : List Text) (r : Reading) → IsPlace r first → PutSoFar first all all [] r
begins first all r stands = record { at = first; stands = stands; puts = λ words off puts. puts; room = λ room. room }

pub ends : (first : Place) (all : List Text) (text : Text) (r : Reading) → PutSoFar first all [] text r → Put first all text None
ends first all text r so_far =
    subst (λ (t : Text). Put first all t None) (append-nil text) (so_far.puts [] None (refl, refl))

-- where the data lines change, their line is told
pub changed : (before now : Width) → same_width before now ≡ false → change before now ≡ fed (line_text (Lines now))
changed before now other = ap (λ same. if same then [] else fed (line_text (Lines now))) other

-- by the answer of a function that takes a line, whatever the place
module _ (first : Place) (all lefts left behind : List Text) (text line line' told told' : Text) (r r' : Reading)
    (so_far : PutSoFar first all lefts text r) (split : lefts ≡ line ∷ left) (same_form : r.form ≡ Words) (same_line : line' ≡ line)
    (same_left : behind ≡ left) (step : Step) (steps : (at : Place) → IsPlace r at → Steps r.form at line' behind told told' r' step) where
  from_here : PutSoFar first all (line ∷ left) text r
  from_here = subst (λ (l : List Text). PutSoFar first all l text r) split so_far

  steps_here : (s : Step) → step ≡ s → Steps Words from_here.at line left told told' r' s
  steps_here s is =
      subst (λ (x : Step). Steps Words from_here.at line left told told' r' x) is
      (subst (λ (t : Text). Steps Words from_here.at t left told told' r' step) same_line
      (subst (λ (b : List Text). Steps Words from_here.at line' b told told' r' step) same_left
      (subst (λ (f : Form). Steps f from_here.at line' behind told told' r' step) same_form (steps from_here.at from_here.stands))))

  pub put_on : (before now : Width) (new : Text) → step ≡ Passed → before ≡ r.runner.stand.host.lines → now ≡ r'.runner.stand.host.lines
      → new ≡ text ++ (change before now ++ fed line') → PutSoFar first all left new r'
  put_on before now new is is_before is_now put =
      let s = steps_here Passed is in
      let at' : Place = s.2.0 in
      let stands : IsPlace r' at' = s.2.2 in
      let was : before ≡ lines_at from_here.at = is_before ∙ ap (λ (m : Machine). m.stand.host.lines) from_here.stands.machine in
      let then_is : now ≡ lines_at at' = is_now ∙ ap (λ (m : Machine). m.stand.host.lines) stands.machine in
      let piece : Text = change (lines_at from_here.at) (lines_at at') ++ fed line in
      let same : new ≡ text ++ piece =
      put ∙ (ap (λ w. text ++ (change w now ++ fed line')) was ∙ (ap (λ w. text ++ (change (lines_at from_here.at) w ++ fed line')) then_is
      ∙ ap (λ t. text ++ (change (lines_at from_here.at) (lines_at at') ++ fed t)) same_line)) in
      subst (λ (t : Text). PutSoFar first all left t r') (sym same) (record {
        at = at';
        stands = stands;
        puts = λ rest off puts.
            subst (λ (t : Text). Put first all t off) (sym (append_assoc text piece rest))
            (from_here.puts (piece ++ rest) off (inl (at', s.0, rest, s.2.1, refl, puts)));
        room = λ room. from_here.room (inl (at', s.0, s.2.1, room));
      })

  pub put_off : (off : Option TraceOff) (new : Text) → step ≡ Stopped off → new ≡ text ++ fed line' → Put first all new off
  put_off off new is put =
      let s = steps_here (Stopped off) is in
      subst (λ (t : Text). Put first all t off) (sym (put ∙ ap (λ t. text ++ fed t) same_line))
      (from_here.puts (fed line) off (inr (s.0, s.2, refl)))

-- there are too many shapes at a line, whatever the place
pub lacks_on : (first : Place) (all lefts left behind : List Text) (text line line' : Text) (r : Reading)
    → PutSoFar first all lefts text r → lefts ≡ line ∷ left → line' ≡ line → behind ≡ left
    → ((at : Place) → IsPlace r at → LacksRoom at line' (line_behind behind)) → StopsByRoom Words first all
lacks_on first all lefts left behind text line line' r so_far split same_line same_left lacks =
    let here : PutSoFar first all (line ∷ left) text r = subst (λ (l : List Text). PutSoFar first all l text r) split so_far in
    here.room (inr
    (subst (λ (t : Text). LacksRoom here.at t (line_behind left)) same_line
    (subst (λ (b : List Text). LacksRoom here.at line' (line_behind b)) same_left (lacks here.at here.stands))))
