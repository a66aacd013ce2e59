-- What is found at a line holds, after any lines before it.
use Rattle.std.proofs.Common.{◌≡◌, ◌⊎◌, ◌&&◌, ◌∙◌, inl, inr, ap, not, refl, subst, sym, Bool, true, false, ℕ, List, [], ◌∷◌, ◌↔◌, Option, Some, None, if◌then◌else◌}
use Rattle.std.specs.Prelude.{IfSome, is_none as is_none_named}
use Rattle.sdv_registers.specs.declared.kind.Kind.{Kind}
use Rattle.sdv_card.specs.declared.shape.Shape.{Shape}
use Rattle.sdv_card.specs.Lists.{May, all}
use Rattle.sdv_card.specs.LegalShapes.{legal_code}
use Rattle.sdv_card.proofs.Members.{all-May, and_left, and_right}
use Rattle.sdv_audit.specs.declared.turn.Told.{Told}
use Rattle.sdv_audit.specs.declared.turn.Deed.{Deed}
use Rattle.sdv_audit.specs.declared.turn.Turn.{Turn}
use Rattle.sdv_audit.specs.declared.turn.Turn.TheVariants.{Ends, Outside, Uses, Resumes, OtherLength, Does}
use Rattle.sdv_audit.specs.declared.audit.Findings.{Findings}
use Rattle.sdv_audit.specs.Turns.{turn_of, event_at}
use Rattle.sdv_audit.specs.Carried.{Follows}
use Rattle.sdv_audit.specs.Standing.{known_of, Covers, NoneAnswers}
use Rattle.sdv_card.specs.declared.state.Width.{Width}
use Rattle.sdv_audit.specs.Audited.{is_empty, lines_told, running_told, address_told}
use Rattle.sdv_audit.specs.Lived.{turn_within, LivedFor, IsReckless}
use Rattle.sdv_audit.specs.Beyond.{is_beyond}
use Rattle.sdv_audit.specs.Course.{Course, begun, begun_at, turn_at, any_state, goes_on, goes_anew, goes_again, course_here, course_after, course_from, judged_by, restarts_at, resumes_at, found_on, found_again, found_here, found_anew, found_at, shapes_after, is_forbidden, least, IsLeast, least_illegal, reckless_at, FindingHolds, FindingsHold}
use Rattle.sdv_audit.proofs.Bounded.{none_in_bounds}
use Rattle.sdv_audit.proofs.Sound.{start_covers}
use Rattle.sdv_audit.proofs.Living.{start_lives, some_lived, does_recklessly}
use Rattle.sdv_audit.proofs.Audits.{FitsMore, one_more, lived_more, none_left, left_empty}
use Rattle.sdv_audit.proofs.Courses.{not_is, after_follows, follows_after, least_is, if_some, forbidden_by, forbidden_left, none_after, none_reckless}

-- what a course says of the lines by which it judges
pub record CourseStands (k : Kind) (c : Course) : Type 0 where
  pub known : c.known ≡ known_of k c.past
  pub covers : Covers k c.past c.shapes
  pub lived : c.bounded ≡ true → (s : Shape) → May c.shapes s → LivedFor k c.past c.known.announced s

begun_stands : (k : Kind) → CourseStands k begun
begun_stands k = record { known = refl; covers = start_covers k; lived = λ e s m. start_lives k s m }

members : (k : Kind) (told : Told) (c : Course) (s : Shape) →
    May (goes_on k told c).shapes s ↔ Follows k (turn_at k told c) told.line c.known c.shapes s
members k told c s = (
  (λ m. after_follows k (turn_at k told c) told.line c.known c.shapes c.shapes s (λ t. ((λ n. n), (λ n. n))) m),
  (λ f. follows_after k (turn_at k told c) told.line c.known c.shapes c.shapes s (λ t. ((λ n. n), (λ n. n))) f),
)

goes_on_stands : (k : Kind) (told : Told) (c : Course) → CourseStands k c → CourseStands k (goes_on k told c)
goes_on_stands k told c s =
    let more : FitsMore k (goes_on k told c).known (goes_on k told c).shapes (told ∷ c.past) =
    one_more k c.known (goes_on k told c).known c.shapes (goes_on k told c).shapes (turn_at k told c) told c.past s.known s.covers refl refl
    (members k told c) in
    record {
      known = more.known_is;
      covers = more.covers;
      lived = λ e t m.
          subst (λ v. LivedFor k (told ∷ c.past) v.announced t) (sym more.known_is)
          (lived_more k c.known c.shapes (goes_on k told c).shapes (turn_at k told c) told c.past s.known refl (members k told c)
          (s.lived (and_left c.bounded (all (λ u. turn_within k (turn_at k told c) told.line u.0) c.shapes) e))
          (λ u n. all-May (λ v. turn_within k (turn_at k told c) told.line v.0)
          (and_right c.bounded (all (λ v. turn_within k (turn_at k told c) told.line v.0) c.shapes) e) n)
          t m);
    }

goes_anew_stands : (k : Kind) (told : Told) (c : Course) → CourseStands k (goes_anew k told c)
goes_anew_stands k told c = goes_on_stands k told (goes_on k (lines_told c.known.lines) begun) (goes_on_stands k (lines_told c.known.lines) begun (begun_stands k))

pub any_state_stands : (k : Kind) (rca : ℕ) (lines : Width) → CourseStands k (any_state k rca lines)
any_state_stands k rca lines = goes_on_stands k (running_told rca lines) begun (begun_stands k)

goes_again_stands : (k : Kind) (told : Told) (c : Course) → CourseStands k (goes_again k told c)
goes_again_stands k told c =
    goes_on_stands k told (any_state k (address_told told.line c.known) c.known.lines) (any_state_stands k (address_told told.line c.known) c.known.lines)

-- it says nothing, as long as it follows no line
abbrev Rests : Kind → Course → Type 0
Rests k c = CourseStands k c ⊎ (c.shapes ≡ [])

is_none : (xs : List Shape) → is_empty xs ≡ true → xs ≡ []
is_none [] e = refl
is_none (x ∷ xs) e = absurd (let f : false ≡ true = e in cc)

goes_on_rests : (k : Kind) (told : Told) (c : Course) → Rests k c → Rests k (goes_on k told c)
goes_on_rests k told c (inl s) = inl (goes_on_stands k told c s)
goes_on_rests k told c (inr e) =
    inr (is_none (goes_on k told c).shapes
    (ap (λ v. is_empty (shapes_after k (turn_at k told c) told.line c.known v)) e ∙ none_after k (turn_at k told c) told.line c.known))

either_rests : (b : Bool) (k : Kind) (x y : Course) → Rests k x → Rests k y → Rests k (if b then x else y)
either_rests true k x y s t = s
either_rests false k x y s t = t

after_rests : (k : Kind) (told : Told) (c : Course) → Rests k c → Rests k (course_after k told c)
after_rests k told c s =
    either_rests (restarts_at k told c) k (goes_anew k told c) (course_here k told c) (inl (goes_anew_stands k told c))
    (either_rests (resumes_at told c) k (goes_again k told c) (goes_on k told c) (inl (goes_again_stands k told c)) (goes_on_rests k told c s))

all_rest : (k : Kind) (c : Course) (before : List Told) → Rests k c → Rests k (course_from k c before)
all_rest k c [] s = s
all_rest k c (told ∷ rest) s = all_rest k (course_after k told c) rest (after_rests k told c s)

begun_rests : (k : Kind) (running : Bool) → Rests k (begun_at running)
begun_rests k true = inr refl
begun_rests k false = inl (begun_stands k)

-- THE FINDINGS

real_one : (k : Kind) (deed : Deed) (c : Course) (o : Option Shape) → CourseStands k c → IsLeast (λ s. not (legal_code k s.0 (event_at deed s.0))) c.shapes o →
    IfSome o (λ s. c.bounded ≡ true → IsReckless k c.past (Does deed) s)
real_one k deed c None s l = tt
real_one k deed c (Some t) s l = λ e.
    does_recklessly k c.past deed t (some_lived k c.past c.known.announced t (s.lived e t l.0)) (not_is (legal_code k t.0 (event_at deed t.0)) l.1)

real_least : (k : Kind) (turn : Turn) (c : Course) → CourseStands k c →
    IfSome (least_illegal k turn c.shapes) (λ s. c.bounded ≡ true → IsReckless k c.past turn s)
real_least k (Does deed) c s =
    real_one k deed c (least (λ t. not (legal_code k t.0 (event_at deed t.0))) c.shapes) s (least_is (λ t. not (legal_code k t.0 (event_at deed t.0))) c.shapes)
real_least k (Uses width) c s = tt
real_least k (Resumes rca lines) c s = tt
real_least k (OtherLength due) c s = tt
real_least k Ends c s = tt
real_least k Outside c s = tt

if_told : (b : Bool) (o : Option Shape) (P : Shape → Type 0) → IfSome o P → IfSome (if b then None else o) P
if_told true o P x = tt
if_told false o P x = x

real_reckless : (k : Kind) (turn : Turn) (c : Course) → CourseStands k c →
    IfSome (reckless_at c.running k turn c.shapes) (λ s. c.bounded ≡ true → IsReckless k c.past turn s)
real_reckless k turn c s =
    if_told (c.running && not (is_forbidden k turn c.shapes)) (least_illegal k turn c.shapes) (λ s. c.bounded ≡ true → IsReckless k c.past turn s)
    (real_least k turn c s)

on_holds : (k : Kind) (told : Told) (c : Course) → CourseStands k c → FindingHolds k told c (found_on k told c) (goes_on k told c)
on_holds k told c s = record {
  unanswered = λ e.
      none_left k (told ∷ c.past) (goes_on k told c).shapes
      (left_empty (reckless_at c.running k (turn_at k told c) c.shapes) c.shapes (goes_on k told c).shapes e) (goes_on_stands k told c s).covers;
  forbidden = if_some (reckless_at c.running k (turn_at k told c) c.shapes) (λ t. c.running ≡ true → is_forbidden k (turn_at k told c) c.shapes ≡ true)
      (λ t. c.running ≡ true → NoneAnswers k (told ∷ c.past))
      (forbidden_by c.running (is_forbidden k (turn_at k told c) c.shapes) (least_illegal k (turn_at k told c) c.shapes))
      (λ t f e.
      none_left k (told ∷ c.past) (goes_on k told c).shapes (forbidden_left k (turn_at k told c) told.line c.known c.shapes (f e))
      (goes_on_stands k told c s).covers);
  reckless = real_reckless k (turn_at k told c) c s;
  beyond = λ e.
      none_in_bounds k c.past told c.shapes s.covers
      (λ t m. subst (λ v. is_beyond k v (turn_of k v told) told.line t.0 ≡ true) s.known
      (all-May (λ u. is_beyond k c.known (turn_at k told c) told.line u.0)
      (and_right (not (is_empty c.shapes)) (all (λ u. is_beyond k c.known (turn_at k told c) told.line u.0) c.shapes) e) m));
}

-- nothing is found where no line is followed
no_reckless : (running : Bool) (k : Kind) (turn : Turn) (xs : List Shape) (P : Shape → Type 0) → xs ≡ [] → IfSome (reckless_at running k turn xs) P
no_reckless running k turn xs P e =
    subst (λ v. IfSome v P) (sym (ap (reckless_at running k turn) e ∙ none_reckless running k turn)) tt

none_holds : (k : Kind) (told : Told) (c : Course) → c.shapes ≡ [] → FindingHolds k told c (found_on k told c) (goes_on k told c)
none_holds k told c none = record {
  unanswered = λ e.
      absurd (let f : false ≡ true = ap (λ v. not (is_empty v)) (sym none)
      ∙ and_right (is_empty (goes_on k told c).shapes && is_none_named (reckless_at c.running k (turn_at k told c) c.shapes)) (not (is_empty c.shapes)) e in cc);
  forbidden = no_reckless c.running k (turn_at k told c) c.shapes (λ t. c.running ≡ true → NoneAnswers k (told ∷ c.past)) none;
  reckless = no_reckless c.running k (turn_at k told c) c.shapes (λ t. c.bounded ≡ true → IsReckless k c.past (turn_at k told c) t) none;
  beyond = λ e.
      absurd (let f : false ≡ true = ap (λ v. not (is_empty v)) (sym none)
      ∙ and_left (not (is_empty c.shapes)) (all (λ u. is_beyond k c.known (turn_at k told c) told.line u.0) c.shapes) e in cc);
}

here_on : (k : Kind) (told : Told) (c : Course) → Rests k c → FindingHolds k told c (found_on k told c) (goes_on k told c)
here_on k told c (inl s) = on_holds k told c s
here_on k told c (inr e) = none_holds k told c e

again_holds : (k : Kind) (told : Told) (c : Course) →
    FindingHolds k told (any_state k (address_told told.line c.known) c.known.lines) (found_again k told c) (goes_again k told c)
again_holds k told c =
    let base : Course = any_state k (address_told told.line c.known) c.known.lines in
    let h : FindingHolds k told base (found_on k told base) (goes_on k told base) =
    on_holds k told base (any_state_stands k (address_told told.line c.known) c.known.lines) in
    record { unanswered = h.unanswered; forbidden = h.forbidden; reckless = h.reckless; beyond = h.beyond }

anew_holds : (k : Kind) (told : Told) (c base : Course) → FindingHolds k told base (found_anew k told c) (goes_anew k told c)
anew_holds k told c base = record {
  unanswered = λ e. none_left k (goes_anew k told c).past (goes_anew k told c).shapes e (goes_anew_stands k told c).covers;
  forbidden = tt;
  reckless = tt;
  beyond = λ e. absurd (let f : false ≡ true = e in cc);
}

either_holds : (b : Bool) (k : Kind) (told : Told) (u v : Course) (f g : Findings) (x y : Course) → FindingHolds k told u f x → FindingHolds k told v g y →
    FindingHolds k told (if b then u else v) (if b then f else g) (if b then x else y)
either_holds true k told u v f g x y h i = h
either_holds false k told u v f g x y h i = i

one_holds : (b : Bool) (k : Kind) (told : Told) (u : Course) (f g : Findings) (x y : Course) → FindingHolds k told u f x → FindingHolds k told u g y →
    FindingHolds k told u (if b then f else g) (if b then x else y)
one_holds true k told u f g x y h i = h
one_holds false k told u f g x y h i = i

here_holds : (k : Kind) (told : Told) (c : Course) → Rests k c → FindingHolds k told (judged_by k told c) (found_at k told c) (course_after k told c)
here_holds k told c s =
    one_holds (restarts_at k told c) k told (judged_by k told c) (found_anew k told c) (found_here k told c) (goes_anew k told c) (course_here k told c)
    (anew_holds k told c (judged_by k told c))
    (either_holds (resumes_at told c) k told (any_state k (address_told told.line c.known) c.known.lines) c (found_again k told c) (found_on k told c)
    (goes_again k told c) (goes_on k told c) (again_holds k told c) (here_on k told c s))

pub findings_hold : (k : Kind) → FindingsHold k
findings_hold k running before told =
    here_holds k told (course_from k (begun_at running) before) (all_rest k (begun_at running) before (begun_rests k running))
