-- A trace read line by line: what was printed so far, and what is to be of the lines that are left.
use Rattle.std.proofs.Common.{◌≡◌, ◌∙◌, ◌<◌, ◌+◌, ℕ, List, [], ◌∷◌, ◌++◌, Option, None, inl, inr, refl, sym, ap, subst, drop, length, get_or, map, ◌≤◌, append_assoc, add-one, drop-cons}
use Rattle.std.proofs.lemmas.List.{append-nil}
use Rattle.sdv_telling.specs.Statements.{Text}
use Rattle.sdv_graph.specs.Graph.{Graph}
use Rattle.sdv_decode.specs.Decoded.{Decodes, IsFramed, Passes, Place, Reads, StopsAt, at_first, line_behind}
use Rattle.sdv_decode.specs.Lines.{lines_in}
use Rattle.sdv_decode.specs.Room.{LacksRoom, StopsByRoom}
use Rattle.sdv_decode.specs.Steps.{IsPlace, Steps}
use Rattle.sdv_decode.specs.declared.reading.Step.{Step}
use Rattle.sdv_decode.specs.declared.reading.Step.TheVariants.{Passed, Stopped}
use Rattle.std.proofs.Math.ListN.{drop_of_length-le}
use Rattle.sdv_decode.specs.declared.fault.TraceOff.{TraceOff}
use Rattle.sdv_decode.specs.declared.form.Form.{Form}
use Rattle.sdv_decode.specs.declared.reading.Reading.{Reading}

-- the reading stands at a place, from which the lines that are left are to be read
pub record SoFar (form : Form) (first : Place) (all left : List Text) (text : Text) (r : Reading) : Type 0 where
  pub at : Place
  pub stands : IsPlace r at
  pub reads : (words : Text) (off : Option TraceOff) → Reads form at left words off → Reads form first all (text ++ words) off
  pub room : StopsByRoom form at left → StopsByRoom form first all

pub begins : (form : Form) (first : Place) (all : List Text) (r : Reading) → IsPlace r first → SoFar form first all all [] r
begins form first all r stands = record { at = first; stands = stands; reads = λ words off reads. reads; room = λ room. room }

module _ (form : Form) (first : Place) (all : List Text) (text : Text) (r : Reading) (line : Text) (left : List Text)
    (so_far : SoFar form first all (line ∷ left) text r) where
  pub goes : (r' : Reading) (words : Text) (at' : Place) → Passes form so_far.at line (line_behind left) words at' → IsPlace r' at'
      → SoFar form first all left (text ++ words) r'
  goes r' words at' passes stands = record {
    at = at';
    stands = stands;
    reads = λ rest off reads.
        subst (λ (t : Text). Reads form first all t off) (sym (append_assoc text words rest))
        (so_far.reads (words ++ rest) off (inl (at', words, rest, passes, refl, reads)));
    room = λ room. so_far.room (inl (at', words, passes, room));
  }

  pub stops : (words : Text) (off : Option TraceOff) → StopsAt form so_far.at line left words off → Reads form first all (text ++ words) off
  stops words off stopped = so_far.reads words off (inr stopped)

  -- by the answer of a function
  pub passed : (new : Text) (r' : Reading) → Steps form so_far.at line left text new r' Passed → SoFar form first all left new r'
  passed new r' steps = subst (λ (t : Text). SoFar form first all left t r') (sym steps.1) (goes r' steps.0 steps.2.0 steps.2.1 steps.2.2)

  pub stopped : (new : Text) (r' : Reading) (off : Option TraceOff) → Steps form so_far.at line left text new r' (Stopped off) → Reads form first all new off
  stopped new r' off steps = subst (λ (t : Text). Reads form first all t off) (sym steps.1) (stops steps.0 off steps.2)

pub ends : (form : Form) (first : Place) (all : List Text) (text : Text) (r : Reading) → SoFar form first all [] text r → Reads form first all text None
ends form first all text r so_far =
    subst (λ (t : Text). Reads form first all t None) (append-nil text) (so_far.reads [] None (refl, refl))

-- by the answer of a function that takes a line, whatever the place
module _ (form : Form) (first : Place) (all lefts left behind : List Text) (text line line' new : Text) (r r' : Reading) (so_far : SoFar form first all lefts text r)
    (split : lefts ≡ line ∷ left) (same_form : r.form ≡ form) (same_line : line' ≡ line)
    (same_left : behind ≡ left) (step : Step) (steps : (at : Place) → IsPlace r at → Steps r.form at line' behind text new r' step) where
  from_here : SoFar form first all (line ∷ left) text r
  from_here = subst (λ (l : List Text). SoFar form first all l text r) split so_far

  steps_here : (s : Step) → step ≡ s → Steps form from_here.at line left text new r' s
  steps_here s is =
      subst (λ (x : Step). Steps form from_here.at line left text new r' x) is
      (subst (λ (t : Text). Steps form from_here.at t left text new r' step) same_line
      (subst (λ (b : List Text). Steps form from_here.at line' b text new r' step) same_left
      (subst (λ (f : Form). Steps f from_here.at line' behind text new r' step) same_form (steps from_here.at from_here.stands))))

  pub passed_on : step ≡ Passed → SoFar form first all left new r'
  passed_on is = passed form first all text r line left from_here new r' (steps_here Passed is)

  pub stopped_on : (off : Option TraceOff) → step ≡ Stopped off → Reads form first all new off
  stopped_on off is = stopped form first all text r line left from_here new r' off (steps_here (Stopped off) is)

-- there are too many shapes at a line, whatever the place
pub lacks_on : (form : Form) (first : Place) (all lefts left behind : List Text) (text line line' : Text) (r : Reading)
    → SoFar form first all lefts text r → lefts ≡ line ∷ left → line' ≡ line → behind ≡ left
    → ((at : Place) → IsPlace r at → LacksRoom at line' (line_behind behind)) → StopsByRoom form first all
lacks_on form first all lefts left behind text line line' r so_far split same_line same_left lacks =
    let here : SoFar form first all (line ∷ left) text r = subst (λ (l : List Text). SoFar form first all l text r) split so_far in
    here.room (inr
    (subst (λ (t : Text). LacksRoom here.at t (line_behind left)) same_line
    (subst (λ (b : List Text). LacksRoom here.at line' (line_behind b)) same_left (lacks here.at here.stands))))

-- the list from a place on
from_place : {A : Type 0} (xs : List A) (i : ℕ) (d : A) → i < length xs → drop i xs ≡ get_or xs i d ∷ drop (i + 1) xs
from_place xs i d lt = drop-cons xs i d lt ∙ ap (λ n. get_or xs i d ∷ drop n xs) (sym (add-one i))

-- the lines that are left, from a place on
pub left_from : {A B : Type 0} (f : A → B) (xs : List A) (i : ℕ) (x : A) → i < length xs → x ≡ get_or xs i x
    → map f (drop i xs) ≡ f x ∷ map f (drop (i + 1) xs)
left_from f xs i x lt is = ap (map f) (from_place xs i x lt) ∙ ap (λ y. f y ∷ map f (drop (i + 1) xs)) (sym is)

pub none_left : {A B : Type 0} (f : A → B) (xs : List A) (i : ℕ) → length xs ≤ i → map f (drop i xs) ≡ []
none_left f xs i le = ap (map f) (drop_of_length-le xs le)

-- all lines were read, and what was told of them stands in the whole of its form
pub decodes_by : (g : Graph) (form : Form) (given : Option (List ℕ)) (trace told words : Text) (off : Option TraceOff)
    {A : Type 0} (lines : List A) (f : A → Text) → map f lines ≡ lines_in trace
    → Reads form (at_first g given) (map f lines) told off → IsFramed form told words → Decodes g form given trace words off
decodes_by g form given trace told words off lines f split reads is = record {
  body = told;
  reads = subst (λ (ls : List Text). Reads form (at_first g given) ls told off) split reads;
  framed = is;
}
