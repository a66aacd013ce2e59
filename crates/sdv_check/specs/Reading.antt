-- Reading the text of a certificate from left to right: the part that it begins with, and what follows; none where it
-- begins with no such part. The laws of reading say that what is read is what is written.
use Rattle.std.specs.Prelude.{◌≡◌, ℕ, zero, suc, ◌-◌, List, [], ◌∷◌, length, take, drop, Bool, true, false, ◌&&◌, ◌||◌, ◌==◌, nat_lt, nat_le, not, slice_index, Option, Some, None, Result, Ok, Err, if◌then◌else◌}
use Rattle.std.specs.List.{list_any}
use Rattle.std.specs.Int.{w64, from_be_bytes}
use Rattle.hex.specs.Hex.{decode_sized}
use Rattle.hex.specs.declared.error.FromHexError.{FromHexError}
use Rattle.sdv_text.specs.Fronts.{◌>>=◌, Read, after, is_digit, run, number_after}
use Rattle.sdv_card.specs.declared.shape.Shape.{Shape}
use Rattle.sdv_script.specs.Rules.{max_number}
use Rattle.sdv_check.specs.declared.text.cursor.TextCursor.{TextCursor}
use Rattle.sdv_facts.specs.declared.certificate.Version.{Version}
use Rattle.sdv_facts.specs.declared.certificate.Version.TheVariants.{One, Two}
use Rattle.sdv_facts.specs.declared.numbers.VarFacts.{VarFacts}
use Rattle.sdv_facts.specs.declared.numbers.Numbers.{Numbers}
use Rattle.sdv_facts.specs.Facts.{PointFacts, Certificate}
use Rattle.sdv_facts.specs.CertificateText.{max_bytes, max_points, max_shapes}
use Rattle.sdv_facts.specs.declared.words.TheConstants.{VERSION_1, VERSION_2, POINTS, POINT, BOUND, BOOT_CAPACITY, CAPACITY, VARIABLE, SHAPES, NO_GAP}
use Rattle.sdv_check.specs.declared.text.fault.CertFault.{CertFault}
use Rattle.sdv_check.specs.declared.text.fault.CertFault.TheVariants as faults

abbrev pub Fails : {Y : Type 0} → CertFault → Option Y → Type 0
Fails faults.Memory read = Unit {0}
Fails fault read = read ≡ None

-- What a function returned, seen by view, is what reading gives, unless memory ran out.
abbrev pub Gives : {X Y : Type 0} → (X → Y) → Result X CertFault → Option Y → Type 0
Gives view (Ok x) read = read ≡ Some (view x)
Gives view (Err e) read = Fails e read

-- A word that may stand at a place was taken, and the place is behind it; or it does not stand there, and the place is the same.
abbrev pub Takes : (taken : Bool) (before after : TextCursor) → (behind : Option (List ℕ)) → Type 0
Takes true before after behind = behind ≡ Some after.rest.now
Takes false before after behind = (behind ≡ None) × (after ≡ before)

-- ENDS

-- an item ends before this
abbrev pub ends_item : List ℕ → Bool
ends_item [] = true
ends_item (b ∷ bs) = (b == 32) || (b == 10)

-- NUMBERS

-- one digit or more, and no zero before others
abbrev pub is_plain : List ℕ → Bool
is_plain digits = nat_lt 0 (length digits) && (not (slice_index digits 0 == 48) || (length digits == 1))

abbrev pub figure : (digits rest : List ℕ) → Read ℕ
figure digits rest =
    if is_plain digits && ends_item rest
    then (if nat_le (number_after 0 digits) max_number then Some (number_after 0 digits, rest) else None)
    else None

abbrev pub read_figure : List ℕ → Read ℕ
read_figure bs = figure (take (run is_digit bs) bs) (drop (run is_digit bs) bs)

unfoldable pub read_number : List ℕ → Read ℕ
read_number bs = after (32 ∷ []) bs >>= read_figure

-- GAPS

abbrev pub some_gap : ℕ × List ℕ → Option (Option ℕ × List ℕ)
some_gap n = Some (Some n.0, n.1)

abbrev pub gap_from : Option (List ℕ) → List ℕ → Read (Option ℕ)
gap_from (Some rest) bs = Some (None, rest)
gap_from None bs = read_number bs >>= some_gap

unfoldable pub read_gap : List ℕ → Read (Option ℕ)
read_gap bs = gap_from (after NO_GAP.now bs) bs

-- VARIABLES

-- what version 2 says of boot partitions, and version 1 does not
abbrev pub read_boot_gap : Version → List ℕ → Read (Option ℕ)
read_boot_gap One bs = Some (None, bs)
read_boot_gap Two bs = read_gap bs

unfoldable pub read_var : Version → List ℕ → Read VarFacts
read_var version bs = do
  bs ← after VARIABLE.now bs
  lo ← read_number bs
  hi ← read_number lo.1
  gap ← read_gap hi.1
  boot ← read_boot_gap version gap.1
  Some (record { lo = lo.0; hi = hi.0; gap = gap.0; bgap = boot.0 }, boot.1)

-- SHAPES

abbrev pub is_upper : ℕ → Bool
is_upper b = nat_le 65 b && nat_le b 90

abbrev pub has_upper : List ℕ → Bool
has_upper digits = list_any is_upper digits

abbrev pub word_of : Result (List ℕ) FromHexError → Option ℕ
word_of (Ok bytes) = Some (from_be_bytes w64 bytes)
word_of (Err e) = None

-- the code that 16 digits spell
abbrev pub code_of : List ℕ → Option ℕ
code_of digits = if has_upper digits then None else word_of (decode_sized digits 8)

abbrev pub code_item : (digits rest : List ℕ) → Read Shape
code_item digits rest = code_of digits >>= λ code. if ends_item rest then Some (record { 0 = code }, rest) else None

unfoldable pub read_shape : List ℕ → Read Shape
read_shape bs = after (32 ∷ []) bs >>= λ rest. if nat_lt (length rest) 16 then None else code_item (take 16 rest)
    (drop 16 rest)

abbrev pub is_above : Option Shape → Shape → Bool
is_above None s = true
is_above (Some last) s = nat_lt last.0 s.0

-- above the one before
unfoldable pub read_rising : Option Shape → List ℕ → Read Shape
read_rising last bs = read_shape bs >>= λ s. if is_above last s.0 then Some s else None

-- LISTS, which end where no item begins

abbrev pub begins_with_digit : Option (List ℕ) → Bool
begins_with_digit None = false
begins_with_digit (Some bs) = is_digit (slice_index bs 0)

abbrev pub begins_number : List ℕ → Bool
begins_number bs = begins_with_digit (after (32 ∷ []) bs)

abbrev pub is_item : Option (List ℕ) → Bool
is_item None = false
is_item (Some rest) = ends_item rest

abbrev pub begins_var : List ℕ → Bool
begins_var bs = is_item (after VARIABLE.now bs)

abbrev pub begins_shape : List ℕ → Bool
begins_shape bs = slice_index bs 0 == 32

-- at most so many items, each read behind the one before
unfoldable pub read_each : {A : Type 0} → (List ℕ → Bool) → (Option A → List ℕ → Read A) → (room : ℕ) → Option A
    → List ℕ → Read (List A)
read_each begins item zero last bs = if begins bs then None else Some ([], bs)
read_each begins item (suc room) last bs =
    if begins bs
    then (item last bs >>= λ x. read_each begins item room (Some x.0) x.1 >>= λ xs. Some (x.0 ∷ xs.0, xs.1))
    else Some ([], bs)

abbrev pub read_turns : List ℕ → Read (List ℕ)
read_turns bs = read_each begins_number (λ last. read_number) 4 None bs

abbrev pub read_vars : Version → List ℕ → Read (List VarFacts)
read_vars version bs = read_each begins_var (λ last. read_var version) 8 None bs

abbrev pub read_shapes : (room : ℕ) → List ℕ → Read (List Shape)
read_shapes room bs = read_each begins_shape read_rising room None bs

-- LINES

-- the place of a point
unfoldable pub read_place : (place : ℕ) → List ℕ → Option (List ℕ)
read_place place bs = read_number bs >>= λ n. if n.0 == place then Some n.1 else None

-- the least capacity of a boot partition, which version 1 does not say
abbrev pub read_boot : Version → List ℕ → Read ℕ
read_boot One bs = Some (0, bs)
read_boot Two bs = after BOOT_CAPACITY.now bs >>= read_number

-- the least capacities, and what is known of the variables
unfoldable pub read_numbers : Version → List ℕ → Read Numbers
read_numbers version bs = do
  bs ← after CAPACITY.now bs
  m ← read_number bs
  mb ← read_boot version m.1
  vars ← read_vars version mb.1
  Some (record { m = m.0; mb = mb.0; vars = record { items = vars.0 } }, vars.1)

-- what stands before them
unfoldable pub read_bound : (place : ℕ) → List ℕ → Read (ℕ × List ℕ)
read_bound place bs = do
  bs ← after POINT.now bs
  bs ← read_place place bs
  bs ← after BOUND.now bs
  base ← read_number bs
  turns ← read_turns base.1
  Some ((base.0, turns.0), turns.1)

unfoldable pub read_point : Version → (place room : ℕ) → List ℕ → Read PointFacts
read_point version place room bs = do
  bound ← read_bound place bs
  numbers ← read_numbers version bound.1
  bs ← after SHAPES.now numbers.1
  shapes ← read_shapes room bs
  bs ← after (10 ∷ []) shapes.1
  Some (
    record {
      facts = record { shapes = shapes.0; numbers = numbers.0 };
      base = bound.0.0;
      turns = record { items = bound.0.1 };
    },
    bs,
  )

-- so many points, from a place on, with at most so many shapes
unfoldable pub read_points : Version → (count place room : ℕ) → List ℕ → Read (List PointFacts)
read_points version zero place room bs = Some ([], bs)
read_points version (suc count) place room bs = do
  p ← read_point version place room bs
  ps ← read_points version count (suc place) (room - length p.0.facts.shapes) p.1
  Some (p.0 ∷ ps.0, ps.1)

-- CERTIFICATES

-- how many points there are
unfoldable pub read_count : List ℕ → Read ℕ
read_count bs = do
  bs ← after POINTS.now bs
  count ← read_number bs
  if nat_le count.0 max_points then (after (10 ∷ []) count.1 >>= λ bs. Some (count.0, bs)) else None

-- behind the first line
unfoldable pub read_lines : Version → List ℕ → Option (List PointFacts)
read_lines version bs = do
  count ← read_count bs
  points ← read_points version count.0 0 max_shapes count.1
  if length points.1 == 0 then Some points.0 else None

-- the first line, which says the version
abbrev pub version_from : Option (List ℕ) → List ℕ → Read Version
version_from (Some rest) bs = Some (One, rest)
version_from None bs = after VERSION_2.now bs >>= λ rest. Some (Two, rest)

unfoldable pub read_version : List ℕ → Read Version
read_version bs = version_from (after VERSION_1.now bs) bs

unfoldable pub read_certificate : List ℕ → Option Certificate
read_certificate bs = do
  version ← read_version bs
  points ← read_lines version.0 version.1
  Some (record { version = version.0; points = points })

unfoldable pub read_text : List ℕ → Option Certificate
read_text bs = if nat_le (length bs) max_bytes then read_certificate bs else None
