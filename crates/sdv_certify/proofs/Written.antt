-- The text of a certificate piece by piece.
use Rattle.std.proofs.Common.{◌≡◌, ℕ, suc, ◌+◌, ◌<◌, ◌≤◌, List, [], ◌∷◌, ◌++◌, length, drop, get_or, Option, Some, None, Result, Ok, Err, flat_map, refl, IsErr, sym, ap, subst, ◌∙◌, append_assoc, append-nil, add-one, drop-cons, drop_of_length-le, arith}
use Rattle.std.proofs.lemmas.List.Concat.{flat_map-cons}
use Rattle.std.proofs.Math.ListN.{get_or-map}
use Rattle.std.proofs.lemmas.List.{length-map}
use Rattle.std.specs.Io.KnownBytes.{Appends}
use Rattle.sdv_card.specs.declared.shape.Shape.{Shape}
use Rattle.sdv_text.specs.Written.{AppendsPart, Writes}
use Rattle.sdv_text.proofs.WrittenLaws.{appends_none, appends_more, part_after, part_before, then_more}
use Rattle.sdv_facts.specs.declared.certificate.Version.{Version}
use Rattle.sdv_facts.specs.declared.certificate.Version.TheVariants.{One, Two}
use Rattle.sdv_facts.specs.declared.numbers.VarFacts.{VarFacts}
use Rattle.sdv_facts.specs.declared.certificate.PointFacts.{PointFacts as SharedPoint}
use Rattle.sdv_facts.specs.Facts.{PointFacts, Certificate}
use Rattle.sdv_facts.specs.Shared.{point_in, points_in, certificate_in}
use Rattle.sdv_facts.specs.CertificateText.{number_written, gap_written, boot_gap_written, boot_written, var_written, shape_written, each_written, numbers_written, point_written, points_written, version_written, text_of}
use Rattle.sdv_facts.specs.declared.words.TheConstants.{POINTS, POINT, BOUND, BOOT_CAPACITY, CAPACITY, VARIABLE, SHAPES}
use Rattle.sdv_certify.specs.Pieces.{number_text, gap_text, boot_gap_text, boot_text, var_text, shape_text, bound_text, numbers_text, shapes_text, line_text, lines_text, title_text, PassesOn}

-- EACH PIECE, before what follows it

each_is : {A : Type 0} (text : A → List ℕ) (written : A → List ℕ → List ℕ) → ((x : A) (others : List ℕ) → text x ++ others ≡ written x others)
    → (xs : List A) (others : List ℕ) → flat_map text xs ++ others ≡ each_written written xs others
each_is text written same [] others = refl
each_is text written same (x ∷ xs) others =
    ap (λ (l : List ℕ). l ++ others) (flat_map-cons text x xs) ∙ append_assoc (text x) (flat_map text xs) others ∙ same x (flat_map text xs ++ others)
    ∙ ap (written x) (each_is text written same xs others)

gap_is : (gap : Option ℕ) (others : List ℕ) → gap_text gap ++ others ≡ gap_written gap others
gap_is None others = refl
gap_is (Some n) others = refl

boot_gap_is : (version : Version) (gap : Option ℕ) (others : List ℕ) → boot_gap_text version gap ++ others ≡ boot_gap_written version gap others
boot_gap_is One gap others = refl
boot_gap_is Two gap others = gap_is gap others

boot_is : (version : Version) (least : ℕ) (others : List ℕ) → boot_text version least ++ others ≡ boot_written version least others
boot_is One least others = refl
boot_is Two least others = append_assoc BOOT_CAPACITY.now (number_text least) others

var_is : (version : Version) (v : VarFacts) (others : List ℕ) → var_text version v ++ others ≡ var_written version v others
var_is version v others =
    let boot = boot_gap_text version v.bgap in
    ap (λ (l : List ℕ). VARIABLE.now ++ l) (append_assoc (number_text v.lo) (number_text v.hi ++ (gap_text v.gap ++ boot)) others
    ∙ ap (number_written v.lo) (append_assoc (number_text v.hi) (gap_text v.gap ++ boot) others
    ∙ ap (number_written v.hi) (append_assoc (gap_text v.gap) boot others
    ∙ gap_is v.gap (boot ++ others) ∙ ap (gap_written v.gap) (boot_gap_is version v.bgap others))))

bound_is : (place : ℕ) (p : PointFacts) (others : List ℕ)
    → bound_text place p ++ others ≡ POINT.now ++ number_written place (BOUND.now ++ number_written p.base (each_written number_written p.turns.items others))
bound_is place p others =
    let turns = flat_map number_text p.turns.items in
    ap (λ (l : List ℕ). POINT.now ++ l) (append_assoc (number_text place) (BOUND.now ++ (number_text p.base ++ flat_map number_text p.turns.items)) others
    ∙ ap (λ (l : List ℕ). number_written place (BOUND.now ++ l)) (append_assoc (number_text p.base) (flat_map number_text p.turns.items) others
    ∙ ap (number_written p.base) (each_is number_text number_written (λ x rest. refl) p.turns.items others)))

numbers_is : (version : Version) (p : PointFacts) (others : List ℕ) → numbers_text version p ++ others
    ≡ numbers_written version p.facts.numbers (SHAPES.now ++ others)
numbers_is version p others =
    let ns = p.facts.numbers in
    let vars = flat_map (var_text version) ns.vars.items in
    ap (λ (l : List ℕ). CAPACITY.now ++ l) (append_assoc (number_text ns.m) (boot_text version ns.mb ++ (vars ++ SHAPES.now)) others
    ∙ ap (number_written ns.m) (append_assoc (boot_text version ns.mb) (vars ++ SHAPES.now) others
    ∙ boot_is version ns.mb ((vars ++ SHAPES.now) ++ others)
    ∙ ap (boot_written version ns.mb) (append_assoc vars SHAPES.now others
    ∙ each_is (var_text version) (var_written version) (var_is version) ns.vars.items (SHAPES.now ++ others))))

line_is : (version : Version) (place : ℕ) (p : PointFacts) (others : List ℕ) → line_text version place p ++ others ≡ point_written version place p others
line_is version place p others =
    let numbers = numbers_text version p in
    append_assoc (bound_text place p ++ numbers) (shapes_text p.facts.shapes) others
    ∙ append_assoc (bound_text place p) numbers (shapes_text p.facts.shapes ++ others)
    ∙ bound_is place p (numbers ++ (shapes_text p.facts.shapes ++ others))
    ∙ ap (λ (l : List ℕ). POINT.now ++ number_written place (BOUND.now ++ number_written p.base (each_written number_written p.turns.items l)))
    (numbers_is version p (shapes_text p.facts.shapes ++ others)
    ∙ ap (λ (l : List ℕ). numbers_written version p.facts.numbers (SHAPES.now ++ l))
    (append_assoc (flat_map shape_text p.facts.shapes) (10 ∷ []) others ∙ each_is shape_text shape_written (λ x rest. refl) p.facts.shapes (10 ∷ others)))

lines_are : (version : Version) (place : ℕ) (ps : List PointFacts) → lines_text version place ps ≡ points_written version place ps
lines_are version place [] = refl
lines_are version place (p ∷ ps) =
    line_is version place p (lines_text version (suc place) ps) ∙ ap (point_written version place p) (lines_are version (suc place) ps)

-- the whole text
pub text_is : (c : Certificate) → text_of c ≡ title_text c.version (length c.points) ++ lines_text c.version 0 c.points
text_is c =
    let lines = lines_text c.version 0 c.points in
    let count = number_text (length c.points) in
    sym (append_assoc (version_written c.version) (POINTS.now ++ (count ++ 10 ∷ [])) lines
    ∙ ap (λ (l : List ℕ). version_written c.version ++ l) (append_assoc POINTS.now (count ++ 10 ∷ []) lines
    ∙ ap (λ (l : List ℕ). POINTS.now ++ l) (append_assoc count (10 ∷ []) lines
    ∙ ap (λ (l : List ℕ). number_written (length c.points) (10 ∷ l)) (lines_are c.version 0 c.points))))

-- ONE MORE PIECE: what is written, and all that is to be written

pub one_more : (old mid new : Option (List ℕ)) (all written piece rest : List ℕ) → all ≡ written ++ (piece ++ rest) → Appends old mid written
    → Appends mid new piece
    → (w : List ℕ) × (all ≡ w ++ rest) × Appends old new w
one_more old mid new all written piece rest e p q = (written ++ piece, e ∙ sym (append_assoc written piece rest), appends_more old mid new written piece p q)

pub one_failed : (old mid new : Option (List ℕ)) (all written piece rest : List ℕ) → all ≡ written ++ (piece ++ rest) → Appends old mid written
    → AppendsPart mid new piece → AppendsPart old new all
one_failed old mid new all written piece rest e p q = rw e (part_after old mid new written (piece ++ rest) p (part_before mid new piece rest q))

pub last_shape : (xs : List Shape) (i : ℕ) (d : Shape) → i < length xs → shapes_text (drop i xs) ≡ shape_text (get_or xs i d) ++ shapes_text (drop (i + 1) xs)
last_shape xs i d lt =
    ap shapes_text (drop-cons xs i d lt)
    ∙ ap (λ (l : List ℕ). l ++ 10 ∷ []) (flat_map-cons shape_text (get_or xs i d) (drop (suc i) xs))
    ∙ append_assoc (shape_text (get_or xs i d)) (flat_map shape_text (drop (suc i) xs)) (10 ∷ [])
    ∙ rw add-one refl

pub no_shape : (xs : List Shape) (i : ℕ) → length xs ≤ i → shapes_text (drop i xs) ≡ 10 ∷ []
no_shape xs i le = ap shapes_text (drop_of_length-le xs le)

pub next_line : (version : Version) (ps : List PointFacts) (i : ℕ) (p : PointFacts) → i < length ps → p ≡ get_or ps i p
    → lines_text version i (drop i ps) ≡ line_text version i p ++ lines_text version (i + 1) (drop (i + 1) ps)
next_line version ps i p lt e =
    ap (lines_text version i) (drop-cons ps i p lt)
    ∙ ap (λ (q : PointFacts). line_text version i q ++ lines_text version (suc i) (drop (suc i) ps)) (sym e) ∙ rw add-one refl

pub no_line : (version : Version) (ps : List PointFacts) (i : ℕ) → length ps ≤ i → lines_text version i (drop i ps) ≡ []
no_line version ps i le = ap (lines_text version i) (drop_of_length-le ps le)

-- the same of points that name sets of a table
pub next_point : (sets : List (List Shape)) (version : Version) (ps : List SharedPoint) (i : ℕ) (p : SharedPoint) → i < length ps → p ≡ get_or ps i p
    → lines_text version i (drop i (points_in sets ps)) ≡ line_text version i (point_in sets p) ++ lines_text version (i + 1) (drop (i + 1) (points_in sets ps))
next_point sets version ps i p lt e =
    let many = length-map ps (point_in sets) in
    next_line version (points_in sets ps) i (point_in sets p) (omega (arith, lt, many)) (ap (point_in sets) e ∙ sym (get_or-map (point_in sets) ps i p))

pub no_point : (sets : List (List Shape)) (version : Version) (ps : List SharedPoint) (i : ℕ) → length ps ≤ i
    → lines_text version i (drop i (points_in sets ps)) ≡ []
no_point sets version ps i le = let many = length-map ps (point_in sets) in no_line version (points_in sets ps) i (omega (arith, le, many))

-- THE CODE: fronts of lines, and writers that failed

-- a certificate that was shown
abbrev Same_certificate : Certificate → Certificate → Type 0
Same_certificate a b = a ≡ b

parts_same : (v w : Version) (ps qs : List PointFacts) → v ≡ w → ps ≡ qs
    → Same_certificate (record { version = v; points = ps }) (record { version = w; points = qs })
parts_same v w ps qs e f = cc

pub same_certificate : (sets : List (List Shape)) (version : Version) (ps : List SharedPoint) (c : Certificate) → version ≡ c.version
    → points_in sets ps ≡ c.points → certificate_in sets version ps ≡ c
same_certificate sets version ps c e f = parts_same version c.version (points_in sets ps) c.points e f

pub failed : {E : Type 0} (r : Result (Unit {0}) E) (old new : Option (List ℕ)) (text : List ℕ) → IsErr r → AppendsPart old new text → Writes old new r text
failed (Ok x) old new text err p = absurd (cc err)
failed (Err e) old new text err p = p

pub title_made : (version : Version) (a b c d e : List ℕ) (n : ℕ) → a ≡ [] → b ≡ a ++ version_written version → c ≡ b ++ POINTS.now → d ≡ c ++ number_text n
    → e ≡ d ++ 10 ∷ [] → e ≡ title_text version n
title_made version a b c d e n e0 e1 e2 e3 e4 =
    let first : b ≡ version_written version = e1 ∙ ap (λ (l : List ℕ). l ++ version_written version) e0 in
    let rest = number_text n ++ 10 ∷ [] in
    e4 ∙ ap (λ (l : List ℕ). l ++ 10 ∷ []) e3 ∙ append_assoc c (number_text n) (10 ∷ [])
    ∙ ap (λ (l : List ℕ). l ++ rest) e2 ∙ append_assoc b POINTS.now rest ∙ ap (λ (l : List ℕ). l ++ (POINTS.now ++ rest)) first

pub front_made : (version : Version) (a b c : List ℕ) (place : ℕ) (p : PointFacts) → a ≡ [] → b ≡ a ++ bound_text place p → c ≡ b ++ numbers_text version p
    → c ≡ bound_text place p ++ numbers_text version p
front_made version a b c place p e0 e1 e2 =
    e2 ∙ ap (λ (l : List ℕ). l ++ numbers_text version p) (e1 ∙ ap (λ (l : List ℕ). l ++ bound_text place p) e0)

pub title_failed : {E : Type 0} (r : Result (Unit {0}) E) (old new : Option (List ℕ)) (c : Certificate) → IsErr r
    → AppendsPart old new (title_text c.version (length c.points)) → Writes old new r (text_of c)
title_failed r old new c err h =
    failed r old new (text_of c) err (subst (λ (l : List ℕ). AppendsPart old new l) (sym (text_is c))
    (part_before old new (title_text c.version (length c.points)) (lines_text c.version 0 c.points) h))

pub all_written : (old new : Option (List ℕ)) (all written rest : List ℕ) → all ≡ written ++ rest → rest ≡ [] → Appends old new written → Appends old new all
all_written old new all written rest e none p =
    subst (λ (l : List ℕ). Appends old new l) (sym (e ∙ ap (λ (l : List ℕ). written ++ l) none ∙ append-nil written)) p

pub same_text : {E : Type 0} (r : Result (Unit {0}) E) (old new : Option (List ℕ)) (a b : List ℕ) → a ≡ b → Writes old new r a → Writes old new r b
same_text r old new a b e p = subst (λ (l : List ℕ). Writes old new r l) e p

-- A LINE, of which a part is held back

-- what is written, what is held, and what is still to come
abbrev pub Held : (all : List ℕ) (old new : Option (List ℕ)) (line rest : List ℕ) → Type 0
Held all old new line rest = (written : List ℕ) × (all ≡ written ++ (line ++ rest)) × Appends old new written

pub none_passed : (known : Option (List ℕ)) (held : List ℕ) → PassesOn known known held held
none_passed known held = ([], refl, appends_none known)

pub all_passed : (old new : Option (List ℕ)) (held text left : List ℕ) → text ≡ held → left ≡ [] → Appends old new text → PassesOn old new held left
all_passed old new held text left e none p =
    (held, sym (append-nil held) ∙ ap (λ (l : List ℕ). held ++ l) (sym none), subst (λ (l : List ℕ). Appends old new l) e p)

pub part_passed : (old new : Option (List ℕ)) (held text : List ℕ) → text ≡ held → AppendsPart old new text → AppendsPart old new held
part_passed old new held text e p = subst (λ (l : List ℕ). AppendsPart old new l) e p

pub line_begins : (known : Option (List ℕ)) (line : List ℕ) (version : Version) (place : ℕ) (p : PointFacts) → line ≡ bound_text place p ++ numbers_text version p
    → Held (line_text version place p) known known line (shapes_text p.facts.shapes)
line_begins known line version place p e = ([], ap (λ (l : List ℕ). l ++ shapes_text p.facts.shapes) (sym e), appends_none known)

pub one_held : (all : List ℕ) (old mid new : Option (List ℕ)) (line left more piece rest : List ℕ) → Held all old mid line (piece ++ rest)
    → PassesOn mid new line left
    → more ≡ left ++ piece → Held all old new more rest
one_held all old mid new line left more piece rest h p e = (
  h.0 ++ p.0,
  h.1
      ∙ ap (λ (l : List ℕ). h.0 ++ (l ++ (piece ++ rest))) p.1
      ∙ ap (λ (l : List ℕ). h.0 ++ l) (append_assoc p.0 left (piece ++ rest)
      ∙ ap (λ (l : List ℕ). p.0 ++ l) (sym (append_assoc left piece rest) ∙ ap (λ (l : List ℕ). l ++ rest) (sym e)))
      ∙ sym (append_assoc h.0 p.0 (more ++ rest)),
  appends_more old mid new h.0 p.0 h.2 p.2,
)

pub line_failed : (all : List ℕ) (old mid new : Option (List ℕ)) (line rest : List ℕ) → Held all old mid line rest → AppendsPart mid new line
    → AppendsPart old new all
line_failed all old mid new line rest h q = one_failed old mid new all h.0 line rest h.1 h.2 q

pub line_ends : {E : Type 0} (r : Result (Unit {0}) E) (all : List ℕ) (old mid new : Option (List ℕ)) (line whole : List ℕ) → Held all old mid line (10 ∷ [])
    → whole ≡ line ++ 10 ∷ []
    → Writes mid new r whole → Writes old new r all
line_ends r all old mid new line whole h e p =
    subst (λ (l : List ℕ). Writes old new r l) (ap (λ (l : List ℕ). h.0 ++ l) e ∙ sym h.1) (then_more r old mid new h.0 whole h.2 p)
