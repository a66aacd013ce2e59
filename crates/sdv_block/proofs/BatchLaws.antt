-- What a batch's text is within its limits, and how it grows line by line.
use Rattle.std.proofs.Common.{◌≡◌, ℕ, zero, suc, ◌+◌, ◌*◌, ◌^◌, ◌<◌, ◌≤◌, refl, sym, ap, ◌∙◌, subst, arith, Bool, true, false, List, [], ◌∷◌, ◌++◌, length, length-append, nat_le, Some, None, drop, max, get_or, drop-cons}
use Rattle.std.specs.Prelude.{codes, ◌&&◌, ◌==◌, if◌then◌else◌, Result, Ok, Err, OnOk, IfOk, IfErr}
use Rattle.std.specs.Fmt.{decimal}
use Rattle.std.specs.List.{list_all}
use Rattle.std.proofs.lemmas.Bool.{le-leb, lt-leb, leb-true}
use Rattle.std.proofs.lemmas.List.{drop_all}
use Rattle.sdv_registers.specs.declared.kind.Kind.{Kind}
use Rattle.sdv_registers.specs.declared.kind.Kind.TheVariants.{Sd, Emmc}
use Rattle.sdv_card.proofs.Members.{both_true, and_left, and_right}
use Rattle.sdv_script.specs.Rules.{statements_count, max_bytes, max_statements}
use Rattle.sdv_script.specs.Script.{Parsed, IsScript}
use Rattle.sdv_block.specs.declared.fault.BlockFault.{BlockFault}
use Rattle.sdv_block.specs.declared.fault.BlockFault.TheVariants.{Range, Limit, Memory}
use Rattle.sdv_block.specs.declared.request.Request.{Request}
use Rattle.sdv_block.specs.declared.request.Request.TheVariants.{Read, Write}
use Rattle.sdv_block.specs.Batch.{blocks_fit, is_in_range, keeps_limits, batch_refusal}
use Rattle.sdv_block.specs.BatchText.{line, line_with, card_text, ready_text, capacity_text, select_text, bring_up_text, test_text, counted_line, single_read_text, multiple_read_text, settle_text, single_write_text, multiple_write_text, requests_text, batch_text, batch_script}
use Rattle.sdv_block.specs.RequestStatements.{batch_statements}
use Rattle.sdv_block.specs.BringUpStatements.{batch_body}
use Rattle.sdv_block.specs.Disk.{end_of, greatest_end}
use Rattle.sdv_block.proofs.BatchScript.{is_script}

-- A TEXT within the limit of bytes has statements within theirs: each line has 16 bytes or more for each of its statements

line_size : (text others : List ℕ) → length (line text others) ≡ length text + (1 + length others)
line_size text others = length-append text (10 ∷ others) ∙ omega arith

with_size : (before : List ℕ) (n : ℕ) (behind others : List ℕ) → length before + length (line behind others) ≤ length (line_with before n behind others)
with_size before n behind others =
    let a = length-append before (32 ∷ (decimal n ++ 32 ∷ line behind others)) in
    let b = length-append (decimal n) (32 ∷ line behind others) in
    omega (arith, a, b)

counted_size : (before : List ℕ) (block count : ℕ) (behind others : List ℕ) →
    length before + 5 + length (line behind others) ≤ length (counted_line before block count behind others)
counted_size before block count behind others =
    let rest : List ℕ = line_with (codes "count") count behind others in
    let a = length-append before (32 ∷ (decimal block ++ 32 ∷ rest)) in
    let b = length-append (decimal block) (32 ∷ rest) in
    let c = with_size (codes "count") count behind others in
    omega (arith, a, b, c)

settle_size : (others : List ℕ) → 112 + length others ≤ length (settle_text others)
settle_size others =
    let status : List ℕ = line (codes "send 13 { clean & state=tran { } else { fault write } }") others in
    let a = line_size (codes "send 13 { clean & state=tran { } else { fault write } }") others in
    let b = line_size (codes "loop 1000 { wait { ok { break } else { } } } else { fault busy }") status in
    omega (arith, a, b)

single_read_size : (block : ℕ) (others : List ℕ) → 64 + length others ≤ length (single_read_text block others)
single_read_size block others =
    let last = line_size (codes "recv { ok { } else { fault read } }") others in
    let one = line_size (codes "{ clean { } else { fault read } }") (line (codes "recv { ok { } else { fault read } }") others) in
    let all = with_size (codes "send 17 at by hc") block (codes "{ clean { } else { fault read } }")
    (line (codes "recv { ok { } else { fault read } }") others) in
    omega (arith, last, one, all)

multiple_read_size : (block count : ℕ) (others : List ℕ) → 192 + length others ≤ length (multiple_read_text block count others)
multiple_read_size block count others =
    let poll : List ℕ = codes "loop 1000 { send 13 { clean & state=tran { break } answer { } else { fault read } } } else { fault read }" in
    let stop : List ℕ = codes "send 12 { answer { } else { fault read } }" in
    let recv : List ℕ = codes "recv { ok { } else { fault read } }" in
    let a = line_size poll others in
    let b = line_size stop (line poll others) in
    let c = line_size recv (line stop (line poll others)) in
    let d = line_size (codes "{ clean { } else { fault read } }") (line recv (line stop (line poll others))) in
    let e = counted_size (codes "send 18 at by hc") block count (codes "{ clean { } else { fault read } }") (line recv (line stop (line poll others))) in
    omega (arith, a, b, c, d, e)

single_write_size : (block : ℕ) (others : List ℕ) → 160 + length others ≤ length (single_write_text block others)
single_write_size block others =
    let give : List ℕ = line (codes "give { ok { } else { fault write } }") (settle_text others) in
    let b = settle_size others in
    let c = line_size (codes "give { ok { } else { fault write } }") (settle_text others) in
    let d = line_size (codes "{ clean { } else { fault write } }") give in
    let e = with_size (codes "send 24 at by hc") block (codes "{ clean { } else { fault write } }") give in
    omega (arith, b, c, d, e)

multiple_write_size : (block count : ℕ) (others : List ℕ) → 192 + length others ≤ length (multiple_write_text block count others)
multiple_write_size block count others =
    let stop : List ℕ = line (codes "send 12 { clean { } else { fault write } }") (settle_text others) in
    let give : List ℕ = line (codes "give { ok { } else { fault write } }") stop in
    let a = settle_size others in
    let b = line_size (codes "send 12 { clean { } else { fault write } }") (settle_text others) in
    let c = line_size (codes "give { ok { } else { fault write } }") stop in
    let d = line_size (codes "{ clean { } else { fault write } }") give in
    let e = counted_size (codes "send 25 at by hc") block count (codes "{ clean { } else { fault write } }") give in
    omega (arith, a, b, c, d, e)

requests_size : (rs : List Request) (others : List ℕ) → 11 ≤ length others + 6 →
    16 * statements_count (batch_statements rs) ≤ length (requests_text rs others) + 11
requests_size [] others le = omega arith
requests_size (Read block zero ∷ rs) others le =
    let later = requests_size rs others le in let here = multiple_read_size block zero (requests_text rs others) in omega (arith, later, here)
requests_size (Read block (suc zero) ∷ rs) others le =
    let later = requests_size rs others le in let here = single_read_size block (requests_text rs others) in omega (arith, later, here)
requests_size (Read block (suc (suc n)) ∷ rs) others le =
    let later = requests_size rs others le in let here = multiple_read_size block (suc (suc n)) (requests_text rs others) in omega (arith, later, here)
requests_size (Write block zero ∷ rs) others le =
    let later = requests_size rs others le in let here = multiple_write_size block zero (requests_text rs others) in omega (arith, later, here)
requests_size (Write block (suc zero) ∷ rs) others le =
    let later = requests_size rs others le in let here = single_write_size block (requests_text rs others) in omega (arith, later, here)
requests_size (Write block (suc (suc n)) ∷ rs) others le =
    let later = requests_size rs others le in let here = multiple_write_size block (suc (suc n)) (requests_text rs others) in omega (arith, later, here)

test_size : (least : ℕ) (others : List ℕ) → 32 + length others ≤ length (test_text least others)
test_size least others =
    let a = line_size (codes "{ } else { fault beyond }") others in
    let b = with_size (codes "if cap >=") least (codes "{ } else { fault beyond }") others in
    omega (arith, a, b)

select_size : (others : List ℕ) → 195 + length others ≤ length (select_text others)
select_size others =
    let blen : List ℕ = line (codes "send 16 { clean { } else { fault blen } }") others in
    let select : List ℕ = line (codes "send 7 { clean { } else { fault select } }") blen in
    let csd : List ℕ = line (codes "send 9 { answer { } else { fault csd } }") select in
    let rca : List ℕ = line (codes "send 3 { clean { } else { fault rca } }") csd in
    let a = line_size (codes "send 16 { clean { } else { fault blen } }") others in
    let b = line_size (codes "send 7 { clean { } else { fault select } }") blen in
    let c = line_size (codes "send 9 { answer { } else { fault csd } }") select in
    let d = line_size (codes "send 3 { clean { } else { fault rca } }") csd in
    let e = line_size (codes "send 2 { answer { } else { fault cid } }") rca in
    omega (arith, a, b, c, d, e)

-- the bytes of the lines of a kind alone
abbrev ready_bytes : Kind → ℕ
ready_bytes Sd = 200
ready_bytes Emmc = 130

ready_size : (k : Kind) (others : List ℕ) → ready_bytes k + length others ≤ length (ready_text k others)
ready_size Sd others =
    let app : List ℕ = codes
    "loop 1000 { send 55 { app { send 41 0x40ff8000 { ocr.ready & ocr.block { set hc break } ocr.ready { break } answer { } else { fault lost41 } } } else { fault lost55 } } } else { fault busy }" in
    let a = line_size (codes "send 8 { else { } }") (line app others) in
    let b = line_size app others in
    omega (arith, a, b)
ready_size Emmc others =
    let op_cond : List ℕ = codes
    "loop 1000 { send 1 { ocr.ready & ocr.block { set hc break } ocr.ready { break } answer { } else { fault lost1 } } } else { fault busy }" in
    let a = line_size op_cond others in
    omega (arith, a)

abbrev capacity_bytes : Kind → ℕ
capacity_bytes Sd = 20
capacity_bytes Emmc = 130

capacity_size : (k : Kind) (others : List ℕ) → capacity_bytes k + length others ≤ length (line (capacity_text k) others)
capacity_size Sd others = let a = line_size (capacity_text Sd) others in omega (arith, a)
capacity_size Emmc others = let a = line_size (capacity_text Emmc) others in omega (arith, a)

bring_up_size : (k : Kind) (others : List ℕ) → 195 + (ready_bytes k + (capacity_bytes k + length others)) ≤ length (bring_up_text k others)
bring_up_size k others =
    let told : List ℕ = line (capacity_text k) others in
    let idle : List ℕ = line (codes "send 0 { else { } }") (ready_text k (select_text told)) in
    let a = capacity_size k others in
    let b = select_size told in
    let c = ready_size k (select_text told) in
    let d = line_size (codes "send 0 { else { } }") (ready_text k (select_text told)) in
    let e = line_size (codes "nums cap") idle in
    let f = line_size (codes "flags hc") (line (codes "nums cap") idle) in
    let g = line_size (card_text k) (line (codes "flags hc") (line (codes "nums cap") idle)) in
    omega (arith, a, b, c, d, e, f, g)

abbrev done_line : List ℕ
done_line = line (codes "done") []

few_of : (k : Kind) (least : ℕ) (rs : List Request) → 16 * statements_count (batch_body k least rs) ≤ length (batch_text k least rs)
few_of Sd least rs =
    let a = requests_size rs done_line (omega arith) in
    let b = test_size least (requests_text rs done_line) in
    let c = bring_up_size Sd (test_text least (requests_text rs done_line)) in
    omega (arith, a, b, c)
few_of Emmc least rs =
    let a = requests_size rs done_line (omega arith) in
    let b = test_size least (requests_text rs done_line) in
    let c = bring_up_size Emmc (test_text least (requests_text rs done_line)) in
    omega (arith, a, b, c)

pub few_statements : (k : Kind) (rs : List Request) → length (batch_script k rs).text ≤ max_bytes → statements_count (batch_script k rs).body ≤ max_statements
few_statements k rs short = let few = few_of k (greatest_end rs) rs in omega (arith, few, short)

-- REQUESTS IN RANGE end within 2^32

blocks_end : (first count : ℕ) → blocks_fit first count ≡ true → first + count ≤ 2 ^ 32
blocks_end first count fit = leb-true (first + count) (2 ^ 32) (and_right _ _ (and_right _ _ fit))

pub end_small : (r : Request) → is_in_range r ≡ true → end_of r ≤ 2 ^ 32
end_small (Read first count) fit = blocks_end first count fit
end_small (Write first count) fit = blocks_end first count fit

both_small : (m n : ℕ) → m ≤ 2 ^ 32 → n ≤ 2 ^ 32 → max m n ≤ 2 ^ 32
both_small m n p q = omega arith

pub ends_small : (rs : List Request) → list_all is_in_range rs ≡ true → greatest_end rs ≤ 2 ^ 32
ends_small [] fit = omega arith
ends_small (r ∷ rs) fit =
    both_small (end_of r) (greatest_end rs) (end_small r (and_left _ _ fit)) (ends_small rs (and_right _ _ fit))

-- WHAT IS ANSWERED

abbrev pub text_of : Kind → List Request → List ℕ
text_of k rs = (batch_script k rs).text

pub script_of : (k : Kind) (rs : List Request) → list_all is_in_range rs ≡ true → length (text_of k rs) ≤ max_bytes → IsScript (batch_script k rs)
script_of k rs fit short = let small = ends_small rs fit in is_script k rs fit (omega (arith, small)) (few_statements k rs short) short

limits_kept : (k : Kind) (rs : List Request) → length (text_of k rs) ≤ max_bytes → keeps_limits (batch_script k rs) ≡ true
limits_kept k rs short =
    both_true _ _ (le-leb (length (text_of k rs)) max_bytes short)
    (le-leb (statements_count (batch_script k rs).body) max_statements (few_statements k rs short))

not_both : (a b : Bool) → a ≡ false → (a && b) ≡ false
not_both false b e = refl
not_both true b e = absurd (let f : true ≡ false = e in cc)

not_le : (m n : ℕ) → n < m → nat_le m n ≡ false
not_le m n lt = lt-leb m n lt

limits_broken : (k : Kind) (rs : List Request) → max_bytes < length (text_of k rs) → keeps_limits (batch_script k rs) ≡ false
limits_broken k rs long = not_both _ _ (not_le (length (text_of k rs)) max_bytes long)

pub not_refused : (k : Kind) (r : Request) (rs : List Request) → list_all is_in_range (r ∷ rs) ≡ true → length (text_of k (r ∷ rs)) ≤ max_bytes →
    batch_refusal k (r ∷ rs) ≡ None
not_refused k r rs fit short = two_true (list_all is_in_range (r ∷ rs)) (keeps_limits (batch_script k (r ∷ rs))) fit (limits_kept k (r ∷ rs) short)
  where
    two_true : (range limits : Bool) → range ≡ true → limits ≡ true → (if range then (if limits then None else Some Limit) else Some Range) ≡ None
    two_true true true e f = refl
    two_true true false e f = absurd (let g : false ≡ true = f in cc)
    two_true false limits e f = absurd (let g : false ≡ true = e in cc)

pub refused_by_range : (k : Kind) (r : Request) (rs : List Request) → list_all is_in_range (r ∷ rs) ≡ false → batch_refusal k (r ∷ rs) ≡ Some Range
refused_by_range k r rs off = by (list_all is_in_range (r ∷ rs)) off
  where
    by : (range : Bool) → range ≡ false → (if range then (if keeps_limits (batch_script k (r ∷ rs)) then None else Some Limit) else Some Range) ≡ Some Range
    by false e = refl
    by true e = absurd (let g : true ≡ false = e in cc)

pub refused_by_limit : (k : Kind) (r : Request) (rs : List Request) → list_all is_in_range (r ∷ rs) ≡ true → max_bytes < length (text_of k (r ∷ rs)) →
    batch_refusal k (r ∷ rs) ≡ Some Limit
refused_by_limit k r rs fit long = by (list_all is_in_range (r ∷ rs)) (keeps_limits (batch_script k (r ∷ rs))) fit (limits_broken k (r ∷ rs) long)
  where
    by : (range limits : Bool) → range ≡ true → limits ≡ false → (if range then (if limits then None else Some Limit) else Some Range) ≡ Some Limit
    by true false e f = refl
    by true true e f = absurd (let g : true ≡ false = f in cc)
    by false limits e f = absurd (let g : false ≡ true = e in cc)

-- a text above the limit is no script
pub no_script : (k : Kind) (rs : List Request) → keeps_limits (batch_script k rs) ≡ false → (s : Parsed) → s.text ≡ text_of k rs → IsScript s → ⊥
no_script k rs broken s same is =
    let short : length (text_of k rs) ≤ max_bytes = subst (λ (t : List ℕ). length t ≤ max_bytes) same is.small in
    let f : true ≡ false = sym (limits_kept k rs short) ∙ broken in cc

-- THE LAWS

by_refusal : (range limits : Bool) → (if range then (if limits then None else Some Limit) else Some Range) ≡ None → (range ≡ true) × (limits ≡ true)
by_refusal true true e = (refl, refl)
by_refusal true false e = absurd (cc)
by_refusal false limits e = absurd (cc)

by_limit : (range limits : Bool) → (if range then (if limits then None else Some Limit) else Some Range) ≡ Some Limit → limits ≡ false
by_limit true true e = absurd (cc)
by_limit true false e = refl
by_limit false limits e = absurd (cc)

pub scripts_of : (k : Kind) (rs : List Request) → batch_refusal k rs ≡ None → IsScript (batch_script k rs)
scripts_of k [] e = absurd (cc)
scripts_of k (r ∷ rs) e =
    let both = by_refusal (list_all is_in_range (r ∷ rs)) (keeps_limits (batch_script k (r ∷ rs))) e in
    script_of k (r ∷ rs) both.0 (leb-true (length (text_of k (r ∷ rs))) max_bytes (and_left _ _ both.1))

pub no_scripts : (k : Kind) (rs : List Request) → batch_refusal k rs ≡ Some Limit → (s : Parsed) → s.text ≡ text_of k rs → IsScript s → ⊥
no_scripts k [] e s same is = absurd (cc)
no_scripts k (r ∷ rs) e s same is = no_script k (r ∷ rs) (by_limit (list_all is_in_range (r ∷ rs)) (keeps_limits (batch_script k (r ∷ rs))) e) s same is

-- REQUESTS of a list, one after another

pub in_range_at : (rs : List Request) (i : ℕ) (d : Request) → i < length rs → list_all is_in_range rs ≡ true → is_in_range (get_or rs i d) ≡ true
in_range_at [] i d lt fit = absurd (omega arith)
in_range_at (x ∷ rs) zero d lt fit = and_left _ _ fit
in_range_at (x ∷ rs) (suc i) d lt fit = in_range_at rs i d (omega arith) (and_right _ _ fit)

pub drop_here : (rs : List Request) (i : ℕ) (d : Request) → i < length rs → drop i rs ≡ get_or rs i d ∷ drop (i + 1) rs
drop_here rs i d lt = let e : i + 1 ≡ suc i = omega arith in rw e (drop-cons rs i d lt)

-- the greatest end so far, and that of the others
pub greatest_more : (rs : List Request) (i : ℕ) (d : Request) (g e n : ℕ) → n ≡ max g e → e ≡ end_of (get_or rs i d) → i < length rs →
    max g (greatest_end (drop i rs)) ≡ greatest_end rs → max n (greatest_end (drop (i + 1) rs)) ≡ greatest_end rs
greatest_more rs i d g e n is end lt so_far =
    let f : greatest_end (drop i rs) ≡ max (end_of (get_or rs i d)) (greatest_end (drop (i + 1) rs)) = ap greatest_end (drop_here rs i d lt) in
    omega (arith, is, end, f, so_far)

pub greatest_last : (rs : List Request) (i g : ℕ) → length rs ≤ i → max g (greatest_end (drop i rs)) ≡ greatest_end rs → g ≡ greatest_end rs
greatest_last rs i g le so_far =
    let f : greatest_end (drop i rs) ≡ 0 = ap greatest_end (drop_all i rs le) in
    omega (arith, f, so_far)

-- BY ITS RESULT

pub script_if : {A : Type 0} (r : Result A BlockFault) (k : Kind) (rs : List Request) → list_all is_in_range rs ≡ true →
    OnOk r (length (text_of k rs) ≤ max_bytes) → IfOk r (λ text. IsScript (batch_script k rs))
script_if (Ok text) k rs fit short = script_of k rs fit short
script_if (Err fault) k rs fit short = tt

pub served_if : {A : Type 0} (r : Result A BlockFault) (k : Kind) (rs : List Request) → (length rs == 0) ≡ false → list_all is_in_range rs ≡ true →
    OnOk r (length (text_of k rs) ≤ max_bytes) →
    IfOk r (λ text. batch_refusal k rs ≡ None)
served_if (Err fault) k rs some fit short = tt
served_if (Ok text) k [] some fit short = absurd (let f : true ≡ false = some in cc)
served_if (Ok text) k (r ∷ rs) some fit short = not_refused k r rs fit short

pub refused_if : {A : Type 0} (r : Result A BlockFault) (k : Kind) (rs : List Request) → (length rs == 0) ≡ false → list_all is_in_range rs ≡ true →
    IfErr r (λ fault. (fault ≡ Memory → ⊥) → (fault ≡ Limit) × (max_bytes < length (text_of k rs))) →
    IfErr r (λ fault. (fault ≡ Memory → ⊥) → batch_refusal k rs ≡ Some fault)
refused_if (Ok text) k rs some fit long = tt
refused_if (Err fault) k [] some fit long = absurd (let f : true ≡ false = some in cc)
refused_if (Err fault) k (r ∷ rs) some fit long = λ other.
    let x = long other in
    subst (λ f. batch_refusal k (r ∷ rs) ≡ Some f) (sym x.0) (refused_by_limit k r rs fit x.1)
