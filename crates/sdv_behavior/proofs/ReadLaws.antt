-- What is read of a text is what it says by its grammar, and what it says is read.
use Rattle.std.proofs.Common.{◌≡◌, ℕ, ◌≤◌, inl, inr, true, false, ◌&&◌, ◌||◌, ◌==◌, nat_le, List, [], ◌∷◌, ◌++◌, Option, Some, None, refl, sym, ap, subst, ◌∙◌, arith, lit≤}
use Rattle.std.specs.Prelude.{codes}
use Rattle.std.proofs.lemmas.Bool.{and_parts, le-leb, leb-true, eqb-true}
use Rattle.std.proofs.lemmas.Bool.Decides.{nat_tests}
use Rattle.sdv_text.proofs.FrontLaws.{bind_some, some_is, tested, both}
use Rattle.sdv_text.specs.Fronts.{◌>>=◌, is_end}
use Rattle.sdv_behavior.specs.declared.description.Size.{Size}
use Rattle.sdv_behavior.specs.declared.description.Description.{Description}
use Rattle.sdv_behavior.specs.declared.description.Description.TheVariants.{SdBytes, SdBlocks, EmmcBytes, EmmcBlocks}
use Rattle.sdv_behavior.specs.Grammar.{Line, Number, Optional, NumberLine, HasLines, size_lines, lines_of, size_fits, rca_fits, boot_fits, IsTextOf}
use Rattle.sdv_behavior.specs.Reading.{or_else, read_line, read_number, read_size, read_rca, read_sd_bytes, read_sd_blocks, read_sd, read_boot, read_emmc_bytes, read_emmc_blocks, read_emmc, read_description}
use Rattle.sdv_behavior.proofs.Lines.{ends, line_takes, line_again}
use Rattle.sdv_behavior.proofs.Numbers.{number_takes, number_small, number_again}

-- SIZES

pub size_takes : (bs rest : List ℕ) (size : Size) (lines : List Line) → read_size bs ≡ Some (size, rest) → HasLines lines rest →
    (size_fits size ≡ true) × HasLines (size_lines size lines) bs
unfolding read_size
size_takes bs rest size lines e more =
    let p = bind_some (read_number (codes "csize ") bs) _ (size, rest) e in
    let q = bind_some (read_number (codes "cmult ") p.0.1) _ (size, rest) p.2 in
    let r = bind_some (read_number (codes "rbl ") q.0.1) _ (size, rest) q.2 in
    let read : Size = record { c_size = p.0.0; c_size_mult = q.0.0; read_bl_len = r.0.0 } in
    let t = tested (nat_le p.0.0 4095 && nat_le q.0.0 7 && nat_le 9 r.0.0 && nat_le r.0.0 11)
    (Some (record { c_size = p.0.0; c_size_mult = q.0.0; read_bl_len = r.0.0 }, r.0.1)) (size, rest) r.2 in
    let same : ◌≡◌ {A = Size × List ℕ} (record { c_size = p.0.0; c_size_mult = q.0.0; read_bl_len = r.0.0 }, r.0.1) (size, rest) = some_is _ _ t.1 in
    let left : r.0.1 ≡ rest = ap (λ (x : Size × List ℕ). x.1) same in
    subst (λ (s : Size). (size_fits s ≡ true) × HasLines (size_lines s lines) bs) (ap (λ (x : Size × List ℕ). x.0) same) (
      t.0,
      (
        p.0.1,
        number_takes (codes "csize") bs p.0 p.1,
        (
          q.0.1,
          number_takes (codes "cmult") p.0.1 q.0 q.1,
          (r.0.1, number_takes (codes "rbl") q.0.1 r.0 r.1, subst (λ (l : List ℕ). HasLines lines l) (sym left) more),
        ),
      ),
    )

-- what stands behind the lines of a size
pub record SizeRead (size : Size) (lines : List Line) (bs : List ℕ) : Type 0 where
  pub rest : List ℕ
  pub read : read_size bs ≡ Some (size, rest)
  pub more : HasLines lines rest

pub size_again : (bs : List ℕ) (size : Size) (lines : List Line) → size_fits size ≡ true → HasLines (size_lines size lines) bs → SizeRead size lines bs
unfolding read_size
size_again bs size lines fits (a, first, (b, second, (c, third, more))) =
    let p = and_parts (nat_le size.c_size 4095 && nat_le size.c_size_mult 7 && nat_le 9 size.read_bl_len) (nat_le size.read_bl_len 11) fits in
    let q = and_parts (nat_le size.c_size 4095 && nat_le size.c_size_mult 7) (nat_le 9 size.read_bl_len) p.0 in
    let r = and_parts (nat_le size.c_size 4095) (nat_le size.c_size_mult 7) q.0 in
    let h0 : size.c_size ≤ 4095 = leb-true _ _ r.0 in
    let h1 : size.c_size_mult ≤ 7 = leb-true _ _ r.1 in
    let h2 : size.read_bl_len ≤ 11 = leb-true _ _ p.1 in
    let e0 : read_number (codes "csize ") bs ≡ Some (size.c_size, a) = number_again (codes "csize") bs a size.c_size (omega arith) first in
    let e1 : read_number (codes "cmult ") a ≡ Some (size.c_size_mult, b) = number_again (codes "cmult") a b size.c_size_mult (omega arith) second in
    let e2 : read_number (codes "rbl ") b ≡ Some (size.read_bl_len, c) = number_again (codes "rbl") b c size.read_bl_len (omega arith) third in
    record { rest = c; read = rw (e0, e1, e2, fits) refl; more = more }

-- RELATIVE ADDRESSES

pub rca_takes : (bs : List ℕ) (rca : ℕ) → read_rca bs ≡ Some rca → (rca_fits rca ≡ true) × HasLines (Number (codes "rca") rca ∷ []) bs
unfolding read_rca
rca_takes bs rca e =
    let p = bind_some (read_number (codes "rca ") bs) _ rca e in
    let t = tested (nat_le 1 p.0.0 && nat_le p.0.0 65535 && is_end p.0.1) (Some p.0.0) rca p.2 in
    let parts = and_parts (nat_le 1 p.0.0 && nat_le p.0.0 65535) (is_end p.0.1) t.0 in
    subst (λ (n : ℕ). (rca_fits n ≡ true) × HasLines (Number (codes "rca") n ∷ []) bs) (some_is p.0.0 rca t.1)
    (parts.0, (p.0.1, number_takes (codes "rca") bs p.0 p.1, ends p.0.1 parts.1))

pub rca_again : (bs : List ℕ) (rca : ℕ) → rca_fits rca ≡ true → HasLines (Number (codes "rca") rca ∷ []) bs → read_rca bs ≡ Some rca
unfolding read_rca
rca_again bs rca fits (rest, line, end) =
    let p = and_parts (nat_le 1 rca) (nat_le rca 65535) fits in
    let h : rca ≤ 65535 = leb-true _ _ p.1 in
    let line_end : NumberLine (codes "rca") rca bs [] = subst (λ (l : List ℕ). NumberLine (codes "rca") rca bs l) (sym end) line in
    let e : read_number (codes "rca ") bs ≡ Some (rca, []) = number_again (codes "rca") bs [] rca (omega arith) line_end in
    rw (e, fits) refl

-- SD CARDS

sd_bytes_takes : (version : ℕ) (all bs : List ℕ) (read : Description) → NumberLine (codes "version") version all (codes "unit byte" ++ 10 ∷ bs) →
    read_sd_bytes version bs ≡ Some read →
    (text : List ℕ) → codes "card sd" ++ 10 ∷ all ≡ text → IsTextOf read text
unfolding read_sd_bytes
sd_bytes_takes version all bs read line e text whole =
    let p = bind_some (read_size bs) _ read e in
    let q = bind_some (read_rca p.0.1) _ read p.2 in
    let t = tested ((version == 1) || (version == 2)) (Some (SdBytes version p.0.0 q.0)) read q.2 in
    let rca = rca_takes p.0.1 q.0 q.1 in
    let size = size_takes bs p.0.1 p.0.0 (Number (codes "rca") q.0 ∷ []) p.1 rca.1 in
    subst (λ (d : Description). IsTextOf d text) (some_is (SdBytes version p.0.0 q.0) read t.1)
    (record {
      lines = (all, whole, (codes "unit byte" ++ 10 ∷ bs, line, (bs, refl, size.1)));
      ranges = both (((version == 1) || (version == 2)) && size_fits p.0.0) (rca_fits q.0)
          (both ((version == 1) || (version == 2)) (size_fits p.0.0) t.0 size.0) rca.0;
    })

sd_blocks_takes : (version : ℕ) (all bs : List ℕ) (read : Description) → NumberLine (codes "version") version all (codes "unit block" ++ 10 ∷ bs) →
    read_sd_blocks version bs ≡ Some read →
    (text : List ℕ) → codes "card sd" ++ 10 ∷ all ≡ text → IsTextOf read text
unfolding read_sd_blocks
sd_blocks_takes version all bs read line e text whole =
    let p = bind_some (read_number (codes "csize ") bs) _ read e in
    let q = bind_some (read_rca p.0.1) _ read p.2 in
    let t = tested ((version == 2) && nat_le p.0.0 4194303) (Some (SdBlocks p.0.0 q.0)) read q.2 in
    let rca = rca_takes p.0.1 q.0 q.1 in
    let parts = and_parts (version == 2) (nat_le p.0.0 4194303) t.0 in
    let line_2 : NumberLine (codes "version") 2 all (codes "unit block" ++ 10 ∷ bs) =
    subst (λ (n : ℕ). NumberLine (codes "version") n all (codes "unit block" ++ 10 ∷ bs)) (eqb-true version 2 parts.0) line in
    subst (λ (d : Description). IsTextOf d text) (some_is (SdBlocks p.0.0 q.0) read t.1)
    (record {
      lines = (all, whole, (codes "unit block" ++ 10 ∷ bs, line_2, (bs, refl, (p.0.1, number_takes (codes "csize") bs p.0 p.1, rca.1))));
      ranges = both (nat_le p.0.0 4194303) (rca_fits q.0) parts.1 rca.0;
    })

sd_takes : (bs text : List ℕ) (read : Description) → codes "card sd" ++ 10 ∷ bs ≡ text → read_sd bs ≡ Some read → IsTextOf read text
unfolding read_sd
sd_takes bs text read whole e =
    let p = bind_some (read_number (codes "version ") bs) _ read e in
    go (read_line (codes "unit byte") p.0.1) p.0.0 p.0.1 (number_takes (codes "version") bs p.0 p.1) refl p.2
  where
    in_blocks : (version : ℕ) (rest : List ℕ) → NumberLine (codes "version") version bs rest →
        (read_line (codes "unit block") rest >>= read_sd_blocks version) ≡ Some read → IsTextOf read text
    in_blocks version rest line e =
        let q = bind_some (read_line (codes "unit block") rest) (read_sd_blocks version) read e in
        sd_blocks_takes version bs q.0 read
        (subst (λ (l : List ℕ). NumberLine (codes "version") version bs l) (sym (line_takes (codes "unit block") rest q.0 q.1)) line) q.2 text whole

    go : (unit : Option (List ℕ)) (version : ℕ) (rest : List ℕ) → NumberLine (codes "version") version bs rest → read_line (codes "unit byte") rest ≡ unit →
        or_else unit (read_sd_bytes version) (read_line (codes "unit block") rest >>= read_sd_blocks version) ≡ Some read → IsTextOf read text
    go None version rest line u e = in_blocks version rest line e
    go (Some behind) version rest line u e =
        sd_bytes_takes version bs behind read
        (subst (λ (l : List ℕ). NumberLine (codes "version") version bs l) (sym (line_takes (codes "unit byte") rest behind u)) line) e text whole

-- BOOT PARTITIONS: their line may be absent

pub boot_takes : (bs : List ℕ) (boot : ℕ) → read_boot bs ≡ Some boot → (boot_fits boot ≡ true) × HasLines (Optional (codes "boot") boot ∷ []) bs
unfolding read_boot
boot_takes [] boot e = subst (λ (n : ℕ). (boot_fits n ≡ true) × HasLines (Optional (codes "boot") n ∷ []) []) (some_is 0 boot e) (refl, inr (refl, refl))
boot_takes (b ∷ bs) boot e =
    let p = bind_some (read_number (codes "boot ") (b ∷ bs)) _ boot e in
    let t = tested (nat_le p.0.0 255 && is_end p.0.1) (Some p.0.0) boot p.2 in
    let parts = and_parts (nat_le p.0.0 255) (is_end p.0.1) t.0 in
    subst (λ (n : ℕ). (boot_fits n ≡ true) × HasLines (Optional (codes "boot") n ∷ []) (b ∷ bs)) (some_is p.0.0 boot t.1)
    (parts.0, inl (p.0.1, number_takes (codes "boot") (b ∷ bs) p.0 p.1, ends p.0.1 parts.1))

pub boot_again : (bs : List ℕ) (boot : ℕ) → boot_fits boot ≡ true → HasLines (Optional (codes "boot") boot ∷ []) bs → read_boot bs ≡ Some boot
unfolding read_boot
boot_again bs boot fits (inl (rest, line, end)) =
    let h : boot ≤ 255 = leb-true _ _ fits in
    let line_end : NumberLine (codes "boot") boot bs [] = subst (λ (l : List ℕ). NumberLine (codes "boot") boot bs l) (sym end) line in
    let some : is_end bs ≡ false = sym (ap is_end line.same) in
    let e : read_number (codes "boot ") bs ≡ Some (boot, []) = number_again (codes "boot") bs [] boot (omega arith) line_end in
    rw (some, e, fits) refl
boot_again bs boot fits (inr (none, end)) = rw (sym end, none) refl

-- E.MMC DEVICES

emmc_bytes_takes : (bs all text : List ℕ) (read : Description) → codes "card emmc" ++ 10 ∷ all ≡ text → codes "unit byte" ++ 10 ∷ bs ≡ all →
    read_emmc_bytes bs ≡ Some read → IsTextOf read text
unfolding read_emmc_bytes
emmc_bytes_takes bs all text read whole unit e =
    let p = bind_some (read_size bs) _ read e in
    let q = bind_some (read_boot p.0.1) _ read p.2 in
    let boot = boot_takes p.0.1 q.0 q.1 in
    let size = size_takes bs p.0.1 p.0.0 (Optional (codes "boot") q.0 ∷ []) p.1 boot.1 in
    subst (λ (d : Description). IsTextOf d text) (some_is (EmmcBytes p.0.0 q.0) read q.2)
    (record { lines = (all, whole, (bs, unit, size.1)); ranges = both (size_fits p.0.0) (boot_fits q.0) size.0 boot.0 })

emmc_blocks_takes : (bs all text : List ℕ) (read : Description) → codes "card emmc" ++ 10 ∷ all ≡ text → codes "unit block" ++ 10 ∷ bs ≡ all →
    read_emmc_blocks bs ≡ Some read → IsTextOf read text
unfolding read_emmc_blocks
emmc_blocks_takes bs all text read whole unit e =
    let p = bind_some (read_number (codes "sectors ") bs) _ read e in
    let q = bind_some (read_boot p.0.1) _ read p.2 in
    let t = tested (nat_le 1 p.0.0) (Some (EmmcBlocks p.0.0 q.0)) read q.2 in
    let boot = boot_takes p.0.1 q.0 q.1 in
    let small : p.0.0 ≤ 4294967295 = number_small (codes "sectors ") bs p.0 p.1 in
    subst (λ (d : Description). IsTextOf d text) (some_is (EmmcBlocks p.0.0 q.0) read t.1)
    (record {
      lines = (all, whole, (bs, unit, (p.0.1, number_takes (codes "sectors") bs p.0 p.1, boot.1)));
      ranges = both (nat_le 1 p.0.0 && nat_le p.0.0 4294967295) (boot_fits q.0)
          (both (nat_le 1 p.0.0) (nat_le p.0.0 4294967295) t.0 (le-leb p.0.0 4294967295 small)) boot.0;
    })

emmc_takes : (bs text : List ℕ) (read : Description) → codes "card emmc" ++ 10 ∷ bs ≡ text → read_emmc bs ≡ Some read → IsTextOf read text
unfolding read_emmc
emmc_takes bs text read whole e = go (read_line (codes "unit byte") bs) refl e
  where
    go : (unit : Option (List ℕ)) → read_line (codes "unit byte") bs ≡ unit →
        or_else unit read_emmc_bytes (read_line (codes "unit block") bs >>= read_emmc_blocks) ≡ Some read → IsTextOf read text
    go None u e =
        let q = bind_some (read_line (codes "unit block") bs) read_emmc_blocks read e in
        emmc_blocks_takes q.0 bs text read whole (line_takes (codes "unit block") bs q.0 q.1) q.2
    go (Some behind) u e = emmc_bytes_takes behind bs text read whole (line_takes (codes "unit byte") bs behind u) e

-- DESCRIPTIONS

pub read_is_said : (text : List ℕ) (read : Description) → read_description text ≡ Some read → IsTextOf read text
unfolding read_description
read_is_said text read e = go (read_line (codes "card sd") text) refl e
  where
    go : (card : Option (List ℕ)) → read_line (codes "card sd") text ≡ card →
        or_else card read_sd (read_line (codes "card emmc") text >>= read_emmc) ≡ Some read → IsTextOf read text
    go None u e =
        let q = bind_some (read_line (codes "card emmc") text) read_emmc read e in
        emmc_takes q.0 text read (line_takes (codes "card emmc") text q.0 q.1) q.2
    go (Some behind) u e = sd_takes behind text read (line_takes (codes "card sd") text behind u) e

-- what a text says is read

version_small : (version : ℕ) → ((version == 1) || (version == 2)) ≡ true → version ≤ 4294967295
version_small version e = grind (arith, nat_tests)

sd_bytes_again : (version rca : ℕ) (size : Size) (bs : List ℕ) → ((version == 1) || (version == 2)) ≡ true → size_fits size ≡ true → rca_fits rca ≡ true →
    HasLines (size_lines size (Number (codes "rca") rca ∷ [])) bs → read_sd_bytes version bs ≡ Some (SdBytes version size rca)
unfolding read_sd_bytes
sd_bytes_again version rca size bs known fits rca_ok has =
    let s = size_again bs size (Number (codes "rca") rca ∷ []) fits has in
    let sized : read_size bs ≡ Some (size, s.rest) = s.read in
    let r : read_rca s.rest ≡ Some rca = rca_again s.rest rca rca_ok s.more in
    rw (sized, r, known) refl

sd_blocks_again : (c_size rca : ℕ) (bs rest : List ℕ) → nat_le c_size 4194303 ≡ true → rca_fits rca ≡ true → NumberLine (codes "csize") c_size bs rest →
    HasLines (Number (codes "rca") rca ∷ []) rest → read_sd_blocks 2 bs ≡ Some (SdBlocks c_size rca)
unfolding read_sd_blocks
sd_blocks_again c_size rca bs rest fits rca_ok line has =
    let small : c_size ≤ 4194303 = leb-true _ _ fits in
    let n : read_number (codes "csize ") bs ≡ Some (c_size, rest) = number_again (codes "csize") bs rest c_size (omega arith) line in
    let r : read_rca rest ≡ Some rca = rca_again rest rca rca_ok has in
    rw (n, r, fits) refl

-- a line that is another one
not_line : (words others bs rest : List ℕ) → read_line words (others ++ 10 ∷ rest) ≡ None → others ++ 10 ∷ rest ≡ bs → read_line words bs ≡ None
not_line words others bs rest none e = ap (λ (l : List ℕ). read_line words l) (sym e) ∙ none

pub said_is_read : (text : List ℕ) (read : Description) → IsTextOf read text → read_description text ≡ Some read
unfolding read_description read_sd read_emmc read_emmc_bytes read_emmc_blocks
said_is_read text (SdBytes version size rca) said = go said.lines
  where
    go : HasLines (lines_of (SdBytes version size rca)) text → read_description text ≡ Some (SdBytes version size rca)
    go (a, card, (b, line, (c, unit, more))) =
        let p = and_parts (((version == 1) || (version == 2)) && size_fits size) (rca_fits rca) said.ranges in
        let q = and_parts ((version == 1) || (version == 2)) (size_fits size) p.0 in
        let e0 : read_line (codes "card sd") text ≡ Some a = line_again (codes "card sd") text a card in
        let e1 : read_number (codes "version ") a ≡ Some (version, b) = number_again (codes "version") a b version (version_small version q.0) line in
        let e2 : read_line (codes "unit byte") b ≡ Some c = line_again (codes "unit byte") b c unit in
        let e3 : read_sd_bytes version c ≡ Some (SdBytes version size rca) = sd_bytes_again version rca size c q.0 q.1 p.1 more in
        rw (e0, e1, e2, e3) refl
said_is_read text (SdBlocks c_size rca) said = go said.lines
  where
    go : HasLines (lines_of (SdBlocks c_size rca)) text → read_description text ≡ Some (SdBlocks c_size rca)
    go (a, card, (b, line, (c, unit, (d, size, more)))) =
        let p = and_parts (nat_le c_size 4194303) (rca_fits rca) said.ranges in
        let e0 : read_line (codes "card sd") text ≡ Some a = line_again (codes "card sd") text a card in
        let e1 : read_number (codes "version ") a ≡ Some (2, b) = number_again (codes "version") a b 2 (lit≤ tt) line in
        let e2 : read_line (codes "unit byte") b ≡ None = not_line (codes "unit byte") (codes "unit block") b c refl unit in
        let e3 : read_line (codes "unit block") b ≡ Some c = line_again (codes "unit block") b c unit in
        let e4 : read_sd_blocks 2 c ≡ Some (SdBlocks c_size rca) = sd_blocks_again c_size rca c d p.0 p.1 size more in
        rw (e0, e1, e2, e3, e4) refl
said_is_read text (EmmcBytes size boot) said = go said.lines
  where
    go : HasLines (lines_of (EmmcBytes size boot)) text → read_description text ≡ Some (EmmcBytes size boot)
    go (a, card, (b, unit, more)) =
        let p = and_parts (size_fits size) (boot_fits boot) said.ranges in
        let s = size_again b size (Optional (codes "boot") boot ∷ []) p.0 more in
        let e0 : read_line (codes "card sd") text ≡ None = not_line (codes "card sd") (codes "card emmc") text a refl card in
        let e1 : read_line (codes "card emmc") text ≡ Some a = line_again (codes "card emmc") text a card in
        let e2 : read_line (codes "unit byte") a ≡ Some b = line_again (codes "unit byte") a b unit in
        let e3 : read_size b ≡ Some (size, s.rest) = s.read in
        let e4 : read_boot s.rest ≡ Some boot = boot_again s.rest boot p.1 s.more in
        rw (e0, e1, e2, e3, e4) refl
said_is_read text (EmmcBlocks sectors boot) said = go said.lines
  where
    go : HasLines (lines_of (EmmcBlocks sectors boot)) text → read_description text ≡ Some (EmmcBlocks sectors boot)
    go (a, card, (b, unit, (c, line, more))) =
        let q = and_parts (nat_le 1 sectors && nat_le sectors 4294967295) (boot_fits boot) said.ranges in
        let p = and_parts (nat_le 1 sectors) (nat_le sectors 4294967295) q.0 in
        let e0 : read_line (codes "card sd") text ≡ None = not_line (codes "card sd") (codes "card emmc") text a refl card in
        let e1 : read_line (codes "card emmc") text ≡ Some a = line_again (codes "card emmc") text a card in
        let e2 : read_line (codes "unit byte") a ≡ None = not_line (codes "unit byte") (codes "unit block") a b refl unit in
        let e3 : read_line (codes "unit block") a ≡ Some b = line_again (codes "unit block") a b unit in
        let e4 : read_number (codes "sectors ") b ≡ Some (sectors, c) = number_again (codes "sectors") b c sectors (leb-true _ _ p.1) line in
        let e5 : read_boot c ≡ Some boot = boot_again c boot q.1 more in
        rw (e0, e1, e2, e3, e4, e5, p.0) refl
