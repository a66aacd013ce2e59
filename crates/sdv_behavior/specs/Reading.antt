-- Reading the text of a description from left to right: what its front says, and what follows; none where it is no such
-- front. The laws of reading say that what is read is what the text says by its grammar.
use Rattle.std.specs.Prelude.{ℕ, List, [], ◌∷◌, length, take, drop, ◌&&◌, ◌||◌, ◌==◌, nat_lt, nat_le, codes, Option, Some, None, if◌then◌else◌}
use Rattle.sdv_text.specs.Fronts.{◌>>=◌, Read, after, is_end, is_digit, run, number_after}
use Rattle.sdv_behavior.specs.declared.description.Size.{Size}
use Rattle.sdv_behavior.specs.declared.description.Description.{Description}
use Rattle.sdv_behavior.specs.declared.description.Description.TheVariants.{SdBytes, SdBlocks, EmmcBytes, EmmcBlocks}

-- what follows a line
abbrev pub read_line : List ℕ → List ℕ → Option (List ℕ)
read_line words text = after words text >>= after (10 ∷ [])

abbrev pub ended : ℕ → List ℕ → Read ℕ
ended n bs = after (10 ∷ []) bs >>= λ rest. Some (n, rest)

abbrev pub figure : (digits rest : List ℕ) → Read ℕ
figure digits rest =
    if nat_lt 0 (length digits) && nat_le (number_after 0 digits) 4294967295
    then ended (number_after 0 digits) rest else None

unfoldable pub read_figure : List ℕ → Read ℕ
read_figure bs = figure (take (run is_digit bs) bs) (drop (run is_digit bs) bs)

-- the word has its space
unfoldable pub read_number : List ℕ → List ℕ → Read ℕ
read_number word bs = after word bs >>= read_figure

abbrev pub size_if : (c_size mult len : ℕ) → List ℕ → Read Size
size_if c_size mult len rest =
    if nat_le c_size 4095 && nat_le mult 7 && nat_le 9 len && nat_le len 11
    then Some (record { c_size = c_size; c_size_mult = mult; read_bl_len = len }, rest)
    else None

unfoldable pub read_size : List ℕ → Read Size
read_size bs =
    read_number (codes "csize ") bs >>= λ a.
    read_number (codes "cmult ") a.1 >>= λ b.
    read_number (codes "rbl ") b.1 >>= λ c.
    size_if a.0 b.0 c.0 c.1

abbrev pub rca_if : ℕ → List ℕ → Option ℕ
rca_if rca rest = if nat_le 1 rca && nat_le rca 65535 && is_end rest then Some rca else None

unfoldable pub read_rca : List ℕ → Option ℕ
read_rca bs = read_number (codes "rca ") bs >>= λ a. rca_if a.0 a.1

abbrev pub sd_bytes_if : (version : ℕ) → Size → (rca : ℕ) → Option Description
sd_bytes_if version size rca = if (version == 1) || (version == 2) then Some (SdBytes version size rca) else None

unfoldable pub read_sd_bytes : ℕ → List ℕ → Option Description
read_sd_bytes version bs = read_size bs >>= λ a. read_rca a.1 >>= λ rca. sd_bytes_if version a.0 rca

abbrev pub sd_blocks_if : (version c_size rca : ℕ) → Option Description
sd_blocks_if version c_size rca = if (version == 2) && nat_le c_size 4194303 then Some (SdBlocks c_size rca) else None

unfoldable pub read_sd_blocks : ℕ → List ℕ → Option Description
read_sd_blocks version bs =
    read_number (codes "csize ") bs >>= λ a. read_rca a.1 >>= λ rca. sd_blocks_if version a.0 rca

-- the second reading where the first finds none
abbrev pub or_else : {A : Type 0} → Option (List ℕ) → (List ℕ → Option A) → Option A → Option A
or_else None f other = other
or_else (Some rest) f other = f rest

unfoldable pub read_sd : List ℕ → Option Description
read_sd bs =
    read_number (codes "version ") bs >>= λ a.
    or_else (read_line (codes "unit byte") a.1) (read_sd_bytes a.0)
    (read_line (codes "unit block") a.1 >>= read_sd_blocks a.0)

abbrev pub boot_if : ℕ → List ℕ → Option ℕ
boot_if boot rest = if nat_le boot 255 && is_end rest then Some boot else None

-- the last line of an e.MMC device, which may be absent
unfoldable pub read_boot : List ℕ → Option ℕ
read_boot bs = if is_end bs then Some 0 else (read_number (codes "boot ") bs >>= λ a. boot_if a.0 a.1)

unfoldable pub read_emmc_bytes : List ℕ → Option Description
read_emmc_bytes bs = read_size bs >>= λ a. read_boot a.1 >>= λ boot. Some (EmmcBytes a.0 boot)

abbrev pub emmc_blocks_if : (sectors boot : ℕ) → Option Description
emmc_blocks_if sectors boot = if nat_le 1 sectors then Some (EmmcBlocks sectors boot) else None

unfoldable pub read_emmc_blocks : List ℕ → Option Description
read_emmc_blocks bs =
    read_number (codes "sectors ") bs >>= λ a. read_boot a.1 >>= λ boot. emmc_blocks_if a.0 boot

unfoldable pub read_emmc : List ℕ → Option Description
read_emmc bs =
    or_else (read_line (codes "unit byte") bs) read_emmc_bytes (read_line (codes "unit block") bs >>= read_emmc_blocks)

unfoldable pub read_description : List ℕ → Option Description
read_description bs = or_else (read_line (codes "card sd") bs) read_sd (read_line (codes "card emmc") bs >>= read_emmc)
