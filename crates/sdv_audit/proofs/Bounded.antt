-- Where an address is beyond what the CSD tells at each shape, the command is in bounds at no card.
use Rattle.std.proofs.Common.{◌≡◌, ℕ, ◌+◌, ◌*◌, ◌%◌, ◌≤◌, ◌&&◌, nat_le, refl, ap, subst, sym, ◌∙◌, Bool, true, false, not, List, Option, Some, None, arith, if◌then◌else◌, eq-eqb}
use Rattle.std.specs.Prelude.{is_none}
use Rattle.std.proofs.lemmas.Bool.{le-leb}
use Rattle.sdv_frames.specs.Bits.{bits_of}
use Rattle.sdv_frames.specs.declared.command.Command.{Command}
use Rattle.sdv_registers.specs.declared.kind.Kind.{Kind}
use Rattle.sdv_registers.specs.declared.kind.Kind.TheVariants.{Sd, Emmc}
use Rattle.sdv_registers.specs.Csd.{fault, blocks}
use Rattle.sdv_card.specs.declared.state.Partition.{Partition}
use Rattle.sdv_card.specs.declared.state.Partition.TheVariants.{User, Boot1, Boot2}
use Rattle.sdv_card.specs.declared.shape.Shape.{Shape}
use Rattle.sdv_card.specs.declared.fields.Fields.{Fields}
use Rattle.sdv_card.specs.declared.event.Ask.{Ask}
use Rattle.sdv_card.specs.declared.event.Event.TheVariants.{Send}
use Rattle.sdv_card.specs.declared.answer.Answer.{Answer}
use Rattle.sdv_card.specs.Lists.{May}
use Rattle.sdv_card.specs.CommandTable.{addressed_blocks}
use Rattle.sdv_card.specs.ScriptEvent.{SendCommand}
use Rattle.sdv_card.specs.Card.{Card, capacity_of}
use Rattle.sdv_card.specs.Host.{Host}
use Rattle.sdv_card.specs.Legal.{InBounds, BlocksWithin}
use Rattle.sdv_card.specs.Code.{digits}
use Rattle.sdv_card.specs.Shapes.{view, pair_code, IsPair}
use Rattle.sdv_card.specs.Profile.{told_blocks}
use Rattle.sdv_card.proofs.Digits.{digits_law}
use Rattle.sdv_audit.specs.declared.line.TraceLine.{TraceLine}
use Rattle.sdv_audit.specs.declared.line.TraceLine.TheVariants.{Exchange, BlocksIn, RegisterIn, BlocksOut, Wait, Lines, Running, End}
use Rattle.sdv_audit.specs.declared.known.HostKnown.{HostKnown}
use Rattle.sdv_audit.specs.declared.turn.Told.{Told}
use Rattle.sdv_audit.specs.declared.turn.Deed.TheVariants.{Known, Begins}
use Rattle.sdv_audit.specs.declared.turn.Turn.{Turn}
use Rattle.sdv_audit.specs.declared.turn.Turn.TheVariants.{Ends, Outside, Uses, Resumes, OtherLength, Does}
use Rattle.sdv_audit.specs.Standing.{known_of, turn_behind, shape_of, Covers}
use Rattle.sdv_audit.specs.Lived.{block_named, names_block}
use Rattle.sdv_audit.specs.Beyond.{if_readable, readable_blocks, told_capacity, beyond_capacity, beyond_by, blocks_for_sure, is_beyond, IsAskOf, Sends, NoneInBounds}
use Rattle.sdv_audit.proofs.Sound.{StillKnown, stood_known, Tells, stood_tells}

-- IN BOUNDS, what the CSD tells is not passed

-- the blocks that a turn addresses for sure
abbrev sure_of : Turn → Option ℕ
sure_of (Does deed) = blocks_for_sure deed
sure_of turn = None

in_readable : (b : Bool) (blocks_told unit_blocks argument count : ℕ) (unit : Bool) → names_block unit argument ≡ true →
    nat_le (block_named unit argument + count) blocks_told ≡ true → beyond_capacity (if_readable b blocks_told) unit argument count ≡ true → ⊥
in_readable true blocks_told unit_blocks argument count unit names le e =
    let both : (names_block unit argument && nat_le (block_named unit argument + count) blocks_told) ≡ true = rw (names, le) refl in
    let f : not true ≡ true = ap not (sym both) ∙ e in
    let g : false ≡ true = f in
    absurd (cc)
in_readable false blocks_told unit_blocks argument count unit names le e = absurd (let g : false ≡ true = e in cc)

names : (unit : Bool) (argument position : ℕ) → argument ≡ (if unit then position else 512 * position) → names_block unit argument ≡ true
names true argument position e = refl
names false argument position e = let f : argument ≡ 512 * position = e in eq-eqb (argument % 512) 0 (omega arith)

named : (unit : Bool) (argument position : ℕ) → argument ≡ (if unit then position else 512 * position) → block_named unit argument ≡ position
named true argument position e = e
named false argument position e = let f : argument ≡ 512 * position = e in omega arith

none_beyond : (unit : Bool) (argument count : ℕ) → beyond_capacity None unit argument count ≡ true → ⊥
none_beyond unit argument count e = let g : false ≡ true = e in cc

user_beyond : (k : Kind) (bytes : List ℕ) (unit : Bool) (argument position count capacity : ℕ) → blocks k (bits_of bytes) ≡ capacity →
    argument ≡ (if unit then position else 512 * position) → position + count ≤ capacity →
    beyond_capacity (readable_blocks k bytes) unit argument count ≡ true → ⊥
user_beyond k bytes unit argument position count capacity told sent room e =
    let place : block_named unit argument ≡ position = named unit argument position sent in
    let fits : block_named unit argument + count ≤ blocks k (bits_of bytes) =
    subst (λ n. n + count ≤ blocks k (bits_of bytes)) (sym place) (subst (λ n. position + count ≤ n) (sym told) room) in
    in_readable (is_none (fault k (bits_of bytes))) (blocks k (bits_of bytes)) 0 argument count unit (names unit argument position sent)
    (le-leb (block_named unit argument + count) (blocks k (bits_of bytes)) fits) e

told_beyond : (k : Kind) (csd : Option (List ℕ)) (unit : Bool) (partition : Partition) (argument position count capacity boot : ℕ) (ext_csd : List ℕ) →
    ((bytes : List ℕ) → csd ≡ Some bytes → told_blocks k unit bytes ext_csd ≡ capacity) → argument ≡ (if unit then position else 512 * position) →
    position + count ≤ capacity_of partition capacity boot → beyond_capacity (told_capacity k csd unit partition) unit argument count ≡ true → ⊥
told_beyond k None unit partition argument position count capacity boot ext_csd told sent room e = none_beyond unit argument count e
told_beyond Emmc (Some bytes) true partition argument position count capacity boot ext_csd told sent room e = none_beyond true argument count e
told_beyond Emmc (Some bytes) false User argument position count capacity boot ext_csd told sent room e =
    user_beyond Emmc bytes false argument position count capacity (told bytes refl) sent room e
told_beyond Emmc (Some bytes) false Boot1 argument position count capacity boot ext_csd told sent room e = none_beyond false argument count e
told_beyond Emmc (Some bytes) false Boot2 argument position count capacity boot ext_csd told sent room e = none_beyond false argument count e
told_beyond Sd (Some bytes) true User argument position count capacity boot ext_csd told sent room e =
    user_beyond Sd bytes true argument position count capacity (told bytes refl) sent room e
told_beyond Sd (Some bytes) false User argument position count capacity boot ext_csd told sent room e =
    user_beyond Sd bytes false argument position count capacity (told bytes refl) sent room e
told_beyond Sd (Some bytes) unit Boot1 argument position count capacity boot ext_csd told sent room e = none_beyond unit argument count e
told_beyond Sd (Some bytes) unit Boot2 argument position count capacity boot ext_csd told sent room e = none_beyond unit argument count e

-- at a card, by the blocks that the command addresses
card_beyond : (k : Kind) (csd : Option (List ℕ)) (addressed : Option ℕ) (c : Card) (h : Host) (position argument : ℕ) → k ≡ c.kind → Tells c h → h.csd ≡ csd →
    BlocksWithin addressed c position argument → beyond_by (told_capacity k csd c.block_unit c.mode.partition) addressed c.block_unit argument ≡ true → ⊥
card_beyond k csd None c h position argument kind tells is within e = let g : false ≡ true = e in cc
card_beyond k csd (Some count) c h position argument kind tells is within e =
    told_beyond k csd c.block_unit c.mode.partition argument position count c.capacity c.boot_capacity c.ext_csd
    (λ bytes f.
    let same : bytes ≡ c.csd = tells.sound.csd bytes (is ∙ f) in
    ap (λ v. told_blocks v c.block_unit bytes c.ext_csd) kind ∙ (ap (λ v. told_blocks c.kind c.block_unit v c.ext_csd) same ∙ tells.told))
    within.unit within.room e

at_code : (k : Kind) (known : HostKnown) (addressed : Option ℕ) (command : Command) (c : Card) (h : Host) → IsPair k c h →
    beyond_by (told_capacity k known.csd (digits (pair_code c h)).block_unit (digits (pair_code c h)).mode.partition) addressed
    (digits (pair_code c h)).block_unit command.argument ≡ true →
    beyond_by (told_capacity k known.csd c.block_unit c.mode.partition) addressed c.block_unit command.argument ≡ true
at_code k known addressed command c h pair e =
    subst (λ (f : Fields). beyond_by (told_capacity k known.csd f.block_unit f.mode.partition) addressed f.block_unit command.argument ≡ true)
    (digits_law (view c h) pair.flags pair.card.preset) e

-- what is addressed for sure is no more than is addressed
fewer : (c : Card) (position argument count n : ℕ) → count ≤ n → BlocksWithin (Some n) c position argument → BlocksWithin (Some count) c position argument
fewer c position argument count n le within = record { unit = within.unit; room = omega (arith, le, within.room) }

sure_blocks : (turn : Turn) (ask : Ask) (c : Card) (position argument : ℕ) → IsAskOf turn ask → InBounds (SendCommand ask position argument) c →
    BlocksWithin (sure_of turn) c position argument
sure_blocks (Does (Known (Send sent))) ask c position argument is within = subst (λ v. BlocksWithin (addressed_blocks v) c position argument) (sym is) within
sure_blocks (Does (Begins true)) ask c position argument is within =
    fewer c position argument 1 ask.count is.1 (subst (λ v. BlocksWithin (addressed_blocks v) c position argument) (sym is.0) within)
sure_blocks (Does (Begins false)) ask c position argument is within =
    fewer c position argument 1 ask.count is.1 (subst (λ v. BlocksWithin (addressed_blocks v) c position argument) (sym is.0) within)
sure_blocks turn ask c position argument is within = absurd is

beyond_there : (k : Kind) (known : HostKnown) (turn : Turn) (command : Command) (answer : Answer) (code : ℕ) →
    is_beyond k known turn (Exchange command answer) code ≡ true →
    beyond_by (told_capacity k known.csd (digits code).block_unit (digits code).mode.partition) (sure_of turn) (digits code).block_unit command.argument ≡ true
beyond_there k known (Does deed) command answer code e = e
beyond_there k known Ends command answer code e = absurd (let f : false ≡ true = e in cc)
beyond_there k known Outside command answer code e = absurd (let f : false ≡ true = e in cc)
beyond_there k known (Uses width) command answer code e = absurd (let f : false ≡ true = e in cc)
beyond_there k known (Resumes rca lines) command answer code e = absurd (let f : false ≡ true = e in cc)
beyond_there k known (OtherLength due) command answer code e = absurd (let f : false ≡ true = e in cc)

line_beyond : (k : Kind) (known : HostKnown) (turn : Turn) (line : TraceLine) (ask : Ask) (c : Card) (h : Host) (position argument : ℕ) → StillKnown k known c h →
    Tells c h → IsAskOf turn ask → Sends line argument → is_beyond k known turn line (pair_code c h) ≡ true →
    InBounds (SendCommand ask position argument) c → ⊥
line_beyond k known turn (Exchange command answer) ask c h position argument i tells is sent e within =
    card_beyond k known.csd (sure_of turn) c h position command.argument i.pair.kind tells i.is_known.csd
    (subst (λ n. BlocksWithin (sure_of turn) c position n) (sym sent) (sure_blocks turn ask c position argument is within))
    (at_code k known (sure_of turn) command c h i.pair (beyond_there k known turn command answer (pair_code c h) e))
line_beyond k known turn (BlocksIn count end) ask c h position argument i tells is sent e within = sent
line_beyond k known turn (RegisterIn count end) ask c h position argument i tells is sent e within = sent
line_beyond k known turn (BlocksOut count end) ask c h position argument i tells is sent e within = sent
line_beyond k known turn (Wait end) ask c h position argument i tells is sent e within = sent
line_beyond k known turn (Lines width) ask c h position argument i tells is sent e within = sent
line_beyond k known turn (Running rca lines) ask c h position argument i tells is sent e within = sent
line_beyond k known turn End ask c h position argument i tells is sent e within = sent

pub none_in_bounds : (k : Kind) (past : List Told) (told : Told) (shapes : List Shape) → Covers k past shapes →
    ((s : Shape) → May shapes s → is_beyond k (known_of k past) (turn_behind k past told) told.line s.0 ≡ true) → NoneInBounds k past told
none_in_bounds k past told shapes covers all = λ c h ask position argument stood is sent within.
    line_beyond k (known_of k past) (turn_behind k past told) told.line ask c h position argument (stood_known k past c h stood)
    (stood_tells k past c h stood) is sent (all (shape_of c h) (covers c h stood)) within
