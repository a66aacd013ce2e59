-- The frames that the code writes and reads, from their bytes.
use Rattle.std.proofs.Common.{◌≡◌, Bool, true, false, ℕ, zero, suc, ◌^◌, ◌<◌, ◌≤◌, List, [], ◌∷◌, ◌++◌, length, take, drop, get_or, refl, sym, ◌∙◌, ap, arith, subst, bit_and, bit_or}
use Rattle.std.specs.Int.{w32, from_be_bytes}
use Rattle.std.proofs.lemmas.Nat.{be_bytes_4, and_mask, mod_below}
use Rattle.sdv_frames.specs.Bits.{Bits, bits, bits_of, number_of}
use Rattle.sdv_frames.specs.Frame.{Spells, IsSealed, IsCommand, IsCommandFrame, command_frame}
use Rattle.sdv_frames.specs.declared.command.Command.{Command}
use Rattle.sdv_frames.specs.declared.layout.Check.TheVariants.{CrcOfAll}
use Rattle.sdv_frames.proofs.Tried.{holds_below, tried, same_bits, same_bits_are}
use Rattle.sdv_frames.proofs.ByteLaws.{bits_of-word}
use Rattle.sdv_frames.proofs.BitLaws.{length-bits}
use Rattle.sdv_frames.proofs.PartLaws.{front_bits}
use Rattle.sdv_frames.proofs.FaultLaws.{indexed}
use Rattle.sdv_frames.proofs.Spelled.{none_spells, spells_none, spells_same, same_number}
use Rattle.sdv_frames.specs.Fault.{HasFault, HasNoFault, IsFirstFault, MayRefuseCommand, front, command_layout}
use Rattle.sdv_frames.specs.declared.layout.Layout.{Layout}
use Rattle.sdv_frames.specs.declared.fault.FrameFault.{FrameFault}
use Rattle.sdv_frames.specs.declared.fault.FrameFault.TheVariants.{Length, StartBit, Direction, Index, Crc, EndBit, Reserved}

-- the first byte of a command
abbrev is_command_byte : ℕ → Bool
is_command_byte index = same_bits (bits 8 (bit_or 64 index)) (false ∷ true ∷ bits 6 index)

all_command_bytes : holds_below is_command_byte 64 ≡ true
unfolding bits
all_command_bytes = refl

pub command_byte : (index : ℕ) → index < 2 ^ 6 → bits 8 (bit_or 64 index) ≡ false ∷ true ∷ bits 6 index
command_byte index h = same_bits_are _ _ (tried is_command_byte 64 index all_command_bytes h)

-- the first byte of a response
abbrev is_reply_byte : ℕ → Bool
is_reply_byte index = same_bits (bits 8 index) (false ∷ false ∷ bits 6 index)

all_reply_bytes : holds_below is_reply_byte 64 ≡ true
unfolding bits
all_reply_bytes = refl

pub reply_byte : (index : ℕ) → index < 2 ^ 6 → bits 8 index ≡ false ∷ false ∷ bits 6 index
reply_byte index h = same_bits_are _ _ (tried is_reply_byte 64 index all_reply_bytes h)

-- a sealed message is a frame under the CRC7 of all
pub sealed_frame : (from_host : Bool) (index word first : ℕ) (spelling : Bits) → bits 8 first ≡ false ∷ from_host ∷ bits 6 index
    → IsSealed (bits 8 first ++ bits 32 word) spelling →
    Spells (record { from_host = from_host; index = index; contents = bits 32 word; check = CrcOfAll }) spelling
sealed_frame from_host index word first spelling e s =
    let t : IsSealed (false ∷ from_host ∷ (bits 6 index ++ bits 32 word)) spelling = subst (λ front. IsSealed (front ++ bits 32 word) spelling) e s in
    record { seven = t.seven; check = t.crc; spelled = t.spelled }

-- the word that four bytes make has their bits
pub word_bits : (bs : List ℕ) → length bs ≡ 4 → ((i : ℕ) → get_or bs i 0 < 256) → bits_of bs ≡ bits 32 (from_be_bytes w32 bs)
word_bits bs four bytes = ap bits_of (sym (be_bytes_4 bs (from_be_bytes w32 bs) four bytes refl)) ∙ bits_of-word (from_be_bytes w32 bs)

-- the bytes before the last of six
first_five : (xs : List ℕ) → length xs ≡ 6 → take 5 xs ≡ get_or xs 0 0 ∷ get_or xs 1 0 ∷ get_or xs 2 0 ∷ get_or xs 3 0 ∷ get_or xs 4 0 ∷ []
first_five [] h = absurd (omega arith)
first_five (a ∷ []) h = absurd (omega arith)
first_five (a ∷ b ∷ []) h = absurd (omega arith)
first_five (a ∷ b ∷ c ∷ []) h = absurd (omega arith)
first_five (a ∷ b ∷ c ∷ d ∷ []) h = absurd (omega arith)
first_five (a ∷ b ∷ c ∷ d ∷ e ∷ xs) h = refl

-- without the first byte
pub drop_byte : (byte : ℕ) (bytes : List ℕ) → drop 8 (bits_of (byte ∷ bytes)) ≡ bits_of bytes
unfolding bits bits_of
drop_byte byte bytes = refl

four_bytes : (xs : List ℕ) → ((i : ℕ) → get_or xs i 0 < 256) → (i : ℕ) → get_or (get_or xs 1 0 ∷ get_or xs 2 0 ∷ get_or xs 3 0 ∷ get_or xs 4 0 ∷ []) i 0 < 256
four_bytes xs bytes zero = bytes 1
four_bytes xs bytes (suc zero) = bytes 2
four_bytes xs bytes (suc (suc zero)) = bytes 3
four_bytes xs bytes (suc (suc (suc zero))) = bytes 4
four_bytes xs bytes (suc (suc (suc (suc i)))) = omega arith

-- the contents of a frame of six bytes
pub word_in : (xs : List ℕ) → length xs ≡ 6 → ((i : ℕ) → get_or xs i 0 < 256) →
    drop 8 (take 40 (bits_of xs)) ≡ bits 32 (from_be_bytes w32 (get_or xs 1 0 ∷ get_or xs 2 0 ∷ get_or xs 3 0 ∷ get_or xs 4 0 ∷ []))
word_in xs six bytes =
    ap (drop 8) (front_bits xs 5 six ∙ ap bits_of (first_five xs six))
    ∙ (drop_byte (get_or xs 0 0) (get_or xs 1 0 ∷ get_or xs 2 0 ∷ get_or xs 3 0 ∷ get_or xs 4 0 ∷ [])
    ∙ word_bits (get_or xs 1 0 ∷ get_or xs 2 0 ∷ get_or xs 3 0 ∷ get_or xs 4 0 ∷ []) refl (four_bytes xs bytes))

-- no fault is none of them
pub none_at : (fault : FrameFault) (l : Layout) (received : Bits) → HasNoFault l received → HasFault l received fault → ⊥
none_at Length l received none h = none.0 h
none_at StartBit l received none h = none.1.0 h
none_at Direction l received none h = none.1.1.0 h
none_at Index l received none h = none.1.1.1.0 h
none_at Crc l received none h = none.1.1.1.1.0 h
none_at EndBit l received none h = none.1.1.1.1.1.0 h
none_at Reserved l received none h = none.1.1.1.1.1.1.0 h

-- what bits without a fault spell, by their index and contents
pub spells_as : (l : Layout) (received : Bits) (index : ℕ) (contents : Bits) → 2 ≤ l.length → HasNoFault l received
    → number_of (take 6 (drop 2 received)) ≡ index → drop 8 (front l received) ≡ contents →
    Spells (record { from_host = l.from_host; index = index; contents = contents; check = l.check }) received
spells_as l received index contents long none i c =
    subst (λ f. Spells f received)
    (ap (λ n. record { from_host = l.from_host; index = n; contents = drop 8 (front l received); check = l.check }) i
    ∙ ap (λ bs. record { from_host = l.from_host; index = index; contents = bs; check = l.check }) c)
    (none_spells l received long none)

-- six bytes without a fault are a command
pub command_found : (xs : List ℕ) (argument : ℕ) → length xs ≡ 6 → ((i : ℕ) → get_or xs i 0 < 256) → argument < 2 ^ 32 →
    argument ≡ from_be_bytes w32 (get_or xs 1 0 ∷ get_or xs 2 0 ∷ get_or xs 3 0 ∷ get_or xs 4 0 ∷ []) → HasNoFault command_layout (bits_of xs) →
    IsCommand (record { index = bit_and (get_or xs 0 0) 63; argument = argument })
    × IsCommandFrame (record { index = bit_and (get_or xs 0 0) 63; argument = argument }) xs
command_found xs argument six bytes small is none = (
  record { index = rw (and_mask (get_or xs 0 0) 6) (mod_below (get_or xs 0 0) 64 (omega arith)); argument = small },
  spells_as command_layout (bits_of xs) (bit_and (get_or xs 0 0) 63) (bits 32 argument) (omega arith) none
      (indexed command_layout xs (omega arith) six bytes) (word_in xs six bytes ∙ ap (bits 32) (sym is)),
)

-- the bits of a command have no fault
pub command_fits : (c : Command) (received : Bits) → IsCommand c → Spells (command_frame c) received → HasNoFault command_layout received
command_fits c received h s = spells_none command_layout (command_frame c) received (omega arith) s refl refl (length-bits 32 c.argument) h.index (λ no. no)

-- the bits of a frame are those of one command
pub one_command : (c d : Command) (received : Bits) → IsCommand c → IsCommand d → Spells (command_frame c) received → Spells (command_frame d) received → c ≡ d
one_command c d received hc hd s t =
    let same = spells_same 6 (command_frame c) (command_frame d) received (omega arith) s t (length-bits 32 c.argument) (length-bits 32 d.argument) in
    let index : c.index ≡ d.index = same_number 6 c.index d.index hc.index hd.index same.0 in
    let argument : c.argument ≡ d.argument = same_number 32 c.argument d.argument hc.argument hd.argument same.1 in
    ap (λ n. record { index = n; argument = c.argument }) index ∙ ap (λ n. record { index = d.index; argument = n }) argument

-- a command's frame has no first fault
pub no_command : (c : Command) (l : Layout) (received : Bits) {fault : FrameFault} → l ≡ command_layout → IsFirstFault l received fault → IsCommand c
    → Spells (command_frame c) received → ⊥
no_command c l received {fault} e f h s = none_at fault l received (subst (λ k. HasNoFault k received) (sym e) (command_fits c received h s)) f.there

refused_by : (fault : FrameFault) (received : Bits) → length received ≡ 48 → HasFault command_layout received fault → MayRefuseCommand fault
refused_by Length received e h = h e
refused_by StartBit received e h = tt
refused_by Direction received e h = tt
refused_by Index received e h = h
refused_by Crc received e h = tt
refused_by EndBit received e h = tt
refused_by Reserved received e h = h

-- six bytes are refused as a command by four faults alone
pub may_refuse : (l : Layout) (received : Bits) {fault : FrameFault} → l ≡ command_layout → length received ≡ 48 → IsFirstFault l received fault
    → MayRefuseCommand fault
may_refuse l received {fault} e long f = refused_by fault received long (subst (λ k. HasFault k received fault) e f.there)
