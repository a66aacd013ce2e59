-- What a receiver waits for, and which fault the bits that came have.
-- SD Physical Layer Simplified Specification, sections 4.7.2 and 4.9; JESD84-B51, sections 6.10.2 and 6.12.
use Rattle.std.specs.Prelude.{◌≡◌, ◌≢◌, true, false, not, ℕ, ◌-◌, ◌*◌, Option, Some, None, List, [], ◌∷◌, length, take, drop, MatchOption}
use Rattle.std.specs.List.{AllByRecursion}
use Rattle.sdv_frames.specs.Bits.{Bits, number_of}
use Rattle.sdv_frames.specs.Polynomial.{IsCrc7}
use Rattle.sdv_frames.specs.Frame.{all_ones}
use Rattle.sdv_frames.specs.declared.layout.Check.{Check}
use Rattle.sdv_frames.specs.declared.layout.Check.TheVariants.{CrcOfAll, CrcOfContents, AllOnes}
use Rattle.sdv_frames.specs.declared.layout.Layout.{Layout}
use Rattle.sdv_frames.specs.declared.fault.FrameFault.{FrameFault}
use Rattle.sdv_frames.specs.declared.fault.FrameFault.TheVariants.{Length, StartBit, Direction, Index, Crc, EndBit, Reserved}
use Rattle.sdv_frames.specs.declared.reply.Expect.{Expect}
use Rattle.sdv_frames.specs.declared.reply.Expect.TheVariants.{Nothing, R1, R2, R3, R6, R7}

-- a command, of any index
abbrev pub command_layout : Layout
command_layout = record { length = 6; from_host = true; index = None; check = CrcOfAll }

-- a response of 48 bits
abbrev pub short : ℕ → Check → Option Layout
short index check = Some (record { length = 6; from_host = false; index = Some index; check = check })

-- the response that is waited for; where there is none, every input has another length
abbrev pub layout_of : Expect → Option Layout
layout_of Nothing = None
layout_of (R1 index) = short index CrcOfAll
layout_of R2 = Some (record { length = 17; from_host = false; index = Some 63; check = CrcOfContents })
layout_of R3 = short 63 AllOnes
layout_of R6 = short 3 CrcOfAll
layout_of R7 = short 8 CrcOfAll

-- the bits before the last byte; behind the first byte of them stand the contents
abbrev pub front : Layout → Bits → Bits
front l received = take (8 * l.length - 8) received

-- the seven bits before the end bit
abbrev pub seven_of : Layout → Bits → Bits
seven_of l received = take 7 (drop (8 * l.length - 8) received)

-- an index was asked for, and another one came
abbrev pub IndexDiffers : Option ℕ → ℕ → Type 0
IndexDiffers None index = ⊥
IndexDiffers (Some wanted) index = index ≢ wanted

-- the seven bits are not the CRC7 that they are to be
abbrev pub CrcDiffers : Check → Bits → Bits → Type 0
CrcDiffers CrcOfAll before seven = ¬ IsCrc7 before seven
CrcDiffers CrcOfContents before seven = ¬ IsCrc7 (drop 8 before) seven
CrcDiffers AllOnes before seven = ⊥

-- reserved bits are not all 1
abbrev pub ReservedDiffer : Check → Bits → Type 0
ReservedDiffer AllOnes seven = seven ≢ all_ones
ReservedDiffer check seven = ⊥

-- the bits that came have a fault
abbrev pub HasFault : Layout → Bits → FrameFault → Type 0
HasFault l received Length = length received ≢ 8 * l.length
HasFault l received StartBit = take 1 received ≡ true ∷ []
HasFault l received Direction = take 1 (drop 1 received) ≡ not l.from_host ∷ []
HasFault l received Index = IndexDiffers l.index (number_of (take 6 (drop 2 received)))
HasFault l received Crc = CrcDiffers l.check (front l received) (seven_of l received)
HasFault l received EndBit = drop (8 * l.length - 1) received ≡ false ∷ []
HasFault l received Reserved = ReservedDiffer l.check (seven_of l received)

-- the faults that are answered before one
abbrev pub earlier : FrameFault → List FrameFault
earlier Length = []
earlier StartBit = Length ∷ []
earlier Direction = Length ∷ StartBit ∷ []
earlier Index = Length ∷ StartBit ∷ Direction ∷ []
earlier Crc = Length ∷ StartBit ∷ Direction ∷ Index ∷ []
earlier EndBit = Length ∷ StartBit ∷ Direction ∷ Index ∷ Crc ∷ []
earlier Reserved = Length ∷ StartBit ∷ Direction ∷ Index ∷ Crc ∷ EndBit ∷ []

-- none of the faults is there
abbrev pub HasNone : Layout → Bits → List FrameFault → Type 0
HasNone l received faults = AllByRecursion (λ f. ¬ HasFault l received f) faults

-- the fault is there, and none that is answered before it
pub record IsFirstFault (l : Layout) (received : Bits) (fault : FrameFault) : Type 0 where
  pub there : HasFault l received fault
  pub first : HasNone l received (earlier fault)

-- no fault is there
abbrev pub HasNoFault : Layout → Bits → Type 0
HasNoFault l received = HasNone l received (Length ∷ StartBit ∷ Direction ∷ Index ∷ Crc ∷ EndBit ∷ Reserved ∷ [])

-- what refuses six bytes as a command: not their length, nor an index, and there are no reserved bits
abbrev pub MayRefuseCommand : FrameFault → Type 0
MayRefuseCommand Length = ⊥
MayRefuseCommand Index = ⊥
MayRefuseCommand Reserved = ⊥
MayRefuseCommand fault = Unit {0}

-- the fault that is answered where a response was waited for, or none
abbrev pub IsFirstFaultOf : Expect → Bits → FrameFault → Type 0
IsFirstFaultOf expect received fault = MatchOption (layout_of expect) (fault ≡ Length)
    (λ l. IsFirstFault l received fault)
