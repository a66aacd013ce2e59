-- Each card in any state has one of the shapes that are computed.
use Rattle.std.proofs.Common.{◌≡◌, ℕ, ◌+◌, ◌-◌, ◌*◌, ◌^◌, ◌<◌, ◌≤◌, ap, subst, sym, ◌∙◌, Bool, true, false, List, [], ◌∷◌, ◌++◌, length, take, get_or, append_assoc, map, arith, refl}
use Rattle.std.proofs.Math.Nat.{min-eq_left}
use Rattle.sdv_registers.specs.declared.kind.Kind.{Kind}
use Rattle.sdv_card.specs.declared.shape.Shape.{Shape}
use Rattle.sdv_card.specs.declared.fields.Fields.{Fields}
use Rattle.sdv_card.specs.declared.state.State.{State}
use Rattle.sdv_card.specs.declared.state.State.TheVariants.{Idle, Ready, Ident, Stby, Tran, Data, Rcv, Prg, Dis}
use Rattle.sdv_card.specs.declared.state.Transfer.{Transfer}
use Rattle.sdv_card.specs.declared.state.Transfer.TheVariants.{Nothing, ReadDue, OpenReadDue, ScrDue, SdStatusDue, ExtCsdDue, ReadOver, OpenReadOver, WriteDue, OpenWriteDue, WriteOver, OpenWriteOver}
use Rattle.sdv_card.specs.declared.state.EraseStage.{EraseStage}
use Rattle.sdv_card.specs.declared.state.EraseStage.TheVariants.{Outside, Begun, Both}
use Rattle.sdv_card.specs.declared.state.Width.{Width}
use Rattle.sdv_card.specs.declared.state.Width.TheVariants.{One, Four, Eight}
use Rattle.sdv_card.specs.declared.state.Partition.{Partition}
use Rattle.sdv_card.specs.declared.state.Partition.TheVariants.{User, Boot1, Boot2}
use Rattle.sdv_card.specs.Lists.{May}
use Rattle.sdv_card.specs.States.{state_number}
use Rattle.sdv_card.specs.Modes.{width_number, partition_number}
use Rattle.sdv_card.specs.Code.{code_of, transfer_number, erase_number, bool_number}
use Rattle.sdv_card.specs.Card.{Card}
use Rattle.sdv_card.specs.Host.{Host}
use Rattle.sdv_card.specs.Shapes.{view}
use Rattle.sdv_card.proofs.Digits.{fields_law}
use Rattle.sdv_card.proofs.Members.{here, there, May-each, May-map, May-filter}
use Rattle.sdv_card.proofs.Scans.{each_more, map_more}
use Rattle.sdv_card.proofs.TableLaws.{pairs_have_shapes}
use Rattle.sdv_audit.specs.declared.running.TheConstants.{STATES, TRANSFERS, ERASE_STAGES, BLOCK_UNITS, LENGTHS, APPLICATION_FLAGS, WIDTHS, PARTITIONS, ERRORS}
use Rattle.sdv_audit.specs.AnyShape.{with_code, with_field, spread, matched_code, all_fields, is_shape_read, is_shape_at, any_shapes}
use Rattle.sdv_audit.specs.Standing.{IsRunning, shape_of}

-- ONE MORE ELEMENT of a list that a loop goes through

pub pushed_map : (xs : List ℕ) (i d : ℕ) (f : ℕ → Shape) (front all new : List Shape) (x : Shape) → i < length xs → x ≡ f (get_or xs i d) →
    new ≡ all ++ x ∷ [] → all ≡ front ++ map f (take i xs) → new ≡ front ++ map f (take (i + 1) xs)
pushed_map xs i d f front all new x lt is added before =
    added ∙ (ap (λ v. v ++ x ∷ []) before ∙ (append_assoc front (map f (take i xs)) (x ∷ [])
    ∙ ap (λ v. front ++ v) (ap (λ v. map f (take i xs) ++ v ∷ []) is ∙ sym (map_more xs i d f lt))))

pub added_each : (xs : List Shape) (i : ℕ) (d : Shape) (numbers : List ℕ) (all new : List Shape) → i < length xs →
    new ≡ all ++ map (with_field (get_or xs i d)) numbers → all ≡ spread numbers (take i xs) → new ≡ spread numbers (take (i + 1) xs)
added_each xs i d numbers all new lt added before =
    added ∙ (ap (λ v. v ++ map (with_field (get_or xs i d)) numbers) before ∙ sym (each_more xs i d (λ s. map (with_field s) numbers) lt))

-- a number of a list, which is small
record Field (ns : List ℕ) (n : ℕ) : Type 0 where
  may : May ns n
  small : n < 134217728

state_field : (s : State) → Field STATES (state_number s)
state_field Idle = record { may = here refl; small = omega arith }
state_field Ready = record { may = there (here refl); small = omega arith }
state_field Ident = record { may = there (there (here refl)); small = omega arith }
state_field Stby = record { may = there (there (there (here refl))); small = omega arith }
state_field Tran = record { may = there (there (there (there (here refl)))); small = omega arith }
state_field Data = record { may = there (there (there (there (there (here refl))))); small = omega arith }
state_field Rcv = record { may = there (there (there (there (there (there (here refl)))))); small = omega arith }
state_field Prg = record { may = there (there (there (there (there (there (there (here refl))))))); small = omega arith }
state_field Dis = record { may = there (there (there (there (there (there (there (there (here refl)))))))); small = omega arith }

transfer_field : (t : Transfer) → Field TRANSFERS (16 * transfer_number t)
transfer_field Nothing = record { may = here refl; small = omega arith }
transfer_field ReadDue = record { may = there (here refl); small = omega arith }
transfer_field OpenReadDue = record { may = there (there (here refl)); small = omega arith }
transfer_field ScrDue = record { may = there (there (there (here refl))); small = omega arith }
transfer_field SdStatusDue = record { may = there (there (there (there (here refl)))); small = omega arith }
transfer_field ExtCsdDue = record { may = there (there (there (there (there (here refl))))); small = omega arith }
transfer_field ReadOver = record { may = there (there (there (there (there (there (here refl)))))); small = omega arith }
transfer_field OpenReadOver = record { may = there (there (there (there (there (there (there (here refl))))))); small = omega arith }
transfer_field WriteDue = record { may = there (there (there (there (there (there (there (there (here refl)))))))); small = omega arith }
transfer_field OpenWriteDue =
    record { may = there (there (there (there (there (there (there (there (there (here refl))))))))); small = omega arith }
transfer_field WriteOver =
    record { may = there (there (there (there (there (there (there (there (there (there (here refl)))))))))); small = omega arith }
transfer_field OpenWriteOver =
    record { may = there (there (there (there (there (there (there (there (there (there (there (here refl))))))))))); small = omega arith }

erase_field : (e : EraseStage) → Field ERASE_STAGES (256 * erase_number e)
erase_field Outside = record { may = here refl; small = omega arith }
erase_field Begun = record { may = there (here refl); small = omega arith }
erase_field Both = record { may = there (there (here refl)); small = omega arith }

unit_field : (b : Bool) → Field BLOCK_UNITS (1024 * bool_number b)
unit_field false = record { may = here refl; small = omega arith }
unit_field true = record { may = there (here refl); small = omega arith }

length_field : (b : Bool) → Field LENGTHS (2048 * bool_number b)
length_field false = record { may = here refl; small = omega arith }
length_field true = record { may = there (here refl); small = omega arith }

app_field : (b : Bool) → Field APPLICATION_FLAGS (4096 * bool_number b)
app_field false = record { may = here refl; small = omega arith }
app_field true = record { may = there (here refl); small = omega arith }

width_field : (w : Width) → Field WIDTHS (1048576 * width_number w)
width_field One = record { may = here refl; small = omega arith }
width_field Four = record { may = there (here refl); small = omega arith }
width_field Eight = record { may = there (there (here refl)); small = omega arith }

partition_field : (p : Partition) → Field PARTITIONS (16777216 * partition_number p)
partition_field User = record { may = here refl; small = omega arith }
partition_field Boot1 = record { may = there (here refl); small = omega arith }
partition_field Boot2 = record { may = there (there (here refl)); small = omega arith }

error_field : (b : Bool) → Field ERRORS (67108864 * bool_number b)
error_field false = record { may = here refl; small = omega arith }
error_field true = record { may = there (here refl); small = omega arith }

lines_small : (w : Width) → 8192 + 4194304 * width_number w < 134217728
lines_small One = omega arith
lines_small Four = omega arith
lines_small Eight = omega arith

-- a shape of a list, whose code is below a bound
record Has (xs : List Shape) (code bound : ℕ) : Type 0 where
  may : May xs (with_code code)
  small : code < bound

with_more : (ns : List ℕ) (xs : List Shape) (code n bound : ℕ) → Has xs code bound → Field ns n → bound ≤ 1342177280 →
    Has (spread ns xs) (code + n) (bound + 134217728)
with_more ns xs code n bound h f le =
    let below : code + n ≤ 2 ^ 64 - 1 = omega (arith, h.small, f.small, le) in
    record {
      may = May-each (λ s. map (with_field s) ns) (with_code code) h.may
          (subst (λ v. May (map (with_field (with_code code)) ns) (with_code v)) (min-eq_left below) (May-map (with_field (with_code code)) f.may));
      small = omega (arith, h.small, f.small);
    }

-- each combination is there
combined : (lines w : Width) (s : State) (t : Transfer) (e : EraseStage) (u l a x : Bool) (p : Partition) →
    May (all_fields lines) (with_code ((8192 + 4194304 * width_number lines) + state_number s + 16 * transfer_number t + 256 * erase_number e
    + 1024 * bool_number u + 2048 * bool_number l + 4096 * bool_number a + 1048576 * width_number w + 16777216 * partition_number p
    + 67108864 * bool_number x))
combined lines w s t e u l a x p =
    let h0 : Has (matched_code lines ∷ []) (8192 + 4194304 * width_number lines) 134217728 = record { may = here refl; small = lines_small lines } in
    let h1 = with_more STATES _ _ _ _ h0 (state_field s) (omega arith) in
    let h2 = with_more TRANSFERS _ _ _ _ h1 (transfer_field t) (omega arith) in
    let h3 = with_more ERASE_STAGES _ _ _ _ h2 (erase_field e) (omega arith) in
    let h4 = with_more BLOCK_UNITS _ _ _ _ h3 (unit_field u) (omega arith) in
    let h5 = with_more LENGTHS _ _ _ _ h4 (length_field l) (omega arith) in
    let h6 = with_more APPLICATION_FLAGS _ _ _ _ h5 (app_field a) (omega arith) in
    let h7 = with_more WIDTHS _ _ _ _ h6 (width_field w) (omega arith) in
    let h8 = with_more PARTITIONS _ _ _ _ h7 (partition_field p) (omega arith) in
    (with_more ERRORS _ _ _ _ h8 (error_field x) (omega arith)).may

sum_is : (s t e u l a m f w p x n q : ℕ) → m ≡ 1 → f ≡ 0 → q ≡ 0 →
    (8192 + 4194304 * n) + s + 16 * t + 256 * e + 1024 * u + 2048 * l + 4096 * a + 1048576 * w + 16777216 * p + 67108864 * x
    ≡ s + 16 * t + 256 * e + 1024 * u + 2048 * l + 4096 * a + 8192 * m + 65536 * f + (1048576 * w + 16777216 * p + 67108864 * x) + 4194304 * n
    + 4294967296 * q
sum_is s t e u l a m f w p x n q e1 e2 e3 = omega (arith, e1, e2, e3)

code_is : (f : Fields) → f.matched ≡ true → f.flags ≡ 0 → f.preset ≡ 0 →
    (8192 + 4194304 * width_number f.lines) + state_number f.state + 16 * transfer_number f.transfer + 256 * erase_number f.erase
    + 1024 * bool_number f.block_unit + 2048 * bool_number f.length_512 + 4096 * bool_number f.app + 1048576 * width_number f.mode.width
    + 16777216 * partition_number f.mode.partition + 67108864 * bool_number f.mode.error ≡ code_of f
unfolding code_of
code_is f matched flags preset =
    sum_is (state_number f.state) (transfer_number f.transfer) (erase_number f.erase) (bool_number f.block_unit) (bool_number f.length_512)
    (bool_number f.app) (bool_number f.matched) f.flags (width_number f.mode.width) (partition_number f.mode.partition) (bool_number f.mode.error)
    (width_number f.lines) f.preset (ap bool_number matched) flags preset

pub any_covers : (k : Kind) (rca : ℕ) (lines : Width) (c : Card) (h : Host) → IsRunning k rca lines c h → May (any_shapes k lines) (shape_of c h)
any_covers k rca lines c h r =
    let f : Fields = view c h in
    let there_is : May (all_fields h.lines) (shape_of c h) =
    subst (λ v. May (all_fields h.lines) (with_code v)) (code_is f r.matched r.flags r.preset)
    (combined h.lines f.mode.width f.state f.transfer f.erase f.block_unit f.length_512 f.app f.mode.error f.mode.partition) in
    let is_one : is_shape_at k (shape_of c h) ≡ true =
    ap (is_shape_read k) (fields_law f r.pair.flags r.pair.card.preset) ∙ pairs_have_shapes k c h r.pair in
    subst (λ v. May (any_shapes k v) (shape_of c h)) r.lines_are (May-filter (is_shape_at k) there_is is_one)
