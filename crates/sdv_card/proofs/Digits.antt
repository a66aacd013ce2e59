-- A code is read back: the digits of a sum of digits are those digits.
use Rattle.std.proofs.Common.{◌≡◌, ℕ, ◌+◌, ◌*◌, ◌/◌, ◌%◌, ◌<◌, refl, ap, ◌∙◌, Bool, true, false, ◌==◌, Some, None, if◌then◌else◌, rules, arith}
use Rattle.sdv_card.specs.declared.state.State.{State}
use Rattle.sdv_card.specs.declared.state.State.TheVariants.{Idle, Ready, Ident, Stby, Tran, Data, Rcv, Prg, Dis}
use Rattle.sdv_card.specs.declared.state.Transfer.{Transfer}
use Rattle.sdv_card.specs.declared.state.Transfer.TheVariants.{Nothing, ReadDue, OpenReadDue, ScrDue, SdStatusDue, ExtCsdDue, ReadOver, OpenReadOver, WriteDue, OpenWriteDue, WriteOver, OpenWriteOver}
use Rattle.sdv_card.specs.declared.state.EraseStage.{EraseStage}
use Rattle.sdv_card.specs.declared.state.EraseStage.TheVariants.{Outside, Begun, Both}
use Rattle.sdv_card.specs.declared.fields.Fields.{Fields}
use Rattle.sdv_card.specs.declared.state.Width.{Width}
use Rattle.sdv_card.specs.declared.state.Width.TheVariants.{One, Four, Eight}
use Rattle.sdv_card.specs.declared.state.Partition.{Partition}
use Rattle.sdv_card.specs.declared.state.Partition.TheVariants.{User, Boot1, Boot2}
use Rattle.sdv_card.specs.declared.state.Mode.{Mode}
use Rattle.sdv_card.specs.Modes.{width_number, partition_number}
use Rattle.sdv_card.specs.States.{state_number}
use Rattle.sdv_card.specs.Code.{code_of, digits, fields_of, transfer_number, erase_number, bool_number, state_of, transfer_of, erase_of, width_of, partition_of}

abbrev fields : State → Transfer → EraseStage → Bool → Bool → Bool → Bool → Mode → Width → ℕ → ℕ → Fields
fields s t e b l a m o w f p = record {
  state = s;
  transfer = t;
  erase = e;
  block_unit = b;
  length_512 = l;
  app = a;
  matched = m;
  mode = o;
  lines = w;
  flags = f;
  preset = p;
}

-- fields are the same if their parts are
pub same_fields : {s s' : State} {t t' : Transfer} {e e' : EraseStage} {b b' l l' a a' m m' : Bool} {o o' : Mode} {w w' : Width} {f f' p p' : ℕ} →
    s ≡ s' → t ≡ t' → e ≡ e' → b ≡ b' → l ≡ l' → a ≡ a' → m ≡ m' → o ≡ o' → w ≡ w' → f ≡ f' → p ≡ p' →
    fields s t e b l a m o w f p ≡ fields s' t' e' b' l' a' m' o' w' f' p'
same_fields hs ht he hb hl ha hm ho hw hf hp = cc

-- a mode is the same if its parts are
abbrev mode : Width → Partition → Bool → Mode
mode w q x = record { width = w; partition = q; error = x }

same_mode : {w w' : Width} {q q' : Partition} {x x' : Bool} → w ≡ w' → q ≡ q' → x ≡ x' →
    mode w q x ≡ mode w' q' x'
same_mode hw hq hx = cc

-- the number of thirteen digits
sum : ℕ → ℕ → ℕ → ℕ → ℕ → ℕ → ℕ → ℕ → ℕ → ℕ → ℕ → ℕ → ℕ → ℕ
sum s t e u l a m f w h q x p =
    s + 16 * t + 256 * e + 1024 * u + 2048 * l + 4096 * a + 8192 * m + 65536 * f + (1048576 * w + 16777216 * q + 67108864 * x) + 4194304 * h
    + 4294967296 * p

record Small (s t e u l a m f w h q x p : ℕ) : Type 0 where
  hs : s < 16
  ht : t < 16
  he : e < 4
  hu : u < 2
  hl : l < 2
  ha : a < 2
  hm : m < 2
  hf : f < 16
  hw : w < 4
  hh : h < 4
  hq : q < 4
  hx : x < 2
  hp : p < 65536

ds : (s t e u l a m f w h q x p : ℕ) → Small s t e u l a m f w h q x p → sum s t e u l a m f w h q x p % 16 ≡ s
unfolding sum
ds s t e u l a m f w h q x p k = omega arith

dt : (s t e u l a m f w h q x p : ℕ) → Small s t e u l a m f w h q x p → sum s t e u l a m f w h q x p / 16 % 16 ≡ t
unfolding sum
dt s t e u l a m f w h q x p k = omega arith

de : (s t e u l a m f w h q x p : ℕ) → Small s t e u l a m f w h q x p → sum s t e u l a m f w h q x p / 256 % 4 ≡ e
unfolding sum
de s t e u l a m f w h q x p k = omega arith

du : (s t e u l a m f w h q x p : ℕ) → Small s t e u l a m f w h q x p → sum s t e u l a m f w h q x p / 1024 % 2 ≡ u
unfolding sum
du s t e u l a m f w h q x p k = omega arith

dl : (s t e u l a m f w h q x p : ℕ) → Small s t e u l a m f w h q x p → sum s t e u l a m f w h q x p / 2048 % 2 ≡ l
unfolding sum
dl s t e u l a m f w h q x p k = omega arith

da : (s t e u l a m f w h q x p : ℕ) → Small s t e u l a m f w h q x p → sum s t e u l a m f w h q x p / 4096 % 2 ≡ a
unfolding sum
da s t e u l a m f w h q x p k = omega arith

dm : (s t e u l a m f w h q x p : ℕ) → Small s t e u l a m f w h q x p → sum s t e u l a m f w h q x p / 8192 % 2 ≡ m
unfolding sum
dm s t e u l a m f w h q x p k = omega arith

df : (s t e u l a m f w h q x p : ℕ) → Small s t e u l a m f w h q x p → sum s t e u l a m f w h q x p / 65536 % 16 ≡ f
unfolding sum
df s t e u l a m f w h q x p k = omega arith

dw : (s t e u l a m f w h q x p : ℕ) → Small s t e u l a m f w h q x p → sum s t e u l a m f w h q x p / 1048576 % 4 ≡ w
unfolding sum
dw s t e u l a m f w h q x p k = omega arith

dh : (s t e u l a m f w h q x p : ℕ) → Small s t e u l a m f w h q x p → sum s t e u l a m f w h q x p / 4194304 % 4 ≡ h
unfolding sum
dh s t e u l a m f w h q x p k = omega arith

dq : (s t e u l a m f w h q x p : ℕ) → Small s t e u l a m f w h q x p → sum s t e u l a m f w h q x p / 16777216 % 4 ≡ q
unfolding sum
dq s t e u l a m f w h q x p k = omega arith

dx : (s t e u l a m f w h q x p : ℕ) → Small s t e u l a m f w h q x p → sum s t e u l a m f w h q x p / 67108864 % 2 ≡ x
unfolding sum
dx s t e u l a m f w h q x p k = omega arith

dp : (s t e u l a m f w h q x p : ℕ) → Small s t e u l a m f w h q x p → sum s t e u l a m f w h q x p / 4294967296 % 65536 ≡ p
unfolding sum
dp s t e u l a m f w h q x p k = omega arith

state_of-number : (x : State) → state_of (state_number x) ≡ x
state_of-number Idle = refl
state_of-number Ready = refl
state_of-number Ident = refl
state_of-number Stby = refl
state_of-number Tran = refl
state_of-number Data = refl
state_of-number Rcv = refl
state_of-number Prg = refl
state_of-number Dis = refl

state_number-small : (x : State) → state_number x < 16
state_number-small Idle = omega arith
state_number-small Ready = omega arith
state_number-small Ident = omega arith
state_number-small Stby = omega arith
state_number-small Tran = omega arith
state_number-small Data = omega arith
state_number-small Rcv = omega arith
state_number-small Prg = omega arith
state_number-small Dis = omega arith

transfer_of-number : (x : Transfer) → transfer_of (transfer_number x) ≡ x
transfer_of-number Nothing = refl
transfer_of-number ReadDue = refl
transfer_of-number OpenReadDue = refl
transfer_of-number ScrDue = refl
transfer_of-number SdStatusDue = refl
transfer_of-number ExtCsdDue = refl
transfer_of-number ReadOver = refl
transfer_of-number OpenReadOver = refl
transfer_of-number WriteDue = refl
transfer_of-number OpenWriteDue = refl
transfer_of-number WriteOver = refl
transfer_of-number OpenWriteOver = refl

transfer_number-small : (x : Transfer) → transfer_number x < 16
transfer_number-small Nothing = omega arith
transfer_number-small ReadDue = omega arith
transfer_number-small OpenReadDue = omega arith
transfer_number-small ScrDue = omega arith
transfer_number-small SdStatusDue = omega arith
transfer_number-small ExtCsdDue = omega arith
transfer_number-small ReadOver = omega arith
transfer_number-small OpenReadOver = omega arith
transfer_number-small WriteDue = omega arith
transfer_number-small OpenWriteDue = omega arith
transfer_number-small WriteOver = omega arith
transfer_number-small OpenWriteOver = omega arith

erase_of-number : (x : EraseStage) → erase_of (erase_number x) ≡ x
erase_of-number Outside = refl
erase_of-number Begun = refl
erase_of-number Both = refl

erase_number-small : (x : EraseStage) → erase_number x < 4
erase_number-small Outside = omega arith
erase_number-small Begun = omega arith
erase_number-small Both = omega arith

bool_of-number : (b : Bool) → (bool_number b == 1) ≡ b
bool_of-number true = refl
bool_of-number false = refl

bool_number-small : (b : Bool) → bool_number b < 2
bool_number-small true = omega arith
bool_number-small false = omega arith

width_of-number : (x : Width) → width_of (width_number x) ≡ x
width_of-number One = refl
width_of-number Four = refl
width_of-number Eight = refl

width_number-small : (x : Width) → width_number x < 4
width_number-small One = omega arith
width_number-small Four = omega arith
width_number-small Eight = omega arith

partition_of-number : (x : Partition) → partition_of (partition_number x) ≡ x
partition_of-number User = refl
partition_of-number Boot1 = refl
partition_of-number Boot2 = refl

partition_number-small : (x : Partition) → partition_number x < 4
partition_number-small User = omega arith
partition_number-small Boot1 = omega arith
partition_number-small Boot2 = omega arith

-- the digits of a code are its fields
pub digits_law : (f : Fields) → f.flags < 16 → f.preset < 65536 → digits (code_of f) ≡ f
unfolding digits code_of sum
digits_law f flags preset =
    let h : Small (state_number f.state) (transfer_number f.transfer) (erase_number f.erase) (bool_number f.block_unit)
    (bool_number f.length_512) (bool_number f.app) (bool_number f.matched) f.flags (width_number f.mode.width) (width_number f.lines)
    (partition_number f.mode.partition) (bool_number f.mode.error) f.preset =
    record {
      hs = state_number-small f.state;
      ht = transfer_number-small f.transfer;
      he = erase_number-small f.erase;
      hu = bool_number-small f.block_unit;
      hl = bool_number-small f.length_512;
      ha = bool_number-small f.app;
      hm = bool_number-small f.matched;
      hf = flags;
      hw = width_number-small f.mode.width;
      hh = width_number-small f.lines;
      hq = partition_number-small f.mode.partition;
      hx = bool_number-small f.mode.error;
      hp = preset;
    } in
    same_fields
    (ap state_of (ds _ _ _ _ _ _ _ _ _ _ _ _ _ h) ∙ state_of-number f.state)
    (ap transfer_of (dt _ _ _ _ _ _ _ _ _ _ _ _ _ h) ∙ transfer_of-number f.transfer)
    (ap erase_of (de _ _ _ _ _ _ _ _ _ _ _ _ _ h) ∙ erase_of-number f.erase)
    (ap (λ n. n == 1) (du _ _ _ _ _ _ _ _ _ _ _ _ _ h) ∙ bool_of-number f.block_unit)
    (ap (λ n. n == 1) (dl _ _ _ _ _ _ _ _ _ _ _ _ _ h) ∙ bool_of-number f.length_512)
    (ap (λ n. n == 1) (da _ _ _ _ _ _ _ _ _ _ _ _ _ h) ∙ bool_of-number f.app)
    (ap (λ n. n == 1) (dm _ _ _ _ _ _ _ _ _ _ _ _ _ h) ∙ bool_of-number f.matched)
    (same_mode (ap width_of (dw _ _ _ _ _ _ _ _ _ _ _ _ _ h) ∙ width_of-number f.mode.width)
    (ap partition_of (dq _ _ _ _ _ _ _ _ _ _ _ _ _ h) ∙ partition_of-number f.mode.partition)
    (ap (λ n. n == 1) (dx _ _ _ _ _ _ _ _ _ _ _ _ _ h) ∙ bool_of-number f.mode.error))
    (ap width_of (dh _ _ _ _ _ _ _ _ _ _ _ _ _ h) ∙ width_of-number f.lines)
    (df _ _ _ _ _ _ _ _ _ _ _ _ _ h) (dp _ _ _ _ _ _ _ _ _ _ _ _ _ h)

-- a code is read back
pub fields_law : (f : Fields) → f.flags < 16 → f.preset < 65536 → fields_of (code_of f) ≡ Some f
unfolding fields_of
fields_law f flags preset = rw (digits_law f flags preset) (go (code_of f) f)
  where
    go : (n : ℕ) (f : Fields) → (if n == n then Some f else None) ≡ Some f
    go n f = search rules
