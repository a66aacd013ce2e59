-- What a trace tells of its host: its relative card address, its data lines, the CSD that it read last, and what it
-- announced. No line of a trace shows the script's variables and flags, and the bytes of an EXT_CSD.
use Rattle.std.specs.Prelude.{◌≡◌, ℕ, Option, Some, None}
use Rattle.sdv_card.specs.declared.state.Width.{Width}
use Rattle.sdv_card.specs.declared.state.Width.TheVariants.{One}
use Rattle.sdv_card.specs.declared.command.Order.{Order}
use Rattle.sdv_card.specs.declared.command.Order.TheVariants.{ReadSingleBlock, ReadMultipleBlock, WriteBlock, WriteMultipleBlock}
use Rattle.sdv_card.specs.declared.answer.Answer.{Answer}
use Rattle.sdv_card.specs.Host.{Host, rca_known, csd_known, register_length_by}
use Rattle.sdv_audit.specs.declared.known.HostKnown.{HostKnown}

-- before the first line
abbrev pub nothing_known : HostKnown
nothing_known = record {
  rca = 0;
  lines = One;
  csd = None;
  announced = Some 0;
  register_length = 0;
}

-- where nothing is known but the relative card address and the data lines; no register is on its way
abbrev pub known_running : (rca : ℕ) → (lines : Width) → HostKnown
known_running rca lines = record {
  rca = rca;
  lines = lines;
  csd = None;
  announced = None;
  register_length = 0;
}

-- a number is what is known of it, if it is known
abbrev pub IsIfKnown : Option ℕ → ℕ → Type 0
IsIfKnown None n = Unit {0}
IsIfKnown (Some known) n = n ≡ known

-- what is known of the host, which has no flags
pub record IsKnown (known : HostKnown) (h : Host) : Type 0 where
  pub rca : h.rca ≡ known.rca
  pub lines : h.lines ≡ known.lines
  pub csd : h.csd ≡ known.csd
  pub announced : IsIfKnown known.announced h.announced
  pub register_length : h.register_length ≡ known.register_length
  pub flags : h.flags ≡ 0

-- the blocks that were announced last, if they are known
abbrev pub announced_told : Order → Option ℕ → Option ℕ
announced_told ReadSingleBlock before = Some 1
announced_told (ReadMultipleBlock n) before = Some n
announced_told WriteBlock before = Some 1
announced_told (WriteMultipleBlock n) before = Some n
announced_told order before = before

-- after a command and what came of it
abbrev pub known_after_order : Option Order → Answer → HostKnown → HostKnown
known_after_order None answer known = known
known_after_order (Some order) answer known = record {
  rca = rca_known order answer known.rca;
  lines = known.lines;
  csd = csd_known order answer known.csd;
  announced = announced_told order known.announced;
  register_length = register_length_by order known.register_length;
}
