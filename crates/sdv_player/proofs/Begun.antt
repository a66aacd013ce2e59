-- The words of a table begin the run of its graph.
use Rattle.std.proofs.Common.{◌≡◌, ℕ, ◌+◌, ◌*◌, ◌/◌, ◌%◌, ◌==◌, ◌<◌, ◌≤◌, List, [], length, slice_index, refl, ap, sym, ◌∙◌, subst, inl, arith, lit<}
use Rattle.std.specs.Prelude.{◌&&◌, nat_le, Bool, true, if◌then◌else◌}
use Rattle.std.proofs.lemmas.Bool.{eq-eqb, le-leb}
use Rattle.sdv_registers.specs.declared.kind.Kind.{Kind}
use Rattle.sdv_registers.specs.declared.kind.Kind.TheVariants.{Sd, Emmc}
use Rattle.sdv_card.specs.Profile.{host_at_start}
use Rattle.sdv_graph.specs.Path.{arrive, turns_at}
use Rattle.sdv_graph.specs.Graph.{Graph, begin}
use Rattle.sdv_graph.specs.GraphOf.{IsSound}
use Rattle.sdv_run.specs.Machine.{CanGoOn, at_start}
use Rattle.sdv_run.proofs.AtPoints.{begins_sitting}
use Rattle.sdv_table.specs.Fits.{IsTable}
use Rattle.sdv_table.specs.Reading.{target_of, number_at, commands_read}
use Rattle.sdv_table.specs.Table.{kind_code, table_of}
use Rattle.sdv_table.proofs.Greatest.{target_grown}
use Rattle.sdv_table.proofs.Inverse.{target_back, number_back}
use Rattle.sdv_table.proofs.WellFormed.{table_is_well_formed}
use Rattle.sdv_player.specs.declared.state.State.{State}
use Rattle.sdv_player.specs.Play.{has_header, Begins}
use Rattle.sdv_player.specs.Seen.{no_registers, Remembers, kind_of, turns_of, host_of, stand_of}
use Rattle.sdv_player.specs.StandsFor.{run_of}

kind_small : (k : Kind) → kind_code k < 2
kind_small Sd = lit< tt
kind_small Emmc = lit< tt

kind_back : (k : Kind) → (if kind_code k == 0 then Sd else Emmc) ≡ k
kind_back Sd = refl
kind_back Emmc = refl

-- the parts of a header's words: version, kind and counts; points and size
record Parts (word k n : ℕ) : Type 0 where
  version_is : word % 256 ≡ 2
  kind_is : word / 256 % 256 ≡ k
  numbers_is : word / 65536 % 256 ≡ n

parts_of : (word k n f : ℕ) → word ≡ 2 + 256 * (k + 256 * (n + 256 * f)) → k < 2 → n ≤ 8 → f ≤ 4 → Parts word k n
parts_of word k n f is few_k few_n few_f = record { version_is = omega arith; kind_is = omega arith; numbers_is = omega arith }

-- what a player reads of a header
pub record Header (g : Graph) (most : ℕ) (ws : List ℕ) : Type 0 where
  pub magic_is : slice_index ws 0 ≡ 0x54564453
  pub version_is : slice_index ws 1 % 256 ≡ 2
  pub kind_is : slice_index ws 1 / 256 % 256 ≡ kind_code g.kind
  pub numbers_is : slice_index ws 1 / 65536 % 256 ≡ g.numbers
  pub size_is : slice_index ws 2 / 65536 ≡ length ws
  pub long : 8 ≤ length ws
  pub first_is : target_of (slice_index ws 3) ≡ g.first
  pub moves_is : number_at ws 4 ≡ g.steps
  pub commands_is : commands_read ws ≡ most

pub header_of : (g : Graph) (most : ℕ) (ws : List ℕ) → IsTable g most ws → Header g most ws
unfolding table_of
header_of g most ws table =
    let few = table.fits.counts in
    let well = table_is_well_formed g most ws table in
    let w1 : slice_index ws 1 ≡ 2 + 256 * (kind_code g.kind + 256 * (g.numbers + 256 * g.flags)) = ap (λ ws. slice_index ws 1) table.same in
    let parts = parts_of (slice_index ws 1) (kind_code g.kind) g.numbers g.flags w1 (kind_small g.kind) few.numbers few.flags in
    let inside = well.has_size.points in
    record {
      magic_is = well.has_magic;
      version_is = parts.version_is;
      kind_is = parts.kind_is;
      numbers_is = parts.numbers_is;
      size_is = well.has_size.size;
      long = omega (arith, inside);
      first_is = ap (λ ws. target_of (slice_index ws 3)) table.same
          ∙ target_back g.first (target_grown (length g.points) g.first few.points table.fits.first);
      moves_is = ap (λ ws. number_at ws 4) table.same ∙ number_back g.steps;
      commands_is = ap (λ ws. number_at ws 6) table.same ∙ number_back most;
    }

all_four : (a b c d : Bool) → a ≡ true → b ≡ true → c ≡ true → d ≡ true → a && b && c && d ≡ true
all_four a b c d p q r s = rw (p, q, r, s) refl

-- it is one
pub header_there : (g : Graph) (most : ℕ) (ws : List ℕ) → IsTable g most ws → has_header ws ≡ true
header_there g most ws table =
    let h = header_of g most ws table in
    all_four (slice_index ws 0 == 0x54564453) (slice_index ws 1 % 256 == 2) (slice_index ws 2 / 65536 == length ws) (nat_le 8 (length ws))
    (eq-eqb (slice_index ws 0) 0x54564453 h.magic_is) (eq-eqb (slice_index ws 1 % 256) 2 h.version_is)
    (eq-eqb (slice_index ws 2 / 65536) (length ws) h.size_is) (le-leb 8 (length ws) h.long)

-- a state at the start of the run
pub record IsFirst (g : Graph) (most : ℕ) (s : State) : Type 0 where
  pub kind : kind_of s.host ≡ g.kind
  pub host : host_of s.host no_registers ≡ host_at_start g.numbers
  pub remembers : Remembers s.host no_registers
  pub moves : s.moves ≡ g.steps
  pub commands : s.commands ≡ most
  pub point : s.place.point ≡ g.first.to
  pub turns : turns_of s.place ≡ turns_at g.first []
  pub asked : s.asked ≡ 0

pub kind_read_is : (g : Graph) (n : ℕ) → n ≡ kind_code g.kind → (if n == 0 then Sd else Emmc) ≡ g.kind
kind_read_is g n is = ap (λ n. if n == 0 then Sd else Emmc) is ∙ kind_back g.kind

pub begun : (g : Graph) (most : ℕ) (ws : List ℕ) (s : State) → IsTable g most ws → IsSound g → IsFirst g most s → Begins g most ws s
begun g most ws s table sound is =
    let stand : stand_of s no_registers ≡ begin g =
    ap (λ p. record { point = p; turns = turns_of s.place; host = host_of s.host no_registers }) is.point
    ∙ ap (λ ts. record { point = g.first.to; turns = ts; host = host_of s.host no_registers }) is.turns
    ∙ ap (λ h. arrive g.first [] h) is.host in
    let start : run_of g s no_registers ≡ at_start g =
    ap (λ v. record { graph = g; stand = v; left = s.moves }) stand
    ∙ ap (λ n. record { graph = g; stand = begin g; left = n }) is.moves in
    record {
      stands = record {
        table = subst (λ n. IsTable g n ws) (sym (header_of g most ws table).commands_is) table;
        kind = is.kind;
        remembers = is.remembers;
        on = subst CanGoOn (sym start) (record { sound = sound; lasts = sound.ends; sits = begins_sitting g sound });
        asked = inl is.asked;
      };
      start = start;
      commands = is.commands;
    }
