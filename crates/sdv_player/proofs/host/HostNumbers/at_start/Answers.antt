use Rattle.std.proofs.Common.{[], ◌∷◌, ap}
use Rattle.std.proofs.lemmas.List.{take-replicate}
use Rattle.sdv_player.specs.Seen.{no_registers, host_of}
use Rattle.sdv_player.proofs.host.HostNumbers.at_start.Goals as goal

pub returns-clause-host : goal.returns-clause-host
returns-clause-host c = λ few.
    ap (λ ns. record (host_of (record {
      variables = 0 ∷ 0 ∷ 0 ∷ 0 ∷ 0 ∷ 0 ∷ 0 ∷ 0 ∷ [];
      csd_blocks = 0;
      ext_blocks = 0;
      ext_boot = 0;
      declared = c.args.declared;
      kind = c.args.kind;
      lines = 1;
      csd_read = 0;
      ext_read = 0;
      rca = 0;
      announced = 0;
      register_length = 0;
      flags = 0;
    }) no_registers) { numbers = ns })
    (take-replicate c.args.declared 8 0 few)
