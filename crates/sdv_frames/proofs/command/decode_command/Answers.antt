use Rattle.std.proofs.Common.{ap, subst}
use Rattle.std.specs.Prelude.{Ok}
use Rattle.std.proofs.lemmas.Result.{err_from_is_err_and}
use Rattle.sdv_frames.specs.Bits.{bits_of}
use Rattle.sdv_frames.specs.Fault.{HasNoFault}
use Rattle.sdv_frames.proofs.FaultLaws.{length_fits}
use Rattle.sdv_frames.proofs.FrameLaws.{command_found, one_command, no_command, may_refuse}
use Rattle.sdv_frames.proofs.command.decode_command.Goals as goal

pub returns-in_err-examine-clause-only : goal.returns-in_err-examine-clause-only
returns-in_err-examine-clause-only c d h s = absurd (no_command d c.of_command.result
    (bits_of c.args.bytes.now) c.of_command.ensures c.in_err-examine.ensures.err h s)

pub returns-in_err-examine-clause-faults : goal.returns-in_err-examine-clause-faults
returns-in_err-examine-clause-faults c =
    let p = err_from_is_err_and c.from_residual.result c.from_residual.ensures.1 in
    rw (p.1, p.2) (may_refuse c.of_command.result (bits_of c.args.bytes.now) c.of_command.ensures
    (length_fits c.args.bytes.now 6 c.told-bytes) c.in_err-examine.ensures.err)

pub returns-clause-found : goal.returns-clause-found
returns-clause-found c =
    command_found c.args.bytes.now c.from_be_bytes.result c.told-bytes c.fits-bytes c.from_be_bytes.type_inv c.from_be_bytes.ensures
    (subst (λ l. HasNoFault l (bits_of c.args.bytes.now)) c.of_command.ensures c.in_ok-examine.ensures.ok)

pub returns-clause-only : goal.returns-clause-only
returns-clause-only c d h s =
    let found = command_found c.args.bytes.now c.from_be_bytes.result c.told-bytes c.fits-bytes c.from_be_bytes.type_inv c.from_be_bytes.ensures
    (subst (λ l. HasNoFault l (bits_of c.args.bytes.now)) c.of_command.ensures c.in_ok-examine.ensures.ok) in
    ap Ok (one_command _ d (bits_of c.args.bytes.now) found.0 h found.1 s)
