use Rattle.std.proofs.Common.{[], subst}
use Rattle.std.specs.Io.KnownBytes.{Consumes, IsAtEnd}
use Rattle.sdv_lines.specs.Fronts.{Nexts}
use Rattle.sdv_lines.proofs.NoiseLaws.{quiets_ended}
use Rattle.sdv_lines.proofs.noise.Quieted.advance.Goals as goal

pub returns-in_default-clause-same : goal.returns-in_default-clause-same
returns-in_default-clause-same g c =
    let known = g.R.Read.remaining c.args.self.now.reader in
    let known' = g.R.Read.remaining c.next_byte.new.reader in
    let ended : Consumes known known' [] × IsAtEnd known' = subst (λ next. Nexts known known' next) c.in_default.is c.in_ok-byte.ensures in
    quiets_ended c.args.self.now.front.most c.args.self.now.front.held.items known known' ended.0 ended.1
