use Rattle.std.proofs.Common.{◌≡◌, ◌∙◌, ◌==◌, ◌&&◌, ◌≤◌, true, false, not, length, sym, arith}
use Rattle.sdv_lines.specs.declared.line.TheConstants.{LONGEST}
use Rattle.sdv_lines.specs.Noise.{is_answer}
use Rattle.sdv_lines.specs.Texts.{trimmed}
use Rattle.sdv_lines.proofs.NoiseLaws.{clash, taken}
use Rattle.sdv_lines.proofs.noise.Front.take.Goals as goal

pub returns-then-ends_noise-clause-quiet : goal.returns-then-ends_noise-clause-quiet
returns-then-ends_noise-clause-quiet c =
    let held = c.args.self.now.held.items in
    let noise : (c.args.byte == 10) && not (is_answer (trimmed held)) ≡ true = sym c.ends_noise.ensures ∙ c.if-ends_noise.true in
    let short : length held ≤ LONGEST = omega (arith, c.requires.1) in
    taken c.args.self.now.most _ held _ c.args.byte c.requires.0 short (λ yes. (c.skip.ensures.most, c.skip.ensures.held)) (λ no. clash _ noise no)

pub returns-else-ends_noise-clause-quiet : goal.returns-else-ends_noise-clause-quiet
returns-else-ends_noise-clause-quiet c =
    let held = c.args.self.now.held.items in
    let noise : (c.args.byte == 10) && not (is_answer (trimmed held)) ≡ false = sym c.ends_noise.ensures ∙ c.if-ends_noise.false in
    let short : length held ≤ LONGEST = omega (arith, c.requires.1) in
    taken c.args.self.now.most _ held _ c.args.byte c.requires.0 short (λ yes. clash _ yes noise) (λ no. (c.hold.ensures.most, c.hold.ensures.held))
