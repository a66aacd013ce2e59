use Rattle.std.proofs.Common.{rules, subst}
use Rattle.sdv_facts.proofs.StepLaws.{Laws}
use Rattle.sdv_check.proofs.PromiseLaws.{promised}
use Rattle.sdv_check.proofs.checker.accept_by.Goals as goal

pub returns-clause-checked : goal.returns-clause-checked
returns-clause-checked g c = search rules

pub returns-clause-promised : goal.returns-clause-promised
returns-clause-promised g c =
    let table = g.met.T.CardTable in
    let laws : Laws g.T.CardTable.kind = record {
      legal_is_exact = table.legal_is_exact;
      has_step = table.has_step;
      steps_are_outcomes = table.steps_are_outcomes;
      steps_are_expected = table.steps_are_expected;
      steps_keep_pairs = table.steps_keep_pairs;
      steps_keep_same = table.steps_keep_same;
      steps_keep_sound = table.steps_keep_sound;
      steps_keep_on_card = table.steps_keep_on_card;
      asks_address = table.asks_address;
      starts_hold = table.starts_hold;
      verdicts_hold = table.verdicts_hold;
    } in
    promised c.args.graph.now c.args.certificate.now.points (subst (λ k. Laws k) c.requires laws) c.first-first.ensures.sound c.check_by.result c.check_by.ensures
