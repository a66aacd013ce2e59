use Rattle.sdv_explain.proofs.refusal.refusal_of.Goals as goal

pub returns-clause-refusal : goal.returns-clause-refusal
returns-clause-refusal c = record {
  fault = c.in-Some.is;
  refused = c.failure_named-refused.ensures.refused;
  none = c.failure_named-refused.ensures.none;
  way = c.in_ok-way.ensures;
  failures = c.in_ok-failures.ensures;
}
