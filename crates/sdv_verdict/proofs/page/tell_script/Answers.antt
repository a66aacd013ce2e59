use Rattle.sdv_verdict.proofs.page.tell_script.Goals as goal

pub returns-clause-told : goal.returns-clause-told
returns-clause-told c = record {
  script = c.args.script.now;
  same = c.requires.text;
  is_script = c.requires.script;
  graph = c.in-Ok.graph;
  of = c.in-Ok.ensures;
  verdict = c.in_ok-verdict.verdict;
  judged = c.in_ok-verdict.ensures;
  counts = c.is_clear-is_clear.ensures;
}
