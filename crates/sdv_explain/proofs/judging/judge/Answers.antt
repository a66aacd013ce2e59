use Rattle.sdv_explain.proofs.judging.judge.Goals as goal

pub returns-in-Ok-check : goal.returns-in-Ok-check
returns-in-Ok-check c script is =
    let found = c.in-Ok.ensures.found in
    let closed = c.in-Ok-check.ensures.checked in
    record {
      graph = c.args.graph.now;
      is_graph = is;
      says = (
        record { graph = c.args.graph.now; bound = c.in-Ok-check.bound },
        record {
          graph = is;
          facts = c.in-Ok.certificate;
          text = record { limits = found.0; written = found.1 };
          closed = closed.0;
          bound = closed.1;
        },
        c.in_ok-accepted_page-in-Ok-check.ensures,
      );
    }

pub returns : goal.returns
returns c script is =
    let found = c.in-Ok.ensures.found in
    record {
      graph = c.args.graph.now;
      is_graph = is;
      says = record {
        flow = c.args.graph.now;
        graph = is;
        facts = c.in-Ok.certificate;
        text = record { limits = found.0; written = found.1 };
        fails = c.in-Err-check.ensures.checked;
      };
    }
