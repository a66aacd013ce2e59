-- THE STATUS after a write: the walk halts, or no error is left to be shown.
use Rattle.std.proofs.Common.{◌≡◌, inl, inr, refl, false, List, [], ◌∷◌}
use Rattle.std.specs.Prelude.{◌⊎◌, codes}
use Rattle.sdv_registers.specs.declared.kind.Kind.{Kind}
use Rattle.sdv_card.specs.declared.guard.Guard.{Guard}
use Rattle.sdv_card.specs.declared.guard.Guard.TheVariants.{Clean, State as InState}
use Rattle.sdv_card.specs.declared.state.State.TheVariants.{Tran}
use Rattle.sdv_card.specs.Card.{Card}
use Rattle.sdv_card.specs.Host.{Host}
use Rattle.sdv_graph.specs.Tree.{Statements, first, send}
use Rattle.sdv_graph.specs.Walk.{Pair, Ending, Rest, walk_statements}
use Rattle.sdv_card.proofs.Members.{and_left, and_right}
use Rattle.sdv_block.specs.RequestStatements.{status_command, only_if}
use Rattle.sdv_block.specs.Served.{AllowedSteps}
use Rattle.sdv_block.proofs.Asking.{Asked, asked_part}
use Rattle.sdv_block.proofs.CardSteps.{status_keeps, no_error_left}
use Rattle.sdv_block.proofs.Parts.{argument_at, Past}
use Rattle.sdv_block.proofs.Quiet.{Quiet, HaltedQuiet}

-- a clean status in transfer state shows that no error is left
pub record ShownClean (c : Card) (h : Host) (front : List Pair) (u : Card) (h' : Host) : Type 0 where
  pub quiet : Quiet c h front u h'
  pub no_error : c.unshown_error ≡ false

module _ (k : Kind) (e : Ending) (rest : Statements) (fell broke : Rest) (h : Host) (es : List Pair) (c last : Card) where
  abbrev guards : List Guard
  guards = Clean ∷ InState Tran ∷ []

  abbrev on_status : Rest
  on_status = walk_statements k e rest fell broke

  abbrev Outcome : Type 0
  Outcome = HaltedQuiet e es c last ⊎ Past (ShownClean c h) on_status es last

  of_asked : HaltedQuiet e es c last ⊎ Past (Asked k status_command guards c h) on_status es last → Outcome
  of_asked (inl halt) = inl halt
  of_asked (inr w) = inr (record {
    front = w.front;
    rest = w.rest;
    card = w.card;
    host = w.host;
    split = w.split;
    did = record {
      quiet = w.did.quiet;
      no_error = no_error_left k (argument_at k status_command h w.did.position) c w.card w.did.answer w.did.sends (and_left _ _ w.did.passed)
          (and_left _ _ (and_right _ _ w.did.passed));
    };
    on = w.on;
    steps = w.steps;
  })

  pub status_part : walk_statements k e (first (send status_command (only_if guards (codes "write"))) rest) fell broke h es → AllowedSteps c es last → Outcome
  status_part walk steps = of_asked (asked_part k e status_command guards (codes "write") status_keeps refl on_status broke h es c last walk steps)
