use Rattle.std.proofs.Common.{sym, subst}
use Rattle.std.proofs.Math.Logic.{∥∥₁_map}
use Rattle.std.specs.Prelude.{List}
use Rattle.sdv_driver.specs.Driver.{IsDriver}
use Rattle.sdv_driver.specs.Fits.{EachFits}
use Rattle.sdv_driver.specs.Shown.{shown}
use Rattle.sdv_driver.specs.Views.{entries_of}
use Rattle.sdv_driver.specs.declared.tree.Entry.{Entry as Kept}
use Rattle.sdv_driver.proofs.LinesFound.{parts}
use Rattle.sdv_driver.proofs.driver.Driver.graphs.Goals as goal

pub add_graphs-requires-clause-fits : goal.add_graphs-requires-clause-fits
add_graphs-requires-clause-fits c =
    ∥∥₁_map c.args.self.now.is_driver (λ (is : IsDriver (shown c.args.self.now)). (
      (shown c.args.self.now).tree.names,
      subst (λ (es : List Kept). EachFits (shown c.args.self.now).tree.names (entries_of es)) (sym c.deref.ensures.value)
          (parts (shown c.args.self.now) is).1,
    ))

pub add_graphs-requires-clause-located : goal.add_graphs-requires-clause-located
add_graphs-requires-clause-located c = rw (c.deref.ensures.value, c.deref-2.ensures.value) c.args.self.now.located
