use Rattle.std.proofs.Common.{rules}
use Rattle.sdv_graph.proofs.moves.+moves.Goals as goal

pub moves_of_stmt-returns-in-Loop : goal.moves_of_stmt-returns-in-Loop
moves_of_stmt-returns-in-Loop t c = search rules
