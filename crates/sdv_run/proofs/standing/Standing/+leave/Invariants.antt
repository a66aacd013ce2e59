use Rattle.sdv_run.proofs.standing.Standing.+leave.Given as goal

abbrev pub decreases-leave : goal.decreases-leave
decreases-leave l = l.loops
