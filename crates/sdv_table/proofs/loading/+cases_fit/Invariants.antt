use Rattle.sdv_table.proofs.loading.+cases_fit.Given as goal

abbrev pub decreases-cases_fit : goal.decreases-cases_fit
decreases-cases_fit l = l.count
