use Rattle.tests_callers.proofs.party.Party.serve.Given as goal

abbrev pub ghosts-run_plan_with-L-Ledger : goal.ghosts-run_plan_with-L-Ledger
ghosts-run_plan_with-L-Ledger g a = record { name = a.blanks.0.name; parts = a.blanks.0.parts }

abbrev pub ghosts-run_plan_with-M-Ledger : goal.ghosts-run_plan_with-M-Ledger
ghosts-run_plan_with-M-Ledger g a = record { name = a.blanks.1.name; parts = a.blanks.1.parts }
