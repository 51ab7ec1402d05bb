use Rattle.worked.proofs.together.run_together.Given as goal

abbrev pub ghosts-run_together_with : goal.ghosts-run_together_with
ghosts-run_together_with g a = record { name = a.blank.name; parts = a.blank.parts }
