use Rattle.worked.proofs.case.answer_case.Given as goal

abbrev pub ghosts-run-A-Ledger : goal.ghosts-run-A-Ledger
ghosts-run-A-Ledger g a = record { name = a.reads.name; parts = a.reads.parts }

abbrev pub ghosts-run-B-Ledger : goal.ghosts-run-B-Ledger
ghosts-run-B-Ledger g a = record { name = a.read_failures.name; parts = a.read_failures.parts }

abbrev pub ghosts-run-C-Ledger : goal.ghosts-run-C-Ledger
ghosts-run-C-Ledger g a = record { name = a.writes.name; parts = a.writes.parts }

abbrev pub ghosts-run-D-Ledger : goal.ghosts-run-D-Ledger
ghosts-run-D-Ledger g a = record { name = a.write_failures.name; parts = a.write_failures.parts }

abbrev pub ghosts-run-E-Ledger : goal.ghosts-run-E-Ledger
ghosts-run-E-Ledger g a = record { name = a.tick_failures.name; parts = a.tick_failures.parts }
