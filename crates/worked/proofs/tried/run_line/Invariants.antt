use Rattle.worked.proofs.tried.run_line.Given as goal

abbrev pub ghosts-run_line_with-A-Ledger : goal.ghosts-run_line_with-A-Ledger
ghosts-run_line_with-A-Ledger g a = record { name = a.reads.name; parts = a.reads.parts }

abbrev pub ghosts-run_line_with-B-Ledger : goal.ghosts-run_line_with-B-Ledger
ghosts-run_line_with-B-Ledger g a = record { name = a.read_failures.name; parts = a.read_failures.parts }

abbrev pub ghosts-run_line_with-C-Ledger : goal.ghosts-run_line_with-C-Ledger
ghosts-run_line_with-C-Ledger g a = record { name = a.written.name; parts = a.written.parts }

abbrev pub ghosts-run_line_with-D-Ledger : goal.ghosts-run_line_with-D-Ledger
ghosts-run_line_with-D-Ledger g a = record { name = a.write_failures.name; parts = a.write_failures.parts }
