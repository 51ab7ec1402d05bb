use Rattle.boxoffice.proofs.main.Given as goal

abbrev pub ghosts-run_words-A-Ledger : goal.ghosts-run_words-A-Ledger
ghosts-run_words-A-Ledger a = record { name = a.reads.name; parts = a.reads.parts }

abbrev pub ghosts-run_words-B-Ledger : goal.ghosts-run_words-B-Ledger
ghosts-run_words-B-Ledger a = record { name = a.read_failures.name; parts = a.read_failures.parts }

abbrev pub ghosts-run_words-C-Ledger : goal.ghosts-run_words-C-Ledger
ghosts-run_words-C-Ledger a = record { name = a.writes.name; parts = a.writes.parts }

abbrev pub ghosts-run_words-D-Ledger : goal.ghosts-run_words-D-Ledger
ghosts-run_words-D-Ledger a = record { name = a.write_failures.name; parts = a.write_failures.parts }
