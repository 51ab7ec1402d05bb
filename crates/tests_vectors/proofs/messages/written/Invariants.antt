use Rattle.tests_vectors.proofs.messages.written.Given as goal

abbrev pub ghosts-written_by-L-Ledger : goal.ghosts-written_by-L-Ledger
ghosts-written_by-L-Ledger a = record { name = a.calls.name; parts = a.calls.parts }

abbrev pub ghosts-written_by-M-Ledger : goal.ghosts-written_by-M-Ledger
ghosts-written_by-M-Ledger a = record { name = a.failures.name; parts = a.failures.parts }
