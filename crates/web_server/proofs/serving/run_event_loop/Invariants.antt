use Rattle.web_server.proofs.serving.run_event_loop.Given as goal

abbrev pub ghosts-run_with_ledgers-L-Ledger : goal.ghosts-run_with_ledgers-L-Ledger
ghosts-run_with_ledgers-L-Ledger g a = record { name = a.blanks.0.name; parts = a.blanks.0.parts }

abbrev pub ghosts-run_with_ledgers-M-Ledger : goal.ghosts-run_with_ledgers-M-Ledger
ghosts-run_with_ledgers-M-Ledger g a = record { name = a.blanks.1.name; parts = a.blanks.1.parts }
