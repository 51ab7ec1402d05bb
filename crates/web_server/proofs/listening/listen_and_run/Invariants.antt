use Rattle.web_server.proofs.listening.listen_and_run.Given as goal

abbrev pub ghosts-run_network : goal.ghosts-run_network
ghosts-run_network g a = record { name = a.blank.name; parts = a.blank.parts }
