use Rattle.web_handler.proofs.feeding.feed_office.Given as goal

abbrev pub ghosts-feed_with-P-Pace : goal.ghosts-feed_with-P-Pace
ghosts-feed_with-P-Pace g a = record { from = a.from; step = a.step }

abbrev pub ghosts-feed_with-E-Ledger : goal.ghosts-feed_with-E-Ledger
ghosts-feed_with-E-Ledger g a = record { name = a.blank.name; parts = a.blank.parts }
