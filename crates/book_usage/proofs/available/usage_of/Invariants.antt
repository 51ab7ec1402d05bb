use Rattle.book_usage.proofs.available.usage_of.Given as goal

abbrev pub ghosts-usage_in : goal.ghosts-usage_in
ghosts-usage_in g a = record { name = a.blank.name; parts = a.blank.parts }
