use Rattle.worked.proofs.exports.export.Given as goal

abbrev pub ghosts-exported-A-Ledger : goal.ghosts-exported-A-Ledger
ghosts-exported-A-Ledger a = record { name = a.calls.name; parts = a.calls.parts }

abbrev pub ghosts-exported-B-Ledger : goal.ghosts-exported-B-Ledger
ghosts-exported-B-Ledger a = record { name = a.failures.name; parts = a.failures.parts }
