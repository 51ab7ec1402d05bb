use Rattle.std.proofs.Common.{◌≡◌, drop}
use Rattle.book_log.specs.NewCheckins.{last_with_all}
use Rattle.book_log.proofs.rows.last_with_all.Given as goal

-- with what is left it is what all give
abbrev pub invariant-loop-change : goal.invariant-loop-change
invariant-loop-change l = last_with_all l.position (drop l.change-index l.changes) l.last ≡ last_with_all l.position l.fn.changes l.fn.before
