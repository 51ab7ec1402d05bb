use Rattle.std.proofs.Common.{ℕ, drop, map}
use Rattle.file_scan.specs.Numbers.{RiseTo}
use Rattle.file_scan.proofs.numbers.next_number.Given as goal

abbrev pub invariant-loop-row : goal.invariant-loop-row
invariant-loop-row g l =
    ((m : ℕ) → RiseTo l.from m (map g.T.Numbered.number_of (drop l.row-index l.rows)) → RiseTo 0 m (map g.T.Numbered.number_of l.rows))
    × ((m : ℕ) → RiseTo 0 m (map g.T.Numbered.number_of l.rows) → RiseTo l.from m (map g.T.Numbered.number_of (drop l.row-index l.rows)))
