-- All that uses a quota: those who have gone out are among the paid ones.
use Rattle.std.specs.Prelude.{ℕ, ◌+◌, ◌-◌}
use Rattle.model_rows.specs.declared.rows.Usage.{Usage}

-- the paid places but those that exits set free, the pending, the blocked and those in carts, and the waiting entries
abbrev pub total : Usage → ℕ
total usage = usage.paid - usage.exited + usage.pending + usage.blocked + usage.carts + usage.waiting
