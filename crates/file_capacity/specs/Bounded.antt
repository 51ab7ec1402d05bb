-- How far the counts of a sound office go.
use Rattle.std.specs.Prelude.{◌*◌, ◌≤◌}
use Rattle.base_values.specs.Counts.{most_uses}
use Rattle.model_catalogue.specs.Limits.{most_rows}
use Rattle.model_rows.specs.declared.rows.Usage.{Usage}

-- the rows of a table count once each, and each voucher blocks no more places than it may be used
pub record IsBounded (usage : Usage) : Type 0 where
  pub paid : usage.paid ≤ most_rows
  pub pending : usage.pending ≤ most_rows
  pub blocked : usage.blocked ≤ most_rows * most_uses
  pub carts : usage.carts ≤ most_rows
  pub waiting : usage.waiting ≤ most_rows
  pub exited : usage.exited ≤ most_rows
