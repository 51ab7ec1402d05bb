-- The tables of the doors over runs: their rows are added at the end, and none changes or goes.
use Rattle.std.specs.Prelude.{◌≡◌, List, ◌++◌}
use Rattle.model_rows.specs.Lists.{State}

-- the rows that were there, and perhaps more behind them
pub record Grows {T : Type 0} (before after : List T) : Type 0 where
  pub more : List T
  pub is : after ≡ before ++ more

-- check-in lists, order positions and check-ins are those that were there, and perhaps more behind them
pub record DoorGrows (before after : State) : Type 0 where
  pub lists : Grows before.lists.checkin_lists after.lists.checkin_lists
  pub positions : Grows before.lists.positions after.lists.positions
  pub checkins : Grows before.lists.checkins after.lists.checkins
