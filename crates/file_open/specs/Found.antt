-- What a new connection shows after a crash.
use Rattle.sqlite.specs.State.{State as Connected, HasCleanDisk}
use Rattle.file_scan.specs.Rests.{IsOpenAt}

-- Until the crash the disk had returned what was written. A new connection is open, and shows what was committed, which the crash may have
-- left.
pub record IsFound (before fresh : Connected) : Type 0 where
  pub clean : HasCleanDisk before
  pub may : before.may_leave fresh.now.trees
  pub at : IsOpenAt fresh.now fresh
