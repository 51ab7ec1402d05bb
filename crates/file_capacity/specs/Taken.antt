-- The changes of a step, as a file takes them.
use Rattle.std.specs.Prelude.{◌≡◌, false, true, List}
use Rattle.std.specs.List.{AllByRecursion}
use Rattle.model_rows.specs.declared.changes.Change.{Change}
use Rattle.office_step.specs.Changes.{changes_of}
use Rattle.office_runs.specs.Runs.{Stepped, office_at}
use Rattle.file_meaning.specs.Lawful.{puts_come_first}
use Rattle.file_meaning.specs.Stands.{IsRising}

-- members rise, and no voucher is put after one was dropped
pub record IsTaken (changes : List Change) : Type 0 where
  pub rising : AllByRecursion IsRising changes
  pub first : puts_come_first false changes ≡ true

-- a file takes the changes of the step
abbrev pub TakesItsChanges : Stepped → Type 0
TakesItsChanges s = IsTaken (changes_of s.command s.draw (office_at s) s.reply)
