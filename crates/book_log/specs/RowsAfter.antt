-- A row after changes, where it is known before them.
use Rattle.std.specs.Prelude.{◌≡◌, List, Option}
use Rattle.std.specs.Borrow.{Bor}
use Rattle.std.specs.Option.{option_copied}
use Rattle.model_rows.specs.declared.changes.Change.{Change}
use Rattle.model_rows.specs.Lists.{Lists}
use Rattle.model_rows.specs.Change.{after_all}

-- of whatever lists the first row is the one found before the changes, the second is the one found after them
abbrev pub IsRowAfter : {T : Type 0} → List Change → (Lists → Option T) → Option (Bor T) → Option (Bor T) → Type 0
IsRowAfter changes find before after = (lists : Lists) → option_copied before ≡ find lists → option_copied after ≡ find (after_all changes lists)
