-- What a ledger begins with.
use Rattle.std.specs.Prelude.{◌≡◌, ◌<◌}
use Rattle.std.specs.declared.sync.ledger.Blank.{Blank}
use Rattle.std.specs.declared.sync.ledger.Ledger.{Ghosts}

-- the blank is of this ledger, which has a part
abbrev pub IsBlankOf : {L : Type 0} → Ghosts L → Blank → Type 0
IsBlankOf l blank = (blank.name ≡ l.name) × (blank.parts ≡ l.parts) × (0 < l.parts)
