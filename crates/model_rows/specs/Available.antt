-- How many places of a quota are left.
use Rattle.std.specs.Prelude.{ℕ, ◌-◌, Bool, true, nat_lt, Option, Some, None}
use Rattle.model_catalogue.specs.declared.rows.Quota.{Quota}
use Rattle.model_rows.specs.declared.rows.Availability.{Availability}
use Rattle.model_rows.specs.declared.rows.Usage.{Usage}
use Rattle.model_rows.specs.Lists.{Lists}
use Rattle.model_rows.specs.Usage.{usage_of}
use Rattle.model_rows.specs.Total.{total}

-- an unlimited quota is available, and one with a size while less than the size is used
abbrev pub available : Option ℕ → ℕ → Bool
available None used = true
available (Some size) used = nat_lt used size

-- the size less what is used, at least 0; an unlimited quota has no such number
abbrev pub available_number : Option ℕ → ℕ → Option ℕ
available_number None used = None
available_number (Some size) used = Some (size - used)

-- the availability of a quota: its size, its usage, whether a place is left, and how many are
abbrev pub availability_by : Option ℕ → Usage → Availability
availability_by size usage = record {
  size = size;
  usage = usage;
  available = available size (total usage);
  available_number = available_number size (total usage);
}

-- what is left of a quota at a moment
abbrev pub availability : Lists → ℕ → Quota → Availability
availability lists at quota = availability_by quota.size (usage_of lists at quota)
