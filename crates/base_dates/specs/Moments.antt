-- The moment that a text writes.
use Rattle.std.specs.Prelude.{ℕ, ◌/◌, ◌==◌, List, length, Result, Ok, Err, if◌then◌else◌, nat_le, ℤ, pos, negsuc, ◌+ℤ◌, ◌*ℤ◌}
use Rattle.jiff_core.specs.declared.error.Error.{Error}
use Rattle.jiff_core.specs.Calendar.{days_from_civil}
use Rattle.jiff_fmt.specs.Temporal.{DateParts, parse_date, parse_timestamp}
use Rattle.base_values.specs.Moments.{last_moment}
use Rattle.base_values.specs.declared.refusal.ValueRefusal.{ValueRefusal}
use Rattle.base_values.specs.declared.refusal.ValueRefusal.TheVariants.{NotMoment, OutOfRange}

-- a number of seconds after 1970 began, as a moment; out of range before that, and after the last moment
abbrev pub in_range : ℤ → Result ℕ ValueRefusal
in_range (pos s) = if nat_le s last_moment then Ok s else Err OutOfRange
in_range (negsuc s) = Err OutOfRange

-- the whole second of an instant in nanoseconds, rounded down
abbrev pub second_of : ℤ → Result ℕ ValueRefusal
second_of (pos n) = in_range (pos (n / 1000000000))
second_of (negsuc n) = Err OutOfRange

-- the moment that a reading of an instant gives
abbrev pub moment_at : Result ℤ Error → Result ℕ ValueRefusal
moment_at (Ok n) = second_of n
moment_at (Err e) = Err NotMoment

-- the moment that a text writes
abbrev pub moment_of : List ℕ → Result ℕ ValueRefusal
moment_of text = moment_at (parse_timestamp text)

-- the last second in UTC of a day, which is counted from 1 January 1970
abbrev pub last_second : ℤ → Result ℕ ValueRefusal
last_second day = in_range (day *ℤ pos 86400 +ℤ pos 86399)

-- the last second of the date that a reading gives
abbrev pub day_at : Result DateParts Error → Result ℕ ValueRefusal
day_at (Ok date) = last_second (days_from_civil date.year date.month date.day)
day_at (Err e) = Err NotMoment

-- the last second of the day that ten bytes write
abbrev pub day_of : List ℕ → Result ℕ ValueRefusal
day_of text = if length text == 10 then day_at (parse_date text) else Err NotMoment
