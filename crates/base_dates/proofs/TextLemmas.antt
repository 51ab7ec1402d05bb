-- The text of a moment is what a clock in UTC shows.
use Rattle.std.proofs.Common.{◌≡◌, ℕ, ◌*◌, ◌/◌, ◌%◌, ◌<◌, ◌≤◌, [], ◌∷◌, ◌++◌, ℤ, pos, ◌+ℤ◌, ◌*ℤ◌, refl, arith}
use Rattle.jiff.proofs.SpanFacts.{signed_arith}
use Rattle.jiff.proofs.Family.{civil_nanos-parts, time_nanos_bound}
use Rattle.jiff.specs.Words.{civil_nanos, time_nanos, epoch_day, iso_datetime_text}
use Rattle.jiff_core.specs.declared.civil.time.Time.{Time}
use Rattle.jiff_core.specs.declared.civil.datetime.DateTime.{DateTime}
use Rattle.base_dates.specs.Civil.{moment_text}
use Rattle.base_values.specs.Moments.{last_moment}
use Rattle.base_dates.proofs.CivilLemmas.{same_date}

day_and_time : (n e : ℤ) (t s : ℕ) → n ≡ pos (s * 1000000000) → n ≡ e *ℤ pos 86400000000000 +ℤ pos t → t < 86400000000000
    → (e ≡ pos (s / 86400)) × (t ≡ (s % 86400) * 1000000000)
day_and_time n e t s is parts below = (omega (arith, signed_arith), omega (arith, signed_arith))

clock : (x : Time) (t : ℕ) → t < 86400 → time_nanos x ≡ t * 1000000000
    → (x.hour ≡ t / 3600) × (x.minute ≡ t / 60 % 60) × (x.second ≡ t % 60) × (x.subsec_nanosecond ≡ 0)
clock x t below is = (omega arith, omega arith, omega arith, omega arith)

pub shown : (dt : DateTime) (s : ℕ) → s ≤ last_moment → civil_nanos dt ≡ pos (s * 1000000000) → iso_datetime_text dt ++ 90 ∷ [] ≡ moment_text s
unfolding moment_text
shown dt s small is =
    let parts = day_and_time (civil_nanos dt) (epoch_day dt.date) (time_nanos dt.time) s is (civil_nanos-parts dt) (time_nanos_bound dt.time) in
    let date = same_date dt.date (s / 86400) (omega arith) parts.0 in
    let time = clock dt.time (s % 86400) (omega arith) parts.1 in
    rw (date.0, date.1, date.2, time.0, time.1, time.2, time.3) refl
