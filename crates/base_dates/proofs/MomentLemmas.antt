-- The text of a moment reads as that moment.
use Rattle.std.proofs.Common.{◌≡◌, ℕ, ◌+◌, ◌*◌, ◌/◌, ◌%◌, ◌<◌, ◌≤◌, Bool, true, ℤ, pos, negsuc, ◌+ℤ◌, ◌*ℤ◌, ◌≤ℤ◌, Result, Ok, Err, refl, sym, ap, ◌∙◌, arith}
use Rattle.std.specs.Prelude.{if◌then◌else◌, nat_le}
use Rattle.std.proofs.lemmas.Bool.Decides.{nat_tests}
use Rattle.jiff.proofs.Family.{civil_nanos-parts, parse_timestamp-text}
use Rattle.jiff.proofs.SpanFacts.{signed_arith}
use Rattle.jiff.specs.Words.{civil_nanos}
use Rattle.jiff_core.specs.declared.civil.date.Date.{Date}
use Rattle.jiff_core.specs.declared.civil.time.Time.{Time}
use Rattle.jiff_core.specs.declared.civil.datetime.DateTime.{DateTime}
use Rattle.jiff_core.specs.declared.timestamp.Timestamp.{Timestamp}
use Rattle.jiff_fmt.specs.Temporal.{parse_timestamp}
use Rattle.base_values.specs.declared.refusal.ValueRefusal.{ValueRefusal}
use Rattle.base_values.specs.declared.refusal.ValueRefusal.TheVariants.{OutOfRange}
use Rattle.base_dates.specs.Civil.{civil_of, moment_text}
use Rattle.base_values.specs.Moments.{last_moment}
use Rattle.base_dates.specs.Moments.{in_range, moment_at, moment_of}
use Rattle.base_dates.proofs.CivilLemmas.{civil_found}
use Rattle.base_dates.proofs.TextLemmas.{shown}

-- ---- what a clock in UTC shows

within : (n : ℕ) → n ≤ 9999 → (negsuc 9998 ≤ℤ pos n) × (pos n ≤ℤ pos 9999)
within n h = (omega (arith, signed_arith), omega (arith, signed_arith))

parts : (t : ℕ) → t < 86400 → (t / 3600 * 3600 + t / 60 % 60 * 60 + t % 60) * 1000000000 + 0 ≡ t * 1000000000
parts t below = omega arith

nanos : (n e : ℤ) (t s : ℕ) → n ≡ e *ℤ pos 86400000000000 +ℤ pos t → e ≡ pos (s / 86400) → t ≡ (s % 86400) * 1000000000 → n ≡ pos (s * 1000000000)
nanos n e t s sum day left = omega (arith, signed_arith)

-- ---- the second of an instant

second_if : (b : Bool) (s : ℕ) → b ≡ true → (let all : Result ℕ ValueRefusal = if b then Ok s else Err OutOfRange in all ≡ Ok s)
second_if b s h = rw h refl

kept : (s : ℕ) → s ≤ last_moment → moment_at (Ok (pos (s * 1000000000))) ≡ Ok s
kept s small =
    let whole : s * 1000000000 / 1000000000 ≡ s = omega arith in
    ap (λ (n : ℕ). in_range (pos n)) whole ∙ second_if (nat_le s last_moment) s (grind (arith, nat_tests, small))

pub reads_back : (s : ℕ) → s ≤ last_moment → moment_of (moment_text s) ≡ Ok s
reads_back s small =
    let left = s % 86400 in
    let civil = civil_found (s / 86400) (omega arith) in
    let date : Date = record {
      year = pos (civil_of (s / 86400)).year;
      month = (civil_of (s / 86400)).month;
      day = (civil_of (s / 86400)).day;
      year_in = within _ civil.year;
      month_in = (civil.month_low, civil.month_high);
      day_in = (civil.day_low, civil.day_high);
    } in
    let time : Time = record {
      hour = left / 3600;
      minute = left / 60 % 60;
      second = left % 60;
      subsec_nanosecond = 0;
      hour_in = omega arith;
      minute_in = omega arith;
      second_in = omega arith;
      subsec_in = omega arith;
    } in
    let shows : DateTime = record { date = date; time = time } in
    let instant : Timestamp = record { nanosecond = pos (s * 1000000000); in_range = (omega (arith, signed_arith), omega (arith, signed_arith)) } in
    let is : civil_nanos shows ≡ pos (s * 1000000000) = nanos _ _ _ s (civil_nanos-parts shows) civil.is (parts left (omega arith)) in
    ap moment_at (ap parse_timestamp (sym (shown shows s small is)) ∙ parse_timestamp-text shows instant is) ∙ kept s small
