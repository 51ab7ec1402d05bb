-- The calendar date of a day is the one that its number gives.
use Rattle.std.proofs.Common.{◌≡◌, ℕ, zero, suc, ◌+◌, ◌-◌, ◌*◌, ◌<◌, ◌≤◌, nat_lt, Bool, true, false, ℤ, pos, negsuc, ◌+ℤ◌, ◌≤ℤ◌, ◌<ℤ◌, refl, sym, ap, ◌∙◌, arith, inl, inr}
use Rattle.std.proofs.lemmas.Bool.{cases_lt}
use Rattle.std.proofs.lemmas.Bool.Decides.{nat_tests}
use Rattle.jiff.proofs.SpanFacts.{signed_arith}
use Rattle.jiff_core.specs.Calendar.{is_leap_year, days_in_year, days_in_month, days_from_civil, day_count}
use Rattle.jiff_core.proofs.CalendarLemmas.{days_from_civil-day_count, day_count-next_year, days_in_month_bounds}
use Rattle.jiff_core.proofs.DateLemmas.{days_from_civil-day, days_from_civil-next_month, days_from_civil-next_year, days_from_civil-max, epoch_day_injective}
use Rattle.jiff_core.proofs.StandardFacts.{known_days}
use Rattle.jiff_core.specs.Date.{epoch_day}
use Rattle.jiff_core.specs.declared.civil.date.Date.{Date}
use Rattle.base_dates.specs.Civil.{year_from, month_from, Civil, civil_of}

pub year_long : (y : ℤ) → 365 ≤ days_in_year y
year_long y = by (is_leap_year y) refl
  where
    by : (b : Bool) → is_leap_year y ≡ b → 365 ≤ days_in_year y
    by true is = rw is (omega arith)
    by false is = rw is (omega arith)

shift : (y z : ℤ) (l : ℕ) → day_count z 1 1 ≡ day_count y 1 1 + l → days_from_civil z 1 1 ≡ days_from_civil y 1 1 +ℤ pos l
shift y z l e = omega (arith, signed_arith, days_from_civil-day_count y 1 1, days_from_civil-day_count z 1 1)

-- a whole part is taken off
taken_off : (a b : ℤ) (d l : ℕ) → b ≡ a +ℤ pos l → l ≤ d → b +ℤ pos (d - l) ≡ a +ℤ pos d
taken_off a b d l e fits = omega (arith, signed_arith)

-- 1 January of the next year
pub next_january : (y : ℕ) → days_from_civil (pos (y + 1)) 1 1 ≡ days_from_civil (pos y) 1 1 +ℤ pos (days_in_year (pos y))
next_january y =
    shift (pos y) (pos (y + 1)) (days_in_year (pos y)) (day_count-next_year (pos y) (pos (y + 1)) (omega (arith, signed_arith)) refl)

abbrev pub january : ℕ → ℤ
january y = days_from_civil (pos y) 1 1

pub record IsYearOf (y d : ℕ) (r : ℕ × ℕ) : Type 0 where
  pub same : january r.0 +ℤ pos r.1 ≡ january y +ℤ pos d
  pub inside : r.1 < days_in_year (pos r.0)

pub year_found : (k y d : ℕ) → d < k * 365 → IsYearOf y d (year_from k y d)
unfolding year_from
year_found zero y d few = absurd (omega arith)
year_found (suc k) y d few =
    elim (cases_lt d (days_in_year (pos y))) [
      | inl here ↦ let test : nat_lt d (days_in_year (pos y)) ≡ true = grind (arith, nat_tests) in rw test (record { same = refl; inside = here })
      | inr later ↦
          let test : nat_lt d (days_in_year (pos y)) ≡ false = grind (arith, nat_tests) in
          let long = year_long (pos y) in
          let more : d - days_in_year (pos y) < k * 365 = omega arith in
          let x = year_found k (y + 1) (d - days_in_year (pos y)) more in
          rw test (record { same = x.same ∙ taken_off (january y) (january (y + 1)) d (days_in_year (pos y)) (next_january y) later; inside = x.inside })
    ]

-- ---- months

abbrev pub first : ℕ → ℕ → ℤ
first y m = days_from_civil (pos y) m 1

next_first : (y m : ℕ) → 1 ≤ m → first y (m + 1) ≡ first y m +ℤ pos (days_in_month (pos y) m)
next_first y m some =
    let bounds = days_in_month_bounds (pos y) m in
    days_from_civil-next_month (pos y) m (days_in_month (pos y) m) some refl
    ∙ days_from_civil-day (pos y) m (days_in_month (pos y) m) 1 (one_of _ bounds.1) (omega arith)
  where
    one_of : (n : ℕ) → 28 ≤ n → 1 ≤ n
    one_of n h = omega arith

pub record IsMonthOf (y m d : ℕ) (r : ℕ × ℕ) : Type 0 where
  pub same : first y r.0 +ℤ pos r.1 ≡ first y m +ℤ pos d
  pub inside : r.1 < days_in_month (pos y) r.0
  pub low : 1 ≤ r.0
  pub high : r.0 ≤ 12

december : (y m d : ℕ) → m ≡ 12 → (first y m +ℤ pos d) <ℤ (first y 12 +ℤ pos 31) → d < days_in_month (pos y) m
december y m d is few =
    rw is (let same : first y m ≡ first y 12 = ap (first y) is in less (first y m) (first y 12) d same few)
  where
    less : (a b : ℤ) (d : ℕ) → a ≡ b → (a +ℤ pos d) <ℤ (b +ℤ pos 31) → d < 31
    less a b d e h = omega (arith, signed_arith)

pub month_found : (k y m d : ℕ) → 1 ≤ m → m + k ≡ 12 → (first y m +ℤ pos d) <ℤ (first y 12 +ℤ pos 31) → IsMonthOf y m d (month_from k y m d)
unfolding month_from
month_found zero y m d some left few =
    record { same = refl; inside = december y m d (omega arith) few; low = some; high = omega arith }
month_found (suc k) y m d some left few =
    elim (cases_lt d (days_in_month (pos y) m)) [
      | inl here ↦
          let test : nat_lt d (days_in_month (pos y) m) ≡ true = grind (arith, nat_tests) in
          rw test (record { same = refl; inside = here; low = some; high = omega arith })
      | inr later ↦
          let test : nat_lt d (days_in_month (pos y) m) ≡ false = grind (arith, nat_tests) in
          let same = taken_off (first y m) (first y (m + 1)) d (days_in_month (pos y) m) (next_first y m some) later in
          let x = month_found k y (m + 1) (d - days_in_month (pos y) m) (omega arith) (omega arith) (rw same few) in
          rw test (record { same = x.same ∙ same; inside = x.inside; low = x.low; high = x.high })
    ]

-- ---- dates

rises : (a b c : ℤ) (l : ℕ) → a ≤ℤ b → c ≡ b +ℤ pos l → a ≤ℤ c
rises a b c l le is = omega (arith, signed_arith)

stays : (a b : ℤ) → b ≡ a → a ≤ℤ b
stays a b is = omega (arith, signed_arith)

january_rises : (k y : ℕ) → january y ≤ℤ january (y + k)
january_rises zero y = let e : y + 0 ≡ y = omega arith in stays (january y) (january (y + 0)) (ap january e)
january_rises (suc k) y =
    let e : y + suc k ≡ y + k + 1 = omega arith in
    rises (january y) (january (y + k)) (january (y + suc k)) (days_in_year (pos (y + k))) (january_rises k y) (ap january e ∙ next_january (y + k))

-- the first of January after the last year
january_10000 : january 10000 ≡ pos 2932897
january_10000 =
    let next = days_from_civil-next_year (pos 9999) (pos 10000) (omega (arith, signed_arith)) refl in
    sum next days_from_civil-max
  where
    sum : {a b : ℤ} → a ≡ b +ℤ pos 1 → b ≡ pos 2932896 → a ≡ pos 2932897
    sum p q = omega (arith, signed_arith)

-- the first of the next January is 31 days after the first of December
after_december : (y : ℕ) → january (y + 1) ≡ first y 12 +ℤ pos 31
after_december y =
    days_from_civil-next_year (pos y) (pos (y + 1)) (omega (arith, signed_arith)) refl
    ∙ days_from_civil-day (pos y) 12 31 1 (omega arith) (omega arith)

in_time : (a b n : ℤ) (d l : ℕ) → n ≡ a +ℤ pos l → n ≡ b +ℤ pos 31 → d < l → (a +ℤ pos d) <ℤ (b +ℤ pos 31)
in_time a b n d l p q h = omega (arith, signed_arith)

from_zero : (a b : ℤ) (d e : ℕ) → a +ℤ pos d ≡ b +ℤ pos e → b ≡ pos 0 → a +ℤ pos d ≡ pos e
from_zero a b d e p q = omega (arith, signed_arith)

too_late : (a b : ℤ) (d e : ℕ) → a +ℤ pos d ≡ pos e → e ≤ 2932531 → b ≤ℤ a → b ≡ pos 2932897 → ⊥
too_late a b d e p q r t = omega (arith, signed_arith)

last_sum : (x f j : ℤ) (d e day : ℕ) → x +ℤ pos 1 ≡ f +ℤ pos (d + 1) → f +ℤ pos d ≡ j +ℤ pos e → j +ℤ pos e ≡ pos day → x ≡ pos day
last_sum x f j d e day p q r = omega (arith, signed_arith)

pub record IsCivil (c : Civil) (day : ℕ) : Type 0 where
  pub year : c.year ≤ 9999
  pub month_low : 1 ≤ c.month
  pub month_high : c.month ≤ 12
  pub day_low : 1 ≤ c.day
  pub day_high : c.day ≤ days_in_month (pos c.year) c.month
  pub is : days_from_civil (pos c.year) c.month c.day ≡ pos day

pub civil_found : (day : ℕ) → day ≤ 2932531 → IsCivil (civil_of day) day
unfolding civil_of
civil_found day small =
    let x = year_found 8035 1970 day (omega arith) in
    let y = (year_from 8035 1970 day).0 in
    let d = (year_from 8035 1970 day).1 in
    let year_same = from_zero (january y) (january 1970) d day x.same known_days.0 in
    let few = in_time (january y) (first y 12) (january (y + 1)) d (days_in_year (pos y)) (next_january y) (after_december y) x.inside in
    let m = month_found 11 y 1 d (omega arith) (omega arith) few in
    record {
      year = elim (cases_lt 9999 y) [
        | inl late ↦
            let e : 10000 + (y - 10000) ≡ y = omega arith in
            absurd (too_late (january y) (january 10000) d day year_same small (rw e at (january_rises (y - 10000) 10000)) january_10000)
        | inr early ↦ early
      ];
      month_low = m.low;
      month_high = m.high;
      day_low = omega arith;
      day_high = omega (arith, m.inside);
      is = last_sum _ (first y (month_from 11 y 1 d).0) (january y) (month_from 11 y 1 d).1 d day
          (days_from_civil-day (pos y) (month_from 11 y 1 d).0 ((month_from 11 y 1 d).1 + 1) 1 (omega arith) (omega arith)) m.same year_same;
    }

-- the date that has this number is the one that was found
pub same_date : (x : Date) (day : ℕ) → day ≤ 2932531 → epoch_day x ≡ pos day
    → (x.year ≡ pos (civil_of day).year) × (x.month ≡ (civil_of day).month) × (x.day ≡ (civil_of day).day)
same_date x day small is =
    let c = civil_found day small in
    let found : Date = record {
      year = pos (civil_of day).year;
      month = (civil_of day).month;
      day = (civil_of day).day;
      year_in = within _ c.year;
      month_in = (c.month_low, c.month_high);
      day_in = (c.day_low, c.day_high);
    } in
    epoch_day_injective x found (is ∙ sym c.is)
  where
    within : (n : ℕ) → n ≤ 9999 → (negsuc 9998 ≤ℤ pos n) × (pos n ≤ℤ pos 9999)
    within n h = (omega (arith, signed_arith), omega (arith, signed_arith))
