-- The text of an amount reads as that amount.
use Rattle.std.proofs.Common.{◌≡◌, ℕ, ◌+◌, ◌*◌, ◌/◌, ◌%◌, ◌<◌, ◌≤◌, ◌==◌, Bool, true, false, eqb, cond, not, if◌then◌else◌, nat_lt, List, [], ◌∷◌, ◌++◌, length, position, Option, Some, None, Result, Ok, Err, refl, ap, ap₂, ◌∙◌, arith, length-append}
use Rattle.std.proofs.Math.Seq.{take-append_seam, drop-append-add}
use Rattle.std.proofs.lemmas.Bool.{and_from, false≢true}
use Rattle.std.proofs.lemmas.Bool.Decides.{nat_tests}
use Rattle.std.proofs.lemmas.Fmt.{decimal_digit, decimal_is_IsNumeral, length-decimal-le}
use Rattle.std.proofs.lemmas.Str.Parse.{digit_from_value}
use Rattle.std.specs.Char.{is_ascii_digit, digit_value}
use Rattle.std.specs.Fmt.{decimal}
use Rattle.std.specs.List.{list_all, position_or_len}
use Rattle.std.specs.Str.Parse.{AllDigits, digits_value}
use Rattle.base_values.specs.declared.refusal.ValueRefusal.{ValueRefusal}
use Rattle.base_values.specs.declared.refusal.ValueRefusal.TheVariants.{NotMoney, TooLarge}
use Rattle.base_values.specs.Digits.{is_number, number_of}
use Rattle.base_values.specs.Money.{last_cents, decimals_at, decimals_of, units_by, money_by, money_at, money_of, cents_text}

-- ---- texts of digits

digits_pass : (ds : List ℕ) → AllDigits 10 ds → list_all is_ascii_digit ds ≡ true
digits_pass [] h = refl
digits_pass (d ∷ ds) h =
    let range = digit_from_value d h.0 in
    and_from (is_ascii_digit d) (list_all is_ascii_digit ds) (grind (arith, nat_tests, range)) (digits_pass ds h.1)

number_if : (b : Bool) (v n : ℕ) → b ≡ true → v ≡ n → (let all : Option ℕ = if b then Some v else None in all ≡ Some n)
number_if true v n h is = ap (λ m. Some m) is
number_if false v n h is = absurd (false≢true h)

number_is : (ds : List ℕ) (n : ℕ) → 0 < length ds → length ds ≤ 18 → AllDigits 10 ds → digits_value 10 ds ≡ n → number_of ds ≡ Some n
number_is ds n some few digits is =
    number_if (is_number ds) (digits_value 10 ds) n
    (and_from _ _ (grind (arith, nat_tests, some)) (and_from _ _ (grind (arith, nat_tests, few)) (digits_pass ds digits))) is

-- ---- the point

before_point : (ds rest : List ℕ) → AllDigits 10 ds → position_or_len (λ b. b == 46) (ds ++ 46 ∷ rest) ≡ length ds
before_point [] rest h = refl
before_point (d ∷ ds) rest h =
    let range = digit_from_value d h.0 in
    let differs : eqb d 46 ≡ false = grind (arith, nat_tests, range) in
    rw differs (omega (arith, before_point ds rest h.1))

found_at : (k n m : ℕ) → k ≡ n → n < m → (let all : Option ℕ = cond (nat_lt k m) (Some k) None in all ≡ Some n)
found_at k n m is below = grind (arith, nat_tests)

point_at : (ds rest : List ℕ) → AllDigits 10 ds → position (λ b. b == 46) (ds ++ 46 ∷ rest) ≡ Some (length ds)
point_at ds rest h =
    found_at (position_or_len (λ b. b == 46) (ds ++ 46 ∷ rest)) (length ds) (length (ds ++ 46 ∷ rest)) (before_point ds rest h) (omega (arith, length-append ds (46 ∷ rest)))

-- ---- two digits behind it

digit_is : (a : ℕ) → a < 10 → digit_value (48 + a) ≡ a
digit_is a small = grind (arith, nat_tests, small)

sum_of : (x y a b : ℕ) → x ≡ a → y ≡ b → (0 * 10 + x) * 10 + y ≡ a * 10 + b
sum_of x y a b p q = omega arith

below_ten : (x a : ℕ) → x ≡ a → a < 10 → x < 10
below_ten x a is small = omega arith

two_digits : (a b : ℕ) → a < 10 → b < 10 → decimals_of ((48 + a) ∷ (48 + b) ∷ []) ≡ Some (a * 10 + b)
two_digits a b p q =
    let x = digit_is a p in
    let y = digit_is b q in
    ap (decimals_at 2) (number_is ((48 + a) ∷ (48 + b) ∷ []) (a * 10 + b) (omega arith) (omega arith) (below_ten _ a x p, (below_ten _ b y q, tt)) (sum_of _ _ a b x y))

decimals_read : (a b : ℕ) → a < 10 → b < 10 → decimals_of (decimal a ++ decimal b) ≡ Some (a * 10 + b)
decimals_read a b p q = rw (decimal_digit a p, decimal_digit b q) (two_digits a b p q)

-- ---- the units before it

passed : (digits long : Bool) (number : Option ℕ) (d n : ℕ) → digits ≡ true → long ≡ false → number ≡ Some n
    → (let all : Result ℕ ValueRefusal = if not digits then Err NotMoney else (if long then Err TooLarge else units_by d number) in all ≡ Ok (n * 100 + d))
passed digits long number d n p q r = rw (p, q, r) refl

units_read : (ds : List ℕ) (d n : ℕ) → 0 < length ds → length ds ≤ 8 → AllDigits 10 ds → digits_value 10 ds ≡ n → money_by ds (Some d) ≡ Ok (n * 100 + d)
units_read ds d n some few digits is =
    passed (list_all is_ascii_digit ds) (nat_lt 8 (length ds)) (number_of ds) d n (digits_pass ds digits) (grind (arith, nat_tests, few)) (number_is ds n some (omega arith) digits is)

parts_read : (u a b : ℕ) → u < 100000000 → a < 10 → b < 10 → money_of (decimal u ++ 46 ∷ (decimal a ++ decimal b)) ≡ Ok (u * 100 + (a * 10 + b))
parts_read u a b small p q =
    let units = decimal u in
    let rest = decimal a ++ decimal b in
    let written = decimal_is_IsNumeral u (omega arith) in
    let few : length units ≤ 8 = length-decimal-le 8 u (omega arith) (omega arith) (omega arith) in
    ap (money_at (units ++ 46 ∷ rest)) (point_at units rest written.0.1)
    ∙ ap₂ money_by (take-append_seam units (46 ∷ rest)) (ap decimals_of (drop-append-add units (46 ∷ rest) 1) ∙ decimals_read a b p q)
    ∙ units_read units (a * 10 + b) u written.0.0 few written.0.1 written.1

pub reads_back : (cents : ℕ) → cents ≤ last_cents → money_of (cents_text cents) ≡ Ok cents
reads_back cents small =
    parts_read (cents / 100) (cents / 10 % 10) (cents % 10) (omega arith) (omega arith) (omega arith)
    ∙ ap (λ n. Ok n) (parts cents)
  where
    parts : (n : ℕ) → n / 100 * 100 + (n / 10 % 10 * 10 + n % 10) ≡ n
    parts n = omega arith
