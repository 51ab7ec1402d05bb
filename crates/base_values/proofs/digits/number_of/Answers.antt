use Rattle.std.proofs.Common.{◌≡◌, ℕ, ◌+◌, ◌-◌, ◌*◌, ◌^◌, ◌<◌, ◌≤◌, get_or, sym, add-one, arith}
use Rattle.std.proofs.Math.Nat.{pow-suc, pow-le-pow_right}
use Rattle.std.specs.Char.{is_ascii_digit, digit_value}
use Rattle.std.proofs.lemmas.Bool.Decides.{nat_tests}
use Rattle.std.proofs.lemmas.Int.Digits.{digits_value_more}
use Rattle.base_values.proofs.DigitLemmas.{list_all_more}
use Rattle.base_values.proofs.digits.number_of.Goals as goal

-- one more digit of at most 18
power : (i n d : ℕ) → i < 18 → n < 10 ^ i → d ≤ 9 → (n * 10 + d < 10 ^ (i + 1)) × (10 ^ (i + 1) ≤ 10 ^ 18)
power i n d below small digit = (rw (add-one i, pow-suc 10 i) (omega arith), pow-le-pow_right {n = 10} (omega arith) {i = i + 1} {j = 18} (omega arith))

pub overflow_mul-n : goal.overflow_mul-n
overflow_mul-n c =
    let p = power c.loop-b.b-index c.loop-b.n 0 (omega arith) c.loop-b.invariant.2 (omega arith) in
    omega (arith, p.0, p.1)

pub overflow_add-n : goal.overflow_add-n
overflow_add-n c =
    let p = power c.loop-b.b-index c.loop-b.n (get_or c.args.text.now c.loop-b.b-index 0 - 48) (omega arith) c.loop-b.invariant.2 (grind (arith, nat_tests)) in
    omega (arith, p.0, p.1)

pub loop-b-preserved : goal.loop-b-preserved
loop-b-preserved c =
    let text = c.args.text.now in
    let i = c.loop-b.b-index in
    let below = c.loop-b-test.true in
    let is : digit_value (get_or text i 0) ≡ get_or text i 0 - 48 = grind (arith, nat_tests) in
    let p = power i c.loop-b.n (get_or text i 0 - 48) (omega arith) c.loop-b.invariant.2 (grind (arith, nat_tests)) in (
      omega (arith, digits_value_more 10 text i below, c.loop-b.invariant.0, is),
      list_all_more is_ascii_digit text i 0 below c.loop-b.invariant.1 (sym c.if-not-is_ascii_digit.ensures.value),
      p.0,
    )
