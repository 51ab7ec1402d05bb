use Rattle.std.proofs.Common.{ℕ, ◌^◌, ◌<◌, ◌≤◌, length, arith}
use Rattle.std.proofs.Math.Nat.{pow-le-pow_right}
use Rattle.base_values.proofs.cents.read_parts.Goals as goal

-- a number of at most eight digits
eight : (n places : ℕ) → places ≤ 8 → n < 10 ^ places → n < 100000000
eight n places few small =
    let le : 10 ^ places ≤ 10 ^ 8 = pow-le-pow_right {n = 10} (omega arith) {i = places} {j = 8} few in
    omega (arith, le, small)

pub new-requires : goal.new-requires
new-requires c =
    let small : c.in-Some-number_of.n < 10 ^ length c.args.units.now = rw c.in-Some-number_of.is at c.number_of.ensures.small in
    let n = eight c.in-Some-number_of.n (length c.args.units.now) c.if-units-gt8.false small in
    let d = rw c.in-Some.is at c.requires in
    omega (arith, n, d)
