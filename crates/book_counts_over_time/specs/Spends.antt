-- What is spent of the vouchers' budgets, kept beside the vouchers.
use Rattle.std.specs.Prelude.{◌≡◌, ◌≤◌, ℕ, List, map}
use Rattle.std.specs.List.{AllByRecursion}
use Rattle.model_rows.specs.Lists.{Lists}
use Rattle.model_rows.specs.Usage.{spent}

-- the amounts are those of the lists
abbrev pub AreSpent : Lists → List ℕ → Type 0
AreSpent lists spents = spents ≡ map (λ v. spent v.id lists) lists.vouchers

-- no discount is larger than an amount of money can be: as their type has it
abbrev pub ArePriced : Lists → Type 0
ArePriced lists = AllByRecursion (λ p. p.discount ≤ 9999999999) lists.positions
