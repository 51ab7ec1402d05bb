-- No more of a voucher's budget is spent than it has.
use Rattle.std.specs.Prelude.{ℕ, ◌+◌, ◌-◌, ◌≤◌, Bool, true, nat_le, List, Option, Some, None, IfSome, option_map, sum_by, if◌then◌else◌}
use Rattle.std.specs.List.{list_all, AllByRecursion}
use Rattle.model_rows.specs.declared.rows.Voucher.{Voucher}
use Rattle.model_rows.specs.declared.rows.OrderPos.{OrderPos}
use Rattle.model_rows.specs.Conditions.{names}
use Rattle.model_rows.specs.Lists.{Lists, voucher_at}
use Rattle.model_rows.specs.Usage.{spent}

-- an amount is within the budget, if there is one
abbrev pub covers : Option ℕ → ℕ → Bool
covers None amount = true
covers (Some budget) amount = nat_le amount budget

-- no more is spent than the voucher's budget
abbrev pub is_within_by : Lists → Option Voucher → Bool
is_within_by lists None = true
is_within_by lists (Some voucher) = covers voucher.budget (spent voucher.id lists)

-- no more is spent of the voucher of this id than its budget; it holds too where none is named or there
abbrev pub is_within : Lists → Option ℕ → Bool
is_within lists None = true
is_within lists (Some id) = is_within_by lists (voucher_at id lists)

-- nor of any of the vouchers that these order positions name
abbrev pub are_within : Lists → List OrderPos → Bool
are_within lists positions = list_all (λ p. is_within lists p.voucher) positions

-- no more is spent of the voucher than its budget, if it has one
abbrev pub HasBudget : Lists → Voucher → Type 0
HasBudget lists voucher = IfSome voucher.budget (λ budget. spent voucher.id lists ≤ budget)

-- of no voucher is more spent than its budget
abbrev pub AllWithinBudget : Lists → Type 0
AllWithinBudget lists = AllByRecursion (HasBudget lists) lists.vouchers

-- what these order positions take of the voucher's budget
abbrev pub named_discounts : ℕ → List OrderPos → ℕ
named_discounts id rows = sum_by (λ p. if names id p.voucher then p.discount else 0) rows

-- what is left of a voucher's budget after these rows, which aren't in the lists yet
abbrev pub left_after : Lists → List OrderPos → Voucher → Option ℕ
left_after lists rows voucher = option_map (λ budget. budget - (spent voucher.id lists + named_discounts voucher.id rows)) voucher.budget
