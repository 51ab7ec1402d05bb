-- A voucher's budget, named as one thing where it goes over all vouchers.
use Rattle.model_rows.specs.declared.rows.Voucher.{Voucher}
use Rattle.model_rows.specs.Budgets.{HasBudget}
use Rattle.model_rows.specs.Lists.{Lists}

-- no more of it is spent than its budget, if it has one
unfoldable pub StaysWithin : Lists → Voucher → Type 0
StaysWithin lists voucher = HasBudget lists voucher
