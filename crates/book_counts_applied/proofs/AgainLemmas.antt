-- How many rows come with changes.
use Rattle.std.proofs.Common.{◌+◌, ◌≤◌, length, arith}
use Rattle.base_tables.proofs.Edits.{length-with_row, length-without_row}
use Rattle.model_rows.specs.declared.changes.Change.{Change}
use Rattle.model_rows.specs.declared.changes.Change.TheVariants.{PutItem, PutVariation, PutQuota, PutVoucher, PutCart, PutOrder, PutPosition, PutWaiting, DropVoucher, DropCart, DropWaiting, PutCheckinList, PutCheckin}
use Rattle.model_rows.specs.Change.{after_change}
use Rattle.model_rows.specs.Lists.{Lists}
use Rattle.model_rows.specs.Weight.{change_weight}

pub quotas_few : (change : Change) (lists : Lists) → length (after_change change lists).catalogue.quotas ≤ length lists.catalogue.quotas + change_weight change
quotas_few (PutQuota row) lists = omega (arith, length-with_row (λ q. q.id) row lists.catalogue.quotas)
quotas_few (PutItem row) lists = omega arith
quotas_few (PutVariation row) lists = omega arith
quotas_few (PutVoucher row) lists = omega arith
quotas_few (PutCart row) lists = omega arith
quotas_few (PutOrder row) lists = omega arith
quotas_few (PutPosition row) lists = omega arith
quotas_few (PutWaiting row) lists = omega arith
quotas_few (DropVoucher id) lists = omega arith
quotas_few (DropCart id) lists = omega arith
quotas_few (DropWaiting id) lists = omega arith
quotas_few (PutCheckinList row) lists = omega arith
quotas_few (PutCheckin row) lists = omega arith

pub vouchers_few : (change : Change) (lists : Lists) → length (after_change change lists).vouchers ≤ length lists.vouchers + change_weight change
vouchers_few (PutVoucher row) lists = omega (arith, length-with_row (λ v. v.id) row lists.vouchers)
vouchers_few (DropVoucher id) lists = omega (arith, length-without_row (λ v. v.id) id lists.vouchers)
vouchers_few (PutItem row) lists = omega arith
vouchers_few (PutVariation row) lists = omega arith
vouchers_few (PutQuota row) lists = omega arith
vouchers_few (PutCart row) lists = omega arith
vouchers_few (PutOrder row) lists = omega arith
vouchers_few (PutPosition row) lists = omega arith
vouchers_few (PutWaiting row) lists = omega arith
vouchers_few (DropCart id) lists = omega arith
vouchers_few (DropWaiting id) lists = omega arith
vouchers_few (PutCheckinList row) lists = omega arith
vouchers_few (PutCheckin row) lists = omega arith
