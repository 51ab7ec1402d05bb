-- Ids rise after changes as they did before.
use Rattle.std.proofs.Common.{List, [], ◌∷◌, arith}
use Rattle.base_tables.proofs.Places.{with_row_in_order, without_row_in_order}
use Rattle.model_rows.specs.declared.changes.Change.{Change}
use Rattle.model_rows.specs.declared.changes.Change.TheVariants.{PutQuota, PutVoucher, PutCart, DropVoucher, DropCart}
use Rattle.model_rows.specs.Change.{after_change, after_all}
use Rattle.model_rows.specs.Lists.{Lists}
use Rattle.book_counts_to_write.specs.Told.{AreOrdered}

ordered_step : (change : Change) (lists : Lists) → AreOrdered lists → AreOrdered (after_change change lists)
ordered_step (PutQuota row) lists h = record { quotas = with_row_in_order (λ r. r.id) 0 row lists.catalogue.quotas (omega arith) h.quotas; vouchers = h.vouchers; carts = h.carts }
ordered_step (PutVoucher row) lists h = record { quotas = h.quotas; vouchers = with_row_in_order (λ r. r.id) 0 row lists.vouchers (omega arith) h.vouchers; carts = h.carts }
ordered_step (DropVoucher id) lists h = record { quotas = h.quotas; vouchers = without_row_in_order (λ r. r.id) 0 id lists.vouchers h.vouchers; carts = h.carts }
ordered_step (PutCart row) lists h = record { quotas = h.quotas; vouchers = h.vouchers; carts = with_row_in_order (λ r. r.id) 0 row lists.carts (omega arith) h.carts }
ordered_step (DropCart id) lists h = record { quotas = h.quotas; vouchers = h.vouchers; carts = without_row_in_order (λ r. r.id) 0 id lists.carts h.carts }
ordered_step _ lists h = record { quotas = h.quotas; vouchers = h.vouchers; carts = h.carts }

pub ordered_after : (changes : List Change) (lists : Lists) → AreOrdered lists → AreOrdered (after_all changes lists)
ordered_after [] lists h = h
ordered_after (c ∷ cs) lists h = ordered_after cs (after_change c lists) (ordered_step c lists h)
