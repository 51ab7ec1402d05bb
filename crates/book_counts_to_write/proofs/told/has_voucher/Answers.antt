use Rattle.std.proofs.Common.{sym, ap, ◌∙◌, refl}
use Rattle.std.specs.Option.{option_copied}
use Rattle.book_counts_to_write.proofs.ToldRows.{no_voucher, some_voucher}
use Rattle.book_counts_to_write.proofs.told.has_voucher.Goals as goal

pub returns-in-None : goal.returns-in-None
returns-in-None g c = no_voucher (g.B.Book.state c.args.book.now) c.args.count c.recall_invariant.ensures.vouchers.in_order (sym c.voucher.ensures ∙ ap option_copied c.in-None.is)

pub returns-in-Some : goal.returns-in-Some
returns-in-Some g c = some_voucher (g.B.Book.state c.args.book.now) c.args.count c.recall_invariant.ensures.vouchers.in_order c.in-Some.field-0.now _ _ c.has_numbers.result (sym c.voucher.ensures ∙ ap option_copied c.in-Some.is) refl refl c.has_numbers.ensures
