use Rattle.std.proofs.Common.{◌↔◌, ◌≡◌, true}
use Rattle.std.specs.List.{AllByRecursion}
use Rattle.model_invariant.specs.Sent.{voucher_stands}
use Rattle.file_check.proofs.products.all_sent.Given as goal

-- all pass if those that are left do, and then only
abbrev pub invariant-loop-row : goal.invariant-loop-row
invariant-loop-row g l = AllByRecursion (λ w. voucher_stands (g.B.Book.state l.book).lists.vouchers w.voucher ≡ true) l.row-iterator ↔ AllByRecursion (λ w. voucher_stands (g.B.Book.state l.book).lists.vouchers w.voucher ≡ true) (g.B.Book.state l.book).lists.waiting
