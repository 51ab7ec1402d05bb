use Rattle.std.proofs.Common.{◌↔◌, ◌≡◌, true}
use Rattle.std.specs.List.{AllByRecursion}
use Rattle.model_rows.specs.Fits.{is_fit}
use Rattle.file_check.proofs.products.carts_fit.Given as goal

-- all pass if those that are left do, and then only
abbrev pub invariant-loop-row : goal.invariant-loop-row
invariant-loop-row g l = AllByRecursion (λ c. is_fit (g.B.Book.state l.book).lists c.product c.voucher ≡ true) l.row-iterator ↔ AllByRecursion (λ c. is_fit (g.B.Book.state l.book).lists c.product c.voucher ≡ true) (g.B.Book.state l.book).lists.carts
