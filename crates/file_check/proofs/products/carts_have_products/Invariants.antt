use Rattle.std.proofs.Common.{◌↔◌}
use Rattle.std.specs.List.{AllByRecursion}
use Rattle.model_invariant.specs.Varied.{IsProduct}
use Rattle.file_check.proofs.products.carts_have_products.Given as goal

-- all pass if those that are left do, and then only
abbrev pub invariant-loop-row : goal.invariant-loop-row
invariant-loop-row g l = AllByRecursion (λ c. IsProduct (g.B.Book.state l.book).lists.catalogue c.product) l.row-iterator ↔ AllByRecursion (λ c. IsProduct (g.B.Book.state l.book).lists.catalogue c.product) (g.B.Book.state l.book).lists.carts
