-- What a book is asked that no rule asks.
use Rattle.std.specs.Prelude.{◌≡◌, ℕ, Bool, true, Option, Some, None, ◌&&◌, count_by, not, ◌==◌, List, find, filter}
use Rattle.std.specs.List.{AllByRecursion, list_any}
use Rattle.model_catalogue.specs.declared.rows.Product.{Product}
use Rattle.model_rows.specs.Conditions.{names, holds}
use Rattle.model_rows.specs.Lists.{Lists, voucher_at}
use Rattle.model_rows.specs.Fits.{is_exact_if}
use Rattle.model_catalogue.specs.declared.rows.Quota.{Quota}
use Rattle.model_catalogue.specs.Member.{is_in}
use Rattle.base_values.specs.Texts.{same_text}
use Rattle.model_rows.specs.declared.rows.CartPos.{CartPos}
use Rattle.model_rows.specs.declared.rows.OrderPos.{OrderPos}

-- the voucher of this id, if it blocks, names a quota or a variation, or the product has no variation; where none is named or there,
-- nothing is asked
abbrev pub is_exact : Lists → Product → Option ℕ → Bool
is_exact lists product None = true
is_exact lists product (Some id) = is_exact_if product (voucher_at id lists)

-- of each order position: its voucher, if it blocks, names a quota or a variation, or the product has no variation
abbrev pub AllExact : Lists → Type 0
AllExact lists = AllByRecursion (λ p. is_exact lists p.product p.voucher ≡ true) lists.positions

-- the cart positions that hold the voucher and are for a product of the quota
abbrev pub held_in : ℕ → Quota → ℕ → Lists → ℕ
held_in at quota id lists = count_by (λ c. holds at id c && is_in quota c.product) lists.carts

-- the first order position with that secret
abbrev pub with_secret : List ℕ → Lists → Option OrderPos
with_secret secret lists = find (λ p. same_text p.secret secret) lists.positions

-- the cart positions that name a voucher, dead ones too, by id
abbrev pub carts_naming : ℕ → Lists → List CartPos
carts_naming id lists = filter (λ c. names id c.voucher) lists.carts

-- a voucher other than this one has the code
abbrev pub is_taken : ℕ → List ℕ → Lists → Bool
is_taken id code lists = list_any (λ v. same_text v.code code && not (v.id == id)) lists.vouchers
