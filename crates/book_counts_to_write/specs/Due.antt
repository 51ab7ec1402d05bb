-- The quotas of which less or more may be used at a later moment, since something came due.
use Rattle.std.specs.Prelude.{ℕ, List, [], ◌∷◌, ◌++◌, map, flat_map, Option, Some, None}
use Rattle.model_catalogue.specs.CatalogueLists.{CatalogueLists}
use Rattle.model_catalogue.specs.Kept.{quotas_of}
use Rattle.book_usage.specs.Dues.{due_carts, due_vouchers}
use Rattle.model_rows.specs.declared.rows.Voucher.{Voucher}
use Rattle.model_rows.specs.Lists.{Lists, voucher_at, cart_at}
use Rattle.model_rows.specs.Asked.{carts_naming}
use Rattle.book_counts_to_write.specs.Told.{told_if}

-- the cart positions that name the voucher of an id
abbrev pub ids_naming : Lists → ℕ → List ℕ
ids_naming lists id = map (λ c. c.id) (carts_naming id lists)

-- the quotas in which the cart position of an id counts, or would
abbrev pub quotas_sold : Lists → ℕ → List ℕ
quotas_sold lists id = told_if (λ c. quotas_of c.product lists.catalogue) (cart_at id lists)

-- the quotas that an item has, or a variation of it
abbrev pub hit_by_product : CatalogueLists → Option ℕ → Option ℕ → List ℕ
hit_by_product catalogue None variation = []
hit_by_product catalogue (Some item) variation = quotas_of (record { item = item; variation = variation }) catalogue

-- the quota that a voucher names, or else those that have its product
abbrev pub hit_by_name : CatalogueLists → Option ℕ → Voucher → List ℕ
hit_by_name catalogue (Some quota) voucher = quota ∷ []
hit_by_name catalogue None voucher = hit_by_product catalogue voucher.item voucher.variation

-- the quotas of which a voucher may block places
abbrev pub hit_by : CatalogueLists → Voucher → List ℕ
hit_by catalogue voucher = hit_by_name catalogue voucher.quota voucher

-- the quotas of which the voucher of an id may block places
abbrev pub quotas_hit : Lists → ℕ → List ℕ
quotas_hit lists id = told_if (hit_by lists.catalogue) (voucher_at id lists)

-- the cart positions that came due, and those that name a voucher which did, since it covers them no longer
abbrev pub ended_carts : ℕ → ℕ → Lists → List ℕ
ended_carts from to lists = due_carts from to lists ++ flat_map (ids_naming lists) (due_vouchers from to lists)

-- the quotas of these, and those of which vouchers that came due may block places
abbrev pub due_quotas : ℕ → ℕ → Lists → List ℕ
due_quotas from to lists = flat_map (quotas_sold lists) (ended_carts from to lists) ++ flat_map (quotas_hit lists) (due_vouchers from to lists)
