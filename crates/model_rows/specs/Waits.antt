-- Who waits for a product by an email, without a voucher.
use Rattle.std.specs.Prelude.{ℕ, Bool, ◌&&◌, ◌==◌, List, filter, map}
use Rattle.std.specs.List.{list_any}
use Rattle.base_values.specs.Texts.{same_text}
use Rattle.model_catalogue.specs.declared.rows.Product.{Product}
use Rattle.model_rows.specs.declared.rows.Waiting.{Waiting}
use Rattle.model_rows.specs.Conditions.{same_id}
use Rattle.model_rows.specs.Lists.{Lists}
use Rattle.model_rows.specs.Usage.{has_none}

-- two products are the same item, and the same variation or none
abbrev pub same_product : Product → Product → Bool
same_product a b = a.item == b.item && same_id a.variation b.variation

-- an entry of this email waits, without a voucher, for this product
abbrev pub waits_as : List ℕ → Product → Waiting → Bool
waits_as email product entry = has_none entry.voucher && (same_product entry.product product && same_text entry.email email)

-- an entry of this email waits for this product, without a voucher
abbrev pub is_waiting : List ℕ → Product → Lists → Bool
is_waiting email product lists = list_any (waits_as email product) lists.waiting

-- the entries without voucher, by id
abbrev pub waiters : Lists → List Waiting
waiters lists = filter (λ e. has_none e.voucher) lists.waiting
