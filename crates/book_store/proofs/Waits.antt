-- What passes has the key by which it is looked for.
use Rattle.std.proofs.Common.{◌≡◌, ℕ, Bool, true, false, ◌&&◌, eqb, Option, Some, None, List, arith}
use Rattle.std.proofs.lemmas.Bool.Decides.{nat_tests}
use Rattle.base_values.specs.Texts.{same_text}
use Rattle.model_catalogue.specs.declared.rows.Product.{Product}
use Rattle.model_rows.specs.declared.rows.Checkin.{Checkin}
use Rattle.model_rows.specs.declared.rows.Waiting.{Waiting}
use Rattle.model_rows.specs.Conditions.{names}
use Rattle.model_rows.specs.Usage.{has_none}
use Rattle.model_rows.specs.Waits.{same_product, waits_as}
use Rattle.book_indexes.specs.Digests.{digest, pair}
use Rattle.book_indexes.specs.Keys.{checkin_keys, waiting_keys, waiting_keys_by}
use Rattle.book_indexes.proofs.SameDigest.{found_by_digest}

both_second : (a b : Bool) → (a && b) ≡ true → b ≡ true
both_second true b e = e
both_second false b e = absurd (cc e)

-- an entry that waits
pub found_waiting : (key : ℕ) (w : Waiting) (email : List ℕ) (product : Product) → key ≡ digest email → waits_as email product w ≡ true → names key (waiting_keys w).text ≡ true
found_waiting key w email product is passes = by_voucher w.voucher passes
  where
    by_voucher : (o : Option ℕ) → (has_none o && (same_product w.product product && same_text w.email email)) ≡ true → names key (waiting_keys_by w.email o).text ≡ true
    by_voucher None e = found_by_digest key w.email email is (both_second (same_product w.product product) (same_text w.email email) e)
    by_voucher (Some v) e = absurd (cc e)

-- a check-in of a list and a position
pub found_checkin : (key : ℕ) (c : Checkin) (list position : ℕ) → key ≡ pair list position → (eqb c.list list && eqb c.position position) ≡ true → names key (checkin_keys c).group ≡ true
found_checkin key c list position is e = by_ids c.list c.position e
  where
    by_ids : (x y : ℕ) → (eqb x list && eqb y position) ≡ true → eqb (pair x y) key ≡ true
    by_ids x y e = grind (arith, nat_tests, is, e)
