-- The uses that are held in carts, through changes and as time passes.
use Rattle.std.proofs.Common.{◌≡◌, ℕ, ◌+◌, ◌≤◌, Bool, true, false, ◌&&◌, leb, ltb, List, map, Option, Some, None, refl, ◌∙◌, sum_by, count_by, arith}
use Rattle.std.specs.Prelude.{if◌then◌else◌}
use Rattle.std.proofs.lemmas.Bool.Decides.{nat_tests}
use Rattle.std.proofs.lemmas.List.Sums.{count_by-le-length}
use Rattle.base_tables.specs.Tables.{sum_at}
use Rattle.base_tables.proofs.Edits.{sum_by-with_row, sum_by-without_row}
use Rattle.model_rows.specs.declared.rows.CartPos.{CartPos}
use Rattle.model_rows.specs.declared.changes.Change.TheVariants.{PutCart, DropCart}
use Rattle.model_rows.specs.CameDue.{is_due_cart}
use Rattle.model_rows.specs.Change.{after_change}
use Rattle.model_rows.specs.Conditions.{is_live_cart, names, holds}
use Rattle.model_rows.specs.Headroom.{held}
use Rattle.model_rows.specs.Kept.{IsKept}
use Rattle.model_rows.specs.Lists.{Lists, cart_at}
use Rattle.model_rows.proofs.Time.{sum_by_split}
use Rattle.book_indexes.specs.Indexes.{Finds}
use Rattle.book_indexes.proofs.EntryLemmas.{sums_like, sum_map}
use Rattle.book_usage.specs.Shares.{held_name}
use Rattle.book_counts_over_time.specs.Held.{named_by}
use Rattle.book_counts_over_time.specs.Redemptions.{turn, turn_each}
use Rattle.book_counts_over_time.proofs.RedemptionLemmas.{one_use, up_one, down_one, down_each}

abbrev one : Bool → ℕ
one b = if b then 1 else 0

-- what a cart position holds of a voucher
held_use : (at x : ℕ) (cart : CartPos) → one_use x (held_name at (Some cart)) ≡ one (holds at x cart)
held_use at x cart = by_test (is_live_cart at cart)
  where
    by_test : (b : Bool) → one_use x (if b then cart.voucher else None) ≡ one (b && names x cart.voucher)
    by_test true = refl
    by_test false = refl

pub held_use_if : (at x : ℕ) (cart : Option CartPos) → one_use x (held_name at cart) ≡ sum_at (λ c. one (holds at x c)) cart
held_use_if at x None = refl
held_use_if at x (Some cart) = held_use at x cart

at_most_one : (b : Bool) → one b ≤ 1
at_most_one true = omega arith
at_most_one false = omega arith

module _ (lists : Lists) (at : ℕ) (kept : IsKept 4294967296 lists) where
  -- a cart position comes, and the one of its id goes
  pub held_put : (row : CartPos) (x : ℕ) → turn false (held_name at (cart_at row.id lists)) (turn true (held_name at (Some row)) (λ n. held at n lists)) x ≡ held at x (after_change (PutCart row) lists)
  held_put row x =
      let f : CartPos → ℕ = λ c. one (holds at x c) in
      let few : held at x lists + one_use x (held_name at (Some row)) + 0 ≤ 18446744073709551615 = omega (arith, count_by-le-length (holds at x) lists.carts, kept.carts.few, held_use at x row, at_most_one (holds at x row)) in
      omega (
        arith,
        down_one (held_name at (cart_at row.id lists)) (turn true (held_name at (Some row)) (λ n. held at n lists)) x,
        up_one (held_name at (Some row)) (λ n. held at n lists) x 0 few,
        held_use at x row,
        held_use_if at x (cart_at row.id lists),
        sum_by-with_row (λ r. r.id) f 0 row lists.carts kept.carts.in_order,
      )

  -- the one of an id goes
  pub held_drop : (id x : ℕ) → turn false (held_name at (cart_at id lists)) (λ n. held at n lists) x ≡ held at x (after_change (DropCart id) lists)
  held_drop id x =
      let f : CartPos → ℕ = λ c. one (holds at x c) in
      omega (
        arith,
        down_one (held_name at (cart_at id lists)) (λ n. held at n lists) x,
        held_use_if at x (cart_at id lists),
        sum_by-without_row (λ r. r.id) f 0 id lists.carts kept.carts.in_order,
      )

-- what was held is held still, or has ended
module _ (lists : Lists) (from to x : ℕ) (le : from ≤ to) where
  part : (e : ℕ) (name : Bool) → one (leb to e && name) + one ((leb from e && ltb e to) && name) ≡ one (leb from e && name)
  part e name = grind (arith, nat_tests, le)

  pub held_later : held to x lists + count_by (λ c. is_due_cart from to c && names x c.voucher) lists.carts ≡ held from x lists
  held_later = sum_by_split (λ c. one (holds to x c)) (λ c. one (is_due_cart from to c && names x c.voucher)) (λ c. one (holds from x c)) lists.carts (λ c. part c.expires (names x c.voucher))

  first_and : (a b : Bool) → (if a then one b else 0) ≡ one (a && b)
  first_and true b = refl
  first_and false b = refl

  -- those that have ended, one after another
  pub held_ended : (ids : List ℕ) → Finds (λ r. r.id) (is_due_cart from to) lists.carts ids → turn_each false (map (λ i. named_by (cart_at i lists)) ids) (λ n. held from n lists) x ≡ held to x lists
  held_ended ids finds =
      let gone : sum_by (one_use x) (map (λ i. named_by (cart_at i lists)) ids) ≡ count_by (λ c. is_due_cart from to c && names x c.voucher) lists.carts =
      sum_map (λ i. named_by (cart_at i lists)) (one_use x) ids
      ∙ finds (λ o. one_use x (named_by o))
      ∙ sums_like (λ c. if is_due_cart from to c then one_use x (named_by (Some c)) else 0) (λ c. one (is_due_cart from to c && names x c.voucher)) lists.carts (λ c. first_and (is_due_cart from to c) (names x c.voucher)) in
      omega (arith, down_each (map (λ i. named_by (cart_at i lists)) ids) (λ n. held from n lists) x, gone, held_later)
