-- What is in some carts.
use Rattle.std.proofs.Common.{◌≡◌, ℕ, ◌+◌, ◌<◌, Bool, true, false, List, [], ◌∷◌, ◌++◌, map, length, get_or, drop, append_assoc, ◌≤◌, refl, sym, ap, ◌∙◌, cond, arith}
use Rattle.std.specs.Prelude.{filter, ◌||◌}
use Rattle.std.proofs.lemmas.Bool.Decides.{nat_tests}
use Rattle.base_tables.specs.Rising.{rising}
use Rattle.base_tables.specs.Tables.{has, AreInOrder}
use Rattle.base_values.specs.Texts.{same_text}
use Rattle.base_tables.proofs.RisingLemmas.{has-rising, rising_in_order}
use Rattle.base_index.proofs.Sorted.{same_ids}
use Rattle.book_indexes.proofs.Selected.{selected_in_order}
use Rattle.model_rows.specs.declared.rows.CartPos.{CartPos}
use Rattle.model_rows.specs.Consumed.{is_consumed}
use Rattle.book_store.proofs.Listed.{drop_next, drop_end, nothing_behind}

-- the ids of what is in each of some carts
abbrev pub each_cart : List (List ℕ) → List CartPos → List ℕ
each_cart [] rows = []
each_cart (cart ∷ carts) rows = map (λ c. c.id) (filter (λ c. same_text c.cart_id cart) rows) ++ each_cart carts rows

-- one cart more
pub next_cart : (carts : List (List ℕ)) (rows : List CartPos) (i : ℕ) (cart had now total : List ℕ) → i < length carts → cart ≡ get_or carts i cart → had ++ each_cart (drop i carts) rows ≡ total → now ≡ had ++ map (λ c. c.id) (filter (λ c. same_text c.cart_id cart) rows) → now ++ each_cart (drop (i + 1) carts) rows ≡ total
next_cart carts rows i cart had now total lt is left grown =
    let ids : List ℕ = map (λ c. c.id) (filter (λ c. same_text c.cart_id cart) rows) in
    let rest : List ℕ = each_cart (drop (i + 1) carts) rows in
    let next : each_cart (drop i carts) rows ≡ ids ++ rest = ap (λ l. each_cart l rows) (drop_next carts i cart lt) ∙ ap (λ t. map (λ c. c.id) (filter (λ c. same_text c.cart_id t) rows) ++ rest) (sym is) in
    ap (λ l. l ++ rest) grown ∙ append_assoc had ids rest ∙ ap (λ l. had ++ l) (sym next) ∙ left

pub no_cart : (carts : List (List ℕ)) (rows : List CartPos) (i : ℕ) (had total : List ℕ) → length carts ≤ i → had ++ each_cart (drop i carts) rows ≡ total → had ≡ total
no_cart carts rows i had total le left = sym (nothing_behind had (each_cart (drop i carts) rows) (ap (λ l. each_cart l rows) (drop_end carts i le))) ∙ left

has_append : (k : ℕ) (xs ys : List ℕ) → has k (xs ++ ys) ≡ (has k xs || has k ys)
has_append k [] ys = refl
has_append k (x ∷ xs) ys = grind (arith, nat_tests, has_append k xs ys)

has_either : (k : ℕ) (a b : CartPos → Bool) (rows : List CartPos) → has k (map (λ c. c.id) (filter (λ c. a c || b c) rows)) ≡ (has k (map (λ c. c.id) (filter a rows)) || has k (map (λ c. c.id) (filter b rows)))
has_either k a b [] = refl
has_either k a b (r ∷ rs) = by_tests (a r) (b r) (has_either k a b rs)
  where
    by_tests : (p q : Bool) → has k (map (λ c. c.id) (filter (λ c. a c || b c) rs)) ≡ (has k (map (λ c. c.id) (filter a rs)) || has k (map (λ c. c.id) (filter b rs)))
        → has k (map (λ c. c.id) (cond (p || q) (r ∷ filter (λ c. a c || b c) rs) (filter (λ c. a c || b c) rs))) ≡ (has k (map (λ c. c.id) (cond p (r ∷ filter a rs) (filter a rs))) || has k (map (λ c. c.id) (cond q (r ∷ filter b rs) (filter b rs))))
    by_tests true true more = grind (arith, nat_tests, more)
    by_tests true false more = grind (arith, nat_tests, more)
    by_tests false true more = grind (arith, nat_tests, more)
    by_tests false false more = more

none_has : (k : ℕ) (rows : List CartPos) → has k (map (λ c. c.id) (filter (is_consumed []) rows)) ≡ false
none_has k [] = refl
none_has k (r ∷ rs) = none_has k rs

has_each : (k : ℕ) (carts : List (List ℕ)) (rows : List CartPos) → has k (each_cart carts rows) ≡ has k (map (λ c. c.id) (filter (is_consumed carts) rows))
has_each k [] rows = sym (none_has k rows)
has_each k (cart ∷ carts) rows =
    has_append k (map (λ c. c.id) (filter (λ c. same_text c.cart_id cart) rows)) (each_cart carts rows)
    ∙ ap (λ b. has k (map (λ c. c.id) (filter (λ c. same_text c.cart_id cart) rows)) || b) (has_each k carts rows)
    ∙ sym (has_either k (λ c. same_text c.cart_id cart) (is_consumed carts) rows)

-- sorted, they are those that are in one of them
pub each_sorted : (carts : List (List ℕ)) (rows : List CartPos) → AreInOrder (λ c. c.id) rows → rising (each_cart carts rows) ≡ map (λ c. c.id) (filter (is_consumed carts) rows)
each_sorted carts rows order = same_ids (rising (each_cart carts rows)) (map (λ c. c.id) (filter (is_consumed carts) rows)) (rising_in_order (each_cart carts rows)) (selected_in_order (λ c. c.id) (is_consumed carts) 0 rows order) (λ k. has-rising k (each_cart carts rows) ∙ has_each k carts rows)
