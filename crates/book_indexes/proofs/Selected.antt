-- The ids that an index finds, as the ids of the rows that pass.
use Rattle.std.proofs.Common.{◌≡◌, ℕ, ◌+◌, Bool, true, false, cond, eqb, List, [], ◌∷◌, Option, Some, None, refl, sym, ap, ◌∙◌, sum_by, map, arith}
use Rattle.std.specs.Prelude.{if◌then◌else◌, filter, not}
use Rattle.std.proofs.lemmas.Bool.Decides.{nat_tests}
use Rattle.std.proofs.lemmas.List.Sums.{sum_by-cons}
use Rattle.base_tables.specs.Tables.{has, row_at, InOrderFrom, AreInOrder}
use Rattle.base_tables.specs.Rising.{rising}
use Rattle.base_tables.proofs.Places.{order_weaker}
use Rattle.base_tables.proofs.RisingLemmas.{has-rising, rising_in_order}
use Rattle.base_index.proofs.Sorted.{same_ids}
use Rattle.model_rows.proofs.EachRow.{key-row_at}
use Rattle.book_indexes.specs.Indexes.{Finds}

abbrev one : Bool → ℕ
one b = if b then 1 else 0

abbrev some : ℕ → Bool
some n = not (eqb n 0)

-- the ids of rows in order are in order
pub selected_in_order : {T : Type 0} (id : T → ℕ) (test : T → Bool) (n : ℕ) (rows : List T) → InOrderFrom id n rows → InOrderFrom (λ n. n) n (map id (filter test rows))
selected_in_order id test n [] h = tt
selected_in_order id test n (r ∷ rs) h = by_test (test r) (selected_in_order id test (id r + 1) rs h.1)
  where
    by_test : (b : Bool) → InOrderFrom (λ n. n) (id r + 1) (map id (filter test rs)) → InOrderFrom (λ n. n) n (map id (cond b (r ∷ filter test rs) (filter test rs)))
    by_test true more = (h.0, more)
    by_test false more = order_weaker (λ n. n) (id r + 1) n (map id (filter test rs)) (omega (arith, h.0)) more

module _ {T : Type 0} (id : T → ℕ) (rows : List T) where
  -- no row of the id
  abbrev gone : Option T → ℕ
  gone None = 1
  gone (Some r) = 0

  abbrev is_id : ℕ → Option T → ℕ
  is_id k None = 0
  is_id k (Some r) = one (eqb (id r) k)

  has_is_some : (k : ℕ) (ids : List ℕ) → sum_by (λ i. gone (row_at id i rows)) ids ≡ 0 → has k ids ≡ some (sum_by (λ i. is_id k (row_at id i rows)) ids)
  has_is_some k [] e = refl
  has_is_some k (i ∷ is) e = by_row (row_at id i rows) refl (omega (arith, e, sum_by-cons (λ j. gone (row_at id j rows)) i is)) (has_is_some k is (omega (arith, e, sum_by-cons (λ j. gone (row_at id j rows)) i is))) (sum_by-cons (λ j. is_id k (row_at id j rows)) i is)
    where
      by_row : (o : Option T) → row_at id i rows ≡ o → gone (row_at id i rows) ≡ 0 → has k is ≡ some (sum_by (λ j. is_id k (row_at id j rows)) is) → sum_by (λ j. is_id k (row_at id j rows)) (i ∷ is) ≡ is_id k (row_at id i rows) + sum_by (λ j. is_id k (row_at id j rows)) is → has k (i ∷ is) ≡ some (sum_by (λ j. is_id k (row_at id j rows)) (i ∷ is))
      by_row None found none more sum = absurd (omega (arith, none, ap gone found))
      by_row (Some r) found none more sum = grind (arith, nat_tests, key-row_at id i rows r found, more, sum, ap (is_id k) found)

has_selected : {T : Type 0} (id : T → ℕ) (test : T → Bool) (k : ℕ) (rows : List T) → has k (map id (filter test rows)) ≡ some (sum_by (λ r. if test r then one (eqb (id r) k) else 0) rows)
has_selected id test k [] = refl
has_selected id test k (r ∷ rs) = by_test (test r) (has_selected id test k rs) (sum_by-cons (λ s. if test s then one (eqb (id s) k) else 0) r rs) refl
  where
    by_test : (b : Bool) → has k (map id (filter test rs)) ≡ some (sum_by (λ s. if test s then one (eqb (id s) k) else 0) rs)
        → sum_by (λ s. if test s then one (eqb (id s) k) else 0) (r ∷ rs) ≡ (if test r then one (eqb (id r) k) else 0) + sum_by (λ s. if test s then one (eqb (id s) k) else 0) rs → test r ≡ b
        → has k (map id (cond b (r ∷ filter test rs) (filter test rs))) ≡ some (sum_by (λ s. if test s then one (eqb (id s) k) else 0) (r ∷ rs))
    by_test true more sum is = grind (arith, nat_tests, more, sum, is)
    by_test false more sum is = grind (arith, nat_tests, more, sum, is)

none_gone : {T : Type 0} (test : T → Bool) (rows : List T) → sum_by (λ r. if test r then 0 else 0) rows ≡ 0
none_gone test [] = refl
none_gone test (r ∷ rs) = omega (arith, none_gone test rs, none (test r), sum_by-cons (λ s. if test s then 0 else 0) r rs)
  where
    none : (b : Bool) → ◌≡◌ {A = ℕ} (if b then 0 else 0) 0
    none true = refl
    none false = refl

module _ {T : Type 0} (id : T → ℕ) (test : T → Bool) (rows : List T) (ids : List ℕ) (order : AreInOrder id rows) (finds : Finds id test rows ids) where
  -- the same ids
  has_found : (k : ℕ) → has k ids ≡ has k (map id (filter test rows))
  has_found k = has_is_some id rows k ids (finds (gone id rows) ∙ none_gone test rows) ∙ ap some (finds (is_id id rows k)) ∙ sym (has_selected id test k rows)

  -- ids that rise are those of the rows that pass
  pub found_rising : AreInOrder (λ n. n) ids → ids ≡ map id (filter test rows)
  found_rising up = same_ids ids (map id (filter test rows)) up (selected_in_order id test 0 rows order) has_found

  -- others are so once they are sorted
  pub found_sorted : rising ids ≡ map id (filter test rows)
  found_sorted = same_ids (rising ids) (map id (filter test rows)) (rising_in_order ids) (selected_in_order id test 0 rows order) (λ k. has-rising k ids ∙ has_found k)
