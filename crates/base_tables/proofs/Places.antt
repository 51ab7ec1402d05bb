-- What a search finds among rows in order, and what an edit at that place does.
use Rattle.std.proofs.Common.{◌≡◌, ℕ, zero, suc, ◌+◌, ◌-◌, ◌<◌, ◌≤◌, ◌≢◌, Bool, cond, List, [], ◌∷◌, length, get_or, set, Some, None, Result, Ok, Err, IfOk, IfErr, true, false, eqb, leb, ◌⊎◌, inl, inr, refl, sym, ap, subst, arith}
use Rattle.std.specs.Prelude.{filter}
use Rattle.std.specs.List.{insert, remove}
use Rattle.std.specs.List.Sorted.{IsSearchInRange, IsBinarySearchResult, IsNonDecreasingBy}
use Rattle.std.specs.Ordering.{nat_cmp, ordering_index}
use Rattle.std.proofs.lemmas.Cmp.{ranked}
use Rattle.std.proofs.lemmas.Bool.Decides.{nat_tests, leb_tells, eqb_tells}
use Rattle.base_tables.specs.Tables.{row_at, with_row, without_row, InOrderFrom, AreInOrder, IsPlace, IsGap}

module _ {T : Type 0} (key : T → ℕ) where
  pub order_weaker : (n m : ℕ) (rows : List T) → m ≤ n → InOrderFrom key n rows → InOrderFrom key m rows
  order_weaker n m [] le h = tt
  order_weaker n m (r ∷ rs) le h = (omega (arith, h.0), h.1)

  pub at_least : (n : ℕ) (rows : List T) → InOrderFrom key n rows → (i : ℕ) (d : T) → i < length rows → n ≤ key (get_or rows i d)
  at_least n [] h i d lt = absurd (omega arith)
  at_least n (r ∷ rs) h zero d lt = h.0
  at_least n (r ∷ rs) h (suc i) d lt = omega (arith, h.0, at_least (key r + 1) rs h.1 i d (omega arith))

  -- rows that pass stay in order
  pub filter_in_order : (test : T → Bool) (n : ℕ) (rows : List T) → InOrderFrom key n rows → InOrderFrom key n (filter test rows)
  filter_in_order test n [] h = tt
  filter_in_order test n (r ∷ rs) h = by_test (test r) (filter_in_order test (key r + 1) rs h.1)
    where
      by_test : (b : Bool) → InOrderFrom key (key r + 1) (filter test rs) → InOrderFrom key n (cond b (r ∷ filter test rs) (filter test rs))
      by_test true more = (h.0, more)
      by_test false more = order_weaker (key r + 1) n (filter test rs) (omega (arith, h.0)) more

  rises : (n : ℕ) (rows : List T) → InOrderFrom key n rows → (i j : ℕ) (d : T) → i < j → j < length rows → key (get_or rows i d) < key (get_or rows j d)
  rises n [] h i j d lt in_range = absurd (omega arith)
  rises n (r ∷ rs) h i zero d lt in_range = absurd (omega arith)
  rises n (r ∷ rs) h zero (suc j) d lt in_range = omega (arith, at_least (key r + 1) rs h.1 j d (omega arith))
  rises n (r ∷ rs) h (suc i) (suc j) d lt in_range = rises (key r + 1) rs h.1 i j d (omega arith) (omega arith)

  comparisons_rise : (rows : List T) → AreInOrder key rows → (k : ℕ) → IsNonDecreasingBy (λ r. ordering_index (nat_cmp (key r) k)) rows
  comparisons_rise rows h k i j d le in_range =
      let keys_rise : key (get_or rows i d) ≤ key (get_or rows j d) = grind (arith, rises 0 rows h i j d, λ (same : i ≡ j). ap (λ n. key (get_or rows n d)) same) in
      grind (arith, nat_tests)

  pub searched : (rows : List T) → AreInOrder key rows → (k : ℕ) (r : Result ℕ ℕ) → IsSearchInRange r (length rows) → IsBinarySearchResult (λ r. nat_cmp (key r) k) rows r → record { found : IfOk r (IsPlace key rows k); absent : IfErr r (IsGap key rows k) }
  searched rows h k (Ok at) in_range equal = record { found = record { in_range = in_range; has_id = λ d. ranked _ k _ (sym (equal d)) }; absent = tt }
  searched rows h k (Err at) in_range parted = record {
    found = tt;
    absent = record {
      in_range = in_range;
      smaller_before = λ j d lt. ranked _ k _ (sym ((parted (comparisons_rise rows h k)).0 j d (omega arith) lt));
      greater_after = λ j d le lt. ranked _ k _ (sym ((parted (comparisons_rise rows h k)).1 j d le lt));
    };
  }

  -- behind a last row of a smaller id all are smaller
  pub behind_last : (rows : List T) (k : ℕ) → AreInOrder key rows → ((d : T) → key (get_or rows (length rows - 1) d) < k) → IsGap key rows k (length rows)
  behind_last rows k h last = record {
    in_range = omega arith;
    smaller_before = λ j d lt.
        let below : key (get_or rows j d) ≤ key (get_or rows (length rows - 1) d) = grind (arith, rises 0 rows h j (length rows - 1) d, λ (same : j ≡ length rows - 1). ap (λ n. key (get_or rows n d)) same) in
        omega (arith, below, last d);
    greater_after = λ j d le lt. absurd (omega arith);
  }

  place_tail : (r : T) (rows : List T) (k i : ℕ) → IsPlace key (r ∷ rows) k (suc i) → IsPlace key rows k i
  place_tail r rows k i p = record { in_range = omega (arith, p.in_range); has_id = p.has_id }

  gap_tail : (r : T) (rows : List T) (k i : ℕ) → IsGap key (r ∷ rows) k (suc i) → IsGap key rows k i
  gap_tail r rows k i p = record { in_range = omega (arith, p.in_range); smaller_before = λ j d lt. p.smaller_before (suc j) d (omega arith); greater_after = λ j d le lt. p.greater_after (suc j) d (omega arith) (omega arith) }

  gap_here : (r : T) (rows : List T) (k : ℕ) → IsGap key (r ∷ rows) k 0 → IsGap key rows k 0
  gap_here r rows k p = record { in_range = omega arith; smaller_before = λ j d lt. absurd (omega arith); greater_after = λ j d le lt. p.greater_after (suc j) d (omega arith) (omega arith) }

  -- the row at the place is the row of the id
  pub row_at_place : (n : ℕ) (rows : List T) (k i : ℕ) (d : T) → InOrderFrom key n rows → IsPlace key rows k i → row_at key k rows ≡ Some (get_or rows i d)
  row_at_place n [] k i d h p = absurd (omega (arith, p.in_range))
  row_at_place n (r ∷ rs) k zero d h p = grind (arith, nat_tests, p.has_id r)
  row_at_place n (r ∷ rs) k (suc i) d h p =
      let q = place_tail r rs k i p in
      grind (arith, nat_tests, q.has_id d, at_least (key r + 1) rs h.1 i d q.in_range, row_at_place (key r + 1) rs k i d h.1 q)

  pub row_at_gap : (rows : List T) (k i : ℕ) → IsGap key rows k i → row_at key k rows ≡ None
  row_at_gap [] k i p = refl
  row_at_gap (r ∷ rs) k zero p = grind (arith, nat_tests, p.greater_after 0 r (omega arith) (omega arith), row_at_gap rs k 0 (gap_here r rs k p))
  row_at_gap (r ∷ rs) k (suc i) p = grind (arith, nat_tests, p.smaller_before 0 r (omega arith), row_at_gap rs k i (gap_tail r rs k i p))

  pub set_is_with_row : (n : ℕ) (rows : List T) (row : T) (i : ℕ) → InOrderFrom key n rows → IsPlace key rows (key row) i → set rows i row ≡ with_row key row rows
  set_is_with_row n [] row i h p = absurd (omega (arith, p.in_range))
  set_is_with_row n (r ∷ rs) row zero h p = grind (arith, nat_tests, p.has_id r)
  set_is_with_row n (r ∷ rs) row (suc i) h p =
      let q = place_tail r rs (key row) i p in
      grind (arith, nat_tests, q.has_id row, at_least (key r + 1) rs h.1 i row q.in_range, set_is_with_row (key r + 1) rs row i h.1 q)

  pub insert_is_with_row : (rows : List T) (row : T) (i : ℕ) → IsGap key rows (key row) i → insert rows i row ≡ with_row key row rows
  insert_is_with_row [] row zero p = refl
  insert_is_with_row [] row (suc i) p = absurd (omega (arith, p.in_range))
  insert_is_with_row (r ∷ rs) row zero p = grind (arith, nat_tests, p.greater_after 0 r (omega arith) (omega arith))
  insert_is_with_row (r ∷ rs) row (suc i) p = grind (arith, nat_tests, p.smaller_before 0 r (omega arith), insert_is_with_row rs row i (gap_tail r rs (key row) i p))

  pub without_above : (n : ℕ) (rows : List T) (k : ℕ) → k < n → InOrderFrom key n rows → without_row key k rows ≡ rows
  without_above n [] k lt h = refl
  without_above n (r ∷ rs) k lt h = grind (arith, nat_tests, h.0, without_above (key r + 1) rs k (omega (arith, h.0)) h.1)

  pub remove_is_without_row : (n : ℕ) (rows : List T) (k i : ℕ) → InOrderFrom key n rows → IsPlace key rows k i → remove rows i ≡ without_row key k rows
  remove_is_without_row n [] k i h p = absurd (omega (arith, p.in_range))
  remove_is_without_row n (r ∷ rs) k zero h p = grind (arith, nat_tests, p.has_id r, without_above (key r + 1) rs k (omega (arith, p.has_id r)) h.1)
  remove_is_without_row n (r ∷ rs) k (suc i) h p =
      let q = place_tail r rs k i p in
      grind (arith, nat_tests, q.has_id r, at_least (key r + 1) rs h.1 i r q.in_range, remove_is_without_row (key r + 1) rs k i h.1 q)

  pub without_gap : (rows : List T) (k i : ℕ) → IsGap key rows k i → without_row key k rows ≡ rows
  without_gap [] k i p = refl
  without_gap (r ∷ rs) k zero p = grind (arith, nat_tests, p.greater_after 0 r (omega arith) (omega arith), without_gap rs k 0 (gap_here r rs k p))
  without_gap (r ∷ rs) k (suc i) p = grind (arith, nat_tests, p.smaller_before 0 r (omega arith), without_gap rs k i (gap_tail r rs k i p))

  -- both keep the order
  pub with_row_in_order : (n : ℕ) (row : T) (rows : List T) → n ≤ key row → InOrderFrom key n rows → InOrderFrom key n (with_row key row rows)
  with_row_in_order n row [] le h = (le, tt)
  with_row_in_order n row (r ∷ rs) le h = by_order (λ lt. with_row_in_order (key r + 1) row rs (omega (arith, lt)) h.1) (leb_tells (suc (key r)) (key row)) (eqb_tells (key r) (key row))
    where
      by_order : (more : key r < key row → InOrderFrom key (key r + 1) (with_row key row rs)) (t : ((leb (suc (key r)) (key row) ≡ true) × (suc (key r) ≤ key row)) ⊎ ((leb (suc (key r)) (key row) ≡ false) × (key row < suc (key r)))) (e : ((eqb (key r) (key row) ≡ true) × (key r ≡ key row)) ⊎ ((eqb (key r) (key row) ≡ false) × (key r ≢ key row))) → InOrderFrom key n (with_row key row (r ∷ rs))
      by_order more (inl t) e = rw t.0 (h.0, more (omega (arith, t.1)))
      by_order more (inr t) (inl e) = rw (t.0, e.0) (le, subst (λ k. InOrderFrom key (k + 1) rs) e.1 h.1)
      by_order more (inr t) (inr e) = rw (t.0, e.0) (le, (omega (arith, t.1, e.1), h.1))

  pub without_row_in_order : (n k : ℕ) (rows : List T) → InOrderFrom key n rows → InOrderFrom key n (without_row key k rows)
  without_row_in_order n k [] h = tt
  without_row_in_order n k (r ∷ rs) h = by_id (without_row_in_order (key r + 1) k rs h.1) (eqb_tells (key r) k)
    where
      by_id : (more : InOrderFrom key (key r + 1) (without_row key k rs)) → ((eqb (key r) k ≡ true) × (key r ≡ k)) ⊎ ((eqb (key r) k ≡ false) × (key r ≢ k)) → InOrderFrom key n (without_row key k (r ∷ rs))
      by_id more (inl e) = rw e.0 (order_weaker (key r + 1) n (without_row key k rs) (omega (arith, h.0)) more)
      by_id more (inr e) = rw e.0 (h.0, more)
