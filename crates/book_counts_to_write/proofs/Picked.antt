-- What is made of rows one by one is made of those of the ids that matter.
use Rattle.std.proofs.Common.{◌≡◌, ◌≢◌, ℕ, suc, ◌+◌, ◌<◌, ◌≤◌, ◌⊎◌, inl, inr, Bool, true, false, cond, eqb, ◌&&◌, List, [], ◌∷◌, ◌++◌, map, filter, Option, Some, None, refl, sym, ap, ap₂, ◌∙◌, arith}
use Rattle.std.specs.Prelude.{◌||◌, if◌then◌else◌, flat_map, nat_lt}
use Rattle.std.specs.List.{AllByRecursion, list_any}
use Rattle.std.proofs.lemmas.Bool.Decides.{nat_tests, eqb_tells, leb_tells}
use Rattle.base_tables.specs.Tables.{has, row_at, InOrderFrom, AreInOrder}
use Rattle.base_tables.proofs.Edits.{row_at_above}
use Rattle.base_tables.proofs.Places.{order_weaker}
use Rattle.model_rows.proofs.EachRow.{all_weaker}
use Rattle.model_rows.proofs.Found.{each_found}
use Rattle.book_counts_to_write.specs.Told.{told_if}

pub own_id : (k : ℕ) → eqb k k ≡ true
own_id k = grind (arith, nat_tests)

other_id : (j k : ℕ) → j < k → eqb j k ≡ false
other_id j k lt = grind (arith, nat_tests)

-- an id that is below all others isn't among them
absent_below : (k n : ℕ) (ids : List ℕ) → k < n → InOrderFrom (λ n. n) n ids → has k ids ≡ false
absent_below k n [] lt h = refl
absent_below k n (x ∷ xs) lt h = grind (arith, nat_tests, h.0, absent_below k (x + 1) xs (omega (arith, h.0)) h.1)

-- a list of what passes
pub filter_is : {A B : Type 0} (p : B → Bool) (g : A → B) (rows : List A) → filter p (map g rows) ≡ flat_map (λ r. if p (g r) then g r ∷ [] else []) rows
filter_is p g [] = refl
filter_is p g (r ∷ rs) = by_test (p (g r)) (filter_is p g rs)
  where
    by_test : (b : Bool) → filter p (map g rs) ≡ flat_map (λ r. if p (g r) then g r ∷ [] else []) rs → cond b (g r ∷ filter p (map g rs)) (filter p (map g rs)) ≡ (if b then g r ∷ [] else []) ++ flat_map (λ r. if p (g r) then g r ∷ [] else []) rs
    by_test true more = ap (λ l. g r ∷ l) more
    by_test false more = more

module _ {T U : Type 0} (key : T → ℕ) (h : T → List U) where
  abbrev above : ℕ → List T → List T
  above t rows = filter (λ r. nat_lt t (key r)) rows

  all_above : (t n : ℕ) (rows : List T) → t < n → InOrderFrom key n rows → above t rows ≡ rows
  all_above t n [] lt o = refl
  all_above t n (r ∷ rs) lt o =
      let here : nat_lt t (key r) ≡ true = grind (arith, nat_tests, o.0) in
      rw here (ap (λ l. r ∷ l) (all_above t (key r + 1) rs (omega (arith, o.0)) o.1))

  above_in_order : (t n : ℕ) (rows : List T) → InOrderFrom key n rows → InOrderFrom key n (above t rows)
  above_in_order t n [] o = tt
  above_in_order t n (r ∷ rs) o = by_test (nat_lt t (key r)) (above_in_order t (key r + 1) rs o.1)
    where
      by_test : (b : Bool) → InOrderFrom key (key r + 1) (above t rs) → InOrderFrom key n (cond b (r ∷ above t rs) (above t rs))
      by_test true more = (o.0, more)
      by_test false more = order_weaker key (key r + 1) n (above t rs) (omega (arith, o.0)) more

  found_above : (t id : ℕ) (rows : List T) → t < id → row_at key id (above t rows) ≡ row_at key id rows
  found_above t id [] lt = refl
  found_above t id (r ∷ rs) lt = by_id (eqb_tells (key r) id) (nat_lt t (key r)) refl (found_above t id rs lt)
    where
      by_id : ((eqb (key r) id ≡ true) × (key r ≡ id)) ⊎ ((eqb (key r) id ≡ false) × (key r ≢ id)) → (b : Bool) → nat_lt t (key r) ≡ b → row_at key id (above t rs) ≡ row_at key id rs → row_at key id (cond b (r ∷ above t rs) (above t rs)) ≡ row_at key id (r ∷ rs)
      by_id (inl e) true is more = rw e.0 refl
      by_id (inl e) false is more = absurd (grind (arith, nat_tests, is, e.1))
      by_id (inr e) true is more = rw e.0 more
      by_id (inr e) false is more = rw e.0 more

  -- none is made of the rows before an id
  split_at : (t n : ℕ) (rows : List T) → InOrderFrom key n rows → AllByRecursion (λ r. key r < t → h r ≡ []) rows → flat_map h rows ≡ told_if h (row_at key t rows) ++ flat_map h (above t rows)
  split_at t n [] o none = refl
  split_at t n (r ∷ rs) o none = by_id (eqb_tells (key r) t) (leb_tells (suc t) (key r)) (split_at t (key r + 1) rs o.1 none.1)
    where
      by_id : ((eqb (key r) t ≡ true) × (key r ≡ t)) ⊎ ((eqb (key r) t ≡ false) × (key r ≢ t)) → ((nat_lt t (key r) ≡ true) × (suc t ≤ key r)) ⊎ ((nat_lt t (key r) ≡ false) × (key r < suc t)) → flat_map h rs ≡ told_if h (row_at key t rs) ++ flat_map h (above t rs) → h r ++ flat_map h rs ≡ told_if h (row_at key t (r ∷ rs)) ++ flat_map h (above t (r ∷ rs))
      by_id (inl e) (inl l) more = absurd (omega (arith, e.1, l.1))
      by_id (inl e) (inr l) more = rw (e.0, l.0) (ap (λ rows. h r ++ flat_map h rows) (sym (all_above t (key r + 1) rs (omega (arith, e.1)) o.1)))
      by_id (inr e) (inl l) more =
          let gone : row_at key t rs ≡ None = row_at_above key (key r + 1) t rs (omega (arith, l.1)) o.1 in
          rw (e.0, l.0, gone) (ap (λ rows. h r ++ flat_map h rows) (sym (all_above t (key r + 1) rs (omega (arith, l.1)) o.1)))
      by_id (inr e) (inr l) more = rw (e.0, l.0) (ap (λ l. l ++ flat_map h rs) (none.0 (omega (arith, e.1, l.1))) ∙ more)

  kept_above : (t : ℕ) (P Q : T → Type 0) (rows : List T) → ((r : T) → t < key r → P r → Q r) → AllByRecursion P rows → AllByRecursion Q (above t rows)
  kept_above t P Q [] f all = tt
  kept_above t P Q (r ∷ rs) f all = by_test (nat_lt t (key r)) refl (kept_above t P Q rs f all.1)
    where
      by_test : (b : Bool) → nat_lt t (key r) ≡ b → AllByRecursion Q (above t rs) → AllByRecursion Q (cond b (r ∷ above t rs) (above t rs))
      by_test true is more = let lt : t < key r = grind (arith, nat_tests, is) in (f r lt all.0, more)
      by_test false is more = more

  same_found : (rows news : List T) (n : ℕ) (ids : List ℕ) → InOrderFrom (λ n. n) n ids → ((id : ℕ) → n ≤ id → row_at key id rows ≡ row_at key id news) → flat_map (λ id. told_if h (row_at key id rows)) ids ≡ flat_map (λ id. told_if h (row_at key id news)) ids
  same_found rows news n [] o same = refl
  same_found rows news n (id ∷ ids) o same = ap₂ (λ (a b : List U). a ++ b) (ap (told_if h) (same id o.0)) (same_found rows news (id + 1) ids o.1 (λ i le. same i (omega (arith, le, o.0))))

  none_of : (rows : List T) → AllByRecursion (λ r. false ≡ false → h r ≡ []) rows → flat_map h rows ≡ []
  none_of [] all = refl
  none_of (r ∷ rs) all = ap₂ (λ (a b : List U). a ++ b) (all.0 refl) (none_of rs all.1)

  picked : (ids : List ℕ) (n m : ℕ) (rows : List T) → InOrderFrom (λ n. n) n ids → InOrderFrom key m rows → AllByRecursion (λ r. has (key r) ids ≡ false → h r ≡ []) rows → flat_map h rows ≡ flat_map (λ id. told_if h (row_at key id rows)) ids
  picked [] n m rows i o all = none_of rows all
  picked (t ∷ ts) n m rows i o all =
      split_at t m rows o (all_weaker (λ r. has (key r) (t ∷ ts) ≡ false → h r ≡ []) (λ r. key r < t → h r ≡ []) (λ r none lt. none (absent_below (key r) t (t ∷ ts) lt (omega arith, i.1))) rows all)
      ∙ ap (λ l. told_if h (row_at key t rows) ++ l) (
      picked ts (t + 1) m (above t rows) i.1 (above_in_order t m rows o) (kept_above t (λ r. has (key r) (t ∷ ts) ≡ false → h r ≡ []) (λ r. has (key r) ts ≡ false → h r ≡ []) rows (λ r lt none absent. none (ap (λ b. b || has (key r) ts) (other_id t (key r) lt) ∙ absent)) all)
      ∙ same_found (above t rows) rows (t + 1) ts i.1 (λ id le. found_above t id rows (omega (arith, le))))

-- what is told of the rows of some ids, in order, is what is told of all, where nothing is told of any other
module _ {T C : Type 0} (key : T → ℕ) (g : T → C) (passes : C → Bool) where
  abbrev told : T → List C
  told r = if passes (g r) then g r ∷ [] else []

  pub chosen : (rows : List T) (ids : List ℕ) → AreInOrder (λ n. n) ids → AreInOrder key rows → ((r : T) → row_at key (key r) rows ≡ Some r → has (key r) ids ≡ false → told r ≡ []) → flat_map (λ id. told_if told (row_at key id rows)) ids ≡ filter passes (map g rows)
  chosen rows ids rise order others =
      sym (filter_is passes g rows
      ∙ picked key told ids 0 0 rows rise order (all_weaker (λ r. row_at key (key r) rows ≡ Some r) (λ r. has (key r) ids ≡ false → told r ≡ []) others rows (each_found key 0 rows order)))

-- one of the rows has the id and passes, where the one of that id does
abbrev pub passes_if : {T : Type 0} → (T → Bool) → Option T → Bool
passes_if test None = false
passes_if test (Some row) = test row

module _ {T : Type 0} (key : T → ℕ) (test : T → Bool) (k : ℕ) where
  none_passes : (n : ℕ) (rows : List T) → k < n → InOrderFrom key n rows → list_any (λ r. eqb k (key r) && test r) rows ≡ false
  none_passes n [] lt o = refl
  none_passes n (r ∷ rs) lt o = let other = other_id k (key r) (omega (arith, o.0)) in rw other (none_passes (key r + 1) rs (omega (arith, o.0)) o.1)

  pub one_passes : (n : ℕ) (rows : List T) → InOrderFrom key n rows → list_any (λ r. eqb k (key r) && test r) rows ≡ passes_if test (row_at key k rows)
  one_passes n [] o = refl
  one_passes n (r ∷ rs) o = elim (eqb_tells (key r) k) [
    | inl e ↦ let own : eqb k (key r) ≡ true = grind (arith, nat_tests, e.1) in rw (e.0, own) (ap (λ b. test r || b) (none_passes (key r + 1) rs (omega (arith, e.1)) o.1) ∙ or_false (test r))
    | inr e ↦ let other : eqb k (key r) ≡ false = grind (arith, nat_tests, e.1) in rw (e.0, other) (one_passes (key r + 1) rs o.1)
  ]
    where
      or_false : (b : Bool) → (b || false) ≡ b
      or_false true = refl
      or_false false = refl

pub any_mapped : {A B : Type 0} (p : B → Bool) (g : A → B) (rows : List A) → list_any p (map g rows) ≡ list_any (λ r. p (g r)) rows
any_mapped p g [] = refl
any_mapped p g (r ∷ rs) = ap (λ b. p (g r) || b) (any_mapped p g rs)
