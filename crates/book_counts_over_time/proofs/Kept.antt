-- Values that are kept for the rows of a table.
use Rattle.std.proofs.Common.{◌≡◌, ℕ, zero, suc, List, [], ◌∷◌, set, map, refl, sym, ap, ◌∙◌}
use Rattle.std.specs.List.{insert, remove}
use Rattle.base_tables.specs.Tables.{with_row, without_row, AreInOrder, IsPlace, IsGap}
use Rattle.base_tables.proofs.Places.{set_is_with_row, insert_is_with_row, remove_is_without_row, without_gap}

module _ {T U : Type 0} (f : T → U) where
  map-set : (rows : List T) (i : ℕ) (row : T) → map f (set rows i row) ≡ set (map f rows) i (f row)
  map-set [] i row = refl
  map-set (r ∷ rs) zero row = refl
  map-set (r ∷ rs) (suc i) row = ap (λ l. f r ∷ l) (map-set rs i row)

  map-insert : (rows : List T) (i : ℕ) (row : T) → map f (insert rows i row) ≡ insert (map f rows) i (f row)
  map-insert rows zero row = refl
  map-insert [] (suc i) row = refl
  map-insert (r ∷ rs) (suc i) row = ap (λ l. f r ∷ l) (map-insert rs i row)

  map-remove : (rows : List T) (i : ℕ) → map f (remove rows i) ≡ remove (map f rows) i
  map-remove [] zero = refl
  map-remove [] (suc i) = refl
  map-remove (r ∷ rs) zero = refl
  map-remove (r ∷ rs) (suc i) = ap (λ l. f r ∷ l) (map-remove rs i)

module _ {T U : Type 0} (key : T → ℕ) (rows : List T) (kept more : List U) (i id : ℕ) (value : U) (order : AreInOrder key rows) where
  pub kept_set : IsPlace key rows id i → more ≡ set kept i value → (f : T → U) (row : T) → key row ≡ id → value ≡ f row → kept ≡ map f rows → more ≡ map f (with_row key row rows)
  kept_set place is f row own new old = is ∙ rw (new, old) (sym (map-set f rows i row) ∙ ap (map f) (set_is_with_row key 0 rows row i order (rw (sym own) at place)))

  pub kept_inserted : IsGap key rows id i → more ≡ insert kept i value → (f : T → U) (row : T) → key row ≡ id → value ≡ f row → kept ≡ map f rows → more ≡ map f (with_row key row rows)
  kept_inserted gap is f row own new old = is ∙ rw (new, old) (sym (map-insert f rows i row) ∙ ap (map f) (insert_is_with_row key rows row i (rw (sym own) at gap)))

module _ {T U : Type 0} (key : T → ℕ) (rows : List T) (kept more : List U) (i id : ℕ) (order : AreInOrder key rows) where
  pub kept_removed : IsPlace key rows id i → more ≡ remove kept i → (f : T → U) → kept ≡ map f rows → more ≡ map f (without_row key id rows)
  kept_removed place is f old = is ∙ rw old (sym (map-remove f rows i) ∙ ap (map f) (remove_is_without_row key 0 rows id i order place))

  pub kept_still : IsGap key rows id i → (f : T → U) → kept ≡ map f rows → kept ≡ map f (without_row key id rows)
  kept_still gap f old = old ∙ ap (map f) (sym (without_gap key rows id i gap))
