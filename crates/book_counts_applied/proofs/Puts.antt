-- Values that are kept by id, and some of them put.
use Rattle.std.proofs.Common.{◌≡◌, ◌≢◌, ℕ, ◌+◌, ◌<◌, ◌⊎◌, inl, inr, true, false, eqb, List, [], ◌∷◌, ◌++◌, length, get_or, set, take, map, Option, Some, None, refl, sym, ap, ◌∙◌, arith}
use Rattle.std.specs.Prelude.{if◌then◌else◌}
use Rattle.std.specs.List.{AllByRecursion}
use Rattle.std.proofs.lemmas.Bool.Decides.{nat_tests, eqb_tells}
use Rattle.std.proofs.lemmas.List.{take_more}
use Rattle.base_tables.specs.Tables.{row_at, InOrderFrom, AreInOrder, IsPlace, IsGap}
use Rattle.base_tables.proofs.Places.{row_at_gap}
use Rattle.base_tables.proofs.Edits.{row_at_above}
use Rattle.base_tables.proofs.OneId.{map_none, map_one}
use Rattle.book_indexes.proofs.EntryLemmas.{map_at}
use Rattle.book_counts_applied.specs.Settled.{put_at, put_each}

module _ {U : Type 0} (id : ℕ) (value : U) (f : ℕ → U) where
  put_other : (x : ℕ) → eqb x id ≡ false → put_at id value f x ≡ f x
  put_other x e =
      let flip : eqb id x ≡ false = grind (arith, nat_tests, e) in
      ap (λ b. if b then value else f x) flip

  put_own : (x : ℕ) → x ≡ id → put_at id value f x ≡ value
  put_own x e =
      let own : eqb id x ≡ true = grind (arith, nat_tests, e) in
      ap (λ b. if b then value else f x) own

-- a value is put at the place of its row
pub put_place : {T U : Type 0} (key : T → ℕ) (rows : List T) (kept more : List U) (i id : ℕ) (value : U) → AreInOrder key rows → IsPlace key rows id i → more ≡ set kept i value → (f : ℕ → U) → kept ≡ map (λ r. f (key r)) rows → more ≡ map (λ r. put_at id value f (key r)) rows
put_place key [] kept more i id value order place is f kept_is = absurd (omega (arith, place.in_range))
put_place {T} {U} key (d ∷ ds) kept more i id value order place is f kept_is =
    is ∙ ap (λ l. set l i value) kept_is
    ∙ ap (λ (u : U). set (map (λ r. f (key r)) (d ∷ ds)) i u) (sym (put_own id value f (key (get_or (d ∷ ds) i d)) (place.has_id d)))
    ∙ map_one key (λ r. f (key r)) (λ r. put_at id value f (key r)) id (λ r e. put_other id value f (key r) e) 0 (d ∷ ds) i d order place

-- or nowhere
pub put_nowhere : {T U : Type 0} (key : T → ℕ) (rows : List T) (kept : List U) (i id : ℕ) (value : U) → IsGap key rows id i → (f : ℕ → U) → kept ≡ map (λ r. f (key r)) rows → kept ≡ map (λ r. put_at id value f (key r)) rows
put_nowhere key rows kept i id value gap f kept_is = kept_is ∙ sym (map_none key (λ r. f (key r)) (λ r. put_at id value f (key r)) id (λ r e. put_other id value f (key r) e) rows (row_at_gap key rows id i gap))

-- what is kept at the place of an id
pub beside_place : {T U : Type 0} (key : T → ℕ) (rows : List T) (kept : List U) (id i : ℕ) (d : U) → IsPlace key rows id i → (f : ℕ → U) → kept ≡ map (λ r. f (key r)) rows → get_or kept i d ≡ f id
beside_place key [] kept id i d place f is = absurd (omega (arith, place.in_range))
beside_place key (r ∷ rs) kept id i d place f is = ap (λ l. get_or l i d) is ∙ map_at (λ s. f (key s)) (r ∷ rs) i r d place.in_range ∙ ap f (place.has_id r)

pub same_map : {T U : Type 0} (f g : T → U) (rows : List T) → ((r : T) → f r ≡ g r) → map f rows ≡ map g rows
same_map f g [] h = refl
same_map f g (r ∷ rs) h = λ i. h r i ∷ same_map f g rs h i

pub same_map_where : {T U : Type 0} (P : T → Type 0) (f g : T → U) (rows : List T) → ((r : T) → P r → f r ≡ g r) → AllByRecursion P rows → map f rows ≡ map g rows
same_map_where P f g [] h all = refl
same_map_where P f g (r ∷ rs) h all = λ i. h r all.0 i ∷ same_map_where P f g rs h all.1 i

module _ {C U : Type 0} (of : C → ℕ) (value : C → U) where
  put_push : (cs : List C) (c : C) (f : ℕ → U) (x : ℕ) → put_each of value (cs ++ c ∷ []) f x ≡ put_at (of c) (value c) (put_each of value cs f) x
  put_push [] c f x = refl
  put_push (d ∷ cs) c f x = put_push cs c (put_at (of d) (value d) f) x

  -- one more is put
  pub put_more : {T : Type 0} (key : T → ℕ) (rows : List T) (counts : List C) (i : ℕ) (d : C) (kept more : List U) (f : ℕ → U) → i < length counts → kept ≡ map (λ r. put_each of value (take i counts) f (key r)) rows
      → ((g : ℕ → U) → kept ≡ map (λ r. g (key r)) rows → more ≡ map (λ r. put_at (of (get_or counts i d)) (value (get_or counts i d)) g (key r)) rows) → more ≡ map (λ r. put_each of value (take (i + 1) counts) f (key r)) rows
  put_more key rows counts i d kept more f lt kept_is puts =
      puts (put_each of value (take i counts) f) kept_is
      ∙ same_map (λ r. put_at (of (get_or counts i d)) (value (get_or counts i d)) (put_each of value (take i counts) f) (key r)) (λ r. put_each of value (take (i + 1) counts) f (key r)) rows
      (λ r. sym (ap (λ l. put_each of value l f (key r)) (take_more counts i d lt) ∙ put_push (take i counts) (get_or counts i d) f (key r)))

  abbrev pub found_or : Option C → U → U
  found_or None other = other
  found_or (Some c) other = value c

  -- of counts in order that of an id is put, if it is among them
  pub put_found : (n id : ℕ) (counts : List C) (f : ℕ → U) → InOrderFrom of n counts → put_each of value counts f id ≡ found_or (row_at of id counts) (f id)
  put_found n id [] f h = refl
  put_found n id (c ∷ cs) f h = put_found (of c + 1) id cs (put_at (of c) (value c) f) h.1 ∙ by_id (eqb_tells (of c) id)
    where
      by_id : ((eqb (of c) id ≡ true) × (of c ≡ id)) ⊎ ((eqb (of c) id ≡ false) × (of c ≢ id)) → found_or (row_at of id cs) (put_at (of c) (value c) f id) ≡ found_or (row_at of id (c ∷ cs)) (f id)
      by_id (inl e) =
          let none : row_at of id cs ≡ None = row_at_above of (of c + 1) id cs (omega (arith, e.1)) h.1 in
          rw (none, e.0) refl
      by_id (inr e) = rw e.0 refl
