-- Usages that are kept through changes.
use Rattle.std.proofs.Common.{◌≡◌, ℕ, ◌≤◌, Bool, true, false, List, [], ◌∷◌, get_or, map, Some, refl, sym, ap, ◌∙◌, arith}
use Rattle.std.specs.Prelude.{if◌then◌else◌}
use Rattle.base_tables.specs.Tables.{row_at, AreInOrder, IsPlace}
use Rattle.base_tables.proofs.Places.{row_at_place}
use Rattle.book_indexes.proofs.EntryLemmas.{map_at}
use Rattle.model_catalogue.specs.declared.rows.Quota.{Quota}
use Rattle.model_rows.specs.declared.rows.Usage.{Usage}
use Rattle.book_counts_over_time.specs.UsageUpdates.{map_beside}

module _ {X Y : Type 0} (f : X → Y → Y) where
  pub map_beside_map : (a b : X → Y) (xs : List X) → ((x : X) → f x (a x) ≡ b x) → map_beside f xs (map a xs) ≡ map b xs
  map_beside_map a b [] h = refl
  map_beside_map a b (x ∷ xs) h = λ i. h x i ∷ map_beside_map a b xs h i

pub at_most_one : (b : Bool) → (if b then 1 else 0) ≤ 1
at_most_one true = omega arith
at_most_one false = omega arith

-- the usage that is kept at the place of a quota
pub kept_usage : (f : Quota → Usage) (quotas : List Quota) (us : List Usage) (quota : Quota) (i : ℕ) (d : Usage) → us ≡ map f quotas → AreInOrder (λ r. r.id) quotas → IsPlace (λ r. r.id) quotas quota.id i → row_at (λ r. r.id) quota.id quotas ≡ Some quota → get_or us i d ≡ f quota
kept_usage f quotas us quota i d is order place stands =
    let same : Some (get_or quotas i quota) ≡ Some quota = sym (row_at_place (λ r. r.id) 0 quotas quota.id i quota order place) ∙ stands in
    let one : get_or quotas i quota ≡ quota = cc in
    ap (λ l. get_or l i d) is ∙ map_at f quotas i quota d place.in_range ∙ ap f one

pub same_map : {X Y : Type 0} (f g : X → Y) (xs : List X) → ((x : X) → f x ≡ g x) → map f xs ≡ map g xs
same_map f g [] h = refl
same_map f g (x ∷ xs) h = λ i. h x i ∷ same_map f g xs h i
