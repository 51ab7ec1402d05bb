-- Ids behind others.
use Rattle.std.proofs.Common.{◌≡◌, ℕ, Bool, true, false, eqb, List, [], ◌∷◌, ◌++◌, refl}
use Rattle.std.specs.Prelude.{◌||◌}
use Rattle.base_tables.specs.Tables.{has}

-- an id is in a list with another behind it where it is in one of them
pub has-append : (k : ℕ) (xs ys : List ℕ) → has k (xs ++ ys) ≡ (has k xs || has k ys)
has-append k [] ys = refl
has-append k (x ∷ xs) ys = by_id (eqb x k) (has-append k xs ys)
  where
    by_id : (b : Bool) → has k (xs ++ ys) ≡ (has k xs || has k ys) → (b || has k (xs ++ ys)) ≡ ((b || has k xs) || has k ys)
    by_id true more = refl
    by_id false more = more

-- where it isn't so that one of two is, neither is
pub neither : (a b : Bool) → (a || b) ≡ false → (a ≡ false) × (b ≡ false)
neither true b h = absurd (cc h)
neither false b h = (refl, h)
