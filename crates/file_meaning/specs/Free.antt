-- Row numbers that no row has yet.
use Rattle.std.specs.Prelude.{◌≡◌, ℕ, ◌<◌, false, ◌==◌, List, [], ◌∷◌, map}
use Rattle.std.specs.List.{list_any, AllByRecursion}
use Rattle.file_rows.specs.Tables.{Tables}

-- no two are the same
abbrev pub AreApart : List ℕ → Type 0
AreApart [] = Unit {0}
AreApart (n ∷ ns) = (list_any (λ m. n == m) ns ≡ false) × AreApart ns

-- no two are the same, and each is below the next one
pub record AreBelow (next : ℕ) (numbers : List ℕ) : Type 0 where
  pub apart : AreApart numbers
  pub below : AllByRecursion (λ n. n < next) numbers

-- the numbers of rows that have no id of their own are unlike in each table, and below the next one
pub record IsFree (next : ℕ) (t : Tables) : Type 0 where
  pub quota_items : AreBelow next (map (λ r. r.rowid) t.quota_items)
  pub quota_variations : AreBelow next (map (λ r. r.rowid) t.quota_variations)
  pub list_items : AreBelow next (map (λ r. r.rowid) t.list_items)
  pub kept : AreBelow next (map (λ r. r.rowid) t.kept)
