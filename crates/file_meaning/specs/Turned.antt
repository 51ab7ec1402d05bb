-- What changes make of the tables, one after another.
use Rattle.std.specs.Prelude.{◌≡◌, ℕ, List, [], ◌∷◌, IsPermutation}
use Rattle.model_rows.specs.declared.changes.Change.{Change}
use Rattle.file_rows.specs.Tables.{Tables}
use Rattle.file_meaning.specs.Free.{IsFree}
use Rattle.file_meaning.specs.Rows.{rows_of, redeemed_in}
use Rattle.file_meaning.specs.RowsAfter.{rows_after, redeemed_after, spents_after}
use Rattle.file_meaning.specs.Stands.{AreSameRows}

-- the rows of the office are those after the change, all else is as it was, and this row number is free
pub record IsTurned (change : Change) (next : ℕ) (t u : Tables) : Type 0 where
  pub rows : AreSameRows (rows_of u) (rows_after change (rows_of t))
  pub redeemed : IsPermutation (redeemed_in u) (redeemed_after change (redeemed_in t))
  pub spents : u.spents ≡ spents_after change t.spents
  pub shop : u.shop ≡ t.shop
  pub counts : u.counts ≡ t.counts
  pub exits : u.exits ≡ t.exits
  pub tokens : u.tokens ≡ t.tokens
  pub kept : u.kept ≡ t.kept
  pub free : IsFree next u

-- changes turn the tables in order; the row number that is free goes from the first change to the last
abbrev pub AreTurned : List Change → ℕ → ℕ → Tables → Tables → Type 0
AreTurned [] from to t u = (from ≡ to) × (t ≡ u)
AreTurned (change ∷ changes) from to t u = (next : ℕ) × (mid : Tables) × IsTurned change next t mid × AreTurned changes next to mid u
