-- The members of rows, as a table of their own has them.
use Rattle.std.specs.Prelude.{ℕ, Bool, not, ◌==◌, ◌&&◌, List, map, filter, flat_map, length, bytes_eq}
use Rattle.base_tables.specs.Rising.{rising}

-- a member, and the row that it is of
pub record Link : Type 0 where
  pub owner : ℕ
  pub member : ℕ

-- the links of a row, a link for each member
abbrev pub links : {T : Type 0} → (T → ℕ) → (T → List ℕ) → T → List Link
links key members row = map (λ id. record { owner = key row; member = id }) (members row)

-- the links of all rows, a link for each member of each row
abbrev pub all_links : {T : Type 0} → (T → ℕ) → (T → List ℕ) → List T → List Link
all_links key members rows = flat_map (links key members) rows

-- the links of all rows but one
abbrev pub links_but : ℕ → List Link → List Link
links_but owner rows = filter (λ l. not (l.owner == owner)) rows

-- the ids that were found are, in whatever order, just these, which rise
abbrev pub are_just : List ℕ → List ℕ → Bool
are_just ids found = (length found == length ids) && bytes_eq (rising found) ids
