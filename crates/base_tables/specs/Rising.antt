-- Ids in rising order, each once.
use Rattle.std.specs.Prelude.{ℕ, List, [], ◌∷◌}
use Rattle.base_tables.specs.Tables.{with_row}

-- the ids with more of them, each at its place, and none twice
abbrev pub with_ids : List ℕ → List ℕ → List ℕ
with_ids [] ids = ids
with_ids (id ∷ more) ids = with_ids more (with_row (λ n. n) id ids)

-- ids in rising order, each once
abbrev pub rising : List ℕ → List ℕ
rising given = with_ids given []
