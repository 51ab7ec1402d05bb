-- How much room changes need in a book: one each, and for a put quota one more for each of its members.
use Rattle.std.specs.Prelude.{ℕ, ◌+◌, List, [], ◌∷◌}
use Rattle.model_catalogue.specs.Kept.{quota_weight}
use Rattle.model_rows.specs.declared.changes.Change.{Change}
use Rattle.model_rows.specs.declared.changes.Change.TheVariants.{PutQuota}

-- a change needs room for one row, and a put quota for each of its members too
abbrev pub change_weight : Change → ℕ
change_weight (PutQuota row) = quota_weight row
change_weight _ = 1

-- changes need it for each of them
abbrev pub weight : List Change → ℕ
weight [] = 0
weight (change ∷ changes) = change_weight change + weight changes
