-- The least place that is found, of those whose counts a draft's changes touched.
use Rattle.std.specs.Prelude.{◌≡◌, ℕ, zero, suc, ◌<◌, Bool, true, List, [], ◌∷◌, Option, Some, None, if◌then◌else◌, is_some}
use Rattle.std.specs.Option.{IfSome}
use Rattle.model_catalogue.specs.declared.rows.Quota.{Quota}
use Rattle.model_rows.specs.declared.rows.Own.{Own}
use Rattle.model_rows.specs.declared.rows.Usage.{Usage}
use Rattle.model_rows.specs.Over.{is_over}
use Rattle.draft_counts.specs.Logs.{Log, rows_of, rows_at}
use Rattle.book_tally.specs.declared.tally.Count.{Count}
use Rattle.book_tally.specs.Counts.{newest}

-- the key of the row at a place, where it passes
abbrev pub found_at : {T : Type 0} → (T → ℕ) → (T → Bool) → List T → ℕ → Option ℕ
found_at key passes [] place = None
found_at key passes (row ∷ rows) zero = if passes row then Some (key row) else None
found_at key passes (row ∷ rows) (suc place) = found_at key passes rows place

-- the id of the quota at a place, where the changes after the first so many take too much of it
abbrev pub over_at : ℕ → Log → ℕ → List Own → List Quota → ℕ → Option ℕ
over_at count log at own quotas = found_at (λ q. q.id) (is_over (rows_at count log) (rows_of log) at own) quotas

-- the least place that is found, of those whose newest addition is one of the first so many: nothing is found below it at another
pub record IsLeast (found : ℕ → Option ℕ) (counts : List (Count Usage)) (count : ℕ) (least : Option ℕ) : Type 0 where
  pub clear : (place : ℕ) → IfSome (newest place counts) (λ i. i < count) → IfSome least (λ l. place < l) → found place ≡ None
  pub over : IfSome least (λ l. is_some (found l) ≡ true)
