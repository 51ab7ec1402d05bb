-- Indexes of rows by their keys, and what is found by them: what is added up over the rows is what adds up over the entries.
use Rattle.std.specs.Prelude.{◌≡◌, ℕ, Bool, List, Option, Some, None, map, filter, sum_by, if◌then◌else◌}
use Rattle.base_tables.specs.Tables.{with_row, without_row, row_at}
use Rattle.base_index.specs.Entries.{entry, key_of, id_of}
use Rattle.book_indexes.specs.declared.keys.Keys.{Keys}

-- what a row adds by its key, if it has one
abbrev pub share : (ℕ → ℕ → ℕ) → ℕ → Option ℕ → ℕ
share f id None = 0
share f id (Some key) = f key id

-- the entries are those of the rows that have a key: whatever is added up over the rows by key and id
-- is what adds up over the entries
abbrev pub Mirrors : {T : Type 0} → (T → ℕ) → (T → Option ℕ) → List T → List ℕ → Type 0
Mirrors id key rows entries = (f : ℕ → ℕ → ℕ) → sum_by (λ e. f (key_of e) (id_of e)) entries ≡ sum_by (λ r. share f (id r) (key r)) rows

-- an index for each key
pub record AreIndexed {T : Type 0} (id : T → ℕ) (keys : T → Keys) (rows : List T) (until named text group : List ℕ) : Type 0 where
  pub by_until : Mirrors id (λ r. (keys r).until) rows until
  pub by_named : Mirrors id (λ r. (keys r).named) rows named
  pub by_text : Mirrors id (λ r. (keys r).text) rows text
  pub by_group : Mirrors id (λ r. (keys r).group) rows group

-- the entries with that of the id and the key, where there is a key
abbrev pub with_entry : ℕ → Option ℕ → List ℕ → List ℕ
with_entry id None entries = entries
with_entry id (Some key) entries = with_row (λ n. n) (entry key id) entries

-- the entries without that of the id and the key, where there is a key
abbrev pub without_entry : ℕ → Option ℕ → List ℕ → List ℕ
without_entry id None entries = entries
without_entry id (Some key) entries = without_row (λ n. n) (entry key id) entries

-- the ids are those of the rows that pass: what is added up over them, by their rows, is what adds up over these rows
abbrev pub Finds : {T : Type 0} → (T → ℕ) → (T → Bool) → List T → List ℕ → Type 0
Finds {T} id test rows ids = (G : Option T → ℕ) → sum_by (λ i. G (row_at id i rows)) ids ≡ sum_by (λ r. if test r then G (Some r) else 0) rows

-- the ids of the rows that pass
abbrev pub ids_passing : {T : Type 0} → (T → ℕ) → (T → Bool) → List T → List ℕ
ids_passing id test rows = map id (filter test rows)

-- what a walk goes over: the rows of a table that have these ids
pub record Walked (T : Type 0) : Type 0 where
  pub rows : List T
  pub ids : List ℕ
