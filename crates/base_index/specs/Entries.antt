-- Entries of an index: a key and an id as one number, so that they stand in order of key and then of id.
use Rattle.std.specs.Prelude.{ℕ, ◌+◌, ◌*◌, ◌/◌, ◌%◌, ◌<◌, ◌≤◌, ◌==◌, Bool, ◌&&◌, not, nat_le, nat_lt, List, length, map, filter, slice_index_or}
use Rattle.std.specs.List.{list_any}
use Rattle.base_tables.specs.Rising.{with_ids}

-- the entry of a key and an id
abbrev pub entry : ℕ → ℕ → ℕ
entry key id = key * 18446744073709551616 + id

-- the key of an entry
abbrev pub key_of : ℕ → ℕ
key_of e = e / 18446744073709551616

-- the id of an entry
abbrev pub id_of : ℕ → ℕ
id_of e = e % 18446744073709551616

-- the entries have the key with the id
abbrev pub has_entry : ℕ → ℕ → List ℕ → Bool
has_entry key id entries = list_any (λ e. key_of e == key && id_of e == id) entries

-- the ids that the entries have with the key
abbrev pub ids_of : ℕ → List ℕ → List ℕ
ids_of key entries = map id_of (filter (λ e. key_of e == key) entries)

-- from one number on, and before another
abbrev pub is_between : ℕ → ℕ → ℕ → Bool
is_between from to e = nat_le from e && nat_lt e to

-- the ids that the entries have with a key from one on and before another
abbrev pub ids_between : ℕ → ℕ → List ℕ → List ℕ
ids_between from to entries = map id_of (filter (λ e. is_between from to (key_of e)) entries)

-- the entries of an id with each of these keys
abbrev pub entries_of : List ℕ → ℕ → List ℕ
entries_of keys id = map (λ key. entry key id) keys

-- the entries with those of an id with each of these keys
abbrev pub with_entries : List ℕ → ℕ → List ℕ → List ℕ
with_entries keys id entries = with_ids (entries_of keys id) entries

-- the entries but those of an id
abbrev pub without_id : ℕ → List ℕ → List ℕ
without_id id entries = filter (λ e. not (id_of e == id)) entries

-- the entries from this one on begin at place i
pub record IsStart (entries : List ℕ) (e i : ℕ) : Type 0 where
  pub in_range : i ≤ length entries
  pub smaller_before : (j d : ℕ) → j < i → slice_index_or entries j d < e
  pub not_after : (j d : ℕ) → i ≤ j → j < length entries → e ≤ slice_index_or entries j d
