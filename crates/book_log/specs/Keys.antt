-- The places of keys in a list of them, and the keys of changes: the digests of codes.
use Rattle.std.specs.Prelude.{◌≡◌, ℕ, ◌+◌, ◌*◌, ◌%◌, ◌<◌, ◌==◌, List, [], ◌∷◌, length, take, map, Option, None, slice_index_or}
use Rattle.model_rows.specs.declared.changes.Change.{Change}
use Rattle.model_rows.specs.declared.changes.Change.TheVariants.{PutVoucher}
use Rattle.book_log.specs.declared.touched.Touch.{Touch}
use Rattle.book_log.specs.Places.{last_place, place_in}

-- the last place of a key
abbrev pub key_place : ℕ → List ℕ → Option ℕ
key_place key keys = last_place (λ k. k == key) keys

-- what is kept of a list of keys: the last place of each, and for each place the one before it with the same key
pub record IsKeyIndex (keys : List ℕ) (last : List Touch) (before : List (Option ℕ)) : Type 0 where
  pub lasts : (key : ℕ) → place_in key last ≡ key_place key keys
  pub count : length before ≡ length keys
  pub befores : (place d : ℕ) → place < length keys → slice_index_or before place None ≡ key_place (slice_index_or keys place d) (take place keys)

-- a number below 4,093 by which a text is found; other texts may have it too
unfoldable pub digest_from : ℕ → List ℕ → ℕ
digest_from h [] = h
digest_from h (b ∷ bs) = digest_from ((h * 257 + b) % 4093) bs

-- the digest of a whole text
abbrev pub digest : List ℕ → ℕ
digest text = digest_from 0 text

-- the digest of the code that a change gives a voucher; all others have one key
abbrev pub code_key : Change → ℕ
code_key (PutVoucher row) = digest row.code
code_key _ = 4093

-- the key of each change, in order
abbrev pub code_keys : List Change → List ℕ
code_keys changes = map code_key changes
