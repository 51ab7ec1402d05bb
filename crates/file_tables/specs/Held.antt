-- What a database of a shop's tables holds beside the office.
use Rattle.std.specs.Prelude.{◌≡◌, ℕ, Bool, List, map, find, Option, option_map, IsPermutation}
use Rattle.sqlite.specs.Effect.{Database}
use Rattle.file_schema.specs.Tables.{schema}
use Rattle.model_answers.specs.declared.kept.Kept.{Kept}
use Rattle.file_rows.specs.declared.rows.Token.{Token}
use Rattle.file_rows.specs.Tables.{Tables, Holds}
use Rattle.file_reads.specs.Lookups.{has_digest, AreAllThatPass}

-- if the database has a shop's tables, these are the rows of one of them that pass the test, in some order
abbrev pub AreAllOfShop : {A : Type 0} → (Tables → List A) → (A → Bool) → Database → List A → Type 0
AreAllOfShop rows test db found = db.schema ≡ schema → AreAllThatPass rows test db.trees found

-- the number of the token with this digest
abbrev pub number_of : List Token → List ℕ → Option ℕ
number_of tokens digest = option_map (λ t. t.id) (find (has_digest digest) tokens)

-- the database has a shop's tables, and in that of kept answers these, in some order
pub record KeepsAnswers (db : Database) (answers : List Kept) : Type 0 where
  pub known : db.schema ≡ schema
  pub tables : Tables
  pub held : Holds db.trees tables
  pub kept : IsPermutation (map (λ r. r.kept) tables.kept) answers

-- the database has a shop's tables, and that of tokens tells the number of each digest
pub record KnowsTokens (db : Database) (tokens : List ℕ → Option ℕ) : Type 0 where
  pub known : db.schema ≡ schema
  pub tables : Tables
  pub held : Holds db.trees tables
  pub told : (digest : List ℕ) → tokens digest ≡ number_of tables.tokens digest
