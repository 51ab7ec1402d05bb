-- A token is added: its digest keeps its number, or gets the next one, from 1 to 1,000,000.
use Rattle.std.specs.Prelude.{◌≡◌, ℕ, ◌+◌, ◌<◌, ◌≤◌, List, Option, Some, None, bytes_eq, if◌then◌else◌}
use Rattle.sqlite.specs.Effect.{Database}
use Rattle.model_answers.specs.House.{House}
use Rattle.file_rows.specs.declared.rows.ShopRow.{ShopRow}
use Rattle.file_rows.specs.declared.rows.Token.{Token}
use Rattle.file_rows.specs.Tables.{Tables}
use Rattle.file_tables.specs.Begun.{HasToken, token_added}

-- the most tokens that a shop's file has
abbrev pub most_tokens : ℕ
most_tokens = 1000000

-- the number of each digest once this one has a number
abbrev pub also_known : List ℕ → ℕ → (List ℕ → Option ℕ) → List ℕ → Option ℕ
also_known digest number tokens other = if bytes_eq digest other then Some number else tokens other

-- the house once this digest has this number, and the next token gets that one
abbrev pub house_with : List ℕ → ℕ → ℕ → House → House
house_with digest number next house = record house { tokens = also_known digest number house.tokens; next_token = next }

-- a digest that has a number keeps it, and any other gets the next one, while there is one
abbrev pub IsNumbered : Option ℕ → ℕ → ℕ → Type 0
IsNumbered (Some known) next number = number ≡ known
IsNumbered None next number = (number ≡ next) × (next ≤ most_tokens)

-- a digest is refused for want of room
abbrev pub HasNoRoom : Option ℕ → ℕ → Type 0
HasNoRoom (Some known) next = ⊥
HasNoRoom None next = most_tokens < next

-- the shop's row once the next token has come
abbrev pub token_raised : ShopRow → ShopRow
token_raised head = record head { next_token = head.next_token + 1 }

-- the next token, with this digest
abbrev pub next_one : ShopRow → List ℕ → Token
next_one head digest = record { id = head.next_token; digest = digest }

-- what the next token, with this digest, makes of a database
abbrev pub AddsNext : ShopRow → List ℕ → Database → Database → Type 0
AddsNext head digest = HasToken (token_raised head) (next_one head digest)

-- the shop's row after a digest that has this number already, or none
abbrev pub head_after : Option ℕ → ShopRow → ShopRow
head_after (Some known) head = head
head_after None head = token_raised head

-- and the tables: the next token, and the shop's row, where it has none
abbrev pub tables_after : Option ℕ → ShopRow → List ℕ → Tables → Tables
tables_after (Some known) head digest t = t
tables_after None head digest t = token_added (token_raised head) (next_one head digest) t
