-- The token of a message.
use Rattle.std.specs.Prelude.{ℕ, ◌&&◌, nat_le, length, List, take, drop, Option, Some, None, if◌then◌else◌, codes}
use Rattle.std.specs.Str.{str_eq_ignore_ascii_case}
use Rattle.web_http.specs.Messages.{Message, first_named}
use Rattle.web_api.specs.Path.{◌>>=◌}

-- the token of an `Authorization` value: all that follows the word `Token`, in any case, and one space
abbrev pub token_in : List ℕ → Option (List ℕ)
token_in value = if nat_le 6 (length value) && str_eq_ignore_ascii_case (take 6 value) (codes "Token ") then Some (drop 6 value) else None

-- the token of a message, from its first `Authorization` field
abbrev pub token_of : Message → Option (List ℕ)
token_of m = first_named (codes "authorization") m.fields >>= token_in
