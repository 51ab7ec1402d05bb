-- The key of a message.
use Rattle.std.specs.Prelude.{ℕ, List, [], unwrap_or, codes}
use Rattle.web_http.specs.Messages.{Message, first_named}

-- the name of the field, which is compared without regard to ASCII case
abbrev pub key_name : List ℕ
key_name = codes "x-idempotency-key"

-- the key of a message: the value of its first such field, any bytes; where there is none, or an empty one, it has no key
abbrev pub key_of : Message → List ℕ
key_of m = unwrap_or (first_named key_name m.fields) []
