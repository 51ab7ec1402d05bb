-- What is told: a status, perhaps the methods that a path has, and a value as JSON without spaces.
use Rattle.std.specs.Prelude.{ℕ, List, Option, codes}
use Rattle.serde_json.specs.Data.{Data, string, object, member, no_members}
use Rattle.serde_json.specs.Written.{compact_text}
use Rattle.base_values.specs.declared.answer.Methods.{Methods}
use Rattle.base_values.specs.declared.answer.Response.{Response}

-- a response with a status, perhaps with methods, whose body is this value
abbrev pub response : ℕ → Option Methods → Data → Response
response status allow value = record { status = status; allow = allow; body = compact_text value }

-- `{"detail":"text"}`
abbrev pub detail_body : List ℕ → Data
detail_body text = object (member (codes "detail") (string text) no_members)

-- `{}`
abbrev pub empty_body : Data
empty_body = object no_members
