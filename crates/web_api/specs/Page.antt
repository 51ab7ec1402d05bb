-- Which page of a list a target asks for.
use Rattle.std.specs.Prelude.{ℕ, ◌<◌, ◌^◌, List, [], ◌∷◌, Option, Some, None, if◌then◌else◌, codes}
use Rattle.std.specs.Str.Lossy.{utf8_lossy}
use Rattle.form_urlencoded.specs.Form.{raw_pairs, decode}
use Rattle.base_values.specs.Texts.{same_text}
use Rattle.base_values.specs.Digits.{number_of}
use Rattle.model_commands.specs.declared.requests.Resource.{Resource}
use Rattle.model_commands.specs.declared.requests.Resource.TheVariants as resources
use Rattle.web_api.specs.Path.{query_of}

-- the text that a name or a value of a query stands for; what is no UTF-8 in it is replaced
abbrev pub text_decoded : List ℕ → List ℕ
text_decoded bytes = utf8_lossy (decode bytes)

-- the first value of that name
abbrev pub value_named : List ℕ → List (List ℕ × List ℕ) → Option (List ℕ)
value_named name [] = None
value_named name (pair ∷ pairs) = if same_text (text_decoded pair.0) name then Some (text_decoded pair.1) else value_named name pairs

-- 1 to 18 digits; where no page is named it is the first
abbrev pub page_from : Option (List ℕ) → Option ℕ
page_from None = Some 1
page_from (Some text) = number_of text

-- the page that the pairs of a query name
abbrev pub page_in : List (List ℕ × List ℕ) → Option ℕ
page_in pairs = page_from (value_named (codes "page") pairs)

-- the page that a target asks for, if its query has none or a number
unfoldable pub page_of : List ℕ → Option ℕ
page_of target = page_in (raw_pairs (query_of target))

-- a list that a path can name: the positions of a check-in list by a number of at most 18 digits
abbrev pub IsNamed : Resource → Type 0
IsNamed (resources.Tickets door) = door < 10 ^ 18
IsNamed resource = Unit {0}
