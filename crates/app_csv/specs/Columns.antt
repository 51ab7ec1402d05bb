-- The columns of a line of a voucher file, and the values that they write.
use Rattle.std.specs.Prelude.{ℕ, Bool, true, false, ◌&&◌, List, [], ◌∷◌, length, Option, Some, None, Result, Ok, Err, codes, nat_lt, nat_le, if◌then◌else◌}
use Rattle.std.specs.Str.{is_utf8}
use Rattle.csv.specs.Records.{field_at}
use Rattle.base_values.specs.Counts.{most_uses}
use Rattle.base_values.specs.declared.price_mode.PriceMode.{PriceMode}
use Rattle.base_values.specs.declared.price_mode.PriceMode.TheVariants as modes
use Rattle.base_values.specs.declared.refusal.ValueRefusal.{ValueRefusal}
use Rattle.base_values.specs.Digits.{number_of}
use Rattle.base_values.specs.Money.{money_of}
use Rattle.base_values.specs.Texts.{is_text, same_text}
use Rattle.base_dates.specs.Moments.{moment_of}
use Rattle.model_catalogue.specs.Limits.{last_id}

-- a field, if there is one and it is a text
abbrev pub text_or_empty : Option (List ℕ) → List ℕ
text_or_empty None = []
text_or_empty (Some field) = if is_utf8 field then field else []

-- the text of the column at a place, from 0
abbrev pub column : List (List ℕ) → ℕ → List ℕ
column fields at = text_or_empty (field_at fields at)

-- there is a field, and it is a text
abbrev pub is_text_field : Option (List ℕ) → Bool
is_text_field None = false
is_text_field (Some field) = is_utf8 field

-- there is a column at a place, and it is a text
abbrev pub is_column : List (List ℕ) → ℕ → Bool
is_column fields at = is_text_field (field_at fields at)

-- the column at a place has this name
abbrev pub is_named : List (List ℕ) → ℕ → List ℕ → Bool
is_named fields at name = same_text (column fields at) name

-- a text as a row has it, and not empty
abbrev pub is_code : List ℕ → Bool
is_code text = nat_lt 0 (length text) && is_text text

-- a number of uses that a voucher may have
abbrev pub uses_within : Option ℕ → Option ℕ
uses_within None = None
uses_within (Some n) = if nat_le 1 n && nat_le n most_uses then Some n else None

-- 1 to 1,000,000 uses
abbrev pub uses_in : List ℕ → Option ℕ
uses_in text = uses_within (number_of text)

-- what a value's reading gave
abbrev pub if_read : Result ℕ ValueRefusal → Option (Option ℕ)
if_read (Ok n) = Some (Some n)
if_read (Err refusal) = None

-- a moment, or none where the column is empty
abbrev pub moment_in : List ℕ → Option (Option ℕ)
moment_in [] = Some None
moment_in (b ∷ text) = if_read (moment_of (b ∷ text))

-- `true` or `false`
abbrev pub flag_in : List ℕ → Option Bool
flag_in text = if same_text text (codes "true") then Some true else (if same_text text (codes "false") then Some false else None)

-- `none`, `set`, `subtract` or `percent`
abbrev pub mode_in : List ℕ → Option PriceMode
mode_in text =
    if same_text text (codes "none") then Some modes.None
    else (if same_text text (codes "set") then Some modes.Set
    else (if same_text text (codes "subtract") then Some modes.Subtract
    else (if same_text text (codes "percent") then Some modes.Percent else None)))

-- at most 100.00 percent are taken off
abbrev pub fits_mode : PriceMode → ℕ → Bool
fits_mode modes.None value = true
fits_mode modes.Set value = true
fits_mode modes.Subtract value = true
fits_mode modes.Percent value = nat_le value 10000

-- an amount, where it can be read and the mode takes one of that size
abbrev pub value_if : PriceMode → Result ℕ ValueRefusal → Option (Option ℕ)
value_if mode (Ok value) = if fits_mode mode value then Some (Some value) else None
value_if mode (Err refusal) = None

-- an amount as a text of money, or none where the column is empty
abbrev pub value_in : PriceMode → List ℕ → Option (Option ℕ)
value_in mode [] = Some None
value_in mode (b ∷ text) = value_if mode (money_of (b ∷ text))

-- ids count from 1 to the last one
abbrev pub id_within : Option ℕ → Option (Option ℕ)
id_within None = None
id_within (Some id) = if nat_le 1 id && nat_le id last_id then Some (Some id) else None

-- an id, or none where the column is empty
abbrev pub id_in : List ℕ → Option (Option ℕ)
id_in [] = Some None
id_in (b ∷ text) = id_within (number_of (b ∷ text))
