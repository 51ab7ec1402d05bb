-- What a field's value is: a truth value, a number, a text, an amount of money, a moment, a word of a choice.
use Rattle.std.specs.Prelude.{ℕ, ◌*◌, ◌==◌, ◌&&◌, ℤ, int_le, Bool, true, false, List, length, Option, Some, None, Result, Ok, Err, if◌then◌else◌, nat_le, is_some, option_and_then, codes}
use Rattle.serde_json.specs.Data.{Data, Members, no_members, member}
use Rattle.serde_json.specs.Find.{as_bool, as_str, as_number, as_u64, as_i64, as_integer, as_object}
use Rattle.base_values.specs.Money.{money_of}
use Rattle.base_dates.specs.Moments.{moment_of, day_of}
use Rattle.base_values.specs.Texts.{same_text, is_text}
use Rattle.base_values.specs.declared.price_mode.PriceMode.{PriceMode}
use Rattle.base_values.specs.declared.price_mode.PriceMode.TheVariants as modes
use Rattle.base_values.specs.declared.refusal.ValueRefusal.{ValueRefusal}
use Rattle.base_values.specs.declared.refusal.ValueRefusal.TheVariants as refusals
use Rattle.model_faults.specs.declared.fields.Field.{Field}
use Rattle.model_faults.specs.declared.fields.Problem.TheVariants as problems
use Rattle.web_fields.specs.declared.error.BodyFault.{BodyFault}
use Rattle.web_fields.specs.Reading.{fault}

-- a truth value
abbrev pub truth_of : Field → Option Bool → Result Bool BodyFault
truth_of f None = Err (fault f problems.Invalid)
truth_of f (Some b) = Ok b

-- `true` or `false`, and no word or number for it
abbrev pub truth : Field → Data → Result Bool BodyFault
truth f v = truth_of f (as_bool v)

-- a whole number between two bounds; a negative one is out of range, any other number is another kind
abbrev pub whole_of : Field → ℕ → ℕ → Option ℕ → Bool → Result ℕ BodyFault
whole_of f low high (Some n) negative = if nat_le low n && nat_le n high then Ok n else Err (fault f problems.OutOfRange)
whole_of f low high None true = Err (fault f problems.OutOfRange)
whole_of f low high None false = Err (fault f problems.Invalid)

-- the number of a value that is a whole one, 0 or more
abbrev pub count_in : Data → Option ℕ
count_in v = option_and_then as_u64 (as_number v)

-- the value is a whole number that fits 64 bits with a sign
abbrev pub is_signed : Data → Bool
is_signed v = is_some (option_and_then as_i64 (as_number v))

-- a number without a sign between two bounds, both of them allowed
abbrev pub whole : Field → ℕ → ℕ → Data → Result ℕ BodyFault
whole f low high v = whole_of f low high (count_in v) (is_signed v)

-- a whole number between two bounds that may have a sign; any other number is another kind
abbrev pub signed_of : Field → ℤ → ℤ → Option ℤ → Result ℤ BodyFault
signed_of f low high None = Err (fault f problems.Invalid)
signed_of f low high (Some n) = if int_le low n && int_le n high then Ok n else Err (fault f problems.OutOfRange)

-- a number that may have a sign between two bounds, both of them allowed
abbrev pub signed_number : Field → ℤ → ℤ → Data → Result ℤ BodyFault
signed_number f low high v = signed_of f low high (option_and_then as_integer (as_number v))

-- an id
abbrev pub id : Field → Data → Result ℕ BodyFault
id f v = whole f 1 9007199254740991 v

-- a text as a row has it: at most 254 bytes, and no control byte
abbrev pub fit : Field → List ℕ → Result (List ℕ) BodyFault
fit f s = if is_text s then Ok s else Err (fault f problems.NotAllowed)

-- a text of at most 254 bytes and with no control byte, which may be empty
abbrev pub loose_text_from : Field → Option (List ℕ) → Result (List ℕ) BodyFault
loose_text_from f None = Err (fault f problems.Invalid)
loose_text_from f (Some s) = fit f s

-- a string of at most 254 bytes and with no control byte, perhaps an empty one
abbrev pub loose_text : Field → Data → Result (List ℕ) BodyFault
loose_text f v = loose_text_from f (as_str v)

-- a string of at most 254 bytes and with no control byte, which may not be empty
abbrev pub text_from : Field → Option (List ℕ) → Result (List ℕ) BodyFault
text_from f None = Err (fault f problems.Invalid)
text_from f (Some s) = if length s == 0 then Err (fault f problems.Blank) else fit f s

-- a string of 1 to 254 bytes and with no control byte
abbrev pub text : Field → Data → Result (List ℕ) BodyFault
text f v = text_from f (as_str v)

-- the value of the first member, by the order of the names' bytes
abbrev pub first_member : Members → Option Data
first_member no_members = None
first_member (member k v ms) = Some v

-- the name in the first of its languages; none is blank
abbrev pub first_name : Field → Option Data → Result (List ℕ) BodyFault
first_name f None = Err (fault f problems.Blank)
first_name f (Some v) = text f v

-- a name: a text, or an object of languages
abbrev pub name_from : Field → Data → Option Members → Result (List ℕ) BodyFault
name_from f v None = text f v
name_from f v (Some languages) = first_name f (first_member languages)

-- a text that isn't empty, or an object of languages, of which the first one's text counts
abbrev pub name : Field → Data → Result (List ℕ) BodyFault
name f v = name_from f v (as_object v)

-- an amount of money, from the reading of its text
abbrev pub money_read : Field → Result ℕ ValueRefusal → Result ℕ BodyFault
money_read f (Ok cents) = Ok cents
money_read f (Err refusals.TooLarge) = Err (fault f problems.OutOfRange)
money_read f (Err _) = Err (fault f problems.Invalid)

-- an amount of money as a whole number of units, of at most eight digits
abbrev pub units_from : Field → Option ℕ → Result ℕ BodyFault
units_from f None = Err (fault f problems.Invalid)
units_from f (Some n) = if nat_le n 99999999 then Ok (n * 100) else Err (fault f problems.OutOfRange)

-- an amount of money: its text, or a number of units
abbrev pub money_from : Field → Data → Option (List ℕ) → Result ℕ BodyFault
money_from f v (Some s) = money_read f (money_of s)
money_from f v None = units_from f (count_in v)

-- an amount in cents, from its text or from a number of units
abbrev pub money : Field → Data → Result ℕ BodyFault
money f v = money_from f v (as_str v)

-- a moment, from the reading of its text
abbrev pub moment_read : Field → Result ℕ ValueRefusal → Result ℕ BodyFault
moment_read f (Ok seconds) = Ok seconds
moment_read f (Err refusals.OutOfRange) = Err (fault f problems.OutOfRange)
moment_read f (Err _) = Err (fault f problems.Invalid)

-- a moment, where there is a text to read it from
abbrev pub moment_from : Field → Option (List ℕ) → Result ℕ BodyFault
moment_from f None = Err (fault f problems.Invalid)
moment_from f (Some s) = moment_read f (moment_of s)

-- a moment, which has to be written as a text
abbrev pub moment : Field → Data → Result ℕ BodyFault
moment f v = moment_from f (as_str v)

-- the end that a text writes: ten bytes are a day, which stands for its last second in UTC
abbrev pub end_in : List ℕ → Result ℕ ValueRefusal
end_in s = if length s == 10 then day_of s else moment_of s

-- a moment at which something ends: an instant, or a day
abbrev pub end_from : Field → Option (List ℕ) → Result ℕ BodyFault
end_from f None = Err (fault f problems.Invalid)
end_from f (Some s) = moment_read f (end_in s)

-- a moment or a day at which something ends, which has to be written as a text
abbrev pub end : Field → Data → Result ℕ BodyFault
end f v = end_from f (as_str v)

-- the price mode that a word names
abbrev pub mode_named : List ℕ → Option PriceMode
mode_named word =
    if same_text word (codes "none") then Some modes.None
    else (if same_text word (codes "set") then Some modes.Set
    else (if same_text word (codes "subtract") then Some modes.Subtract
    else (if same_text word (codes "percent") then Some modes.Percent else None)))

-- a price mode: one of four words
abbrev pub price_mode_from : Field → Option PriceMode → Result PriceMode BodyFault
price_mode_from f None = Err (fault f problems.Invalid)
price_mode_from f (Some mode) = Ok mode

-- a word of these: `none`, `set`, `subtract` and `percent`
abbrev pub price_mode : Field → Data → Result PriceMode BodyFault
price_mode f v = price_mode_from f (option_and_then mode_named (as_str v))
