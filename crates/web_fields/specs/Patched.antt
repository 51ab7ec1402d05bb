-- Fields of a change: what is absent stays as it is, and is none here.
use Rattle.std.specs.Prelude.{ℕ, ℤ, Bool, List, Option, Some, None, Result, Ok}
use Rattle.serde_json.specs.Data.{Data}
use Rattle.base_values.specs.declared.price_mode.PriceMode.{PriceMode}
use Rattle.model_faults.specs.declared.fields.Field.{Field}
use Rattle.web_fields.specs.declared.error.BodyFault.{BodyFault}
use Rattle.web_fields.specs.Reading.{◌>>=◌}
use Rattle.web_fields.specs.Modes.{present, maybe}
use Rattle.web_fields.specs.Kinds.{truth, whole, signed_number, id, loose_text, text, name, money, moment, price_mode}
use Rattle.web_fields.specs.Lacking.{each}

-- a field that may not be null
abbrev pub patched_value : {A : Type 0} → (Data → Result A BodyFault) → Field → Data → Result (Option A) BodyFault
patched_value read f d = present f d >>= each read

-- the reading of a field that may be null; null is a value too, the inner none
abbrev pub each_given : {A : Type 0} → (Data → Result A BodyFault) → Option (Option Data) → Result (Option (Option A)) BodyFault
each_given read None = Ok None
each_given read (Some v) = each read v >>= λ x. Ok (Some x)

-- a field that may be null, which takes its value away: the outer none is an absent field, the inner none is null
abbrev pub patched_or_null : {A : Type 0} → (Data → Result A BodyFault) → Field → Data → Result (Option (Option A)) BodyFault
patched_or_null read f d = each_given read (maybe f d)

-- a truth value, if the field is there
abbrev pub patched_truth : Field → Data → Result (Option Bool) BodyFault
patched_truth f = patched_value (truth f) f

-- a whole number between two bounds, if the field is there
abbrev pub patched_whole : Field → ℕ → ℕ → Data → Result (Option ℕ) BodyFault
patched_whole f low high = patched_value (whole f low high) f

-- a whole number between two bounds that may have a sign, if the field is there
abbrev pub patched_signed : Field → ℤ → ℤ → Data → Result (Option ℤ) BodyFault
patched_signed f low high = patched_value (signed_number f low high) f

-- a text that isn't empty, if the field is there
abbrev pub patched_text : Field → Data → Result (Option (List ℕ)) BodyFault
patched_text f = patched_value (text f) f

-- a text that may be empty, if the field is there
abbrev pub patched_loose_text : Field → Data → Result (Option (List ℕ)) BodyFault
patched_loose_text f = patched_value (loose_text f) f

-- a name, as a text or by languages, if the field is there
abbrev pub patched_name : Field → Data → Result (Option (List ℕ)) BodyFault
patched_name f = patched_value (name f) f

-- an amount of money in cents, if the field is there
abbrev pub patched_money : Field → Data → Result (Option ℕ) BodyFault
patched_money f = patched_value (money f) f

-- a price mode by its word, if the field is there
abbrev pub patched_price_mode : Field → Data → Result (Option PriceMode) BodyFault
patched_price_mode f = patched_value (price_mode f) f

-- a whole number between two bounds, or null for none, if the field is there
abbrev pub patched_whole_or_null : Field → ℕ → ℕ → Data → Result (Option (Option ℕ)) BodyFault
patched_whole_or_null f low high = patched_or_null (whole f low high) f

-- an id, or null for none, if the field is there
abbrev pub patched_id_or_null : Field → Data → Result (Option (Option ℕ)) BodyFault
patched_id_or_null f = patched_or_null (id f) f

-- an amount of money in cents, or null for none, if the field is there
abbrev pub patched_money_or_null : Field → Data → Result (Option (Option ℕ)) BodyFault
patched_money_or_null f = patched_or_null (money f) f

-- a moment, or null for none, if the field is there
abbrev pub patched_moment_or_null : Field → Data → Result (Option (Option ℕ)) BodyFault
patched_moment_or_null f = patched_or_null (moment f) f
