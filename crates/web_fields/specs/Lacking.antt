-- Fields that may be absent, by their kinds.
use Rattle.std.specs.Prelude.{ℕ, ℤ, Bool, List, [], Option, Some, None, Result, Ok}
use Rattle.serde_json.specs.Data.{Data}
use Rattle.base_values.specs.declared.price_mode.PriceMode.{PriceMode}
use Rattle.model_faults.specs.declared.fields.Field.{Field}
use Rattle.web_fields.specs.declared.error.BodyFault.{BodyFault}
use Rattle.web_fields.specs.Reading.{◌>>=◌}
use Rattle.web_fields.specs.Modes.{optional, present}
use Rattle.web_fields.specs.Kinds.{truth, whole, signed_number, id, loose_text, text, money, moment, price_mode}
use Rattle.web_fields.specs.Lists.{ids, texts}

-- the reading of a value that may be lacking
abbrev pub each : {A : Type 0} → (Data → Result A BodyFault) → Option Data → Result (Option A) BodyFault
each read None = Ok None
each read (Some v) = read v >>= λ x. Ok (Some x)

-- the reading of a value that has a default
abbrev pub or_else : {A : Type 0} → (Data → Result A BodyFault) → A → Option Data → Result A BodyFault
or_else read x None = Ok x
or_else read x (Some v) = read v

-- a truth value that may be absent, and then is x
abbrev pub truth_or : Field → Bool → Data → Result Bool BodyFault
truth_or f x d = present f d >>= or_else (truth f) x

-- a whole number between two bounds that may be absent, and then is x
abbrev pub whole_or : Field → ℕ → ℕ → ℕ → Data → Result ℕ BodyFault
whole_or f x low high d = present f d >>= or_else (whole f low high) x

-- a whole number between two bounds with a sign that may be absent, and then is x
abbrev pub signed_or : Field → ℤ → ℤ → ℤ → Data → Result ℤ BodyFault
signed_or f x low high d = present f d >>= or_else (signed_number f low high) x

-- a text that may be empty, and may be absent, and then is empty
abbrev pub text_or_empty : Field → Data → Result (List ℕ) BodyFault
text_or_empty f d = present f d >>= or_else (loose_text f) []

-- a price mode that may be absent, and then is x
abbrev pub price_mode_or : Field → PriceMode → Data → Result PriceMode BodyFault
price_mode_or f x d = present f d >>= or_else (price_mode f) x

-- an id that may be absent or null
abbrev pub optional_id : Field → Data → Result (Option ℕ) BodyFault
optional_id f d = each (id f) (optional f d)

-- a text that may be absent or null
abbrev pub optional_text : Field → Data → Result (Option (List ℕ)) BodyFault
optional_text f d = each (text f) (optional f d)

-- a text that may be absent or null, and may be empty
abbrev pub optional_loose_text : Field → Data → Result (Option (List ℕ)) BodyFault
optional_loose_text f d = each (loose_text f) (optional f d)

-- an amount of money that may be absent or null
abbrev pub optional_money : Field → Data → Result (Option ℕ) BodyFault
optional_money f d = each (money f) (optional f d)

-- a moment that may be absent or null
abbrev pub optional_moment : Field → Data → Result (Option ℕ) BodyFault
optional_moment f d = each (moment f) (optional f d)

-- a list of ids that may be absent, and then is empty
abbrev pub ids_or_none : Field → Data → Result (List ℕ) BodyFault
ids_or_none f d = present f d >>= or_else (ids f) []

-- a list of texts that may be absent, and then is empty
abbrev pub texts_or_none : Field → Data → Result (List (List ℕ)) BodyFault
texts_or_none f d = present f d >>= or_else (texts f) []
