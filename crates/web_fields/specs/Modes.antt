-- Whether a field has to be there, and whether it may be null.
use Rattle.std.specs.Prelude.{Option, Some, None, Result, Ok, Err, if◌then◌else◌, is_some}
use Rattle.serde_json.specs.Data.{Data}
use Rattle.serde_json.specs.Find.{get, as_null}
use Rattle.model_faults.specs.declared.fields.Field.{Field}
use Rattle.model_faults.specs.declared.fields.Problem.TheVariants as problems
use Rattle.model_faults.specs.Fields.{field_name}
use Rattle.web_fields.specs.declared.error.BodyFault.{BodyFault}
use Rattle.web_fields.specs.Reading.{◌>>=◌, fault}

-- a value that may not be null
abbrev pub not_null : Field → Data → Result Data BodyFault
not_null f v = if is_some (as_null v) then Err (fault f problems.Null) else Ok v

-- a field that has to be there, and may not be null
abbrev pub required_from : Field → Option Data → Result Data BodyFault
required_from f None = Err (fault f problems.Required)
required_from f (Some v) = not_null f v

-- the value of a field that has to be there, and may not be null
abbrev pub required_value : Field → Data → Result Data BodyFault
required_value f d = required_from f (get (field_name f) d)

-- a value, or none where it is null
abbrev pub unless_null : Data → Option Data
unless_null v = if is_some (as_null v) then None else Some v

-- a field that has to be there, and may be null
abbrev pub nullable_from : Field → Option Data → Result (Option Data) BodyFault
nullable_from f None = Err (fault f problems.Required)
nullable_from f (Some v) = Ok (unless_null v)

-- the value of a field that has to be there, or none where it is null
abbrev pub nullable : Field → Data → Result (Option Data) BodyFault
nullable f d = nullable_from f (get (field_name f) d)

-- a field that may be absent or null
abbrev pub optional_from : Option Data → Option Data
optional_from None = None
optional_from (Some v) = unless_null v

-- the value of a field, or none where it is absent or null
abbrev pub optional : Field → Data → Option Data
optional f d = optional_from (get (field_name f) d)

-- a field that may be absent, and may not be null
abbrev pub present_from : Field → Option Data → Result (Option Data) BodyFault
present_from f None = Ok None
present_from f (Some v) = not_null f v >>= λ x. Ok (Some x)

-- the value of a field that may not be null, or none where it is absent
abbrev pub present : Field → Data → Result (Option Data) BodyFault
present f d = present_from f (get (field_name f) d)

-- a field that may be absent, and may be null: the outer option tells whether it is there
abbrev pub maybe_from : Option Data → Option (Option Data)
maybe_from None = None
maybe_from (Some v) = Some (unless_null v)

-- the value of a field: none where it is absent, and an inner none where it is null
abbrev pub maybe : Field → Data → Option (Option Data)
maybe f d = maybe_from (get (field_name f) d)
