-- Lists in a body.
use Rattle.std.specs.Prelude.{ℕ, List, [], ◌∷◌, ◌++◌, take, Option, Some, None, Result, Ok, Err}
use Rattle.serde_json.specs.Data.{Data, Items, no_items, item, Members}
use Rattle.serde_json.specs.Find.{as_array, as_object}
use Rattle.model_faults.specs.declared.fields.Field.{Field}
use Rattle.model_faults.specs.declared.fields.Problem.TheVariants as problems
use Rattle.web_fields.specs.declared.error.BodyFault.{BodyFault}
use Rattle.web_fields.specs.Reading.{◌>>=◌, fault}
use Rattle.web_fields.specs.Modes.{not_null}
use Rattle.web_fields.specs.Kinds.{id, text}

-- a list
abbrev pub list_from : Field → Option Items → Result Items BodyFault
list_from f None = Err (fault f problems.Invalid)
list_from f (Some ds) = Ok ds

-- the entries of a list; any other value is of another kind
abbrev pub list : Field → Data → Result Items BodyFault
list f d = list_from f (as_array d)

-- each entry by the reading, or the first fault
abbrev pub all_of : {A : Type 0} → (Data → Result A BodyFault) → Items → Result (List A) BodyFault
all_of read no_items = Ok []
all_of read (item d ds) = read d >>= λ x. all_of read ds >>= λ xs. Ok (x ∷ xs)

-- an entry that is an id; its faults are the list's
abbrev pub entry_id : Field → Data → Result ℕ BodyFault
entry_id f d = not_null f d >>= id f

-- an entry that is an object; its faults are the list's
abbrev pub object_from : Field → Data → Option Members → Result Data BodyFault
object_from f v None = Err (fault f problems.Invalid)
object_from f v (Some _) = Ok v

-- an entry that is an object, and not null; its faults are the list's
abbrev pub entry_object : Field → Data → Result Data BodyFault
entry_object f d = not_null f d >>= λ v. object_from f v (as_object v)

-- a list of ids
abbrev pub ids : Field → Data → Result (List ℕ) BodyFault
ids f d = list f d >>= all_of (entry_id f)

-- an entry that is a text which isn't empty; its faults are the list's
abbrev pub entry_text : Field → Data → Result (List ℕ) BodyFault
entry_text f d = not_null f d >>= text f

-- a list of texts
abbrev pub texts : Field → Data → Result (List (List ℕ)) BodyFault
texts f d = list f d >>= all_of (entry_text f)

-- the entries that were read, and those of the rest
abbrev pub with_front : {A : Type 0} → List A → Result (List A) BodyFault → Result (List A) BodyFault
with_front front rest = rest >>= λ xs. Ok (front ++ xs)

-- the first n of what was read; a fault of any entry is one of them all
abbrev pub at_most : {A : Type 0} → ℕ → Result (List A) BodyFault → Result (List A) BodyFault
at_most n read = read >>= λ xs. Ok (take n xs)
