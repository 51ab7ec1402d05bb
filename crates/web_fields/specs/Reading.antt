-- Steps of a reading, each of which gives a value or the first fault.
use Rattle.std.specs.Prelude.{◌≡◌, List, ℕ, Result, Ok, Err}
use Rattle.std.specs.Borrow.{Bor}
use Rattle.serde_json.specs.Data.{Data, Items}
use Rattle.serde_json.specs.View.{view, items_view}
use Rattle.serde_json.specs.declared.value.Value.{Value}
use Rattle.model_faults.specs.declared.fields.Field.{Field}
use Rattle.model_faults.specs.declared.fields.Problem.{Problem}
use Rattle.web_fields.specs.declared.error.BodyFault.{BodyFault}
use Rattle.web_fields.specs.declared.error.BodyFault.TheVariants as faults
use Rattle.web_fields.specs.declared.error.ReadError.{ReadError}
use Rattle.web_fields.specs.declared.error.ReadError.TheVariants as errors

-- the next step, where there was no fault
infixl 10 ◌>>=◌
-- the first fault is the whole reading's, and no step after it is taken
abbrev pub ◌>>=◌ : {A B : Type 0} → Result A BodyFault → (A → Result B BodyFault) → Result B BodyFault
(Ok x) >>= f = f x
(Err e) >>= f = Err e

-- that field has that problem
abbrev pub fault : Field → Problem → BodyFault
fault f p = faults.Field (record { field = f; problem = p })

-- a fault's problem, of that field
abbrev pub fault_of : Field → BodyFault → BodyFault
fault_of f (faults.Field x) = fault f x.problem
fault_of f e = e

-- the reading, with its fault as one of that field
abbrev pub fault_renamed : {A : Type 0} → Field → Result A BodyFault → Result A BodyFault
fault_renamed f (Ok x) = Ok x
fault_renamed f (Err e) = Err (fault_of f e)

-- What a function returned, seen by show, is what the reading gives.
abbrev pub Shows : {X Y : Type 0} → (X → Y) → Result X BodyFault → Result Y BodyFault → Type 0
Shows show (Ok x) read = read ≡ Ok (show x)
Shows show (Err e) read = read ≡ Err e

-- The error is what the reading gives, or there was no memory.
abbrev pub Fails : {Y : Type 0} → ReadError → Result Y BodyFault → Type 0
Fails errors.Memory read = Unit {0}
Fails (errors.Body f) read = read ≡ Err f

-- What a function returned, seen by show, is what the reading gives, or there was no memory.
abbrev pub Gives : {X Y : Type 0} → (X → Y) → Result X ReadError → Result Y BodyFault → Type 0
Gives show (Ok x) read = read ≡ Ok (show x)
Gives show (Err e) read = Fails e read

-- What a function returned, of a value that shows as it is, is what the reading gives, or there was no memory.
abbrev pub Reads : {Y : Type 0} → Result Y ReadError → Result Y BodyFault → Type 0
Reads result read = Gives (λ x. x) result read

-- what a lent value shows
abbrev pub view_of : Bor Value → Data
view_of v = view v.now

-- the bytes of a lent text
abbrev pub text_of : Bor (List ℕ) → List ℕ
text_of s = s.now

-- what the entries of a lent list show
abbrev pub items_of_slice : Bor (List Value) → Items
items_of_slice list = items_view list.now
