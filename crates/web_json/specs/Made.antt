-- What functions that make and write JSON give.
use Rattle.std.specs.Prelude.{◌≡◌, ℕ, List, ◌++◌, String, Vec, Result, IfOk, OnOk}
use Rattle.std.specs.declared.alloc.Global.{Global}
use Rattle.std.specs.BTreeMap.{BTreeMap}
use Rattle.serde_json.specs.Data.{Data, Members}
use Rattle.serde_json.specs.View.{view, members_view}
use Rattle.serde_json.specs.Written.{compact_text}
use Rattle.serde_json.specs.declared.value.Value.{Value}

-- a value that is made is this JSON
abbrev pub MakesJson : {E : Type 0} → Result Value E → Data → Type 0
MakesJson result json = IfOk result (λ v. view v ≡ json)

-- members that are made are those that stood, changed so
abbrev pub MakesMembers : {E : Type 0} → Result (BTreeMap (String Global) Value) E → BTreeMap (String Global) Value → (Members → Members) → Type 0
MakesMembers result members change = IfOk result (λ m. members_view m.entries ≡ change (members_view members.entries))

-- where a text is appended, it stands behind what stood
abbrev pub AppendsText : {E Z : Type 0} → Result (Unit {0}) E → Vec ℕ Z → Vec ℕ Z → List ℕ → Type 0
AppendsText result old new text = OnOk result (new.items ≡ old.items ++ text)

-- where JSON is appended, it stands behind what stood, written without spaces
abbrev pub AppendsJson : {E Z : Type 0} → Result (Unit {0}) E → Vec ℕ Z → Vec ℕ Z → Data → Type 0
AppendsJson result old new json = AppendsText result old new (compact_text json)
