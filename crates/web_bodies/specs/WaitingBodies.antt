-- The bodies of entries of the waiting list, field by field in the order of their tests.
use Rattle.std.specs.Prelude.{ℤ, pos, negsuc, Option, Result, Ok}
use Rattle.serde_json.specs.Data.{Data}
use Rattle.base_values.specs.Counts.{most_priority}
use Rattle.model_commands.specs.declared.waiting.NewWaiting.{NewWaiting}
use Rattle.model_commands.specs.declared.waiting.WaitingPatch.{WaitingPatch}
use Rattle.model_faults.specs.declared.fields.Field.TheVariants as fields
use Rattle.web_fields.specs.declared.error.BodyFault.{BodyFault}
use Rattle.web_fields.specs.Reading.{◌>>=◌}
use Rattle.web_fields.specs.Modes.{required_value}
use Rattle.web_fields.specs.Kinds.{id, text}
use Rattle.web_fields.specs.Lacking.{optional_id, signed_or}
use Rattle.web_fields.specs.Patched.{patched_signed}

-- the lowest priority, -1,000,000, and the highest
abbrev pub lowest : ℤ
lowest = negsuc 999999

-- the highest priority, 1,000,000
abbrev pub highest : ℤ
highest = pos most_priority

-- the priority of a new entry: 0, where it isn't said
abbrev pub priority : Data → Result ℤ BodyFault
priority d = signed_or fields.Priority (pos 0) lowest highest d

-- a new entry
unfoldable pub waiting_of : Data → Result NewWaiting BodyFault
waiting_of d = do
  e ← required_value fields.Email d
  email ← text fields.Email e
  i ← required_value fields.Item d
  item ← id fields.Item i
  variation ← optional_id fields.Variation d
  first ← priority d
  Ok (record { email = email; item = item; variation = variation; priority = first })

-- the new priority, where it is given
abbrev pub new_priority : Data → Result (Option ℤ) BodyFault
new_priority d = patched_signed fields.Priority lowest highest d

-- a change of an entry: no other field is read
abbrev pub waiting_patch_of : Data → Result WaitingPatch BodyFault
waiting_patch_of d = new_priority d >>= λ given. Ok (record { priority = given })
