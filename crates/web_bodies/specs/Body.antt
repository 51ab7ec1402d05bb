-- The body of a write: JSON, an object or for a bulk call a list, its fields.
use Rattle.std.specs.Prelude.{ℕ, ◌==◌, List, length, Option, Some, None, Result, Ok, Err, if◌then◌else◌, is_some, codes}
use Rattle.std.specs.Str.{is_utf8}
use Rattle.serde_json.specs.Data.{Data}
use Rattle.serde_json.specs.Read.{read}
use Rattle.serde_json.specs.Find.{as_object}
use Rattle.model_commands.specs.declared.requests.Command.{Command}
use Rattle.web_fields.specs.declared.error.BodyFault.{BodyFault}
use Rattle.web_fields.specs.declared.error.BodyFault.TheVariants as faults
use Rattle.web_fields.specs.Reading.{◌>>=◌}
use Rattle.model_commands.specs.declared.orders.Move.{Move}
use Rattle.model_commands.specs.declared.doors.Scan.{Scan}
use Rattle.web_bodies.specs.declared.form.Form.{Form}
use Rattle.web_bodies.specs.declared.form.Form.TheVariants as forms
use Rattle.web_bodies.specs.declared.form.MoveName.{MoveName}
use Rattle.web_bodies.specs.Requests.{command_of, move_of}
use Rattle.web_bodies.specs.DoorBodies.{scan_of}

-- the text of a body: `{}` for an empty one
abbrev pub body_text : List ℕ → List ℕ
body_text bytes = if length bytes == 0 then codes "{}" else bytes

-- what was read of a text, which isn't JSON where nothing could be
abbrev pub json_from : Option Data → Result Data BodyFault
json_from None = Err faults.NotJson
json_from (Some d) = Ok d

-- the value of a text that is UTF-8 and JSON, and nests no deeper than 127
unfoldable pub json_of : List ℕ → Result Data BodyFault
json_of text = if is_utf8 text then json_from (read text) else Err faults.NotJson

-- the value is an object
abbrev pub object_of : Data → Result (Unit {0}) BodyFault
object_of d = if is_some (as_object d) then Ok tt else Err faults.InvalidData

-- the body of every call is an object, but for a bulk call, whose list is tested where its entries are read
abbrev pub shape_of : Form → Data → Result (Unit {0}) BodyFault
shape_of forms.Carts d = Ok tt
shape_of _ d = object_of d

-- the command that a body of that form says
unfoldable pub read_command : Form → List ℕ → Result Command BodyFault
read_command form bytes = do
  d ← json_of (body_text bytes)
  is ← shape_of form d
  command_of form d

-- what a body says of a move with that name
unfoldable pub read_move : MoveName → List ℕ → Result Move BodyFault
read_move name bytes = do
  d ← json_of (body_text bytes)
  is ← object_of d
  move_of name d

-- what a body says of a scan
unfoldable pub read_scan : List ℕ → Result Scan BodyFault
read_scan bytes = do
  d ← json_of (body_text bytes)
  is ← object_of d
  scan_of d
