-- The bodies of check-in lists and of scans, field by field in the order of their tests.
use Rattle.std.specs.Prelude.{ℕ, false, List, Option, Some, None, Result, Ok, Err, if◌then◌else◌, option_and_then, codes}
use Rattle.serde_json.specs.Data.{Data}
use Rattle.serde_json.specs.Find.{as_str}
use Rattle.base_values.specs.Texts.{same_text}
use Rattle.model_rows.specs.declared.rows.CheckinKind.{CheckinKind}
use Rattle.model_rows.specs.declared.rows.CheckinKind.TheVariants as kinds
use Rattle.model_commands.specs.declared.doors.NewCheckinList.{NewCheckinList}
use Rattle.model_commands.specs.declared.doors.Scan.{Scan}
use Rattle.model_faults.specs.declared.fields.Field.TheVariants as fields
use Rattle.model_faults.specs.declared.fields.Problem.TheVariants as problems
use Rattle.web_fields.specs.declared.error.BodyFault.{BodyFault}
use Rattle.web_fields.specs.Reading.{◌>>=◌, fault}
use Rattle.web_fields.specs.Modes.{present, required_value}
use Rattle.web_fields.specs.Kinds.{name}
use Rattle.web_fields.specs.Lacking.{or_else, truth_or, ids_or_none, optional_text, optional_moment}

-- a new check-in list: for no item and for paid orders alone, where nothing else is said
unfoldable pub checkin_list_of : Data → Result NewCheckinList BodyFault
checkin_list_of d = do
  n ← required_value fields.Name d
  given ← name fields.Name n
  all ← truth_or fields.AllProducts false d
  items ← ids_or_none fields.LimitProducts d
  pending ← truth_or fields.IncludePending false d
  multiple ← truth_or fields.AllowMultipleEntries false d
  again ← truth_or fields.AllowEntryAfterExit false d
  Ok (record {
    name = given;
    all_products = all;
    limit_products = items;
    include_pending = pending;
    allow_multiple_entries = multiple;
    allow_entry_after_exit = again;
  })

-- the kind of check-in that a word names
abbrev pub kind_named : List ℕ → Option CheckinKind
kind_named word =
    if same_text word (codes "entry") then Some kinds.Entry
    else (if same_text word (codes "exit") then Some kinds.Exit else None)

-- what a word names, or the field's fault where it names neither kind
abbrev pub kind_from : Option CheckinKind → Result CheckinKind BodyFault
kind_from None = Err (fault fields.Type problems.Invalid)
kind_from (Some kind) = Ok kind

-- a kind of check-in: one of two words
abbrev pub kind : Data → Result CheckinKind BodyFault
kind v = kind_from (option_and_then kind_named (as_str v))

-- what a scan is for: an entry, where it isn't said
abbrev pub kind_of : Data → Result CheckinKind BodyFault
kind_of d = present fields.Type d >>= or_else kind kinds.Entry

-- a scan
unfoldable pub scan_of : Data → Result Scan BodyFault
scan_of d = do
  way ← kind_of d
  nonce ← optional_text fields.Nonce d
  at ← optional_moment fields.Datetime d
  force ← truth_or fields.Force false d
  unpaid ← truth_or fields.IgnoreUnpaid false d
  Ok (record { kind = way; nonce = nonce; datetime = at; force = force; ignore_unpaid = unpaid })
