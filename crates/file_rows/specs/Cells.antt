-- Values of a shop as they stand in columns of the file.
use Rattle.std.specs.Prelude.{ℕ, pos, Bool, true, false, if◌then◌else◌, codes, List, [], Option, Some, None}
use Rattle.sqlite_value.specs.declared.value.Value.{Value}
use Rattle.sqlite_value.specs.declared.value.Value.TheVariants.{Int, Text}
use Rattle.base_values.specs.declared.answer.Methods.{Methods}
use Rattle.base_values.specs.declared.price_mode.PriceMode.{PriceMode}
use Rattle.base_values.specs.declared.price_mode.PriceMode.TheVariants as modes
use Rattle.model_rows.specs.declared.rows.Status.{Status}
use Rattle.model_rows.specs.declared.rows.Status.TheVariants as statuses
use Rattle.model_rows.specs.declared.rows.CheckinKind.{CheckinKind}
use Rattle.model_rows.specs.declared.rows.CheckinKind.TheVariants as kinds

-- ids, counts, amounts in cents and moments are integers
abbrev pub number : ℕ → Value
number n = Int (pos n)

-- 1 where it is true
abbrev pub truth : Bool → Value
truth b = Int (if b then pos 1 else pos 0)

-- the words by which price modes are called everywhere
abbrev pub mode : PriceMode → Value
mode modes.None = Text (codes "none")
mode modes.Set = Text (codes "set")
mode modes.Subtract = Text (codes "subtract")
mode modes.Percent = Text (codes "percent")

-- the letters by which orders are told apart everywhere
abbrev pub status : Status → Value
status statuses.Pending = Text (codes "n")
status statuses.Paid = Text (codes "p")
status statuses.Expired = Text (codes "e")
status statuses.Cancelled = Text (codes "c")

-- the words by which a door says what a scan is for
abbrev pub kind : CheckinKind → Value
kind kinds.Entry = Text (codes "entry")
kind kinds.Exit = Text (codes "exit")

-- the methods of a path as in the header `Allow`; `-` where it has none
abbrev pub methods_text : Methods → List ℕ
methods_text m = word m.get m.post m.patch m.delete
  where
    word : Bool → Bool → Bool → Bool → List ℕ
    word false false false false = codes "-"
    word true false false false = codes "GET"
    word false true false false = codes "POST"
    word true true false false = codes "GET, POST"
    word false false true false = codes "PATCH"
    word true false true false = codes "GET, PATCH"
    word false true true false = codes "POST, PATCH"
    word true true true false = codes "GET, POST, PATCH"
    word false false false true = codes "DELETE"
    word true false false true = codes "GET, DELETE"
    word false true false true = codes "POST, DELETE"
    word true true false true = codes "GET, POST, DELETE"
    word false false true true = codes "PATCH, DELETE"
    word true false true true = codes "GET, PATCH, DELETE"
    word false true true true = codes "POST, PATCH, DELETE"
    word true true true true = codes "GET, POST, PATCH, DELETE"

-- the path's methods where the answer names them, else an empty text
abbrev pub methods : Option Methods → Value
methods None = Text []
methods (Some m) = Text (methods_text m)
