-- The values of a line.
use Rattle.std.specs.Prelude.{◌≡◌, ℕ, Bool, true, ◌&&◌, List, length, codes, Option, Some, None, Result, Ok, Err, if◌then◌else◌, nat_le}
use Rattle.std.specs.List.{list_all}
use Rattle.std.specs.Str.{bytes_eq}
use Rattle.std.specs.Net.Grammar.{IsSocketText}
use Rattle.std.specs.declared.net.socket_addr.SocketAddr.{SocketAddr}
use Rattle.base_values.specs.declared.refusal.ValueRefusal.{ValueRefusal}
use Rattle.base_values.specs.Digits.{number_of}
use Rattle.base_dates.specs.Moments.{moment_of}
use Rattle.web_cli.specs.declared.argument.Argument.{Argument}
use Rattle.web_cli.specs.declared.argument.Argument.TheVariants as arguments
use Rattle.web_cli.specs.declared.values.Report.{Report}
use Rattle.web_cli.specs.declared.values.Report.TheVariants.{Sales, Door}
use Rattle.web_cli.specs.declared.values.ReportFault.{ReportFault}
use Rattle.web_cli.specs.declared.values.ReportFault.TheVariants as unreported

-- 0 to 31536000 seconds
abbrev pub step_within : Option ℕ → Option ℕ
step_within None = None
step_within (Some step) = if nat_le step 31536000 then Some step else None

-- both, where each can be read, and else the first that can't
abbrev pub both_values : Result ℕ ValueRefusal → Option ℕ → Result (ℕ × ℕ) Argument
both_values (Ok from) (Some step) = Ok (from, step)
both_values (Ok from) None = Err arguments.Step
both_values (Err refusal) step = Err arguments.From

-- the values of `--from`, a moment, and `--step`, plain digits
abbrev pub feed_values : List ℕ → List ℕ → Result (ℕ × ℕ) Argument
feed_values from step = both_values (moment_of from) (step_within (number_of step))

-- 0 to 1000000 connections
abbrev pub connections_within : Option ℕ → Option ℕ
connections_within None = None
connections_within (Some n) = if nat_le n 1000000 then Some n else None

-- the value of `--connections`, plain digits; left out it is 0
abbrev pub connections_of : Option (List ℕ) → Option ℕ
connections_of None = Some 0
connections_of (Some text) = connections_within (number_of text)

-- the values of `--listen`, an IP address with a port in std's spelling, and `--connections`; or one of the two that can't be read
abbrev pub AreServeValues : List ℕ → Option (List ℕ) → Result (SocketAddr × ℕ) Argument → Type 0
AreServeValues listen connections (Ok (addr, n)) = IsSocketText listen addr × (connections_of connections ≡ Some n)
AreServeValues listen connections (Err arguments.Listen) = (addr : SocketAddr) → ¬ (IsSocketText listen addr)
AreServeValues listen connections (Err arguments.Connections) = connections_of connections ≡ None
AreServeValues listen connections (Err _) = ⊥

-- what was sold is told without a list
abbrev pub sales_by : Option (List ℕ) → Result Report ReportFault
sales_by None = Ok Sales
sales_by (Some text) = Err unreported.HasNoList

-- the report on the list of this number; a text that is no number is the argument's fault
abbrev pub door_if : Option ℕ → Result Report ReportFault
door_if None = Err unreported.Argument
door_if (Some number) = Ok (Door number)

-- who came in is told of a list, by its number, 1 to 18 digits
abbrev pub door_by : Option (List ℕ) → Result Report ReportFault
door_by None = Err unreported.NeedsList
door_by (Some text) = door_if (number_of text)

-- the report that a name and the value of `--list` ask for
abbrev pub report_of : List ℕ → Option (List ℕ) → Result Report ReportFault
report_of name list = if bytes_eq name (codes "sales") then sales_by list else (if bytes_eq name (codes "door") then door_by list else Err unreported.Unknown)

-- an ASCII letter, digit or sign, and no space
abbrev pub is_token_byte : ℕ → Bool
is_token_byte b = nat_le 33 b && nat_le b 126

-- 1 to 254 of them
unfoldable pub is_token : List ℕ → Bool
is_token text = nat_le 1 (length text) && (nat_le (length text) 254 && list_all is_token_byte text)

-- the text can be a token
abbrev pub IsToken : List ℕ → Type 0
IsToken text = is_token text ≡ true
