-- Refusals of a shop's file, and of a voucher file, as the program tells them.
use Rattle.std.specs.Prelude.{ℕ, Result, Ok, Err}
use Rattle.app_csv.specs.declared.voucher_file.FileFault.{FileFault}
use Rattle.app_csv.specs.declared.voucher_file.FileFault.TheVariants as files
use Rattle.web_cli.specs.declared.fault.RunFault.{RunFault}
use Rattle.web_cli.specs.declared.fault.RunFault.TheVariants as faults
use Rattle.file_tables.specs.declared.error.CreateError.{CreateError}
use Rattle.file_tables.specs.declared.error.CreateError.TheVariants as making
use Rattle.file_tables.specs.declared.error.TokenError.{TokenError}
use Rattle.file_tables.specs.declared.error.TokenError.TheVariants as tokens
use Rattle.file_scan.specs.declared.error.OpenError.{OpenError}
use Rattle.file_scan.specs.declared.error.OpenError.TheVariants as opening

-- a file that isn't blank is at fault as one that is no shop's; want of memory and the store keep their faults
abbrev pub fault_of_making : CreateError → RunFault
fault_of_making making.NotBlank = faults.NotAShop
fault_of_making making.Memory = faults.Memory
fault_of_making making.Store = faults.Store

-- each reason not to open a file is a fault of its own, but the version that was found isn't kept
abbrev pub fault_of_opening : OpenError → RunFault
fault_of_opening opening.Memory = faults.Memory
fault_of_opening opening.NotAShop = faults.NotAShop
fault_of_opening (opening.Version version) = faults.Version
fault_of_opening (opening.Damaged rule) = faults.Damaged rule
fault_of_opening opening.Store = faults.Store

-- a shop that has all the tokens it may have, want of memory and the store are each a fault of their own
abbrev pub fault_of_token : TokenError → RunFault
fault_of_token tokens.Full = faults.Full
fault_of_token tokens.Memory = faults.Memory
fault_of_token tokens.Store = faults.Store

-- what is told of a token: its number, or the fault
abbrev pub told_of_token : Result ℕ TokenError → Result ℕ RunFault
told_of_token (Ok number) = Ok number
told_of_token (Err error) = Err (fault_of_token error)

-- a voucher file's first line, any other line, a column of one, too many lines and want of memory are each a fault
abbrev pub fault_of_file : FileFault → RunFault
fault_of_file files.Memory = faults.Memory
fault_of_file files.Header = faults.Header
fault_of_file (files.Line line) = faults.Line line
fault_of_file (files.Column line at) = faults.Column line at
fault_of_file files.TooMany = faults.TooManyLines
