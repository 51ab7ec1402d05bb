-- Why the program ends with status 1, as a number.
use Rattle.std.specs.Prelude.{ℕ, Result, Ok, Err}
use Rattle.web_connection.specs.declared.failure.Failure.{Failure}
use Rattle.web_connection.specs.Failures.{failure_number}
use Rattle.web_cli.specs.declared.fault.RunFault.{RunFault}
use Rattle.web_cli.specs.declared.fault.RunFault.TheVariants as faults

-- 6 is want of memory, 16 a token too many, 50 an unknown list; 60 to 63 are of a shop's file, 70 to 74 of a voucher
-- file or an export, 80 is of opening a file, 81 of an address, 84 of an argument; a failed run has its failure's
abbrev pub fault_number : RunFault → ℕ
fault_number faults.Memory = 6
fault_number faults.Full = 16
fault_number faults.NoList = 50
fault_number faults.NotAShop = 60
fault_number faults.Version = 61
fault_number (faults.Damaged rule) = 62
fault_number faults.Store = 63
fault_number faults.Header = 70
fault_number (faults.Line line) = 71
fault_number (faults.Column line column) = 72
fault_number faults.Unwritten = 73
fault_number faults.TooManyLines = 74
fault_number faults.File = 80
fault_number faults.Linked = 80
fault_number faults.CsvFile = 80
fault_number faults.Listen = 81
fault_number (faults.Argument argument) = 84
fault_number (faults.Run failure) = failure_number failure

-- the end of a run, as the program's
abbrev pub as_fault : Result (Unit {0}) Failure → Result (Unit {0}) RunFault
as_fault (Ok u) = Ok u
as_fault (Err failure) = Err (faults.Run failure)
