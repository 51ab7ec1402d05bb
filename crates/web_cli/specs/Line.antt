-- How a command line ends.
use Rattle.std.specs.Prelude.{ℕ, Result, Ok, Err}
use Rattle.std.specs.declared.io.ErrorKind.{ErrorKind as IoKind}
use Rattle.std.specs.declared.io.ErrorKind.TheVariants as io-kinds
use Rattle.clap.specs.declared.error.kind.ErrorKind.{ErrorKind}
use Rattle.clap.specs.declared.error.kind.ErrorKind.TheVariants as kinds
use Rattle.web_cli.specs.declared.argument.Argument.TheVariants as arguments
use Rattle.web_cli.specs.declared.ended.LineEnd.{LineEnd}
use Rattle.web_cli.specs.declared.ended.LineEnd.TheVariants as ends
use Rattle.web_cli.specs.declared.fault.RunFault.{RunFault}
use Rattle.web_cli.specs.declared.fault.RunFault.TheVariants as faults
use Rattle.web_cli.specs.declared.values.ReportFault.{ReportFault}
use Rattle.web_cli.specs.declared.values.ReportFault.TheVariants as unreported

-- 0 where all was done or help was asked for, 1 where a fault was met, 2 where the line is wrong
abbrev pub exit_status : LineEnd → ℕ
exit_status ends.Well = 0
exit_status ends.Helped = 0
exit_status (ends.Failed fault) = 1
exit_status ends.Wrong = 2

-- how a run ends
abbrev pub end_of_run : Result (Unit {0}) RunFault → LineEnd
end_of_run (Ok u) = ends.Well
end_of_run (Err fault) = ends.Failed fault

-- how a line of `report` ends that asks for no report: with a fault where the list's number can't be read, and else the line is wrong
abbrev pub end_of_report : ReportFault → LineEnd
end_of_report unreported.Unknown = ends.Wrong
end_of_report unreported.HasNoList = ends.Wrong
end_of_report unreported.NeedsList = ends.Wrong
end_of_report unreported.Argument = ends.Failed (faults.Argument arguments.List)

-- how a line ends that asks for no run, for this reason
abbrev pub end_of_line : ErrorKind → LineEnd
end_of_line kinds.OutOfMemory = ends.Failed faults.Memory
end_of_line kinds.DisplayHelp = ends.Helped
end_of_line kinds.DisplayVersion = ends.Helped
end_of_line _ = ends.Wrong

-- words that can't be had: one isn't UTF-8, or there is no memory
abbrev pub end_of_words : IoKind → LineEnd
end_of_words io-kinds.InvalidData = ends.Wrong
end_of_words _ = ends.Failed faults.Memory
