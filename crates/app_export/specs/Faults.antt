-- Why an export breaks off, as the program tells it: for memory, the store or the writer, and never for the file.
use Rattle.model_export.specs.declared.sink.SinkFault.TheVariants as sinks
use Rattle.web_cli.specs.declared.fault.RunFault.{RunFault}
use Rattle.web_cli.specs.declared.fault.RunFault.TheVariants as faults
use Rattle.model_damage.specs.declared.rule.Rule.TheVariants as rules
use Rattle.file_schema.specs.declared.error.RowError.TheVariants as rows
use Rattle.app_export.specs.declared.positions.WalkError.{WalkError}
use Rattle.app_export.specs.declared.positions.WalkError.TheVariants.{Sink, Rows}

-- a value that is none is told as the rule of limits
abbrev pub fault_of_walk : WalkError → RunFault
fault_of_walk (Sink sinks.Memory) = faults.Memory
fault_of_walk (Sink sinks.Output) = faults.Unwritten
fault_of_walk (Rows rows.Memory) = faults.Memory
fault_of_walk (Rows rows.Foreign) = faults.NotAShop
fault_of_walk (Rows rows.Damaged) = faults.Damaged rules.Limits
fault_of_walk (Rows rows.Store) = faults.Store

-- memory was refused, or the store or the writer failed, and nothing is wrong with the file
abbrev pub IsOfMachine : RunFault → Type 0
IsOfMachine faults.Memory = Unit {0}
IsOfMachine faults.Store = Unit {0}
IsOfMachine faults.Unwritten = Unit {0}
IsOfMachine fault = ⊥
