-- Why a connection ends early, as a number.
use Rattle.std.specs.Prelude.{ℕ}
use Rattle.web_connection.specs.declared.failure.Failure.{Failure}
use Rattle.web_connection.specs.declared.failure.Failure.TheVariants as failures

-- 6 is want of memory; 82 is of the input and its limit of reads; 83 is of the output; 85 is of the clock or the draws
abbrev pub failure_number : Failure → ℕ
failure_number failures.Memory = 6
failure_number failures.Input = 82
failure_number failures.Limit = 82
failure_number failures.Output = 83
failure_number failures.Clock = 85
