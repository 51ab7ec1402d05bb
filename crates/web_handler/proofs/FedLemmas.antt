-- When the ticks of `feed` end.
use Rattle.std.proofs.Common.{◌≡◌, ℕ, ◌<◌, Result, Ok, Err, subst}
use Rattle.web_connection.specs.declared.failure.Failure.{Failure}
use Rattle.web_connection.specs.declared.failure.Failure.TheVariants as failures
use Rattle.web_connection.specs.Run.{Counts, CountedAll}
use Rattle.web_handler.specs.Fed.{EndsTicks}

pub ends_ticks : (result : Result (Unit {0}) Failure) (count : ℕ) (old new : Counts) → old.clock ≡ 0 → (0 < new.clock → count ≡ 18446744073709551615)
    → CountedAll result old new → EndsTicks count result
ends_ticks (Ok u) count old new is end counted = tt
ends_ticks (Err failures.Clock) count old new is end counted = end (subst (λ (n : ℕ). n < new.clock) is counted.0)
ends_ticks (Err failures.Output) count old new is end counted = tt
ends_ticks (Err failures.Input) count old new is end counted = tt
ends_ticks (Err failures.Memory) count old new is end counted = tt
ends_ticks (Err failures.Limit) count old new is end counted = tt
