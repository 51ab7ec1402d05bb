-- The numbers of failures, and what was counted for them.
use Rattle.std.proofs.Common.{◌≡◌, ◌∙◌, ℕ, Bool, Err, inl, inr, arith}
use Rattle.web_connection.specs.declared.failure.Failure.{Failure}
use Rattle.web_connection.specs.declared.failure.Failure.TheVariants as failures
use Rattle.web_connection.specs.Failures.{failure_number}
use Rattle.web_connection.specs.Run.{Counted, CountedAll, CountedIn, Counts, NumberCounted}

pub numbers_counted : (failure : Failure) (old new : Counts) → CountedAll (Err failure) old new → NumberCounted (failure_number failure) old new
numbers_counted failures.Input old new counted = record { input = λ is. inl counted.2; output = λ is. absurd (omega (arith, is)); clock = λ is. absurd (omega (arith, is)) }
numbers_counted failures.Limit old new counted = record { input = λ is. inr counted.3; output = λ is. absurd (omega (arith, is)); clock = λ is. absurd (omega (arith, is)) }
numbers_counted failures.Memory old new counted = record { input = λ is. absurd (omega (arith, is)); output = λ is. absurd (omega (arith, is)); clock = λ is. absurd (omega (arith, is)) }
numbers_counted failures.Output old new counted = record { input = λ is. absurd (omega (arith, is)); output = λ is. counted.1; clock = λ is. absurd (omega (arith, is)) }
numbers_counted failures.Clock old new counted = record { input = λ is. absurd (omega (arith, is)); output = λ is. absurd (omega (arith, is)); clock = λ is. counted.0 }

-- a run that ends with the failure of a step
pub step_counted : (failure : Failure) (old new : Counts) (clock output : ℕ) → clock ≡ old.clock → output ≡ old.output → new.input ≡ old.input
    → Counted {A = Bool} (Err failure) clock new.clock output new.output → CountedAll (Err failure) old new
step_counted failures.Clock old new clock output c o i (more, same) = (omega (arith, c, more), same ∙ o, i)
step_counted failures.Output old new clock output c o i (same, more) = (same ∙ c, omega (arith, o, more), i)
step_counted failures.Input old new clock output c o i counted = absurd counted
step_counted failures.Memory old new clock output c o i counted = absurd counted
step_counted failures.Limit old new clock output c o i counted = absurd counted

-- a run that ends with the failure of a read
pub read_counted : (failure : Failure) (old new : Counts) (input : ℕ) → new.clock ≡ old.clock → new.output ≡ old.output → input ≡ old.input
    → CountedIn (Err failure) input new.input → CountedAll (Err failure) old new
read_counted failures.Input old new input c o i more = (c, o, omega (arith, i, more))
read_counted failures.Memory old new input c o i same = (c, o, same ∙ i)
read_counted failures.Clock old new input c o i counted = absurd counted
read_counted failures.Output old new input c o i counted = absurd counted
read_counted failures.Limit old new input c o i counted = absurd counted
