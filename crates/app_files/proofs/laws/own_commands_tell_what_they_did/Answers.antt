use Rattle.std.proofs.Common.{◌≡◌, ℕ, List, refl, ap, codes}
use Rattle.model_commands.specs.declared.replies.Reply.{Reply}
use Rattle.model_commands.specs.declared.replies.Reply.TheVariants as replies
use Rattle.model_commands.specs.declared.requests.Command.TheVariants.{ImportVouchers, Periodic}
use Rattle.model_commands.specs.declared.vouchers.Verdict.{Verdict}
use Rattle.model_commands.specs.declared.waiting.PeriodicCounts.{PeriodicCounts}
use Rattle.app_csv.specs.VerdictLines.{verdict_lines}
use Rattle.office_deliveries.specs.Deliveries.{step}
use Rattle.app_files.specs.Imported.{import_words}
use Rattle.app_files.specs.Worked.{work_text, work_words}
use Rattle.app_files.proofs.laws.own_commands_tell_what_they_did.Goals as goal

work-tells : (counts : PeriodicCounts) (reply : Reply) → reply ≡ replies.Periodic counts → (told : PeriodicCounts) × ((work_words reply).body ≡ work_text told)
work-tells counts reply is = (counts, ap (λ (r : Reply). (work_words r).body) is)

imports-tell : (given : List (List ℕ)) (verdicts : List Verdict) (reply : Reply) → reply ≡ replies.Imported verdicts → (told : List Verdict) × ((import_words given reply).body ≡ verdict_lines given told)
imports-tell given verdicts reply is = (verdicts, ap (λ (r : Reply). (import_words given r).body) is)

other-work : (reply : Reply) → ((counts : PeriodicCounts) → reply ≡ replies.Periodic counts → ⊥) → (work_words reply).body ≡ codes "{}"
other-work (replies.Periodic counts) isnt = absurd (isnt counts refl)
other-work reply isnt = refl

other-imports : (given : List (List ℕ)) (reply : Reply) → ((verdicts : List Verdict) → reply ≡ replies.Imported verdicts → ⊥) → (import_words given reply).body ≡ codes "{}"
other-imports given (replies.Imported verdicts) isnt = absurd (isnt verdicts refl)
other-imports given reply isnt = refl

pub returns-clause-work : goal.returns-clause-work
returns-clause-work c = λ at draw state. work-tells _ (step Periodic at draw state).1 refl

pub returns-clause-imports : goal.returns-clause-imports
returns-clause-imports c = λ given vouchers at draw state. imports-tell given _ (step (ImportVouchers vouchers) at draw state).1 refl

pub returns-clause-other_work : goal.returns-clause-other_work
returns-clause-other_work c = other-work

pub returns-clause-other_imports : goal.returns-clause-other_imports
returns-clause-other_imports c = other-imports
