-- What a decision answers, and what it leaves of the draft that it is lent.
use Rattle.std.specs.Prelude.{◌≡◌, ◌≢◌, ℕ, ◌++◌, List, Option, Result, Ok, Err, IfOk, IfErr, OnErr}
use Rattle.model_rows.specs.declared.changes.Change.{Change}
use Rattle.model_rows.specs.declared.rows.Own.{Own}
use Rattle.model_rows.specs.Lists.{State}
use Rattle.model_rows.specs.Over.{first_over}
use Rattle.draft_changes.specs.DraftState.{DraftState, MarkState, now, back, Extends}

-- the log has these changes more
abbrev pub Logs : List Change → DraftState → DraftState → Type 0
Logs changes old new = new.log.changes ≡ old.log.changes ++ changes

-- each refusal but want of memory is the one that the rule gives
abbrev pub RefusesBy : {A B E : Type 0} → E → Result A E → Result B E → Type 0
RefusesBy memory rule result = IfErr result (λ e. e ≢ memory → rule ≡ Err e)

-- an answer is what the rule gives, unless there was no memory
pub record AnswersBy {A E : Type 0} (memory : E) (rule result : Result A E) : Type 0 where
  pub done : IfOk result (λ answer. rule ≡ Ok answer)
  pub refused : RefusesBy memory rule result

-- this rule decides what is answered and what the draft becomes, unless there was no memory
pub record DecidesBy {A E : Type 0} (memory : E) (rule : State → Result (State × A) E) (made : A → List Change) (old new : DraftState) (result : Result A E) : Type 0 where
  -- where it is done the rule leads to the new draft's box office, and to this answer
  pub done : IfOk result (λ answer. rule (now old) ≡ Ok (now new, answer))
  -- each refusal but want of memory is the rule's
  pub refused : RefusesBy memory (rule (now old)) result
  -- where it is done these changes are logged, and no others
  pub changes : IfOk result (λ answer. Logs (made answer) old new)
  -- marks of the old draft are marks of the new one
  pub extends : Extends old new
  -- a refusal leaves the draft as it was
  pub same : OnErr result (new ≡ old)

-- this rule, which answers nothing, decides what the draft becomes, unless there was no memory; where it is done these changes are logged
pub record DeletesBy {E : Type 0} (memory : E) (rule : State → Result State E) (made : List Change) (old new : DraftState) (result : Result (Unit {0}) E) : Type 0 where
  pub done : IfOk result (λ _. rule (now old) ≡ Ok (now new))
  pub refused : RefusesBy memory (rule (now old)) result
  pub changes : IfOk result (λ _. Logs made old new)
  pub extends : Extends old new
  pub same : OnErr result (new ≡ old)

-- the least quota of which too much is taken since the mark, where these rows of its own don't weigh if they ignore quotas
abbrev pub first_over_since : MarkState → List Own → DraftState → Option ℕ
first_over_since mark own draft = first_over (now (back mark draft)).lists (now draft).lists (now draft).moment own
