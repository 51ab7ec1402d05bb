-- The change that is written is the one that was asked.
use Rattle.std.proofs.Common.{◌≡◌, ℕ, Result, IfOk, sym, subst}
use Rattle.sqlite.specs.State.{State}
use Rattle.model_rows.specs.declared.changes.Change.{Change}
use Rattle.file_rows.specs.Changes.{ChangesFit}
use Rattle.file_meaning.specs.Free.{IsFree}
use Rattle.file_meaning.specs.Made.{made_by, next_by}

pub as_asked : {E : Type 0} (r : Result ℕ E) (asked is : Change) (from : ℕ) (old new : State) → asked ≡ is → IfOk r (λ free. (free ≡ next_by is from) × ChangesFit (IsFree from) (made_by is from) old new)
    → IfOk r (λ free. (free ≡ next_by asked from) × ChangesFit (IsFree from) (made_by asked from) old new)
as_asked r asked is from old new e h = subst (λ (change : Change). IfOk r (λ free. (free ≡ next_by change from) × ChangesFit (IsFree from) (made_by change from) old new)) (sym e) h
