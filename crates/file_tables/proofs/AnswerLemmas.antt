-- The answer that is kept, among those that are not past.
use Rattle.std.proofs.Common.{◌≡◌, ℕ, true, false, cond, List, [], ◌∷◌, filter, Option, Some, None, Result, OnOk, sym, ap, subst, ◌∙◌}
use Rattle.std.specs.Borrow.{Bor}
use Rattle.sqlite.specs.State.{State}
use Rattle.sqlite_trees.proofs.ListLemmas.{filter-filter}
use Rattle.model_answers.specs.declared.kept.Kept.{Kept}
use Rattle.model_answers.specs.KeptAnswers.{lasts}
use Rattle.model_answers.specs.ShopView.{kept_listed}
use Rattle.file_rows.specs.declared.rows.KeptRow.{KeptRow}
use Rattle.file_rows.specs.Tables.{Tables}
use Rattle.file_rows.specs.Changes.{Changes, ChangesFit}
use Rattle.file_writes.specs.Removed.{AreApart}
use Rattle.file_meaning.specs.Free.{IsFree}
use Rattle.file_meaning.specs.Made.{with_listed, without_past}
use Rattle.file_tables.proofs.RowLemmas.{apart}
use Rattle.file_tables.proofs.Steps.{fits_as}

abbrev stays : ℕ → List KeptRow → List KeptRow
stays at xs = filter (λ r. lasts at r.kept.at) xs

once : (at : ℕ) (xs : List KeptRow) → stays at (stays at xs) ≡ stays at xs
once at xs = filter-filter (λ (r : KeptRow). lasts at r.kept.at) (λ r. lasts at r.kept.at) (λ r e. e) xs

-- an answer that is past already need not be kept: it would go
kept_or_past : (at number : ℕ) (o : Option (Bor Kept)) (t : Tables) → with_listed number (filter (λ k. lasts at k.at) (kept_listed o)) (without_past at t) ≡ without_past at (with_listed number (kept_listed o) (without_past at t))
kept_or_past at number None t = ap (λ l. record t { kept = l }) (sym (once at t.kept))
kept_or_past at number (Some k) t =
    elim (lasts at k.now.at) as (λ b. with_listed number (cond b (k.now ∷ []) []) (without_past at t) ≡ record t { kept = cond b (record { rowid = number; kept = k.now } ∷ stays at (stays at t.kept)) (stays at (stays at t.kept)) }) [
      | true ↦ ap (λ (l : List KeptRow). record t { kept = record { rowid = number; kept = k.now } ∷ l }) (sym (once at t.kept))
      | false ↦ ap (λ (l : List KeptRow). record t { kept = l }) (sym (once at t.kept))
    ]

-- what is past goes, and then the answer is kept
pub answer_kept : (at number : ℕ) (o : Option (Bor Kept)) (old mid new : State) → ChangesFit (λ t. AreApart (λ r. r.rowid) t.kept) (without_past at) old mid → Changes (with_listed number (filter (λ k. lasts at k.at) (kept_listed o))) mid new
    → ChangesFit (IsFree number) (λ t. without_past at (with_listed number (kept_listed o) (without_past at t))) old new
answer_kept at number o old mid new a b =
    fits_as (IsFree number) (λ t. with_listed number (filter (λ k. lasts at k.at) (kept_listed o)) (without_past at t)) _ old new (kept_or_past at number o)
    (record { known = b.known; inside = b.inside; committed = b.committed ∙ a.committed; listed = λ d. b.listed (a.listed d); holds = λ t free held. b.holds (without_past at t) (a.holds t (apart (λ r. r.rowid) t.kept free.kept.apart) held) })

-- an answer that lasts is kept
pub kept_one : {T E : Type 0} (r : Result T E) (at number : ℕ) (o : Option (Bor Kept)) (k : Bor Kept) (old new : State) → o ≡ Some k → lasts at k.now.at ≡ true → OnOk r (Changes (with_listed number (k.now ∷ [])) old new)
    → OnOk r (Changes (with_listed number (filter (λ k. lasts at k.at) (kept_listed o))) old new)
kept_one r at number o k old new is late h =
    subst (λ (o : Option (Bor Kept)). OnOk r (Changes (with_listed number (filter (λ k. lasts at k.at) (kept_listed o))) old new)) (sym is)
    (subst (λ b. OnOk r (Changes (with_listed number (cond b (k.now ∷ []) [])) old new)) (sym late) h)
