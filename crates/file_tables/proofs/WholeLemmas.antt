-- All that a commit writes.
use Rattle.std.proofs.Common.{◌≡◌, ℕ, List, [], ◌∷◌, refl, sym, subst, ◌∙◌}
use Rattle.sqlite.specs.State.{State}
use Rattle.model_rows.specs.declared.changes.Change.{Change}
use Rattle.model_rows.specs.CountRows.{CountRows}
use Rattle.model_answers.specs.declared.kept.Kept.{Kept}
use Rattle.file_rows.specs.declared.rows.ShopRow.{ShopRow}
use Rattle.file_rows.specs.Tables.{Tables, Holds}
use Rattle.file_rows.specs.Changes.{Changes, ChangesFit}
use Rattle.file_meaning.specs.Free.{IsFree}
use Rattle.file_meaning.specs.Made.{made_by, next_by, changes_made, next_after, put_shop, with_counts, with_listed, without_past, commit_made}
use Rattle.file_meaning.proofs.Carried.{free_counted, free_made, free_shop}
use Rattle.file_tables.specs.Steps.{made_each, next_each}

-- ---- the changes

abbrev pub each_change : List Change → ℕ → Tables → Tables
each_change changes from t = made_each made_by next_by changes from t

same_changes : (changes : List Change) (from : ℕ) (t : Tables) → each_change changes from t ≡ changes_made changes from t
same_changes [] from t = refl
same_changes (change ∷ changes) from t = same_changes changes (next_by change from) (made_by change from t)

pub same_next : (changes : List Change) (from : ℕ) → next_each next_by changes from ≡ next_after changes from
same_next [] from = refl
same_next (change ∷ changes) from = same_next changes (next_by change from)

-- ---- the whole

pub all_written : (shop : ShopRow) (changes : List Change) (counts : CountRows) (from number at : ℕ) (ks : List Kept) (s0 s2 s3 s4 s5 : State) → number ≡ next_after changes from → Changes (put_shop shop) s0 s2
    → ChangesFit (IsFree from) (each_change changes from) s2 s3 → ChangesFit (IsFree number) (with_counts counts) s3 s4
    → ChangesFit (IsFree number) (λ t. without_past at (with_listed number ks (without_past at t))) s4 s5 → ChangesFit (IsFree from) (commit_made shop changes counts from ks at) s0 s5
all_written shop changes counts from number at ks s0 s2 s3 s4 s5 is a b c d = record {
  known = d.known;
  inside = d.inside;
  committed = d.committed ∙ c.committed ∙ b.committed ∙ a.committed;
  listed = λ its. d.listed (c.listed (b.listed (a.listed its)));
  holds = λ t free held.
      let t1 = put_shop shop t in
      let t2 = changes_made changes from t1 in
      let free1 = free_shop shop from t free in
      let free2 : IsFree number t2 = subst (λ n. IsFree n t2) (sym is) (free_made changes from t1 free1) in
      let h2 : Holds s3.now.trees t2 = subst (Holds s3.now.trees) (same_changes changes from t1) (b.holds t1 free1 (a.holds t held)) in
      let h3 : Holds s4.now.trees (with_counts counts t2) = c.holds t2 free2 h2 in
      subst (λ n. Holds s5.now.trees (without_past at (with_listed n ks (without_past at (with_counts counts t2))))) is (d.holds (with_counts counts t2) (free_counted counts number t2 free2) h3);
}
