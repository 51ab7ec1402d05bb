-- What is counted beside a log, now and before each of its changes; going back to one of them; one change more.
use Rattle.std.specs.Prelude.{◌≡◌, ℕ, List, [], ◌∷◌, ◌++◌, length, take, slice_index_or}
use Rattle.model_catalogue.specs.declared.rows.Quota.{Quota}
use Rattle.model_rows.specs.declared.changes.Change.{Change}
use Rattle.model_rows.specs.declared.rows.Usage.{Usage}
use Rattle.model_catalogue.specs.Kept.{CatalogueTables}
use Rattle.model_rows.specs.Lists.{Lists}
use Rattle.model_rows.specs.Change.{after_change}
use Rattle.draft_overlay.specs.Logs.{Log, rows_of}
use Rattle.draft_counts.specs.declared.tallies.JournalMark.{JournalMark}
use Rattle.draft_counts.specs.declared.tallies.RowCounts.{RowCounts}
use Rattle.draft_counts.specs.Counts.{IsMore, AreMoreUses}
use Rattle.draft_counts.specs.CountDelta.{come_of, gone_of}
use Rattle.draft_counts.specs.Uses.{use_come, use_gone}
use Rattle.book_tally.specs.declared.amount.Uses.{Uses}
use Rattle.book_tally.specs.declared.tally.Count.{Count}

-- the counts by quota, the uses of vouchers, what stands now, and how far both reached before each of the changes
pub record Tallied : Type 0 where
  pub counts : List (Count Usage)
  pub uses : List (Count Uses)
  pub here : RowCounts
  pub reached : List JournalMark

-- how far they reach now
abbrev pub reach_now : Tallied → JournalMark
reach_now tallied = record { counts = length tallied.counts; uses = length tallied.uses; here = tallied.here }

-- how far they reached after so many changes
abbrev pub reach_at : ℕ → Tallied → JournalMark
reach_at count tallied = slice_index_or tallied.reached count (reach_now tallied)

-- what was counted after so many changes
abbrev pub tallied_at : ℕ → Tallied → Tallied
tallied_at count tallied = record {
  counts = take (reach_at count tallied).counts tallied.counts;
  uses = take (reach_at count tallied).uses tallied.uses;
  here = (reach_at count tallied).here;
  reached = take count tallied.reached;
}

-- the new counts have what a change of the log's rows brings to each quota and takes from it, beside the old ones
abbrev pub CountsChange : Change → Log → ℕ → CatalogueTables → List (Count Usage) → List (Count Usage) → Type 0
CountsChange change log at catalogue old new = IsMore (come_of (rows_of log) at change) (gone_of (rows_of log) at change) catalogue.lists.quotas old new

-- and the new uses have what it brings to each voucher and takes from it
abbrev pub CountsUses : Change → Log → ℕ → List (Count Uses) → List (Count Uses) → Type 0
CountsUses change log at old new = AreMoreUses (use_come (rows_of log) at change) (use_gone (rows_of log) at change) old new

-- a change more is counted
pub record IsNext (at : ℕ) (change : Change) (lists : Lists) (quotas : List Quota) (old new : Tallied) : Type 0 where
  pub counts : IsMore (come_of lists at change) (gone_of lists at change) quotas old.counts new.counts
  pub uses : AreMoreUses (use_come lists at change) (use_gone lists at change) old.uses new.uses
  pub carts : new.here.carts ≡ length (after_change change lists).carts
  pub vouchers : new.here.vouchers ≡ length (after_change change lists).vouchers
  pub reached : new.reached ≡ old.reached ++ reach_now old ∷ []
