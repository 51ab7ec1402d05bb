-- A draft: a box office in a book, and changes that aren't applied yet. A mark is a place among them. Its vouchers have headroom after each change.
use Rattle.std.specs.Prelude.{◌≡◌, ℕ, ◌≤◌, ◌<◌, ◌+◌, List, length, take, Result, OnOk, OnErr}
use Rattle.model_rows.specs.declared.rows.NextIds.{NextIds}
use Rattle.model_rows.specs.declared.changes.Change.{Change}
use Rattle.model_rows.specs.declared.rows.Usage.{Usage}
use Rattle.model_rows.specs.Change.{change_applied}
use Rattle.model_rows.specs.Lists.{State}
use Rattle.model_rows.specs.Headroom.{AllHaveHeadroom}
use Rattle.model_rows.specs.Usage.{usage_of}
use Rattle.draft_counts.specs.Logs.{Log, rows_of, log_with}
use Rattle.book_tally.specs.declared.amount.Uses.{Uses}
use Rattle.book_tally.specs.declared.tally.Count.{Count}
use Rattle.book_tally.specs.Amounts.{nothing, plus, no_uses, plus_uses}
use Rattle.book_tally.specs.Counts.{came, went}
use Rattle.draft_counts.specs.declared.tallies.JournalMark.{JournalMark}
use Rattle.draft_counts.specs.Counts.{value_at}
use Rattle.draft_counts.specs.Tallied.{Tallied, reach_at, tallied_at}
use Rattle.draft_counts.specs.Uses.{uses_of}
use Rattle.draft_changes.specs.declared.bases.Base.{Base}
use Rattle.draft_changes.specs.Handed.{AreNoted}
use Rattle.draft_changes.specs.Used.{places_used, usage_raised, AreBases}

-- a draft, which contracts see as its log, the next ids and its moment
pub record DraftState : Type 0 where
  pub log : Log
  pub next : NextIds
  pub moment : ℕ

-- the box office with the changes
abbrev pub now : DraftState → State
now draft = record { lists = rows_of draft.log; next = draft.next; moment = draft.moment }

-- the draft with one more change
abbrev pub with_change : Change → DraftState → DraftState
with_change change draft = record draft { log = log_with change draft.log }

-- the log as it was after so many changes
abbrev pub log_at : ℕ → Log → Log
log_at count log = record log { changes = take count log.changes }

-- a place in a draft's log, with the next ids there
pub record MarkState : Type 0 where
  pub count : ℕ
  pub next : NextIds

-- the draft as it was at that mark
abbrev pub back : MarkState → DraftState → DraftState
back mark draft = record draft { log = log_at mark.count draft.log; next = mark.next }

-- the counts by quota, each by its place among all quotas: with what came and without what went, each count of the book is
-- the one now
abbrev pub IsCounted : ℕ → Log → List (Count Usage) → Type 0
IsCounted at log counts = (place : ℕ) → plus (value_at nothing (usage_of (rows_of log) at) log.base.catalogue.quotas place) (went nothing place counts) ≡ plus (value_at nothing (usage_of log.base at) log.base.catalogue.quotas place) (came nothing place counts)

-- by quota all that is used of it: with what raises it and without what lowers it, that of the book is the one now
abbrev pub IsTotalled : ℕ → Log → List (Count Usage) → Type 0
IsTotalled at log counts = (place : ℕ) → value_at 0 (places_used (rows_of log) at) log.base.catalogue.quotas place + usage_raised (went nothing place counts) (came nothing place counts) ≡ value_at 0 (places_used log.base at) log.base.catalogue.quotas place + usage_raised (came nothing place counts) (went nothing place counts)

-- by voucher its uses: with what came and without what went, those of the book are the ones now
abbrev pub AreKept : ℕ → Log → List (Count Uses) → Type 0
AreKept at log uses = (voucher : ℕ) → plus_uses (uses_of at (rows_of log) voucher) (went no_uses voucher uses) ≡ plus_uses (uses_of at log.base voucher) (came no_uses voucher uses)

-- the counts by quota, the numbers of cart positions and of vouchers and the uses of vouchers are what counting afresh gives, and
-- no voucher is used too often
pub record IsTallied (at : ℕ) (log : Log) (tallied : Tallied) : Type 0 where
  pub counted : IsCounted at log tallied.counts
  pub carts : tallied.here.carts ≡ length (rows_of log).carts
  pub vouchers : tallied.here.vouchers ≡ length (rows_of log).vouchers
  pub headroom : AllHaveHeadroom at (rows_of log)
  pub kept : AreKept at log tallied.uses
  pub each : length tallied.reached ≡ length log.changes

-- a reach is no further than the other
pub record IsBelow (reach other : JournalMark) : Type 0 where
  pub counts : reach.counts ≤ other.counts
  pub uses : reach.uses ≤ other.uses

-- what a draft keeps beside its log: it stands on a book, at a moment that isn't before the book's; what it knows of the book's
-- usage is that usage; what it counts now, and counted before each of its changes, is right; and it notes each voucher that was put
-- or dropped
pub record IsDraft (book : State) (log : Log) (at : ℕ) (tallied : Tallied) (bases : List Base) (noted : List ℕ) : Type 0 where
  pub base : log.base ≡ book.lists
  pub past : book.moment ≤ at
  pub asked : AreBases book.lists at bases
  pub now : IsTallied at log tallied
  pub before : (count : ℕ) → count < length log.changes → IsTallied at (log_at count log) (tallied_at count tallied)
  pub each_noted : AreNoted log.changes noted
  pub rising : (count more : ℕ) → count ≤ more → more ≤ length log.changes → IsBelow (reach_at count tallied) (reach_at more tallied)

-- the mark is one of this draft
pub record IsMarkOf (draft : DraftState) (mark : MarkState) : Type 0 where
  pub within : mark.count ≤ length draft.log.changes

-- the new draft has the old one's marks, and goes back to the same
pub record Extends (old new : DraftState) : Type 0 where
  pub base : new.log.base ≡ old.log.base
  pub moment : new.moment ≡ old.moment
  pub marks : (mark : MarkState) → IsMarkOf old mark → IsMarkOf new mark × (back mark new ≡ back mark old)

-- what comes of one more change: it is logged, and done; where there is no memory for it the draft is as it was
pub record Makes {A E : Type 0} (change : Change) (old new : DraftState) (result : Result A E) : Type 0 where
  pub ok : OnOk result (now new ≡ change_applied change (now old))
  pub extends : Extends old new
  pub err : OnErr result (new ≡ old)
  pub log : OnOk result (new ≡ with_change change old)

-- the new draft is the old one, but for its next ids, which are these
pub record HasNextIds (next : NextIds) (old new : DraftState) : Type 0 where
  pub now : now new ≡ record (now old) { next = next }
  pub extends : Extends old new
  pub log : new.log ≡ old.log
