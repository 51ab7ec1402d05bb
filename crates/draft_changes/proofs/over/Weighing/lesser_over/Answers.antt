use Rattle.std.proofs.Common.{ℕ, Option, sym, ap, ◌∙◌}
use Rattle.std.specs.Prelude.{is_some}
use Rattle.model_rows.specs.Over.{is_over}
use Rattle.draft_counts.specs.Logs.{rows_of, rows_at}
use Rattle.book_tally.specs.Amounts.{nothing}
use Rattle.book_tally.proofs.Newest.{blank}
use Rattle.draft_changes.specs.Least.{found_at}
use Rattle.draft_changes.proofs.Overs.{least_stays, least_lowers}
use Rattle.draft_changes.proofs.over.Weighing.lesser_over.Goals as goal

pub returns-then-not-is_next : goal.returns-then-not-is_next
returns-then-not-is_next g c =
    let w = c.args.self.now in
    let log = w.overlay.now in
    let f : ℕ → Option ℕ = found_at (λ q. q.id) (is_over (rows_at w.count log) (rows_of log) w.at w.own.now) w.quotas.now in
    least_stays f w.counts.now c.args.place c.key-key.result (sym (c.key-key.ensures (blank nothing))) c.args.least c.requires.least
    (λ here less. absurd (c.is_next.ensures.no c.if-not-is_next.true here less))

pub returns-in-None : goal.returns-in-None
returns-in-None g c =
    let w = c.args.self.now in
    let log = w.overlay.now in
    let f : ℕ → Option ℕ = found_at (λ q. q.id) (is_over (rows_at w.count log) (rows_of log) w.at w.own.now) w.quotas.now in
    least_stays f w.counts.now c.args.place c.key-key.result (sym (c.key-key.ensures (blank nothing))) c.args.least c.requires.least
    (λ here less. sym c.over_at.ensures ∙ c.in-None.is)

pub returns-in-Some : goal.returns-in-Some
returns-in-Some g c =
    let w = c.args.self.now in
    let log = w.overlay.now in
    let f : ℕ → Option ℕ = found_at (λ q. q.id) (is_over (rows_at w.count log) (rows_of log) w.at w.own.now) w.quotas.now in
    least_lowers f w.counts.now c.args.place c.key-key.result (sym (c.key-key.ensures (blank nothing))) c.args.least c.requires.least
    (c.is_next.ensures.yes c.if-not-is_next.false)
    (ap (λ (o : Option ℕ). is_some o) (sym c.over_at.ensures ∙ c.in-Some.is))
