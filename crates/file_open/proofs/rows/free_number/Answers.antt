use Rattle.std.proofs.Common.{◌≤◌, ℕ, map, subst, arith}
use Rattle.file_rows.specs.declared.rows.QuotaItem.{QuotaItem}
use Rattle.file_rows.specs.declared.rows.QuotaVariation.{QuotaVariation}
use Rattle.file_rows.specs.declared.rows.ListItem.{ListItem}
use Rattle.file_rows.specs.declared.rows.KeptRow.{KeptRow}
use Rattle.file_meaning.specs.Free.{AreBelow}
use Rattle.file_open.proofs.Freed.{free, least}
use Rattle.file_open.proofs.rows.free_number.Goals as goal

pub returns-clause-next : goal.returns-clause-next
returns-clause-next c = λ t of.
    free t c.args.tables.now c.max-3.result c.in_ok-items.items c.in_ok-variations.variations c.in_ok-limits.limits c.in_ok-kept.kept (omega (arith, c.max.ensures, c.max-2.ensures, c.max-3.ensures)) (omega (arith, c.max.ensures, c.max-2.ensures, c.max-3.ensures))
    (omega (arith, c.max-2.ensures, c.max-3.ensures)) (omega (arith, c.max-3.ensures)) of
    (subst (λ l. AreBelow c.in_ok-items.items (map (λ (r : QuotaItem). r.rowid) l)) c.as_slice.ensures.value c.in_ok-items.ensures.next)
    (subst (λ l. AreBelow c.in_ok-variations.variations (map (λ (r : QuotaVariation). r.rowid) l)) c.as_slice-2.ensures.value c.in_ok-variations.ensures.next)
    (subst (λ l. AreBelow c.in_ok-limits.limits (map (λ (r : ListItem). r.rowid) l)) c.as_slice-3.ensures.value c.in_ok-limits.ensures.next)
    (subst (λ l. AreBelow c.in_ok-kept.kept (map (λ (r : KeptRow). r.rowid) l)) c.as_slice-4.ensures.value c.in_ok-kept.ensures.next)

pub returns-clause-least : goal.returns-clause-least
returns-clause-least c = λ t of.
    least t c.args.tables.now c.max-3.result c.in_ok-items.items c.in_ok-variations.variations c.in_ok-limits.limits c.in_ok-kept.kept (λ number a b d e. omega (arith, c.max.ensures, c.max-2.ensures, c.max-3.ensures)) of
    (subst (λ l. (number : ℕ) → AreBelow number (map (λ (r : QuotaItem). r.rowid) l) → c.in_ok-items.items ≤ number) c.as_slice.ensures.value c.in_ok-items.ensures.least)
    (subst (λ l. (number : ℕ) → AreBelow number (map (λ (r : QuotaVariation). r.rowid) l) → c.in_ok-variations.variations ≤ number) c.as_slice-2.ensures.value c.in_ok-variations.ensures.least)
    (subst (λ l. (number : ℕ) → AreBelow number (map (λ (r : ListItem). r.rowid) l) → c.in_ok-limits.limits ≤ number) c.as_slice-3.ensures.value c.in_ok-limits.ensures.least)
    (subst (λ l. (number : ℕ) → AreBelow number (map (λ (r : KeptRow). r.rowid) l) → c.in_ok-kept.kept ≤ number) c.as_slice-4.ensures.value c.in_ok-kept.ensures.least)
