use Rattle.std.proofs.Common.{ap, ◌∙◌}
use Rattle.file_rows.specs.declared.rows.ShopRow.{ShopRow}
use Rattle.app_run.proofs.Added.{made_bare}
use Rattle.app_run.proofs.opening.begin.Goals as goal

pub returns-in-Ok-clause-tables : goal.returns-in-Ok-clause-tables
returns-in-Ok-clause-tables g c clean =
    let made = c.in-Ok.ensures.made clean in
    let organizer = c.in_ok-of_tables.ensures.0 in
    let event = c.in_ok-of_tables.ensures.1 in
    record {
      row = (ap (λ (h : ShopRow). h.organizer) made.head_is ∙ organizer, ap (λ (h : ShopRow). h.event) made.head_is ∙ event);
      next = ap (λ (h : ShopRow). h.next_token) made.head_is;
      holds = made.holds;
      knows = made_bare _ _ _ _ _ organizer event made.knows;
    }
