use Rattle.std.proofs.Common.{ap, [], ◌∙◌}
use Rattle.sqlite.specs.Held.{state}
use Rattle.model_rows.specs.Lists.{empty}
use Rattle.file_rows.specs.declared.rows.ShopRow.{ShopRow}
use Rattle.app_run.specs.Opened.{bare_house}
use Rattle.app_run.proofs.Added.{knows_feed}
use Rattle.app_run.proofs.opening.add_feed.Goals as goal

pub returns-in-Ok-clause-fed : goal.returns-in-Ok-clause-fed
returns-in-Ok-clause-fed g c clean bare =
    let added = c.in-Ok.ensures in
    let known = bare.knows in
    let head = added.head clean bare_house known.now in
    record {
      row = (ap (λ (h : ShopRow). h.organizer) head ∙ bare.row.0, ap (λ (h : ShopRow). h.event) head ∙ bare.row.1);
      holds = c.add_token.ensures.holds clean empty [] bare.holds;
      knows = knows_feed c.args.tables.now.head c.add_token.new.tables.head _ _ (state g.S.Store c.add_token.new.tables.connection) _ c.digest_of_feed.ensures bare.next head (added.number clean bare_house known.now)
          (added.knows clean bare_house known.now) (added.leaves_house clean bare_house known.now known.left);
    }
