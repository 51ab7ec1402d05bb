use Rattle.std.proofs.Common.{sym, ◌∙◌}
use Rattle.app_run.proofs.Ended.{once_well, well}
use Rattle.app_run.proofs.opening.open_store.Goals as goal

pub returns : goal.returns
returns g c = once_well c.if_well.result _ c.add_feed-ended.result _ c.if_well.ensures.same c.if_well.ensures.well (λ is clean.
    let made = c.in_ok-made.ensures in
    let fed = well _ _ is (c.add_feed-ended.ensures.fed clean (made.tables (c.add_feed-ended.ensures.clean clean))) in
    record {
      organizer_is = made.office.0;
      event_is = made.office.1;
      empty_is = made.office.2;
      row_is = (fed.row.0 ∙ sym made.office.0, fed.row.1 ∙ sym made.office.1);
      holds = fed.holds;
      knows = fed.knows;
    })
