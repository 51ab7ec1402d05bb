use Rattle.std.proofs.Common.{◌≡◌, ◌∙◌, None, ap}
use Rattle.model_rows.specs.Passages.{is_entry_if, last_after}
use Rattle.decide_door.specs.Last.{checkins_of, has_entry, last_of}
use Rattle.office_reports.proofs.Entering.{own_checkins, own_entry}
use Rattle.office_reports.proofs.entries.came.Goals as goal

pub returns-clause-entered : goal.returns-clause-entered
returns-clause-entered g c =
    let checkins = (g.B.Book.state c.args.book.now).lists.checkins in
    let list = c.args.list.now.id in
    let position = c.args.position.now.id in
    let own : c.as_slice-checkins.result.now ≡ checkins_of list position checkins = c.as_slice-checkins.ensures ∙ c.in_ok-checkins.ensures in
    c.has_entry.ensures ∙ ap (has_entry list position) own ∙ own_entry list position checkins

pub returns-clause-inside : goal.returns-clause-inside
returns-clause-inside g c =
    let checkins = (g.B.Book.state c.args.book.now).lists.checkins in
    let list = c.args.list.now.id in
    let position = c.args.position.now.id in
    let own : c.as_slice-checkins.result.now ≡ checkins_of list position checkins = c.as_slice-checkins.ensures ∙ c.in_ok-checkins.ensures in
    c.is_entry_if.ensures ∙ ap is_entry_if (c.last_of.ensures ∙ ap (last_of list position) own ∙ ap (last_after None) (own_checkins list position checkins))
