use Rattle.std.proofs.Common.{◌≡◌, ◌∙◌, ◌++◌, ℕ, List, Some, ap, ap₂, map}
use Rattle.std.specs.List.{concat}
use Rattle.model_commands.specs.declared.doors.DoorStatus.{DoorStatus}
use Rattle.office_reports.specs.Entered.{entries_of, items_on}
use Rattle.office_reports.specs.DoorText.{door_line, door_text_if, status_line}
use Rattle.office_reports.specs.ItemLines.{door_lines}
use Rattle.office_reports.proofs.DoorLines.{door_lines_are}
use Rattle.office_reports.proofs.doors.door_text.Goals as goal

pub returns : goal.returns
returns g c =
    let lists = (g.B.Book.state c.args.book.now).lists in
    let list = c.in-Some.list.now in
    let lines : c.append_entries.new.text.items ≡ concat (map (λ i. door_line i (entries_of list lists i)) (items_on list lists)) =
    c.in_ok-append_entries.ensures
    ∙ ap (λ (t : List ℕ). t ++ door_lines c.catalogue.result.now.lists c.deref.result.now) c.new-text.ensures.items
    ∙ ap₂ door_lines c.catalogue.ensures (c.deref.ensures.value ∙ c.in_ok-rows.ensures)
    ∙ door_lines_are list lists c.requires.ids.items.in_order in
    ap Some (c.new.ensures ∙ c.in_ok-append_status.ensures ∙ ap₂ (λ (t : List ℕ) (s : DoorStatus). t ++ status_line s) lines c.in_ok-status.ensures) ∙ ap (λ o. door_text_if o lists) c.in-Some.ensures
