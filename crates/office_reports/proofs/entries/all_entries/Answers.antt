use Rattle.std.proofs.Common.{◌≡◌, ◌∙◌, List, sym, ap, map, filter, subst}
use Rattle.base_tables.specs.Tables.{AreInOrder}
use Rattle.model_catalogue.specs.declared.rows.Item.{Item}
use Rattle.decide_door.specs.Belongs.{is_for}
use Rattle.office_reports.specs.declared.entries.ItemEntries.{ItemEntries}
use Rattle.office_reports.specs.Entered.{items_on}
use Rattle.office_reports.specs.Counted.{AllAtMost, counted_all, item_unvisited}
use Rattle.office_reports.proofs.Entering.{all_entries_are, none_at_most, unvisited_in_order}
use Rattle.office_reports.proofs.entries.all_entries.Goals as goal

pub count_all-requires-clause-order : goal.count_all-requires-clause-order
count_all-requires-clause-order g c =
    let list = c.args.list.now in
    let lists = (g.B.Book.state c.args.book.now).lists in
    let rows : c.in_ok-rows.rows.items ≡ map item_unvisited (items_on list lists) =
    c.in_ok-rows.ensures ∙ ap (λ (is : List Item). map item_unvisited (filter (λ i. is_for list i.id) is)) (c.items.ensures ∙ ap (λ l. l.items) c.catalogue.ensures) in
    subst (λ l. AreInOrder (λ (s : ItemEntries). s.item) l) (sym rows) (unvisited_in_order (λ i. is_for list i.id) 0 lists.catalogue.items c.requires.ids.items.in_order)

pub count_all-requires-clause-few : goal.count_all-requires-clause-few
count_all-requires-clause-few g c = subst (AllAtMost 0) (sym c.in_ok-rows.ensures) (none_at_most (filter (λ i. is_for c.args.list.now i.id) c.items.result.now))

pub returns : goal.returns
returns g c =
    let list = c.args.list.now in
    let lists = (g.B.Book.state c.args.book.now).lists in
    let rows : c.in_ok-rows.rows.items ≡ map item_unvisited (items_on list lists) =
    c.in_ok-rows.ensures ∙ ap (λ (is : List Item). map item_unvisited (filter (λ i. is_for list i.id) is)) (c.items.ensures ∙ ap (λ l. l.items) c.catalogue.ensures) in
    c.in_ok-count_all.ensures ∙ ap (map (counted_all list lists lists.positions)) rows ∙ all_entries_are list lists
