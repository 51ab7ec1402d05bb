-- The lines of items that are looked up by their numbers.
use Rattle.std.proofs.Common.{◌≡◌, ℕ, Bool, true, false, cond, List, [], ◌∷◌, ◌++◌, map, filter, Some, refl, ap, ap₂}
use Rattle.std.specs.List.{AllByRecursion, concat}
use Rattle.base_tables.specs.Tables.{AreInOrder}
use Rattle.model_catalogue.specs.CatalogueLists.{item_at}
use Rattle.model_catalogue.specs.declared.rows.Item.{Item}
use Rattle.model_rows.specs.declared.rows.CheckinList.{CheckinList}
use Rattle.model_rows.specs.Lists.{Lists}
use Rattle.model_rows.proofs.Found.{each_found}
use Rattle.decide_door.specs.Belongs.{is_for}
use Rattle.office_reports.specs.Entered.{entries_of, item_entries, items_on}
use Rattle.office_reports.specs.Counted.{all_entries}
use Rattle.office_reports.specs.DoorText.{door_line}
use Rattle.office_reports.specs.ItemLines.{door_line_if, door_lines}

module _ (list : CheckinList) (lists : Lists) where
  abbrev Stands : Item → Type 0
  Stands i = item_at i.id lists.catalogue ≡ Some i

  kept : (test : Item → Bool) (items : List Item) → AllByRecursion Stands items → AllByRecursion Stands (filter test items)
  kept test [] h = tt
  kept test (i ∷ is) h = by_test (test i) (kept test is h.1)
    where
      by_test : (b : Bool) → AllByRecursion Stands (filter test is) → AllByRecursion Stands (cond b (i ∷ filter test is) (filter test is))
      by_test true more = (h.0, more)
      by_test false more = more

  each_line : (items : List Item) → AllByRecursion Stands items → door_lines lists.catalogue (map (item_entries list lists) items) ≡ concat (map (λ i. door_line i (entries_of list lists i)) items)
  each_line [] h = refl
  each_line (i ∷ is) h = ap₂ (λ (x y : List ℕ). x ++ y) (ap (λ o. door_line_if o (entries_of list lists i)) h.0) (each_line is h.1)

  pub door_lines_are : AreInOrder (λ i. i.id) lists.catalogue.items → door_lines lists.catalogue (all_entries list lists) ≡ concat (map (λ i. door_line i (entries_of list lists i)) (items_on list lists))
  door_lines_are h = each_line (items_on list lists) (kept (λ i. is_for list i.id) lists.catalogue.items (each_found (λ (i : Item). i.id) 0 lists.catalogue.items h))
