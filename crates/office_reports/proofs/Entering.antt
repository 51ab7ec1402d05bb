-- Counting positions one after another finds who came in, item by item.
use Rattle.std.proofs.Common.{◌≡◌, ◌≢◌, ℕ, ◌+◌, ◌≤◌, ◌<◌, Bool, true, false, cond, eqb, List, [], ◌∷◌, map, filter, get_or, set, length, drop, count_by, None, refl, sym, ap, ◌∙◌, subst, arith}
use Rattle.std.specs.Prelude.{if◌then◌else◌, ◌&&◌, ◌||◌}
use Rattle.std.proofs.lemmas.Bool.Decides.{nat_tests}
use Rattle.std.proofs.lemmas.List.{drop_more, drop_all, map-id}
use Rattle.std.proofs.lemmas.List.Sums.{sum_by-cons}
use Rattle.base_tables.specs.Tables.{row_at, InOrderFrom, AreInOrder, IsPlace}
use Rattle.base_tables.proofs.Places.{filter_in_order}
use Rattle.model_catalogue.specs.declared.rows.Item.{Item}
use Rattle.model_rows.specs.declared.rows.Checkin.{Checkin}
use Rattle.model_rows.specs.declared.rows.CheckinList.{CheckinList}
use Rattle.model_rows.specs.declared.rows.OrderPos.{OrderPos}
use Rattle.model_rows.specs.Lists.{Lists}
use Rattle.decide_door.specs.Belongs.{belongs}
use Rattle.model_rows.specs.Passages.{is_entry}
use Rattle.decide_door.specs.Last.{checkins_of, has_entry, is_of}
use Rattle.decide_door.specs.Status.{has_entered, is_inside}
use Rattle.office_reports.specs.declared.entries.Entries.{Entries}
use Rattle.office_reports.specs.declared.entries.ItemEntries.{ItemEntries}
use Rattle.office_reports.specs.Entered.{visitors_come, entries_of, item_entries, items_on}
use Rattle.office_reports.specs.Counted.{all_entries}
use Rattle.office_reports.specs.Counted.{AllAtMost, AreAtMost, position_counted, counted_all, counted_where, one_if, item_unvisited, with_ticket}
use Rattle.base_tables.proofs.Mapped.{map_two, map_absent, map_set, mapped_in_order}

at_most_weaker : (n m : ℕ) (e : Entries) → n ≤ m → AreAtMost n e → AreAtMost m e
at_most_weaker n m e le few = record { positions = omega (arith, le, few.positions); entered = omega (arith, le, few.entered); inside = omega (arith, le, few.inside) }

pub all_at_most_weaker : (n m : ℕ) (rows : List ItemEntries) → n ≤ m → AllAtMost n rows → AllAtMost m rows
all_at_most_weaker n m [] le few = tt
all_at_most_weaker n m (r ∷ rs) le few = (at_most_weaker n m r.entries le few.0, all_at_most_weaker n m rs le few.1)

-- before any position
pub none_at_most : (items : List Item) → AllAtMost 0 (map item_unvisited items)
none_at_most [] = tt
none_at_most (i ∷ is) = (record { positions = omega arith; entered = omega arith; inside = omega arith }, none_at_most is)

pub unvisited_in_order : (test : Item → Bool) (n : ℕ) (items : List Item) → InOrderFrom (λ i. i.id) n items → InOrderFrom (λ s. s.item) n (map item_unvisited (filter test items))
unvisited_in_order test n items h = mapped_in_order (λ (i : Item). i.id) (λ (s : ItemEntries). s.item) item_unvisited (λ i. refl) n (filter test items) (filter_in_order (λ (i : Item). i.id) test n items h)

-- what a position's check-ins say of it, all of them or its own
pub own_entry : (list position : ℕ) (cs : List Checkin) → has_entry list position (checkins_of list position cs) ≡ has_entry list position cs
own_entry list position [] = refl
own_entry list position (c ∷ cs) = by_test (is_of list position c) refl (own_entry list position cs)
  where
    by_test : (b : Bool) → is_of list position c ≡ b → has_entry list position (checkins_of list position cs) ≡ has_entry list position cs
        → has_entry list position (cond b (c ∷ checkins_of list position cs) (checkins_of list position cs)) ≡ has_entry list position (c ∷ cs)
    by_test true e more = ap (λ x. (is_of list position c && is_entry c.kind) || x) more
    by_test false e more = more ∙ sym (ap (λ b. (b && is_entry c.kind) || has_entry list position cs) e)

pub own_checkins : (list position : ℕ) (cs : List Checkin) → checkins_of list position (checkins_of list position cs) ≡ checkins_of list position cs
own_checkins list position [] = refl
own_checkins list position (c ∷ cs) = by_test (is_of list position c) refl (own_checkins list position cs)
  where
    by_test : (b : Bool) → is_of list position c ≡ b → checkins_of list position (checkins_of list position cs) ≡ checkins_of list position cs
        → checkins_of list position (cond b (c ∷ checkins_of list position cs) (checkins_of list position cs)) ≡ cond b (c ∷ checkins_of list position cs) (checkins_of list position cs)
    by_test true e more =
        ap (λ b. cond b (c ∷ checkins_of list position (checkins_of list position cs)) (checkins_of list position (checkins_of list position cs))) e
        ∙ ap (λ l. c ∷ l) more
    by_test false e more = more

module _ (item : ℕ) (entered inside : Bool) where
  abbrev counted_by : Bool → ItemEntries → ItemEntries
  counted_by b s = if b then record s { entries = with_ticket entered inside s.entries } else s

  counted_item : (s : ItemEntries) → (position_counted item entered inside s).item ≡ s.item
  unfolding position_counted
  counted_item s = by_test (eqb item s.item)
    where
      by_test : (b : Bool) → (counted_by b s).item ≡ s.item
      by_test true = refl
      by_test false = refl

  counted_apart : (s : ItemEntries) → s.item ≢ item → position_counted item entered inside s ≡ s
  unfolding position_counted
  counted_apart s apart = by_test (eqb item s.item) refl
    where
      by_test : (b : Bool) → eqb item s.item ≡ b → counted_by b s ≡ s
      by_test true e = absurd (apart (grind (arith, nat_tests, e)))
      by_test false e = refl

  counted_there : (s : ItemEntries) → s.item ≡ item → position_counted item entered inside s ≡ counted_by true s
  unfolding position_counted
  counted_there s is = by_test (eqb item s.item) refl
    where
      by_test : (b : Bool) → eqb item s.item ≡ b → counted_by b s ≡ counted_by true s
      by_test true e = refl
      by_test false e = absurd (grind (arith, nat_tests, e, is))

  pub counted_here : (rows : List ItemEntries) (i : ℕ) (d : ItemEntries) → AreInOrder (λ s. s.item) rows → IsPlace (λ s. s.item) rows item i → set rows i (counted_by true (get_or rows i d)) ≡ map (position_counted item entered inside) rows
  counted_here rows i d h p =
      ap (set rows i) (sym (counted_there (get_or rows i d) (p.has_id d)))
      ∙ map_set (λ (s : ItemEntries). s.item) (position_counted item entered inside) item counted_apart 0 rows i d h p

  pub counted_nowhere : (rows : List ItemEntries) → row_at (λ s. s.item) item rows ≡ None → map (position_counted item entered inside) rows ≡ rows
  counted_nowhere rows e = map_absent (λ (s : ItemEntries). s.item) (position_counted item entered inside) item counted_apart rows e

  counted_in_order : (rows : List ItemEntries) → AreInOrder (λ s. s.item) rows → AreInOrder (λ s. s.item) (map (position_counted item entered inside) rows)
  counted_in_order rows h = mapped_in_order (λ (s : ItemEntries). s.item) (λ (s : ItemEntries). s.item) (position_counted item entered inside) counted_item 0 rows h

  one_at_most : (b : Bool) → one_if b ≤ 1
  one_at_most true = omega arith
  one_at_most false = omega arith

  counted_at_most : (n : ℕ) (s : ItemEntries) → AreAtMost n s.entries → AreAtMost (n + 1) (position_counted item entered inside s).entries
  unfolding position_counted
  counted_at_most n s few = by_test (eqb item s.item)
    where
      by_test : (b : Bool) → AreAtMost (n + 1) (counted_by b s).entries
      by_test true = record { positions = omega (arith, few.positions); entered = omega (arith, few.entered, one_at_most entered); inside = omega (arith, few.inside, one_at_most inside) }
      by_test false = at_most_weaker n (n + 1) s.entries (omega arith) few

  all_counted_at_most : (n : ℕ) (rows : List ItemEntries) → AllAtMost n rows → AllAtMost (n + 1) (map (position_counted item entered inside) rows)
  all_counted_at_most n [] few = tt
  all_counted_at_most n (r ∷ rs) few = (counted_at_most n r few.0, all_counted_at_most n rs few.1)

-- the first i positions were counted: items rise, no count is above i, and counting the others leads to what counting all does
abbrev pub Counted : CheckinList → Lists → List OrderPos → ℕ → List ItemEntries → List ItemEntries → Type 0
Counted list lists all i first rows = record {
  order : AreInOrder (λ s. s.item) rows;
  few : AllAtMost i rows;
  rest : map (counted_all list lists (drop i all)) rows ≡ map (counted_all list lists all) first;
}

pub nowhere : (list : CheckinList) (lists : Lists) (p : OrderPos) (b : Bool) (rows : List ItemEntries) → b ≡ false → rows ≡ map (counted_where b list lists p) rows
nowhere list lists p b rows e = sym (map-id rows) ∙ ap (λ (x : Bool). map (counted_where x list lists p) rows) (sym e)

module _ (list : CheckinList) (lists : Lists) (all : List OrderPos) (i : ℕ) (p : OrderPos) (first rows : List ItemEntries) (at : i < length all) (is : p ≡ get_or all i p) (so_far : Counted list lists all i first rows) where
  left : drop i all ≡ p ∷ drop (i + 1) all
  left = drop_more all i p at ∙ ap (λ (r : OrderPos). r ∷ drop (i + 1) all) (sym is)

  pub counted_one : (after : List ItemEntries) → after ≡ map (counted_where (belongs list lists p) list lists p) rows → Counted list lists all (i + 1) first after
  counted_one after are = subst (λ (l : List ItemEntries). Counted list lists all (i + 1) first l) (sym are) (record { order = order_by (belongs list lists p); few = few_by (belongs list lists p); rest = rest })
    where
      order_by : (b : Bool) → AreInOrder (λ s. s.item) (map (counted_where b list lists p) rows)
      order_by true = counted_in_order p.product.item (has_entered list.id lists.checkins p) (is_inside list.id lists.checkins p) rows so_far.order
      order_by false = subst (λ (l : List ItemEntries). AreInOrder (λ s. s.item) l) (sym (map-id rows)) so_far.order

      few_by : (b : Bool) → AllAtMost (i + 1) (map (counted_where b list lists p) rows)
      few_by true = all_counted_at_most p.product.item (has_entered list.id lists.checkins p) (is_inside list.id lists.checkins p) i rows so_far.few
      few_by false = subst (λ (l : List ItemEntries). AllAtMost (i + 1) l) (sym (map-id rows)) (all_at_most_weaker i (i + 1) rows (omega arith) so_far.few)

      rest : map (counted_all list lists (drop (i + 1) all)) (map (counted_where (belongs list lists p) list lists p) rows) ≡ map (counted_all list lists all) first
      rest = map_two (counted_where (belongs list lists p) list lists p) (counted_all list lists (drop (i + 1) all)) rows ∙ ap (λ l. map (counted_all list lists l) rows) (sym left) ∙ so_far.rest

pub all_counted : (list : CheckinList) (lists : Lists) (all : List OrderPos) (i : ℕ) (first rows : List ItemEntries) → length all ≤ i → Counted list lists all i first rows → rows ≡ map (counted_all list lists all) first
all_counted list lists all i first rows le so_far = sym (map-id rows) ∙ ap (λ l. map (counted_all list lists l) rows) (sym (drop_all i all le)) ∙ so_far.rest

-- what is counted of an item over some positions
module _ (list : CheckinList) (lists : Lists) where
  abbrev entered_by : OrderPos → Bool
  entered_by = has_entered list.id lists.checkins

  abbrev inside_by : OrderPos → Bool
  inside_by = is_inside list.id lists.checkins

  abbrev with_counts : ℕ → ℕ → ℕ → Entries
  with_counts positions entered inside = record { positions = positions; entered = entered; inside = inside }

  counts_alike : (a b c a' b' c' : ℕ) → a ≡ a' → b ≡ b' → c ≡ c' → with_counts a b c ≡ with_counts a' b' c'
  counts_alike a b c a' b' c' p q r = ap (λ x. with_counts x b c) p ∙ ap (λ x. with_counts a' x c) q ∙ ap (λ x. with_counts a' b' x) r

  abbrev tally : ℕ → List OrderPos → Entries → Entries
  tally item ps e = with_counts (e.positions + count_by (λ p. eqb p.product.item item) ps) (e.entered + visitors_come item entered_by ps) (e.inside + visitors_come item inside_by ps)

  abbrev row_with : ℕ → Entries → ItemEntries
  row_with item e = record { item = item; entries = e }

  -- with one position before these, which belongs to the list
  abbrev tally_behind : Bool → Bool → Bool → ℕ → List OrderPos → Entries → Entries
  tally_behind b entered inside item ps e =
      with_counts
      (e.positions + (cond b 1 0 + count_by (λ p. eqb p.product.item item) ps))
      (e.entered + (cond (b && entered) 1 0 + visitors_come item entered_by ps))
      (e.inside + (cond (b && inside) 1 0 + visitors_come item inside_by ps))

  cons_tally : (item : ℕ) (p : OrderPos) (ps : List OrderPos) (e : Entries) → tally_behind (eqb p.product.item item) (entered_by p) (inside_by p) item ps e ≡ tally item (p ∷ ps) e
  cons_tally item p ps e =
      counts_alike _ _ _ _ _ _
      (ap (λ n. e.positions + n) (sym (sum_by-cons (λ y. cond (eqb y.product.item item) 1 0) p ps)))
      (ap (λ n. e.entered + n) (sym (sum_by-cons (λ y. cond (eqb y.product.item item && entered_by y) 1 0) p ps)))
      (ap (λ n. e.inside + n) (sym (sum_by-cons (λ y. cond (eqb y.product.item item && inside_by y) 1 0) p ps)))

  ticket_behind : (b entered inside : Bool) (p : OrderPos) (ps : List OrderPos) (s : ItemEntries)
      → row_with (counted_by p.product.item entered inside b s).item (tally (counted_by p.product.item entered inside b s).item ps (counted_by p.product.item entered inside b s).entries)
      ≡ row_with s.item (tally_behind b entered inside s.item ps s.entries)
  ticket_behind true true true p ps s = ap (row_with s.item) (counts_alike _ _ _ _ _ _ (omega arith) (omega arith) (omega arith))
  ticket_behind true true false p ps s = ap (row_with s.item) (counts_alike _ _ _ _ _ _ (omega arith) (omega arith) (omega arith))
  ticket_behind true false true p ps s = ap (row_with s.item) (counts_alike _ _ _ _ _ _ (omega arith) (omega arith) (omega arith))
  ticket_behind true false false p ps s = ap (row_with s.item) (counts_alike _ _ _ _ _ _ (omega arith) (omega arith) (omega arith))
  ticket_behind false entered inside p ps s = ap (row_with s.item) (counts_alike _ _ _ _ _ _ (omega arith) (omega arith) (omega arith))

  one_behind : (p : OrderPos) (ps : List OrderPos) (s : ItemEntries)
      → row_with (position_counted p.product.item (entered_by p) (inside_by p) s).item (tally (position_counted p.product.item (entered_by p) (inside_by p) s).item ps (position_counted p.product.item (entered_by p) (inside_by p) s).entries)
      ≡ row_with s.item (tally_behind (eqb p.product.item s.item) (entered_by p) (inside_by p) s.item ps s.entries)
  unfolding position_counted
  one_behind p ps s = ticket_behind (eqb p.product.item s.item) (entered_by p) (inside_by p) p ps s

  counted_all_is : (ps : List OrderPos) (s : ItemEntries) → counted_all list lists ps s ≡ row_with s.item (tally s.item (filter (belongs list lists) ps) s.entries)
  counted_all_is [] s = ap (row_with s.item) (counts_alike _ _ _ _ _ _ (omega arith) (omega arith) (omega arith))
  counted_all_is (p ∷ ps) s = by_test (belongs list lists p) (counted_all_is ps (position_counted p.product.item (entered_by p) (inside_by p) s)) (counted_all_is ps s)
    where
      by_test : (b : Bool)
          → counted_all list lists ps (position_counted p.product.item (entered_by p) (inside_by p) s)
          ≡ row_with (position_counted p.product.item (entered_by p) (inside_by p) s).item (tally (position_counted p.product.item (entered_by p) (inside_by p) s).item (filter (belongs list lists) ps) (position_counted p.product.item (entered_by p) (inside_by p) s).entries)
          → counted_all list lists ps s ≡ row_with s.item (tally s.item (filter (belongs list lists) ps) s.entries)
          → counted_all list lists ps (counted_where b list lists p s) ≡ row_with s.item (tally s.item (cond b (p ∷ filter (belongs list lists) ps) (filter (belongs list lists) ps)) s.entries)
      by_test true with_it without = with_it ∙ one_behind p (filter (belongs list lists) ps) s ∙ ap (row_with s.item) (cons_tally s.item p (filter (belongs list lists) ps) s.entries)
      by_test false with_it without = without

  entries_are : (item : Item) → counted_all list lists lists.positions (item_unvisited item) ≡ item_entries list lists item
  unfolding entries_of
  entries_are item = counted_all_is lists.positions (item_unvisited item) ∙ ap (row_with item.id) (counts_alike _ _ _ _ _ _ (omega arith) (omega arith) (omega arith))

  each_alike : (items : List Item) → map (λ i. counted_all list lists lists.positions (item_unvisited i)) items ≡ map (item_entries list lists) items
  each_alike [] = refl
  each_alike (i ∷ is) = ap (λ s. s ∷ map (λ i. counted_all list lists lists.positions (item_unvisited i)) is) (entries_are i) ∙ ap (λ l. item_entries list lists i ∷ l) (each_alike is)

  -- counting all positions finds who came in, item by item
  pub all_entries_are : map (counted_all list lists lists.positions) (map item_unvisited (items_on list lists)) ≡ all_entries list lists
  all_entries_are = map_two item_unvisited (counted_all list lists lists.positions) (items_on list lists) ∙ each_alike (items_on list lists)
