-- In a sound office the lines of the export rise by number.
use Rattle.std.proofs.Common.{◌≡◌, ℕ, ◌+◌, ◌<◌, ◌≤◌, List, [], ◌∷◌, ◌++◌, map, refl, ap, ◌∙◌, arith}
use Rattle.std.specs.List.{AllByRecursion, flat_map}
use Rattle.std.specs.List.Sorted.{IsStrictlySortedBy}
use Rattle.std.specs.declared.cmp.Ordering.{Ordering}
use Rattle.std.specs.declared.cmp.Ordering.TheVariants.{Less, Equal}
use Rattle.std.specs.Ordering.{nat_cmp, ordering_then}
use Rattle.std.proofs.lemmas.Bool.Decides.{nat_tests}
use Rattle.base_tables.specs.Tables.{InOrderFrom}
use Rattle.model_rows.specs.declared.rows.Order.{Order}
use Rattle.model_rows.specs.declared.rows.OrderPos.{OrderPos}
use Rattle.model_rows.specs.Lists.{Lists, State, positions_of}
use Rattle.model_invariant.specs.Positions.{AllHavePositions, CountFrom, by_positionid}
use Rattle.model_invariant.specs.Sound.{IsSound}
use Rattle.model_export.specs.declared.row.ExportRow.{ExportRow}
use Rattle.model_export.specs.Exported.{export_row, rows_exported, rows_of_order}
use Rattle.app_csv.specs.ByNumber.{HasLinesBy, by_number}
use Rattle.app_csv.specs.PositionLines.{positions_text}

less : (a b : ℕ) → a < b → nat_cmp a b ≡ Less
less a b below = grind (arith, nat_tests, below)

equal : (a : ℕ) → nat_cmp a a ≡ Equal
equal a = grind (arith, nat_tests)

-- a position of an order of a lower number, and an earlier one of the same order
earlier_order : (a b : ExportRow) → a.order < b.order → by_number a b ≡ Less
earlier_order a b below = ap (λ (r : Ordering). ordering_then r (nat_cmp a.positionid b.positionid)) (less a.order b.order below)

earlier_position : (lists : Lists) (order : Order) (p q : OrderPos) → p.positionid < q.positionid → by_number (export_row lists order p) (export_row lists order q) ≡ Less
earlier_position lists order p q below =
    ap (λ (r : Ordering). ordering_then r (nat_cmp p.positionid q.positionid)) (equal order.id) ∙ less p.positionid q.positionid below

-- rows of orders from a number on
abbrev AreFrom : ℕ → List ExportRow → Type 0
AreFrom n rows = AllByRecursion (λ r. n ≤ r.order) rows

before_orders : (row : ExportRow) (rows : List ExportRow) → AreFrom (row.order + 1) rows → AllByRecursion (λ r. by_number row r ≡ Less) rows
before_orders row [] from = tt
before_orders row (r ∷ rs) from = (earlier_order row r (omega (arith, from.0)), before_orders row rs from.1)

lower : (m n : ℕ) (rows : List ExportRow) → m ≤ n → AreFrom n rows → AreFrom m rows
lower m n [] below from = tt
lower m n (r ∷ rs) below from = (omega (arith, below, from.0), lower m n rs below from.1)

-- an order's positions in front of others
module _ (lists : Lists) (order : Order) where
  before_positions : (p : OrderPos) (n : ℕ) (ps : List OrderPos) (more : List ExportRow) → p.positionid < n → CountFrom n ps → AreFrom (order.id + 1) more
      → AllByRecursion (λ r. by_number (export_row lists order p) r ≡ Less) (map (export_row lists order) ps ++ more)
  before_positions p n [] more below count from = before_orders (export_row lists order p) more from
  before_positions p n (q ∷ qs) more below count from =
      (earlier_position lists order p q (omega (arith, below, count.0)), before_positions p (n + 1) qs more (omega (arith, below)) count.1 from)

  order_rises : (n : ℕ) (ps : List OrderPos) (more : List ExportRow) → CountFrom n ps → AreFrom (order.id + 1) more → IsStrictlySortedBy by_number more
      → IsStrictlySortedBy by_number (map (export_row lists order) ps ++ more)
  unfolding IsStrictlySortedBy
  order_rises n [] more count from rise = rise
  order_rises n (p ∷ ps) more count from rise =
      (before_positions p (n + 1) ps more (omega (arith, count.0)) count.1 from, order_rises (n + 1) ps more count.1 from rise)

  order_from : (n : ℕ) (ps : List OrderPos) (more : List ExportRow) → n ≤ order.id → AreFrom n more → AreFrom n (map (export_row lists order) ps ++ more)
  order_from n [] more low from = from
  order_from n (p ∷ ps) more low from = (low, order_from n ps more low from)

all_from : (lists : Lists) (n : ℕ) (orders : List Order) → InOrderFrom (λ o. o.id) n orders → AreFrom n (flat_map (rows_of_order lists) orders)
all_from lists n [] order = tt
all_from lists n (o ∷ os) order =
    order_from lists o n (by_positionid (positions_of o.id lists)) (flat_map (rows_of_order lists) os) order.0 (lower n (o.id + 1) (flat_map (rows_of_order lists) os) (omega (arith, order.0)) (all_from lists (o.id + 1) os order.1))

all_rise : (lists : Lists) (n : ℕ) (orders : List Order) → InOrderFrom (λ o. o.id) n orders → AllHavePositions orders lists.positions → IsStrictlySortedBy by_number (flat_map (rows_of_order lists) orders)
unfolding IsStrictlySortedBy
all_rise lists n [] order whole = tt
all_rise lists n (o ∷ os) order whole =
    order_rises lists o 1 (by_positionid (positions_of o.id lists)) (flat_map (rows_of_order lists) os) whole.0.counted (all_from lists (o.id + 1) os order.1) (all_rise lists (o.id + 1) os order.1 whole.1)

pub is_by_number : (state : State) → IsSound state → HasLinesBy by_number (positions_text state.lists)
is_by_number state sound = record {
  rows = rows_exported state.lists;
  lines = refl;
  rise = all_rise state.lists 0 state.lists.orders sound.ids.orders.in_order sound.ordered.whole;
}
