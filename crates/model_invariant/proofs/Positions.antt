-- What keeps orders and their positions.
use Rattle.std.proofs.Common.{◌≡◌, ◌≢◌, ℕ, ◌<◌, ◌⊎◌, inl, inr, Bool, true, false, eqb, cond, List, [], ◌∷◌, ◌++◌, append-nil, Option, Some, refl, sym, ap, ◌∙◌, subst, arith, if◌then◌else◌}
use Rattle.std.specs.Prelude.{is_some}
use Rattle.std.specs.List.{AllByRecursion}
use Rattle.std.proofs.lemmas.Bool.Decides.{nat_tests, eqb_tells}
use Rattle.std.proofs.lemmas.List.Elements.{filter-append}
use Rattle.base_tables.specs.Tables.{row_at, with_row}
use Rattle.base_tables.proofs.Edits.{row_at-with_row}
use Rattle.model_rows.specs.declared.rows.Order.{Order}
use Rattle.model_rows.specs.declared.rows.OrderPos.{OrderPos}
use Rattle.model_rows.specs.declared.changes.Change.TheVariants.{PutOrder}
use Rattle.model_rows.specs.Lists.{Lists}
use Rattle.model_rows.specs.Change.{after_change}
use Rattle.model_rows.proofs.EachRow.{all_weaker, all-with_row, all-row_at, key-row_at}
use Rattle.model_invariant.specs.Secrets.{has_own_secret}
use Rattle.model_invariant.specs.Positions.{AreWhole, of_order, AllHavePositions, AreOfOrders}

-- its order stands, and its secret ends in that and its own number there
abbrev pub IsOfOrder : List Order → OrderPos → Type 0
IsOfOrder orders p = (is_some (row_at (λ (o : Order). o.id) p.order orders) ≡ true) × (has_own_secret p ≡ true)

-- orders that stood stand as before
pub of_orders_order : (lists : Lists) (row : Order) → AreOfOrders lists.orders lists.positions → AreOfOrders (after_change (PutOrder row) lists).orders lists.positions
of_orders_order lists row h = record {
  stand = all_weaker (λ p. is_some (row_at (λ o. o.id) p.order lists.orders) ≡ true) (λ p. is_some (row_at (λ o. o.id) p.order (after_change (PutOrder row) lists).orders) ≡ true) (λ p e. stays p.order e) lists.positions h.stand;
  secrets = h.secrets;
}
  where
    by_id : (b : Bool) (found : Option Order) → is_some found ≡ true → is_some (if b then Some row else found) ≡ true
    by_id true found e = refl
    by_id false found e = e

    stays : (id : ℕ) → is_some (row_at (λ o. o.id) id lists.orders) ≡ true → is_some (row_at (λ o. o.id) id (after_change (PutOrder row) lists).orders) ≡ true
    stays id e = ap (λ (o : Option Order). is_some o) (row_at-with_row (λ r. r.id) id row lists.orders) ∙ by_id (eqb row.id id) (row_at (λ o. o.id) id lists.orders) e

-- one position more
pub of_orders_position : (orders : List Order) (positions : List OrderPos) (row : OrderPos) → IsOfOrder orders row → AreOfOrders orders positions → AreOfOrders orders (with_row (λ r. r.id) row positions)
of_orders_position orders positions row own h = record {
  stand = all-with_row (λ r. r.id) (λ p. is_some (row_at (λ o. o.id) p.order orders) ≡ true) row positions own.0 h.stand;
  secrets = all-with_row (λ r. r.id) (λ p. has_own_secret p ≡ true) row positions own.1 h.secrets;
}

-- an order that is changed has the positions that it had
pub whole_changed : (row old : Order) (orders : List Order) (positions : List OrderPos) → row_at (λ o. o.id) row.id orders ≡ Some old → AllHavePositions orders positions → AllHavePositions (with_row (λ o. o.id) row orders) positions
whole_changed row old orders positions stands h =
    let same : old.id ≡ row.id = key-row_at (λ (o : Order). o.id) row.id orders old stands in
    all-with_row (λ o. o.id) (λ o. AreWhole (of_order o.id positions)) row orders
    (subst (λ (n : ℕ). AreWhole (of_order n positions)) same (all-row_at (λ (o : Order). o.id) (λ o. AreWhole (of_order o.id positions)) row.id orders old stands h))
    h

-- a row whose id is above all others stands behind them
pub last_put : (row : OrderPos) (rows : List OrderPos) → AllByRecursion (λ r. r.id < row.id) rows → with_row (λ r. r.id) row rows ≡ rows ++ (row ∷ [])
last_put row [] h = refl
last_put row (r ∷ rs) h = grind (arith, nat_tests, h.0, last_put row rs h.1)

-- positions of another order leave an order's positions as they are
pub none_of : (order : ℕ) (rows : List OrderPos) → AllByRecursion (λ p. p.order ≢ order) rows → of_order order rows ≡ []
none_of order [] h = refl
none_of order (p ∷ ps) h = by_order (none_of order ps h.1) (eqb_tells order p.order)
  where
    by_order : of_order order ps ≡ [] → ((eqb order p.order ≡ true) × (order ≡ p.order)) ⊎ ((eqb order p.order ≡ false) × (order ≢ p.order)) → cond (eqb order p.order) (p ∷ of_order order ps) (of_order order ps) ≡ []
    by_order more (inl same) = absurd (h.0 (sym same.1))
    by_order more (inr other) = rw other.0 more

pub all_of : (order : ℕ) (rows : List OrderPos) → AllByRecursion (λ p. p.order ≡ order) rows → of_order order rows ≡ rows
all_of order [] h = refl
all_of order (p ∷ ps) h = by_order (all_of order ps h.1) (eqb_tells order p.order)
  where
    by_order : of_order order ps ≡ ps → ((eqb order p.order ≡ true) × (order ≡ p.order)) ⊎ ((eqb order p.order ≡ false) × (order ≢ p.order)) → cond (eqb order p.order) (p ∷ of_order order ps) (of_order order ps) ≡ p ∷ ps
    by_order more (inl same) = rw same.0 (ap (λ (rest : List OrderPos). p ∷ rest) more)
    by_order more (inr other) = absurd (other.1 (sym h.0))

-- where an order and its positions are new, each order has its positions
module _ (row : Order) (orders : List Order) (old new : List OrderPos) where
  others_whole : AllByRecursion (λ o. o.id < row.id) orders → AllByRecursion (λ p. p.order ≡ row.id) new → AllHavePositions orders old → AllHavePositions orders (old ++ new)
  others_whole below own h =
      all_weaker (λ o. (o.id < row.id) × AreWhole (of_order o.id old)) (λ o. AreWhole (of_order o.id (old ++ new)))
      (λ o known. subst AreWhole (sym (filter-append (λ p. eqb o.id p.order) old new ∙ ap (λ (rest : List OrderPos). of_order o.id old ++ rest) (none_of o.id new (all_weaker (λ p. p.order ≡ row.id) (λ p. p.order ≢ o.id) (λ p e same. omega (arith, e, same, known.0)) new own)) ∙ append-nil (of_order o.id old))) known.1)
      orders (both orders below h)
    where
      both : (os : List Order) → AllByRecursion (λ o. o.id < row.id) os → AllByRecursion (λ o. AreWhole (of_order o.id old)) os → AllByRecursion (λ o. (o.id < row.id) × AreWhole (of_order o.id old)) os
      both [] a b = tt
      both (o ∷ os) a b = ((a.0, b.0), both os a.1 b.1)

  pub whole_created : AllByRecursion (λ o. o.id < row.id) orders → AllByRecursion (λ p. p.order ≢ row.id) old → AllByRecursion (λ p. p.order ≡ row.id) new → AreWhole new → AllHavePositions orders old → AllHavePositions (with_row (λ o. o.id) row orders) (old ++ new)
  whole_created below others own whole h =
      all-with_row (λ o. o.id) (λ o. AreWhole (of_order o.id (old ++ new))) row orders
      (subst AreWhole (sym (filter-append (λ p. eqb row.id p.order) old new ∙ ap (λ (rest : List OrderPos). rest ++ of_order row.id new) (none_of row.id old others) ∙ all_of row.id new own)) whole)
      (others_whole below own h)
