-- Places that are released, and what a new check-in makes of its position.
use Rattle.std.proofs.Common.{◌≡◌, ℕ, ◌≤◌, Bool, true, false, ◌&&◌, List, Option, None, Some, refl, sym, ap, ◌∙◌, count_by, arith}
use Rattle.std.specs.Prelude.{if◌then◌else◌}
use Rattle.std.proofs.lemmas.Bool.Decides.{nat_tests}
use Rattle.std.proofs.lemmas.List.Sums.{sum_by-le-sum_by}
use Rattle.model_catalogue.specs.declared.rows.Quota.{Quota}
use Rattle.model_catalogue.specs.Member.{is_in}
use Rattle.model_rows.specs.declared.rows.Checkin.{Checkin}
use Rattle.model_rows.specs.declared.rows.OrderPos.{OrderPos}
use Rattle.model_rows.specs.declared.rows.Usage.{Usage}
use Rattle.model_rows.specs.declared.changes.Change.TheVariants.{PutCheckin}
use Rattle.model_rows.specs.declared.passages.Passage.{Passage}
use Rattle.model_rows.specs.Change.{after_change}
use Rattle.model_rows.specs.Conditions.{is_paid}
use Rattle.model_rows.specs.Lists.{Lists, order_at, position_at, checkin_at}
use Rattle.model_rows.specs.Passages.{is_at, is_out, last_at, later, passage, is_exit_if}
use Rattle.model_rows.specs.Usage.{stands_as, is_released}
use Rattle.model_rows.proofs.EachRow.{key-row_at}
use Rattle.model_rows.proofs.LastPassages.{last_put}
use Rattle.book_tally.specs.Amounts.{nothing}
use Rattle.book_usage.specs.Shares.{exited_share}
use Rattle.draft_counts.specs.declared.shift.Spot.{Spot}
use Rattle.draft_counts.specs.CountDelta.{once, is_free_in}

fewer : (here free : Bool) → once (here && free) ≤ once here
fewer true true = omega arith
fewer true false = omega arith
fewer false free = omega arith

-- where no place is in the quota, none is set free there
pub none_free : (q : Quota) (spots : List Spot) → count_by (λ (s : Spot). is_in q s.product) spots ≡ 0 → count_by (λ (s : Spot). is_free_in q s.product s.out) spots ≡ 0
none_free q spots none =
    let few = sum_by-le-sum_by (λ (s : Spot). once (is_free_in q s.product s.out)) (λ (s : Spot). once (is_in q s.product)) spots (λ s. fewer (is_in q s.product) (q.release_after_exit && s.out)) in
    omega (arith, none, few)

-- the last check-in of its position after a new check-in
pub out_after : (row : Checkin) (lists : Lists) → checkin_at row.id lists ≡ None → is_out row.position (after_change (PutCheckin row) lists).checkins ≡ is_exit_if (Some (later (last_at row.position lists.checkins) (passage row)))
unfolding is_out
out_after row lists new =
    let own : is_at row.position row ≡ true = grind (arith, nat_tests) in
    ap (λ (l : Option Passage). is_exit_if l) (last_put row.position row lists.checkins new ∙ ap (λ (b : Bool). if b then Some (later (last_at row.position lists.checkins) (passage row)) else last_at row.position lists.checkins) own)

-- so many that are released
abbrev exited_as : ℕ → Usage
exited_as n = record nothing { exited = n }

module _ (row : Checkin) (lists : Lists) (quota : Quota) where
  -- a ticket that no position has brings none
  pub none_scanned : (o : Option OrderPos) → o ≡ position_at row.position lists → o ≡ None → nothing ≡ exited_as (exited_share lists quota (position_at row.position lists))
  unfolding exited_share
  none_scanned o found none = ap (λ (p : Option OrderPos). exited_as (exited_share lists quota p)) (sym none ∙ found)

  by_order : (paid : Bool) (p : OrderPos) → stands_as is_paid (order_at p.order lists) ≡ paid → exited_share lists quota (Some p) ≡ once (paid && (is_in quota p.product && is_released lists quota p))
  unfolding exited_share
  by_order paid p is = ap (λ (b : Bool). once (b && (is_in quota p.product && is_released lists quota p))) is

  -- nor does one whose order isn't paid
  pub none_unpaid : (p : OrderPos) → Some p ≡ position_at row.position lists → stands_as is_paid (order_at p.order lists) ≡ false → nothing ≡ exited_as (exited_share lists quota (position_at row.position lists))
  none_unpaid p found unpaid = sym (ap (λ (o : Option OrderPos). exited_as (exited_share lists quota o)) (sym found) ∙ ap exited_as (by_order false p unpaid))

  -- one of a paid order is released where it has gone out
  pub is_scanned : (p : OrderPos) (out : Bool) → Some p ≡ position_at row.position lists → stands_as is_paid (order_at p.order lists) ≡ true → out ≡ is_out row.position lists.checkins → exited_as (once (is_free_in quota p.product out)) ≡ exited_as (exited_share lists quota (position_at row.position lists))
  is_scanned p out found paid is =
      let own : p.id ≡ row.position = key-row_at (λ (r : OrderPos). r.id) row.position lists.positions p (sym found) in
      ap exited_as
      (ap (λ (b : Bool). once (is_free_in quota p.product b)) (is ∙ sym (ap (λ n. is_out n lists.checkins) own))
      ∙ sym (by_order true p paid)
      ∙ ap (exited_share lists quota) found)

  -- none, where it hasn't
  pub none_out : (p : OrderPos) (out : Bool) → Some p ≡ position_at row.position lists → stands_as is_paid (order_at p.order lists) ≡ true → out ≡ is_out row.position lists.checkins → out ≡ false → nothing ≡ exited_as (exited_share lists quota (position_at row.position lists))
  none_out p out found paid is none = sym (ap (λ (b : Bool). exited_as (once (is_free_in quota p.product b))) none ∙ never (is_in quota p.product) quota.release_after_exit) ∙ is_scanned p out found paid is
    where
      never : (here released : Bool) → exited_as (once (here && (released && false))) ≡ nothing
      never true true = refl
      never true false = refl
      never false released = refl
