-- What keeps headroom as orders and order positions are put.
use Rattle.std.proofs.Common.{◌≡◌, ℕ, ◌+◌, ◌<◌, ◌≤◌, Bool, true, false, ◌&&◌, eqb, cond, List, [], ◌∷◌, Option, Some, None, refl, sym, ap, ◌∙◌, subst, sum_by, count_by, arith}
use Rattle.std.specs.Prelude.{◌||◌, not, if◌then◌else◌, is_some, filter}
use Rattle.std.specs.List.{AllByRecursion, list_any, list_all}
use Rattle.std.proofs.lemmas.Bool.Decides.{nat_tests}
use Rattle.std.proofs.lemmas.List.Sums.{sum_by-cons}
use Rattle.base_tables.specs.Tables.{AreInOrder}
use Rattle.base_tables.proofs.Edits.{row_at-with_row, sum_by-with_row}
use Rattle.model_rows.specs.declared.rows.Voucher.{Voucher}
use Rattle.model_rows.specs.declared.rows.Order.{Order}
use Rattle.model_rows.specs.declared.rows.OrderPos.{OrderPos}
use Rattle.model_rows.specs.declared.changes.Change.TheVariants.{PutOrder, PutPosition}
use Rattle.model_rows.specs.Conditions.{is_in_force, names}
use Rattle.model_rows.specs.Lists.{Lists, voucher_at, order_at, positions_of}
use Rattle.model_rows.specs.Change.{after_change}
use Rattle.model_rows.specs.Usage.{stands_as, uses, redeemed}
use Rattle.model_rows.specs.Headroom.{held, HasHeadroom, AllHaveHeadroom, has_use, has_use_by, has_room, has_room_by, have_room}
use Rattle.model_rows.specs.Ordered.{AllOrdered}
use Rattle.model_rows.proofs.EachRow.{all_weaker, all_of, all_both, neither_first, neither_second}
use Rattle.model_rows.proofs.Found.{each_found}
use Rattle.model_rows.proofs.Time.{one}

-- each voucher that stands keeps its headroom
keep_room : (at : ℕ) (a b : Lists) → AreInOrder (λ r. r.id) a.vouchers → ((v : Voucher) → voucher_at v.id a ≡ Some v → HasHeadroom at a v → HasHeadroom at b v) → AllHaveHeadroom at a → AllByRecursion (HasHeadroom at b) a.vouchers
keep_room at a b o keeps h = all_weaker (λ v. (voucher_at v.id a ≡ Some v) × HasHeadroom at a v) (HasHeadroom at b) (λ v both. keeps v both.0 both.1) a.vouchers
    (all_both (λ v. voucher_at v.id a ≡ Some v) (HasHeadroom at a) a.vouchers (each_found (λ r. r.id) 0 a.vouchers o) h)

-- a row that names a voucher
named_is : (id : ℕ) (name : Option ℕ) → names id name ≡ true → name ≡ Some id
named_is id None e = absurd (cc)
named_is id (Some voucher) e =
    let same : voucher ≡ id = grind (arith, nat_tests, e) in
    ap (λ n. Some n) same

module _ (row : Order) (lists : Lists) where
  abbrev after : Lists
  after = after_change (PutOrder row) lists

  abbrev was_in_force : ℕ → Bool
  was_in_force id = stands_as is_in_force (order_at id lists)

  choose : (b : Bool) (found : Option Order) → stands_as is_in_force (if b then Some row else found) ≡ (if b then is_in_force row.status else stands_as is_in_force found)
  choose true found = refl
  choose false found = refl

  force_is : (id : ℕ) → stands_as is_in_force (order_at id after) ≡ (if eqb row.id id then is_in_force row.status else was_in_force id)
  force_is id = ap (stands_as is_in_force) (row_at-with_row (λ r. r.id) id row lists.orders) ∙ choose (eqb row.id id) (order_at id lists)

  -- if the position is the order's, it uses the voucher only if it did before
  abbrev BringsNone : ℕ → OrderPos → Type 0
  BringsNone v p = eqb row.id p.order ≡ true → names v p.voucher ≡ true → is_in_force row.status ≡ true → was_in_force p.order ≡ true

  no_more : (own named new old : Bool) → (own ≡ true → named ≡ true → new ≡ true → old ≡ true) → one (named && (if own then new else old)) ≤ one (named && old)
  no_more own false new old h = omega arith
  no_more true true true true h = omega arith
  no_more true true true false h = absurd (cc (h refl refl refl))
  no_more true true false old h = omega arith
  no_more false true new old h = omega arith

  uses_less : (v : ℕ) (ps : List OrderPos) → AllByRecursion (BringsNone v) ps → sum_by (λ p. one (uses v after p)) ps ≤ sum_by (λ p. one (uses v lists p)) ps
  uses_less v [] h = omega arith
  uses_less v (p ∷ ps) h =
      let less : one (uses v after p) ≤ one (uses v lists p) = subst (λ (b : Bool). one (names v p.voucher && b) ≤ one (uses v lists p)) (sym (force_is p.order)) (no_more (eqb row.id p.order) (names v p.voucher) (is_in_force row.status) (was_in_force p.order) h.0) in
      omega (arith, less, uses_less v ps h.1, sum_by-cons (λ q. one (uses v after q)) p ps, sum_by-cons (λ q. one (uses v lists q)) p ps)

  -- no voucher is redeemed more often
  pub redeemed_less : (v : ℕ) → AllByRecursion (BringsNone v) lists.positions → redeemed v after ≤ redeemed v lists
  redeemed_less v h = uses_less v lists.positions h

  -- the uses of a voucher by the order's positions
  abbrev own_uses : ℕ → List OrderPos → ℕ
  own_uses v ps = count_by (λ p. names v p.voucher) (filter (λ p. eqb row.id p.order) ps)

  own_cons : (v : ℕ) (p : OrderPos) (ps : List OrderPos) → own_uses v (p ∷ ps) ≡ one (eqb row.id p.order && names v p.voucher) + own_uses v ps
  own_cons v p ps = by_order (eqb row.id p.order)
    where
      by_order : (b : Bool) → count_by (λ q. names v q.voucher) (cond b (p ∷ filter (λ q. eqb row.id q.order) ps) (filter (λ q. eqb row.id q.order) ps)) ≡ one (b && names v p.voucher) + own_uses v ps
      by_order true = sum_by-cons (λ q. one (names v q.voucher)) p (filter (λ q. eqb row.id q.order) ps)
      by_order false = omega arith

  balance : (own named old new force : Bool) (a b n : ℕ) → (own ≡ true → force ≡ old) → a + (if old then n else 0) ≡ b + (if new then n else 0) → one (named && (if own then new else force)) + a + (if old then one (own && named) + n else 0) ≡ one (named && force) + b + (if new then one (own && named) + n else 0)
  balance false named true true force a b n h e = omega (arith, e)
  balance false named true false force a b n h e = omega (arith, e)
  balance false named false true force a b n h e = omega (arith, e)
  balance false named false false force a b n h e = omega (arith, e)
  balance true true true true force a b n h e = rw (h refl) (omega (arith, e))
  balance true true true false force a b n h e = rw (h refl) (omega (arith, e))
  balance true true false true force a b n h e = rw (h refl) (omega (arith, e))
  balance true true false false force a b n h e = rw (h refl) (omega (arith, e))
  balance true false true true force a b n h e = omega (arith, e)
  balance true false true false force a b n h e = omega (arith, e)
  balance true false false true force a b n h e = omega (arith, e)
  balance true false false false force a b n h e = omega (arith, e)

  uses_step : (v : ℕ) (ps : List OrderPos) → sum_by (λ p. one (uses v after p)) ps + (if was_in_force row.id then own_uses v ps else 0) ≡ sum_by (λ p. one (uses v lists p)) ps + (if is_in_force row.status then own_uses v ps else 0)
  uses_step v [] = by_force (was_in_force row.id) (is_in_force row.status)
    where
      by_force : (a b : Bool) → 0 + (if a then 0 else 0) ≡ 0 + (if b then 0 else 0)
      by_force true true = refl
      by_force true false = refl
      by_force false true = refl
      by_force false false = refl
  uses_step v (p ∷ ps) =
      let same : eqb row.id p.order ≡ true → was_in_force p.order ≡ was_in_force row.id = λ own. same_force p.order own in
      let now : one (uses v after p) ≡ one (names v p.voucher && (if eqb row.id p.order then is_in_force row.status else was_in_force p.order)) = ap (λ b. one (names v p.voucher && b)) (force_is p.order) in
      let step = balance (eqb row.id p.order) (names v p.voucher) (was_in_force row.id) (is_in_force row.status) (was_in_force p.order) (sum_by (λ q. one (uses v after q)) ps) (sum_by (λ q. one (uses v lists q)) ps) (own_uses v ps) same (uses_step v ps) in
      rw (own_cons v p ps) (omega (arith, step, now, sum_by-cons (λ q. one (uses v after q)) p ps, sum_by-cons (λ q. one (uses v lists q)) p ps))
    where
      same_force : (id : ℕ) → eqb row.id id ≡ true → was_in_force id ≡ was_in_force row.id
      same_force id own =
          let is : id ≡ row.id = grind (arith, nat_tests, own) in
          ap was_in_force is

  -- an order's positions take their uses away if it was in force, and bring them if it is now
  pub redeemed_order : (v : ℕ) → redeemed v after + (if was_in_force row.id then count_by (λ p. names v p.voucher) (positions_of row.id lists) else 0) ≡ redeemed v lists + (if is_in_force row.status then count_by (λ p. names v p.voucher) (positions_of row.id lists) else 0)
  redeemed_order v = uses_step v lists.positions

  -- a new order has no positions
  new_brings_none : (v : ℕ) → order_at row.id lists ≡ None → AllOrdered lists → AllByRecursion (BringsNone v) lists.positions
  new_brings_none v absent h = all_weaker (λ p. is_some (order_at p.order lists) ≡ true) (BringsNone v) never lists.positions h
    where
      never : (p : OrderPos) → is_some (order_at p.order lists) ≡ true → BringsNone v p
      never p stands own =
          let same : row.id ≡ p.order = grind (arith, nat_tests, own) in
          let none : is_some (order_at p.order lists) ≡ false = ap (λ (n : ℕ). is_some (order_at n lists)) (sym same) ∙ ap (λ (o : Option Order). is_some o) absent in
          absurd (cc)

  -- nor does one that was in force, or isn't afterwards, bring a use
  kept_brings_none : (v : ℕ) → (is_in_force row.status ≡ true → was_in_force row.id ≡ true) → AllByRecursion (BringsNone v) lists.positions
  kept_brings_none v h = all_of (BringsNone v) each lists.positions
    where
      each : (p : OrderPos) → BringsNone v p
      each p own named force =
          let same : row.id ≡ p.order = grind (arith, nat_tests, own) in
          ap was_in_force (sym same) ∙ h force

  -- nor one whose positions don't name the voucher
  unnamed_brings_none : (v : ℕ) (ps : List OrderPos) → list_any (λ p. names v p.voucher) (filter (λ p. eqb row.id p.order) ps) ≡ false → AllByRecursion (BringsNone v) ps
  unnamed_brings_none v [] h = tt
  unnamed_brings_none v (p ∷ ps) h = by_order (eqb row.id p.order) refl h (unnamed_brings_none v ps)
    where
      by_order : (b : Bool) → eqb row.id p.order ≡ b → list_any (λ q. names v q.voucher) (cond b (p ∷ filter (λ q. eqb row.id q.order) ps) (filter (λ q. eqb row.id q.order) ps)) ≡ false → (list_any (λ q. names v q.voucher) (filter (λ q. eqb row.id q.order) ps) ≡ false → AllByRecursion (BringsNone v) ps) → AllByRecursion (BringsNone v) (p ∷ ps)
      by_order true e h more =
          let rest = list_any (λ q. names v q.voucher) (filter (λ q. eqb row.id q.order) ps) in
          let not_it = neither_first (names v p.voucher) rest h in
          (λ own named force. absurd (cc (not_it, named)), more (neither_second (names v p.voucher) rest h))
      by_order false e h more = (λ own named force. absurd (cc (e, own)), more h)

  module _ (at : ℕ) where
    room_if_none : (v : Voucher) → AllByRecursion (BringsNone v.id) lists.positions → HasHeadroom at lists v → HasHeadroom at after v
    room_if_none v none h = omega (arith, h, redeemed_less v.id none)

    -- an order whose id wasn't given yet
    pub headroom_new_order : order_at row.id lists ≡ None → AllOrdered lists → AllHaveHeadroom at lists → AllHaveHeadroom at after
    headroom_new_order absent ordered h = all_weaker (HasHeadroom at lists) (HasHeadroom at after) (λ v room. room_if_none v (new_brings_none v.id absent ordered) room) lists.vouchers h

    -- an order that was in force, or isn't afterwards
    pub headroom_kept_order : (is_in_force row.status ≡ true → was_in_force row.id ≡ true) → AllHaveHeadroom at lists → AllHaveHeadroom at after
    headroom_kept_order kept h = all_weaker (HasHeadroom at lists) (HasHeadroom at after) (λ v room. room_if_none v (kept_brings_none v.id kept) room) lists.vouchers h

    found_room : (v : ℕ) (ps : List OrderPos) → list_any (λ p. names v p.voucher) ps ≡ true → list_all (λ p. has_room at after p.voucher) ps ≡ true → has_room at after (Some v) ≡ true
    found_room v [] named h = absurd (cc)
    found_room v (p ∷ ps) named h = by_name (names v p.voucher) refl named (has_room at after p.voucher) refl h (found_room v ps)
      where
        by_name : (b : Bool) → names v p.voucher ≡ b → (b || list_any (λ q. names v q.voucher) ps) ≡ true → (c : Bool) → has_room at after p.voucher ≡ c → (c && list_all (λ q. has_room at after q.voucher) ps) ≡ true → (list_any (λ q. names v q.voucher) ps ≡ true → list_all (λ q. has_room at after q.voucher) ps ≡ true → has_room at after (Some v) ≡ true) → has_room at after (Some v) ≡ true
        by_name b e some false f h more = absurd (cc)
        by_name true e some true f h more = ap (has_room at after) (sym (named_is v p.voucher e)) ∙ f
        by_name false e some true f h more = more some h

    -- an order that comes back, where the vouchers of its positions have room
    pub headroom_revived_order : AreInOrder (λ r. r.id) lists.vouchers → have_room at after (positions_of row.id lists) ≡ true → AllHaveHeadroom at lists → AllHaveHeadroom at after
    headroom_revived_order o room h = keep_room at lists after o each h
      where
        each : (v : Voucher) → voucher_at v.id lists ≡ Some v → HasHeadroom at lists v → HasHeadroom at after v
        each v stands before = by_name (list_any (λ p. names v.id p.voucher) (positions_of row.id lists)) refl
          where
            by_name : (b : Bool) → list_any (λ p. names v.id p.voucher) (positions_of row.id lists) ≡ b → HasHeadroom at after v
            by_name false e = room_if_none v (unnamed_brings_none v.id lists.positions e) before
            by_name true e =
                let left : has_room_by at after (Some v) ≡ true = ap (has_room_by at after) (sym stands) ∙ found_room v.id (positions_of row.id lists) e room in
                grind (arith, nat_tests, left)

module _ (at : ℕ) (row : OrderPos) (lists : Lists) (order : AreInOrder (λ r. r.id) lists.positions) where
  -- a position adds at most its own use
  pub redeemed_put : (v : ℕ) → redeemed v (after_change (PutPosition row) lists) ≤ redeemed v lists + one (uses v lists row)
  redeemed_put v = omega (arith, sum_by-with_row (λ r. r.id) (λ p. one (uses v lists p)) 0 row lists.positions order)

  -- its order isn't in force, or its voucher has a use left
  pub headroom_position : AreInOrder (λ r. r.id) lists.vouchers → (not (stands_as is_in_force (order_at row.order lists)) || has_use at lists row.voucher) ≡ true → AllHaveHeadroom at lists → AllHaveHeadroom at (after_change (PutPosition row) lists)
  headroom_position o left h = keep_room at lists (after_change (PutPosition row) lists) o each h
    where
      each : (v : Voucher) → voucher_at v.id lists ≡ Some v → HasHeadroom at lists v → HasHeadroom at (after_change (PutPosition row) lists) v
      each v stands before = by_tests (names v.id row.voucher) (stands_as is_in_force (order_at row.order lists)) refl refl left
        where
          by_tests : (named force : Bool) → names v.id row.voucher ≡ named → stands_as is_in_force (order_at row.order lists) ≡ force → (not force || has_use at lists row.voucher) ≡ true → HasHeadroom at (after_change (PutPosition row) lists) v
          by_tests false force e f left = omega (arith, before, redeemed_put v.id, ap (λ b. one (b && stands_as is_in_force (order_at row.order lists))) e)
          by_tests true false e f left = omega (arith, before, redeemed_put v.id, ap (λ b. one (names v.id row.voucher && b)) f, ap (λ b. one (b && false)) e)
          by_tests true true e f left =
              let own : has_use_by at lists (Some v) ≡ true = ap (has_use_by at lists) (sym stands) ∙ ap (has_use at lists) (sym (named_is v.id row.voucher e)) ∙ left in
              let lt : redeemed v.id lists + held at v.id lists < v.max_usages = grind (arith, nat_tests, own) in
              omega (arith, lt, redeemed_put v.id, ap (λ b. one (b && stands_as is_in_force (order_at row.order lists))) e, ap (λ b. one (true && b)) f)
