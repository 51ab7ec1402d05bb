-- What changes that touch no row of some tables leave as it is.
use Rattle.std.proofs.Common.{◌≡◌, ◌≤◌, ℕ, zero, suc, Bool, true, false, ◌&&◌, ◌||◌, List, [], ◌∷◌, take, refl, sym, ap, ◌∙◌, count_by, arith}
use Rattle.std.specs.Prelude.{if◌then◌else◌}
use Rattle.std.proofs.lemmas.List.Sums.{sum_by-cons}
use mathlib.Core.Bool.{false≢true}
use Rattle.model_rows.specs.declared.rows.OrderPos.{OrderPos}
use Rattle.model_rows.specs.declared.changes.Change.{Change}
use Rattle.model_rows.specs.declared.changes.Change.TheVariants.{PutCart, PutOrder, PutPosition, PutWaiting, DropCart, DropWaiting}
use Rattle.model_rows.specs.Conditions.{is_in_force, names}
use Rattle.model_rows.specs.Lists.{Lists, order_at}
use Rattle.model_rows.specs.Change.{after_change, after_all}
use Rattle.model_rows.specs.Usage.{redeemed, stands_as, uses}
use Rattle.model_rows.proofs.Time.{one}
use Rattle.book_usage.specs.Naming.{naming}
use Rattle.book_log.specs.Places.{is_of, touches_table}
use Rattle.book_log.specs.Puts.{puts}

pub neither : (a b : Bool) → (a || b) ≡ false → (a ≡ false) × (b ≡ false)
neither true b is = absurd (false≢true (sym is))
neither false b is = (refl, is)

-- no change is of the table: not the first one, and none behind it
none_behind : (table : ℕ) (change : Change) (changes : List Change) → touches_table table (change ∷ changes) ≡ false → (is_of table change ≡ false) × (touches_table table changes ≡ false)
none_behind table change changes is = neither (is_of table change) (touches_table table changes) is

-- cart positions
carts_step : (change : Change) (lists : Lists) → is_of 4 change ≡ false → (after_change change lists).carts ≡ lists.carts
carts_step (PutCart row) lists is = absurd (false≢true (sym is))
carts_step (DropCart id) lists is = absurd (false≢true (sym is))
carts_step _ lists is = refl

pub carts_still : (changes : List Change) (lists : Lists) → touches_table 4 changes ≡ false → (after_all changes lists).carts ≡ lists.carts
carts_still [] lists is = refl
carts_still (c ∷ cs) lists is =
    let none = none_behind 4 c cs is in
    carts_still cs (after_change c lists) none.1 ∙ carts_step c lists none.0

-- order positions
positions_step : (change : Change) (lists : Lists) → is_of 6 change ≡ false → (after_change change lists).positions ≡ lists.positions
positions_step (PutPosition row) lists is = absurd (false≢true (sym is))
positions_step _ lists is = refl

pub positions_still : (changes : List Change) (lists : Lists) → touches_table 6 changes ≡ false → (after_all changes lists).positions ≡ lists.positions
positions_still [] lists is = refl
positions_still (c ∷ cs) lists is =
    let none = none_behind 6 c cs is in
    positions_still cs (after_change c lists) none.1 ∙ positions_step c lists none.0

puts_none : (passes : OrderPos → Bool) (change : Change) → is_of 6 change ≡ false → one (puts passes change) ≡ 0
puts_none passes (PutPosition row) is = absurd (false≢true (sym is))
puts_none passes _ is = refl

-- and the first changes put none that passes
pub none_put : (passes : OrderPos → Bool) (count : ℕ) (changes : List Change) → touches_table 6 changes ≡ false → count_by (puts passes) (take count changes) ≡ 0
none_put passes zero changes is = refl
none_put passes (suc count) [] is = refl
none_put passes (suc count) (c ∷ cs) is =
    let none = none_behind 6 c cs is in
    omega (arith, sum_by-cons (λ d. if puts passes d then 1 else 0) c (take count cs), none_put passes count cs none.1, puts_none passes c none.0)

-- how often a voucher is redeemed, by orders and their positions
redeemed_step : (id : ℕ) (change : Change) (lists : Lists) → is_of 5 change ≡ false → is_of 6 change ≡ false → redeemed id (after_change change lists) ≡ redeemed id lists
redeemed_step id (PutOrder row) lists is none = absurd (false≢true (sym is))
redeemed_step id (PutPosition row) lists is none = absurd (false≢true (sym none))
redeemed_step id _ lists is none = refl

pub redeemed_still : (id : ℕ) (changes : List Change) (lists : Lists) → (touches_table 5 changes || touches_table 6 changes) ≡ false → redeemed id (after_all changes lists) ≡ redeemed id lists
redeemed_still id changes lists is =
    let none = neither (touches_table 5 changes) (touches_table 6 changes) is in
    still changes lists none.0 none.1
  where
    still : (changes : List Change) (lists : Lists) → touches_table 5 changes ≡ false → touches_table 6 changes ≡ false → redeemed id (after_all changes lists) ≡ redeemed id lists
    still [] lists a b = refl
    still (c ∷ cs) lists a b =
        let orders = none_behind 5 c cs a in
        let positions = none_behind 6 c cs b in
        still cs (after_change c lists) orders.1 positions.1 ∙ redeemed_step id c lists orders.0 positions.0

-- a voucher is redeemed by no more order positions than name it
redeemed_few : (id : ℕ) (lists : Lists) (rows : List OrderPos) → count_by (uses id lists) rows ≤ count_by (λ p. names id p.voucher) rows
redeemed_few id lists [] = omega arith
redeemed_few id lists (p ∷ ps) =
    omega (
      arith,
      redeemed_few id lists ps,
      sum_by-cons (λ q. if uses id lists q then 1 else 0) p ps,
      sum_by-cons (λ q. if names id q.voucher then 1 else 0) p ps,
      at_most (names id p.voucher) (stands_as is_in_force (order_at p.order lists)),
    )
  where
    at_most : (named stands : Bool) → one (named && stands) ≤ one named
    at_most true true = omega arith
    at_most true false = omega arith
    at_most false stands = omega arith

-- so one that no row names is never redeemed, whatever becomes of the orders
pub unnamed_still : (id : ℕ) (changes : List Change) (lists : Lists) → touches_table 6 changes ≡ false → naming id lists ≡ 0 → redeemed id (after_all changes lists) ≡ redeemed id lists
unnamed_still id changes lists is none =
    let new : Lists = after_all changes lists in
    let named : count_by (λ p. names id p.voucher) lists.positions ≡ 0 = omega (arith, none) in
    omega (arith, redeemed_few id lists lists.positions, redeemed_few id new new.positions, ap (count_by (λ p. names id p.voucher)) (positions_still changes lists is), named)

-- how many rows name a voucher: cart positions, order positions and waiting entries
naming_step : (id : ℕ) (change : Change) (lists : Lists) → is_of 4 change ≡ false → is_of 6 change ≡ false → is_of 7 change ≡ false → naming id (after_change change lists) ≡ naming id lists
naming_step id (PutCart row) lists a b c = absurd (false≢true (sym a))
naming_step id (DropCart gone) lists a b c = absurd (false≢true (sym a))
naming_step id (PutPosition row) lists a b c = absurd (false≢true (sym b))
naming_step id (PutWaiting row) lists a b c = absurd (false≢true (sym c))
naming_step id (DropWaiting gone) lists a b c = absurd (false≢true (sym c))
naming_step id _ lists a b c = refl

pub naming_still : (id : ℕ) (changes : List Change) (lists : Lists) → ((touches_table 4 changes || touches_table 6 changes) || touches_table 7 changes) ≡ false → naming id (after_all changes lists) ≡ naming id lists
naming_still id changes lists is =
    let all = neither (touches_table 4 changes || touches_table 6 changes) (touches_table 7 changes) is in
    let none = neither (touches_table 4 changes) (touches_table 6 changes) all.0 in
    still changes lists none.0 none.1 all.1
  where
    still : (changes : List Change) (lists : Lists) → touches_table 4 changes ≡ false → touches_table 6 changes ≡ false → touches_table 7 changes ≡ false → naming id (after_all changes lists) ≡ naming id lists
    still [] lists a b c = refl
    still (d ∷ ds) lists a b c =
        let carts = none_behind 4 d ds a in
        let positions = none_behind 6 d ds b in
        let entries = none_behind 7 d ds c in
        still ds (after_change d lists) carts.1 positions.1 entries.1 ∙ naming_step id d lists carts.0 positions.0 entries.0
