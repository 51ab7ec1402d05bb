-- What holds of every box office at its moment: one field for each rule.
use Rattle.model_rows.specs.Lists.{State}
use Rattle.model_rows.specs.Headroom.{AllHaveHeadroom}
use Rattle.model_rows.specs.Budgets.{AllWithinBudget}
use Rattle.model_rows.specs.Fits.{AllFit}
use Rattle.model_invariant.specs.Checkins.{IsDoorOf}
use Rattle.model_invariant.specs.Few.{AllFew}
use Rattle.model_invariant.specs.Ids.{AllNumbered}
use Rattle.model_invariant.specs.Limits.{AllLimited}
use Rattle.model_invariant.specs.Members.{AllHaveMembers}
use Rattle.model_invariant.specs.OwnCodes.{HaveCodes}
use Rattle.model_invariant.specs.Positions.{AreOfOrders}
use Rattle.model_invariant.specs.Shown.{AreOrdered}
use Rattle.model_invariant.specs.Range.{AreInRange}
use Rattle.model_invariant.specs.Sent.{AllSent}
use Rattle.model_invariant.specs.Targets.{AllHaveTargets}
use Rattle.model_invariant.specs.Varied.{AllVaried, AllProducts, AllWhole}

-- all rules, with this one on orders and their positions, and this one on budgets
pub record IsSoundWith (rule within : Type 0) (state : State) : Type 0 where
  -- the moment is at most the last one, and each next id is 1 to one past the last id
  pub range : AreInRange state.moment state.next
  -- no table has more than 1,000,000 rows, that of orders no more than there are codes
  pub few : AllFew state.lists
  -- texts, amounts of money, moments and counts are within their limits, and no voucher takes off more than 100 percent
  pub limits : AllLimited state.lists
  -- in each table ids rise, and each is at least 1 and below the next one
  pub ids : AllNumbered state.next state.lists
  -- the items and the variations of a quota rise, stand and fit together
  pub members : AllHaveMembers state.lists.catalogue
  -- what a voucher names stands, and is one thing: a quota, an item, or an item and a variation of it
  pub targets : AllHaveTargets state.lists
  -- a voucher that blocks names a quota, or a variation, or an item that isn't sold by variation
  pub whole : AllWhole state.lists
  -- a variation is of an item that is sold by variation
  pub varied : AllVaried state.lists
  -- the product of a cart position, an order position or a waiting entry is one:
  -- its item stands, and a variation, which stands and is of it, is named exactly where it is sold by variation
  pub products : AllProducts state.lists
  -- the voucher that a waiting entry names stands
  pub sent : AllSent state.lists
  -- what a cart position or an order position names is a voucher that stands and is for its product
  pub fit : AllFit state.lists
  -- a code tells which voucher it is, and one that the shop made ends in its voucher's id
  pub codes : HaveCodes state.lists.vouchers
  -- orders and their positions
  pub ordered : rule
  -- a check-in's list and position stand, a list's items do, and no list has a nonce twice for a position
  pub door : IsDoorOf state.lists
  -- no voucher is named by more order positions in force and live cart positions than it may be used
  pub headroom : AllHaveHeadroom state.moment state.lists
  -- of no voucher is more spent than its budget
  pub budgets : within

-- an order position's order stands, its secret ends in its order's number and its own there, and each order has 1 to 500
-- positions, numbered from 1 to their count
abbrev pub IsSound : State → Type 0
IsSound state = IsSoundWith (AreOrdered state.lists.orders state.lists.positions) (AllWithinBudget state.lists) state

-- while the positions of a new order are put one after another, it hasn't all of them yet, and what they spend isn't tested yet
abbrev pub IsSoundSoFar : State → Type 0
IsSoundSoFar state = IsSoundWith (AreOfOrders state.lists.orders state.lists.positions) (Unit {0}) state
