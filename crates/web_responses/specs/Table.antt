-- Which refusals each kind of request can have.
use Rattle.std.specs.Prelude.{ℕ, List, [], ◌∷◌}
use Rattle.model_commands.specs.declared.requests.Kind.{Kind}
use Rattle.model_commands.specs.declared.requests.Kind.TheVariants as kinds

-- refusals by number: those which say that what the path names isn't there, and the others, in the order of the tests
pub record KindRefusals : Type 0 where
  pub missing : List ℕ
  pub others : List ℕ

-- what the path names isn't there by the first numbers; the others are in the order of the tests
abbrev pub numbers : List ℕ → List ℕ → KindRefusals
numbers missing others = record { missing = missing; others = others }

-- The table; what isn't in it is told by no request. 2 is a value too large, 10 no item, 11 no variation, 12 a variation
-- that is needed, 13 no quota, 14 wrong members, 15 not active, 16 a full table, 17 an item without variations, 18 in no
-- quota, 20 a taken code, 21 a wrong target, 22 what can't be blocked, 23 no voucher, 24 an expired one, 25 one without
-- uses left, 26 one for another product, 27 one in use, 28 sold out, 29 what can be had without waiting, 30 who waits
-- already, 31 an entry that was sent its voucher, 32 no entry, 33 a reserved code, 34 more taken off than a voucher's budget,
-- 40 no cart position, 41 no order, 42 a status that doesn't allow it, 43 no positions, 44 too many, 45 a wrong cart id, 50 no
-- check-in list, 51 no such ticket, 52 one of an expired or cancelled order, 53 one that isn't on the list, 54 an unpaid one,
-- 55 one that was let in already, 59 no such page
abbrev pub row_of : Kind → KindRefusals
row_of kinds.AddItem = numbers [] (16 ∷ [])
row_of kinds.ChangeItem = numbers (10 ∷ []) []
row_of kinds.AddVariation = numbers (10 ∷ []) (17 ∷ 16 ∷ [])
row_of kinds.AddQuota = numbers [] (10 ∷ 11 ∷ 14 ∷ 16 ∷ [])
row_of kinds.ResizeQuota = numbers (13 ∷ []) []
row_of kinds.AddVoucher = numbers [] (2 ∷ 33 ∷ 20 ∷ 10 ∷ 11 ∷ 13 ∷ 21 ∷ 22 ∷ 28 ∷ 16 ∷ [])
row_of kinds.ChangeVoucher = numbers (23 ∷ []) (2 ∷ 33 ∷ 20 ∷ 10 ∷ 11 ∷ 13 ∷ 21 ∷ 22 ∷ 27 ∷ 25 ∷ 34 ∷ 28 ∷ [])
row_of kinds.DropVoucher = numbers (23 ∷ []) (27 ∷ [])
row_of kinds.AddCart = numbers [] (45 ∷ 10 ∷ 11 ∷ 12 ∷ 15 ∷ 18 ∷ 23 ∷ 24 ∷ 26 ∷ 25 ∷ 28 ∷ 16 ∷ [])
row_of kinds.AddCarts = numbers [] (44 ∷ [])
row_of kinds.DropCart = numbers (40 ∷ []) []
row_of kinds.AddOrder = numbers [] (43 ∷ 44 ∷ 10 ∷ 11 ∷ 12 ∷ 15 ∷ 18 ∷ 23 ∷ 24 ∷ 26 ∷ 25 ∷ 34 ∷ 28 ∷ 16 ∷ [])
row_of kinds.MoveOrder = numbers (41 ∷ []) (42 ∷ 25 ∷ 34 ∷ 28 ∷ [])
row_of kinds.AddWaiting = numbers [] (10 ∷ 11 ∷ 12 ∷ 15 ∷ 30 ∷ 29 ∷ 16 ∷ [])
row_of kinds.ChangeWaiting = numbers (32 ∷ []) (31 ∷ [])
row_of kinds.DropWaiting = numbers (32 ∷ []) (31 ∷ [])
row_of kinds.SendVoucher = numbers (32 ∷ []) (31 ∷ 15 ∷ 18 ∷ 28 ∷ 16 ∷ [])
row_of kinds.Periodic = numbers [] []
row_of kinds.AddCheckinList = numbers [] (10 ∷ 16 ∷ [])
row_of kinds.Redeem = numbers (50 ∷ []) (51 ∷ 52 ∷ 53 ∷ 54 ∷ 55 ∷ 16 ∷ [])
row_of kinds.List = numbers (50 ∷ []) (59 ∷ [])
row_of kinds.One = numbers (10 ∷ 13 ∷ 23 ∷ 40 ∷ 41 ∷ 32 ∷ 50 ∷ []) []
row_of kinds.Availability = numbers (13 ∷ []) []
row_of kinds.Status = numbers (50 ∷ []) []
