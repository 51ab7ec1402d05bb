-- Changes that a file takes.
use Rattle.std.specs.Prelude.{Bool, true, not, ◌&&◌, List, [], ◌∷◌}
use Rattle.model_rows.specs.declared.changes.Change.{Change}
use Rattle.model_rows.specs.declared.changes.Change.TheVariants.{PutItem, PutVariation, PutQuota, PutVoucher, PutCart, PutOrder, PutPosition, PutWaiting, DropVoucher, DropCart, DropWaiting, PutCheckinList, PutCheckin}

-- no voucher is put after one was dropped, so that the count of each that stands was kept all along
abbrev pub puts_come_first : Bool → List Change → Bool
puts_come_first dropped [] = true
puts_come_first dropped (PutItem row ∷ changes) = puts_come_first dropped changes
puts_come_first dropped (PutVariation row ∷ changes) = puts_come_first dropped changes
puts_come_first dropped (PutQuota row ∷ changes) = puts_come_first dropped changes
puts_come_first dropped (PutVoucher row ∷ changes) = not dropped && puts_come_first dropped changes
puts_come_first dropped (PutCart row ∷ changes) = puts_come_first dropped changes
puts_come_first dropped (PutOrder row ∷ changes) = puts_come_first dropped changes
puts_come_first dropped (PutPosition row ∷ changes) = puts_come_first dropped changes
puts_come_first dropped (PutWaiting row ∷ changes) = puts_come_first dropped changes
puts_come_first dropped (DropVoucher id ∷ changes) = puts_come_first true changes
puts_come_first dropped (DropCart id ∷ changes) = puts_come_first dropped changes
puts_come_first dropped (DropWaiting id ∷ changes) = puts_come_first dropped changes
puts_come_first dropped (PutCheckinList row ∷ changes) = puts_come_first dropped changes
puts_come_first dropped (PutCheckin row ∷ changes) = puts_come_first dropped changes
