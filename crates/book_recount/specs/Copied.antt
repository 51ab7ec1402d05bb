-- A copy of what counts in an office.
use Rattle.std.specs.Prelude.{List, [], ◌++◌, map}
use Rattle.model_rows.specs.declared.changes.Change.{Change}
use Rattle.model_rows.specs.declared.changes.Change.TheVariants.{PutQuota, PutVoucher, PutCart, PutOrder, PutPosition, PutWaiting, PutCheckin}
use Rattle.model_rows.specs.Lists.{Lists}

-- the rows that add to a count, or of which a count is kept; check-ins tell which tickets have gone out
abbrev pub counted_rows : Lists → Lists
counted_rows lists = record lists { catalogue = record { items = []; variations = []; quotas = lists.catalogue.quotas }; checkin_lists = [] }

-- the changes that put these
abbrev pub puts_of : Lists → List Change
puts_of lists = map (λ r. PutQuota r) lists.catalogue.quotas ++ map (λ r. PutVoucher r) lists.vouchers ++ map (λ r. PutOrder r) lists.orders ++ map (λ r. PutPosition r) lists.positions ++ map (λ r. PutCart r) lists.carts ++ map (λ r. PutWaiting r) lists.waiting ++ map (λ r. PutCheckin r) lists.checkins
