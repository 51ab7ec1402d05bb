-- Rows that are put one after another into each list.
use Rattle.std.proofs.Common.{◌≡◌, ℕ, List, [], ◌∷◌, map, ap, refl, ◌∙◌}
use Rattle.base_tables.specs.Tables.{AreInOrder}
use Rattle.model_catalogue.specs.declared.rows.Item.{Item}
use Rattle.model_catalogue.specs.declared.rows.Variation.{Variation}
use Rattle.model_catalogue.specs.declared.rows.Quota.{Quota}
use Rattle.model_rows.specs.declared.rows.Voucher.{Voucher}
use Rattle.model_rows.specs.declared.rows.CartPos.{CartPos}
use Rattle.model_rows.specs.declared.rows.Order.{Order}
use Rattle.model_rows.specs.declared.rows.OrderPos.{OrderPos}
use Rattle.model_rows.specs.declared.rows.Waiting.{Waiting}
use Rattle.model_rows.specs.declared.rows.CheckinList.{CheckinList}
use Rattle.model_rows.specs.declared.rows.Checkin.{Checkin}
use Rattle.model_rows.specs.declared.changes.Change.TheVariants.{PutItem, PutVariation, PutQuota, PutVoucher, PutCart, PutOrder, PutPosition, PutWaiting, PutCheckinList, PutCheckin}
use Rattle.model_rows.specs.declared.changes.Change.{Change}
use Rattle.model_rows.specs.declared.rows.NextIds.{NextIds}
use Rattle.model_rows.specs.Change.{after_all, after_change, changes_applied}
use Rattle.model_rows.specs.Lists.{Lists, State}
use Rattle.file_meaning.specs.Counts.{with_all}
use Rattle.file_rebuild.proofs.PutLemmas.{all_put}

items_each : (rows : List Item) (lists : Lists) → after_all (map PutItem rows) lists ≡ record lists { catalogue = record lists.catalogue { items = with_all (λ r. r.id) rows lists.catalogue.items } }
items_each [] lists = refl
items_each (row ∷ rows) lists = items_each rows (after_change (PutItem row) lists)

pub items_put : (rows : List Item) (lists : Lists) → lists.catalogue.items ≡ [] → AreInOrder (λ r. r.id) rows → after_all (map PutItem rows) lists ≡ record lists { catalogue = record lists.catalogue { items = rows } }
items_put rows lists none h = items_each rows lists ∙ ap (λ l. record lists { catalogue = record lists.catalogue { items = l } }) (ap (with_all (λ r. r.id) rows) none ∙ all_put (λ r. r.id) rows h)

variations_each : (rows : List Variation) (lists : Lists) → after_all (map PutVariation rows) lists ≡ record lists { catalogue = record lists.catalogue { variations = with_all (λ r. r.id) rows lists.catalogue.variations } }
variations_each [] lists = refl
variations_each (row ∷ rows) lists = variations_each rows (after_change (PutVariation row) lists)

pub variations_put : (rows : List Variation) (lists : Lists) → lists.catalogue.variations ≡ [] → AreInOrder (λ r. r.id) rows → after_all (map PutVariation rows) lists ≡ record lists { catalogue = record lists.catalogue { variations = rows } }
variations_put rows lists none h = variations_each rows lists ∙ ap (λ l. record lists { catalogue = record lists.catalogue { variations = l } }) (ap (with_all (λ r. r.id) rows) none ∙ all_put (λ r. r.id) rows h)

quotas_each : (rows : List Quota) (lists : Lists) → after_all (map PutQuota rows) lists ≡ record lists { catalogue = record lists.catalogue { quotas = with_all (λ r. r.id) rows lists.catalogue.quotas } }
quotas_each [] lists = refl
quotas_each (row ∷ rows) lists = quotas_each rows (after_change (PutQuota row) lists)

pub quotas_put : (rows : List Quota) (lists : Lists) → lists.catalogue.quotas ≡ [] → AreInOrder (λ r. r.id) rows → after_all (map PutQuota rows) lists ≡ record lists { catalogue = record lists.catalogue { quotas = rows } }
quotas_put rows lists none h = quotas_each rows lists ∙ ap (λ l. record lists { catalogue = record lists.catalogue { quotas = l } }) (ap (with_all (λ r. r.id) rows) none ∙ all_put (λ r. r.id) rows h)

vouchers_each : (rows : List Voucher) (lists : Lists) → after_all (map PutVoucher rows) lists ≡ record lists { vouchers = with_all (λ r. r.id) rows lists.vouchers }
vouchers_each [] lists = refl
vouchers_each (row ∷ rows) lists = vouchers_each rows (after_change (PutVoucher row) lists)

pub vouchers_put : (rows : List Voucher) (lists : Lists) → lists.vouchers ≡ [] → AreInOrder (λ r. r.id) rows → after_all (map PutVoucher rows) lists ≡ record lists { vouchers = rows }
vouchers_put rows lists none h = vouchers_each rows lists ∙ ap (λ l. record lists { vouchers = l }) (ap (with_all (λ r. r.id) rows) none ∙ all_put (λ r. r.id) rows h)

carts_each : (rows : List CartPos) (lists : Lists) → after_all (map PutCart rows) lists ≡ record lists { carts = with_all (λ r. r.id) rows lists.carts }
carts_each [] lists = refl
carts_each (row ∷ rows) lists = carts_each rows (after_change (PutCart row) lists)

pub carts_put : (rows : List CartPos) (lists : Lists) → lists.carts ≡ [] → AreInOrder (λ r. r.id) rows → after_all (map PutCart rows) lists ≡ record lists { carts = rows }
carts_put rows lists none h = carts_each rows lists ∙ ap (λ l. record lists { carts = l }) (ap (with_all (λ r. r.id) rows) none ∙ all_put (λ r. r.id) rows h)

orders_each : (rows : List Order) (lists : Lists) → after_all (map PutOrder rows) lists ≡ record lists { orders = with_all (λ r. r.id) rows lists.orders }
orders_each [] lists = refl
orders_each (row ∷ rows) lists = orders_each rows (after_change (PutOrder row) lists)

pub orders_put : (rows : List Order) (lists : Lists) → lists.orders ≡ [] → AreInOrder (λ r. r.id) rows → after_all (map PutOrder rows) lists ≡ record lists { orders = rows }
orders_put rows lists none h = orders_each rows lists ∙ ap (λ l. record lists { orders = l }) (ap (with_all (λ r. r.id) rows) none ∙ all_put (λ r. r.id) rows h)

positions_each : (rows : List OrderPos) (lists : Lists) → after_all (map PutPosition rows) lists ≡ record lists { positions = with_all (λ r. r.id) rows lists.positions }
positions_each [] lists = refl
positions_each (row ∷ rows) lists = positions_each rows (after_change (PutPosition row) lists)

pub positions_put : (rows : List OrderPos) (lists : Lists) → lists.positions ≡ [] → AreInOrder (λ r. r.id) rows → after_all (map PutPosition rows) lists ≡ record lists { positions = rows }
positions_put rows lists none h = positions_each rows lists ∙ ap (λ l. record lists { positions = l }) (ap (with_all (λ r. r.id) rows) none ∙ all_put (λ r. r.id) rows h)

waiting_each : (rows : List Waiting) (lists : Lists) → after_all (map PutWaiting rows) lists ≡ record lists { waiting = with_all (λ r. r.id) rows lists.waiting }
waiting_each [] lists = refl
waiting_each (row ∷ rows) lists = waiting_each rows (after_change (PutWaiting row) lists)

pub waiting_put : (rows : List Waiting) (lists : Lists) → lists.waiting ≡ [] → AreInOrder (λ r. r.id) rows → after_all (map PutWaiting rows) lists ≡ record lists { waiting = rows }
waiting_put rows lists none h = waiting_each rows lists ∙ ap (λ l. record lists { waiting = l }) (ap (with_all (λ r. r.id) rows) none ∙ all_put (λ r. r.id) rows h)

checkin_lists_each : (rows : List CheckinList) (lists : Lists) → after_all (map PutCheckinList rows) lists ≡ record lists { checkin_lists = with_all (λ r. r.id) rows lists.checkin_lists }
checkin_lists_each [] lists = refl
checkin_lists_each (row ∷ rows) lists = checkin_lists_each rows (after_change (PutCheckinList row) lists)

pub checkin_lists_put : (rows : List CheckinList) (lists : Lists) → lists.checkin_lists ≡ [] → AreInOrder (λ r. r.id) rows → after_all (map PutCheckinList rows) lists ≡ record lists { checkin_lists = rows }
checkin_lists_put rows lists none h = checkin_lists_each rows lists ∙ ap (λ l. record lists { checkin_lists = l }) (ap (with_all (λ r. r.id) rows) none ∙ all_put (λ r. r.id) rows h)

checkins_each : (rows : List Checkin) (lists : Lists) → after_all (map PutCheckin rows) lists ≡ record lists { checkins = with_all (λ r. r.id) rows lists.checkins }
checkins_each [] lists = refl
checkins_each (row ∷ rows) lists = checkins_each rows (after_change (PutCheckin row) lists)

pub checkins_put : (rows : List Checkin) (lists : Lists) → lists.checkins ≡ [] → AreInOrder (λ r. r.id) rows → after_all (map PutCheckin rows) lists ≡ record lists { checkins = rows }
checkins_put rows lists none h = checkins_each rows lists ∙ ap (λ l. record lists { checkins = l }) (ap (with_all (λ r. r.id) rows) none ∙ all_put (λ r. r.id) rows h)

-- the state after changes whose effect on the lists is known
pub after : (changes : List Change) (next : NextIds) (at : ℕ) (s t : State) (old new : Lists) → t ≡ changes_applied (record { list = changes; next = next }) at s → s.lists ≡ old → after_all changes old ≡ new → t ≡ record { lists = new; next = next; moment = at }
after changes next at s t old new is was makes =
    is ∙ ap (λ l. record { lists = after_all changes l; next = next; moment = at }) was ∙ ap (λ l. record { lists = l; next = next; moment = at }) makes
