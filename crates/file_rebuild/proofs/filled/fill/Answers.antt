use Rattle.std.proofs.Common.{◌≡◌, map, ap, refl}
use Rattle.model_rows.specs.declared.changes.Change.TheVariants.{PutItem, PutVariation, PutQuota, PutVoucher, PutCart, PutOrder, PutPosition, PutWaiting, PutCheckinList, PutCheckin}
use Rattle.model_rows.specs.Lists.{Lists, State, no_rows}
use Rattle.file_rebuild.proofs.TableLemmas.{after, items_put, variations_put, quotas_put, vouchers_put, carts_put, orders_put, positions_put, waiting_put, checkin_lists_put, checkins_put}
use Rattle.file_rebuild.proofs.filled.fill.Goals as goal

pub returns-clause-state : goal.returns-clause-state
returns-clause-state g c =
    let rows = c.args.rows in
    let at0 : (g.B.Book.state c.args.book.now).lists ≡ no_rows = c.requires.empty in
    let l0 : Lists = no_rows in
    let l1 : Lists = record l0 { catalogue = record l0.catalogue { items = rows.items.items } } in
    let h1 : g.B.Book.state c.put_rows.new.book ≡ record { lists = l1; next = rows.next; moment = rows.moment } =
    after (map PutItem rows.items.items) rows.next rows.moment (g.B.Book.state c.args.book.now) (g.B.Book.state c.put_rows.new.book) l0 l1 c.in_ok-put_rows.ensures.done at0 (items_put rows.items.items l0 refl c.requires.ids.items.in_order) in
    let l2 : Lists = record l1 { catalogue = record l1.catalogue { variations = rows.variations.items } } in
    let h2 : g.B.Book.state c.put_rows-2.new.book ≡ record { lists = l2; next = rows.next; moment = rows.moment } =
    after (map PutVariation rows.variations.items) rows.next rows.moment (g.B.Book.state c.put_rows.new.book) (g.B.Book.state c.put_rows-2.new.book) l1 l2 c.in_ok-put_rows-2.ensures.done (ap (λ (s : State). s.lists) h1) (variations_put rows.variations.items l1 refl c.requires.ids.variations.in_order) in
    let l3 : Lists = record l2 { catalogue = record l2.catalogue { quotas = rows.quotas.items } } in
    let h3 : g.B.Book.state c.put_rows-3.new.book ≡ record { lists = l3; next = rows.next; moment = rows.moment } =
    after (map PutQuota rows.quotas.items) rows.next rows.moment (g.B.Book.state c.put_rows-2.new.book) (g.B.Book.state c.put_rows-3.new.book) l2 l3 c.in_ok-put_rows-3.ensures.done (ap (λ (s : State). s.lists) h2) (quotas_put rows.quotas.items l2 refl c.requires.ids.quotas.in_order) in
    let l4 : Lists = record l3 { orders = rows.orders.items } in
    let h4 : g.B.Book.state c.put_rows-4.new.book ≡ record { lists = l4; next = rows.next; moment = rows.moment } =
    after (map PutOrder rows.orders.items) rows.next rows.moment (g.B.Book.state c.put_rows-3.new.book) (g.B.Book.state c.put_rows-4.new.book) l3 l4 c.in_ok-put_rows-4.ensures.done (ap (λ (s : State). s.lists) h3) (orders_put rows.orders.items l3 refl c.requires.ids.orders.in_order) in
    let l5 : Lists = record l4 { checkin_lists = rows.checkin_lists.items } in
    let h5 : g.B.Book.state c.put_rows-5.new.book ≡ record { lists = l5; next = rows.next; moment = rows.moment } =
    after (map PutCheckinList rows.checkin_lists.items) rows.next rows.moment (g.B.Book.state c.put_rows-4.new.book) (g.B.Book.state c.put_rows-5.new.book) l4 l5 c.in_ok-put_rows-5.ensures.done (ap (λ (s : State). s.lists) h4) (checkin_lists_put rows.checkin_lists.items l4 refl c.requires.ids.checkin_lists.in_order) in
    let l6 : Lists = record l5 { checkins = rows.checkins.items } in
    let h6 : g.B.Book.state c.put_rows-6.new.book ≡ record { lists = l6; next = rows.next; moment = rows.moment } =
    after (map PutCheckin rows.checkins.items) rows.next rows.moment (g.B.Book.state c.put_rows-5.new.book) (g.B.Book.state c.put_rows-6.new.book) l5 l6 c.in_ok-put_rows-6.ensures.done (ap (λ (s : State). s.lists) h5) (checkins_put rows.checkins.items l5 refl c.requires.ids.checkins.in_order) in
    let l7 : Lists = record l6 { waiting = rows.waiting.items } in
    let h7 : g.B.Book.state c.put_rows-7.new.book ≡ record { lists = l7; next = rows.next; moment = rows.moment } =
    after (map PutWaiting rows.waiting.items) rows.next rows.moment (g.B.Book.state c.put_rows-6.new.book) (g.B.Book.state c.put_rows-7.new.book) l6 l7 c.in_ok-put_rows-7.ensures.done (ap (λ (s : State). s.lists) h6) (waiting_put rows.waiting.items l6 refl c.requires.ids.waiting.in_order) in
    let l8 : Lists = record l7 { carts = rows.carts.items } in
    let h8 : g.B.Book.state c.put_rows-8.new.book ≡ record { lists = l8; next = rows.next; moment = rows.moment } =
    after (map PutCart rows.carts.items) rows.next rows.moment (g.B.Book.state c.put_rows-7.new.book) (g.B.Book.state c.put_rows-8.new.book) l7 l8 c.in_ok-put_rows-8.ensures.done (ap (λ (s : State). s.lists) h7) (carts_put rows.carts.items l7 refl c.requires.ids.carts.in_order) in
    let l9 : Lists = record l8 { vouchers = rows.vouchers.items } in
    let h9 : g.B.Book.state c.put_rows-9.new.book ≡ record { lists = l9; next = rows.next; moment = rows.moment } =
    after (map PutVoucher rows.vouchers.items) rows.next rows.moment (g.B.Book.state c.put_rows-8.new.book) (g.B.Book.state c.put_rows-9.new.book) l8 l9 c.in_ok-put_rows-9.ensures.done (ap (λ (s : State). s.lists) h8) (vouchers_put rows.vouchers.items l8 refl c.requires.ids.vouchers.in_order) in
    let l10 : Lists = record l9 { positions = rows.positions.items } in
    let h10 : g.B.Book.state c.put_rows-10.new.book ≡ record { lists = l10; next = rows.next; moment = rows.moment } =
    after (map PutPosition rows.positions.items) rows.next rows.moment (g.B.Book.state c.put_rows-9.new.book) (g.B.Book.state c.put_rows-10.new.book) l9 l10 c.in_ok-put_rows-10.ensures.done (ap (λ (s : State). s.lists) h9) (positions_put rows.positions.items l9 refl c.requires.ids.positions.in_order) in
    h10
