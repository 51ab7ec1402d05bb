-- The route of each path of the table.
use Rattle.std.proofs.Common.{◌≡◌, ◌≢◌, ℕ, ◌<◌, ◌==◌, List, [], ◌∷◌, ◌++◌, length, Some, None, Bool, true, false, cond, refl, arith, codes, lit<}
use Rattle.std.specs.Str.{IsUtf8, is_utf8}
use Rattle.std.proofs.lemmas.Str.{IsUtf8-append, is_utf8-from_IsUtf8}
use Rattle.std.proofs.lemmas.List.{append_cancel_right}
use Rattle.std.proofs.lemmas.Bool.Decides.{nat_tests}
use Rattle.matchit.proofs.OnLiterals.{matchit_on_literals}
use Rattle.matchit.specs.Rows.{param_token}
use Rattle.matchit.specs.Seek.{seek, step, first}
use Rattle.web_api.specs.declared.routes.Route.{Route}
use Rattle.web_api.specs.declared.routes.Route.TheVariants as routes
use Rattle.web_bodies.specs.declared.form.MoveName.TheVariants as names
use Rattle.web_api.specs.Routes.{Rows, all_routes, route_found, route_of}
use Rattle.web_api.specs.Table.{IsName, IsSegment, has, path_with}
use Rattle.web_api.proofs.Written.{written, all_written}
use Rattle.web_api.proofs.Seeking.{along, behind_id, none_there, others_path, slashed, shorn, steps}

-- the rows behind a front that is bytes alone
abbrev pub rows_at : List ℕ → Rows
rows_at front = steps front written

abbrev pub rows_after : List ℕ → Rows
rows_after front = shorn (step param_token (rows_at front))

-- a path with an id behind a front
with_id : (front rest : List ℕ) (b : ℕ) (id : List ℕ) (route : Route) → has 47 (b ∷ id) ≡ false
    → seek 0 (step b (rows_at front)) (id ++ 47 ∷ rest) ≡ None → step param_token (rows_at front) ≡ slashed (rows_after front) → 0 < length (rows_after front)
    → route_found (seek 0 (slashed (rows_after front)) (47 ∷ rest)) ≡ Some route
    → route_found (first written (front ++ (b ∷ (id ++ 47 ∷ rest)))) ≡ Some route
with_id front rest b id route h none wild some is =
    along front (b ∷ (id ++ 47 ∷ rest)) written route (behind_id b id rest (rows_at front) (rows_after front) route h none wild some is)

-- behind these words no byte stands for itself
no_byte_item : (b : ℕ) (path : List ℕ) → b < 256 → seek 0 (step b (rows_at (codes "/items/"))) path ≡ None
unfolding matchit_on_literals
no_byte_item b path h = let m : (256 == b) ≡ false = grind (arith, nat_tests) in rw m (none_there 0 path)

no_byte_quota : (b : ℕ) (path : List ℕ) → b < 256 → seek 0 (step b (rows_at (codes "/quotas/"))) path ≡ None
unfolding matchit_on_literals
no_byte_quota b path h = let m : (256 == b) ≡ false = grind (arith, nat_tests) in rw m (none_there 0 path)

no_byte_voucher : (b : ℕ) (path : List ℕ) → b < 256 → seek 0 (step b (rows_at (codes "/vouchers/"))) path ≡ None
unfolding matchit_on_literals
no_byte_voucher b path h = let m : (256 == b) ≡ false = grind (arith, nat_tests) in rw m (none_there 0 path)

no_byte_order : (b : ℕ) (path : List ℕ) → b < 256 → seek 0 (step b (rows_at (codes "/orders/"))) path ≡ None
unfolding matchit_on_literals
no_byte_order b path h = let m : (256 == b) ≡ false = grind (arith, nat_tests) in rw m (none_there 0 path)

no_byte_waiting : (b : ℕ) (path : List ℕ) → b < 256 → seek 0 (step b (rows_at (codes "/waitinglistentries/"))) path ≡ None
unfolding matchit_on_literals
no_byte_waiting b path h = let m : (256 == b) ≡ false = grind (arith, nat_tests) in rw m (none_there 0 path)

no_byte_door : (b : ℕ) (path : List ℕ) → b < 256 → seek 0 (step b (rows_at (codes "/checkinlists/"))) path ≡ None
unfolding matchit_on_literals
no_byte_door b path h = let m : (256 == b) ≡ false = grind (arith, nat_tests) in rw m (none_there 0 path)

-- the rows behind the positions of a check-in list
abbrev pub ticket_rows : Rows
ticket_rows = steps (codes "/positions/") (slashed (rows_after (codes "/checkinlists/")))

no_byte_ticket : (b : ℕ) (path : List ℕ) → b < 256 → seek 0 (step b ticket_rows) path ≡ None
unfolding matchit_on_literals
no_byte_ticket b path h = let m : (256 == b) ≡ false = grind (arith, nat_tests) in rw m (none_there 0 path)

-- behind a check-in list's id, the path of a scan goes on with its ticket
ticket_sought : (ticket : List ℕ) → IsSegment ticket
    → route_found (seek 0 (slashed (rows_after (codes "/checkinlists/"))) (codes "/positions/" ++ ticket ++ codes "/redeem/")) ≡ Some routes.Redeem
unfolding matchit_on_literals
ticket_sought (b ∷ ticket) n =
    along (codes "/positions/") (b ∷ (ticket ++ codes "/redeem/")) (slashed (rows_after (codes "/checkinlists/"))) routes.Redeem
    (behind_id b ticket (codes "redeem/") ticket_rows (shorn (step param_token ticket_rows)) routes.Redeem n.slash
    (no_byte_ticket b (ticket ++ codes "/redeem/") n.bytes.0) refl (lit< tt) refl)
ticket_sought [] n = let some : 0 < 0 = n.some in absurd (omega arith)

-- behind this word the bytes of one word stand for themselves
no_byte_cart : (b : ℕ) (id : List ℕ) → b < 256 → (b ∷ id) ≢ codes "bulk_create" → seek 0 (step b (rows_at (codes "/cartpositions/"))) (id ++ 47 ∷ []) ≡ None
unfolding matchit_on_literals
no_byte_cart b id h other = by (98 == b) refl
  where
    by : (v : Bool) → (98 == b) ≡ v → seek 0 (step b (rows_at (codes "/cartpositions/"))) (id ++ 47 ∷ []) ≡ None
    by true e =
        let m : (256 == b) ≡ false = grind (arith, nat_tests) in
        let is : b ≡ 98 = grind (arith, nat_tests) in
        let n : codes "ulk_create/" ≢ (id ++ 47 ∷ []) = λ q. let p : codes "ulk_create" ≡ id = append_cancel_right (codes "ulk_create") id (47 ∷ []) q in other (cc) in
        rw (m, e) (others_path (codes "ulk_create/") (id ++ 47 ∷ []) _ (lit< tt, (lit< tt, (lit< tt, (lit< tt, (lit< tt, (lit< tt, (lit< tt, (lit< tt, (lit< tt, (lit< tt, (lit< tt, tt))))))))))) n)
    by false e = let m : (256 == b) ≡ false = grind (arith, nat_tests) in rw (m, e) (none_there 0 (id ++ 47 ∷ []))

-- what is found at a path is found at the same path in other words
at_path : (route : Route) (path other : List ℕ) → path ≡ other → route_found (first written other) ≡ Some route → route_found (first written path) ≡ Some route
at_path route path other e h = rw e h

entry_sought : (id ticket : List ℕ) → IsName id → IsSegment ticket → route_found (first written (path_with id ticket routes.WaitingEntry)) ≡ Some routes.WaitingEntry
unfolding matchit_on_literals
entry_sought (b ∷ id) ticket n s =
    at_path routes.WaitingEntry (path_with (b ∷ id) ticket routes.WaitingEntry) (codes "/waitinglistentries/" ++ (b ∷ (id ++ 47 ∷ []))) refl
    (with_id (codes "/waitinglistentries/") [] b id routes.WaitingEntry n.segment.slash (no_byte_waiting b (id ++ 47 ∷ []) n.segment.bytes.0) refl (lit< tt) refl)
entry_sought [] ticket n s = let some : 0 < 0 = n.segment.some in absurd (omega arith)

sending_sought : (id ticket : List ℕ) → IsName id → IsSegment ticket → route_found (first written (path_with id ticket routes.SendVoucher)) ≡ Some routes.SendVoucher
unfolding matchit_on_literals
sending_sought (b ∷ id) ticket n s =
    at_path routes.SendVoucher (path_with (b ∷ id) ticket routes.SendVoucher) (codes "/waitinglistentries/" ++ (b ∷ (id ++ 47 ∷ (codes "send_voucher/")))) refl
    (with_id (codes "/waitinglistentries/") (codes "send_voucher/") b id routes.SendVoucher n.segment.slash (no_byte_waiting b (id ++ 47 ∷ (codes "send_voucher/")) n.segment.bytes.0) refl (lit< tt) refl)
sending_sought [] ticket n s = let some : 0 < 0 = n.segment.some in absurd (omega arith)

list_sought : (id ticket : List ℕ) → IsName id → IsSegment ticket → route_found (first written (path_with id ticket routes.CheckinList)) ≡ Some routes.CheckinList
unfolding matchit_on_literals
list_sought (b ∷ id) ticket n s =
    at_path routes.CheckinList (path_with (b ∷ id) ticket routes.CheckinList) (codes "/checkinlists/" ++ (b ∷ (id ++ 47 ∷ []))) refl
    (with_id (codes "/checkinlists/") [] b id routes.CheckinList n.segment.slash (no_byte_door b (id ++ 47 ∷ []) n.segment.bytes.0) refl (lit< tt) refl)
list_sought [] ticket n s = let some : 0 < 0 = n.segment.some in absurd (omega arith)

status_sought : (id ticket : List ℕ) → IsName id → IsSegment ticket → route_found (first written (path_with id ticket routes.Status)) ≡ Some routes.Status
unfolding matchit_on_literals
status_sought (b ∷ id) ticket n s =
    at_path routes.Status (path_with (b ∷ id) ticket routes.Status) (codes "/checkinlists/" ++ (b ∷ (id ++ 47 ∷ (codes "status/")))) refl
    (with_id (codes "/checkinlists/") (codes "status/") b id routes.Status n.segment.slash (no_byte_door b (id ++ 47 ∷ (codes "status/")) n.segment.bytes.0) refl (lit< tt) refl)
status_sought [] ticket n s = let some : 0 < 0 = n.segment.some in absurd (omega arith)

tickets_sought : (id ticket : List ℕ) → IsName id → IsSegment ticket → route_found (first written (path_with id ticket routes.Tickets)) ≡ Some routes.Tickets
unfolding matchit_on_literals
tickets_sought (b ∷ id) ticket n s =
    at_path routes.Tickets (path_with (b ∷ id) ticket routes.Tickets) (codes "/checkinlists/" ++ (b ∷ (id ++ 47 ∷ (codes "positions/")))) refl
    (with_id (codes "/checkinlists/") (codes "positions/") b id routes.Tickets n.segment.slash (no_byte_door b (id ++ 47 ∷ (codes "positions/")) n.segment.bytes.0) refl (lit< tt) refl)
tickets_sought [] ticket n s = let some : 0 < 0 = n.segment.some in absurd (omega arith)

scan_sought : (id ticket : List ℕ) → IsName id → IsSegment ticket → route_found (first written (path_with id ticket routes.Redeem)) ≡ Some routes.Redeem
unfolding matchit_on_literals
scan_sought (b ∷ id) ticket n s =
    at_path routes.Redeem (path_with (b ∷ id) ticket routes.Redeem) (codes "/checkinlists/" ++ (b ∷ (id ++ 47 ∷ (codes "positions/" ++ ticket ++ codes "/redeem/")))) refl
    (with_id (codes "/checkinlists/") (codes "positions/" ++ ticket ++ codes "/redeem/") b id routes.Redeem n.segment.slash (no_byte_door b (id ++ 47 ∷ (codes "positions/" ++ ticket ++ codes "/redeem/")) n.segment.bytes.0) refl (lit< tt) (ticket_sought ticket s))
scan_sought [] ticket n s = let some : 0 < 0 = n.segment.some in absurd (omega arith)

pub sought : (route : Route) (id ticket : List ℕ) → IsName id → IsSegment ticket → route_found (first written (path_with id ticket route)) ≡ Some route
unfolding matchit_on_literals
sought routes.Items id ticket n s = refl
sought routes.Quotas id ticket n s = refl
sought routes.Vouchers id ticket n s = refl
sought routes.CartPositions id ticket n s = refl
sought routes.BulkCreate id ticket n s = refl
sought routes.Orders id ticket n s = refl
sought routes.Item (b ∷ id) ticket n s =
    at_path routes.Item (path_with (b ∷ id) ticket routes.Item) (codes "/items/" ++ (b ∷ (id ++ 47 ∷ []))) refl
    (with_id (codes "/items/") [] b id routes.Item n.segment.slash (no_byte_item b (id ++ 47 ∷ []) n.segment.bytes.0) refl (lit< tt) refl)
sought routes.Variations (b ∷ id) ticket n s =
    at_path routes.Variations (path_with (b ∷ id) ticket routes.Variations) (codes "/items/" ++ (b ∷ (id ++ 47 ∷ (codes "variations/")))) refl
    (with_id (codes "/items/") (codes "variations/") b id routes.Variations n.segment.slash (no_byte_item b (id ++ 47 ∷ codes "variations/") n.segment.bytes.0) refl (lit< tt) refl)
sought routes.Quota (b ∷ id) ticket n s =
    at_path routes.Quota (path_with (b ∷ id) ticket routes.Quota) (codes "/quotas/" ++ (b ∷ (id ++ 47 ∷ []))) refl
    (with_id (codes "/quotas/") [] b id routes.Quota n.segment.slash (no_byte_quota b (id ++ 47 ∷ []) n.segment.bytes.0) refl (lit< tt) refl)
sought routes.Availability (b ∷ id) ticket n s =
    at_path routes.Availability (path_with (b ∷ id) ticket routes.Availability) (codes "/quotas/" ++ (b ∷ (id ++ 47 ∷ (codes "availability/")))) refl
    (with_id (codes "/quotas/") (codes "availability/") b id routes.Availability n.segment.slash (no_byte_quota b (id ++ 47 ∷ codes "availability/") n.segment.bytes.0) refl (lit< tt) refl)
sought routes.Voucher (b ∷ id) ticket n s =
    at_path routes.Voucher (path_with (b ∷ id) ticket routes.Voucher) (codes "/vouchers/" ++ (b ∷ (id ++ 47 ∷ []))) refl
    (with_id (codes "/vouchers/") [] b id routes.Voucher n.segment.slash (no_byte_voucher b (id ++ 47 ∷ []) n.segment.bytes.0) refl (lit< tt) refl)
sought routes.CartPosition (b ∷ id) ticket n s =
    at_path routes.CartPosition (path_with (b ∷ id) ticket routes.CartPosition) (codes "/cartpositions/" ++ (b ∷ (id ++ 47 ∷ []))) refl
    (with_id (codes "/cartpositions/") [] b id routes.CartPosition n.segment.slash (no_byte_cart b id n.segment.bytes.0 n.other) refl (lit< tt) refl)
sought routes.Order (b ∷ id) ticket n s =
    at_path routes.Order (path_with (b ∷ id) ticket routes.Order) (codes "/orders/" ++ (b ∷ (id ++ 47 ∷ []))) refl
    (with_id (codes "/orders/") [] b id routes.Order n.segment.slash (no_byte_order b (id ++ 47 ∷ []) n.segment.bytes.0) refl (lit< tt) refl)
sought (routes.Move names.MarkPaid) (b ∷ id) ticket n s =
    at_path (routes.Move names.MarkPaid) (path_with (b ∷ id) ticket (routes.Move names.MarkPaid)) (codes "/orders/" ++ (b ∷ (id ++ 47 ∷ (codes "mark_paid/")))) refl
    (with_id (codes "/orders/") (codes "mark_paid/") b id (routes.Move names.MarkPaid) n.segment.slash (no_byte_order b (id ++ 47 ∷ codes "mark_paid/") n.segment.bytes.0) refl (lit< tt) refl)
sought (routes.Move names.MarkPending) (b ∷ id) ticket n s =
    at_path (routes.Move names.MarkPending) (path_with (b ∷ id) ticket (routes.Move names.MarkPending)) (codes "/orders/" ++ (b ∷ (id ++ 47 ∷ (codes "mark_pending/")))) refl
    (with_id (codes "/orders/") (codes "mark_pending/") b id (routes.Move names.MarkPending) n.segment.slash (no_byte_order b (id ++ 47 ∷ codes "mark_pending/") n.segment.bytes.0) refl (lit< tt) refl)
sought (routes.Move names.MarkExpired) (b ∷ id) ticket n s =
    at_path (routes.Move names.MarkExpired) (path_with (b ∷ id) ticket (routes.Move names.MarkExpired)) (codes "/orders/" ++ (b ∷ (id ++ 47 ∷ (codes "mark_expired/")))) refl
    (with_id (codes "/orders/") (codes "mark_expired/") b id (routes.Move names.MarkExpired) n.segment.slash (no_byte_order b (id ++ 47 ∷ codes "mark_expired/") n.segment.bytes.0) refl (lit< tt) refl)
sought (routes.Move names.MarkCanceled) (b ∷ id) ticket n s =
    at_path (routes.Move names.MarkCanceled) (path_with (b ∷ id) ticket (routes.Move names.MarkCanceled)) (codes "/orders/" ++ (b ∷ (id ++ 47 ∷ (codes "mark_canceled/")))) refl
    (with_id (codes "/orders/") (codes "mark_canceled/") b id (routes.Move names.MarkCanceled) n.segment.slash (no_byte_order b (id ++ 47 ∷ codes "mark_canceled/") n.segment.bytes.0) refl (lit< tt) refl)
sought (routes.Move names.Extend) (b ∷ id) ticket n s =
    at_path (routes.Move names.Extend) (path_with (b ∷ id) ticket (routes.Move names.Extend)) (codes "/orders/" ++ (b ∷ (id ++ 47 ∷ (codes "extend/")))) refl
    (with_id (codes "/orders/") (codes "extend/") b id (routes.Move names.Extend) n.segment.slash (no_byte_order b (id ++ 47 ∷ codes "extend/") n.segment.bytes.0) refl (lit< tt) refl)
sought routes.WaitingEntries id ticket n s = refl
sought routes.Periodic id ticket n s = refl
sought routes.CheckinLists id ticket n s = refl
sought routes.WaitingEntry id ticket n s = entry_sought id ticket n s
sought routes.SendVoucher id ticket n s = sending_sought id ticket n s
sought routes.CheckinList id ticket n s = list_sought id ticket n s
sought routes.Status id ticket n s = status_sought id ticket n s
sought routes.Tickets id ticket n s = tickets_sought id ticket n s
sought routes.Redeem id ticket n s = scan_sought id ticket n s
sought _ [] ticket n s = let some : 0 < 0 = n.segment.some in absurd (omega arith)

-- a text between two of ASCII is UTF-8
between : (front id back : List ℕ) → IsUtf8 front → IsUtf8 id → IsUtf8 back → IsUtf8 (front ++ id ++ back)
between front id back f i b = IsUtf8-append (front ++ id) back (IsUtf8-append front id f i) b

end_utf8 : (route : Route) (id ticket : List ℕ) → IsUtf8 id → IsUtf8 ticket → IsUtf8 (path_with id ticket route)
unfolding lib.Utf8.encode
end_utf8 routes.Items id ticket u v = (codes "/items/", (refl, refl))
end_utf8 routes.Item id ticket u v = between (codes "/items/") id (codes "/") (codes "/items/", (refl, refl)) u (codes "/", (refl, refl))
end_utf8 routes.Variations id ticket u v = between (codes "/items/") id (codes "/variations/") (codes "/items/", (refl, refl)) u (codes "/variations/", (refl, refl))
end_utf8 routes.Quotas id ticket u v = (codes "/quotas/", (refl, refl))
end_utf8 routes.Quota id ticket u v = between (codes "/quotas/") id (codes "/") (codes "/quotas/", (refl, refl)) u (codes "/", (refl, refl))
end_utf8 routes.Availability id ticket u v = between (codes "/quotas/") id (codes "/availability/") (codes "/quotas/", (refl, refl)) u (codes "/availability/", (refl, refl))
end_utf8 routes.Vouchers id ticket u v = (codes "/vouchers/", (refl, refl))
end_utf8 routes.Voucher id ticket u v = between (codes "/vouchers/") id (codes "/") (codes "/vouchers/", (refl, refl)) u (codes "/", (refl, refl))
end_utf8 routes.CartPositions id ticket u v = (codes "/cartpositions/", (refl, refl))
end_utf8 routes.CartPosition id ticket u v = between (codes "/cartpositions/") id (codes "/") (codes "/cartpositions/", (refl, refl)) u (codes "/", (refl, refl))
end_utf8 routes.BulkCreate id ticket u v = (codes "/cartpositions/bulk_create/", (refl, refl))
end_utf8 routes.Orders id ticket u v = (codes "/orders/", (refl, refl))
end_utf8 routes.Order id ticket u v = between (codes "/orders/") id (codes "/") (codes "/orders/", (refl, refl)) u (codes "/", (refl, refl))
end_utf8 (routes.Move names.MarkPaid) id ticket u v = between (codes "/orders/") id (codes "/mark_paid/") (codes "/orders/", (refl, refl)) u (codes "/mark_paid/", (refl, refl))
end_utf8 (routes.Move names.MarkPending) id ticket u v = between (codes "/orders/") id (codes "/mark_pending/") (codes "/orders/", (refl, refl)) u (codes "/mark_pending/", (refl, refl))
end_utf8 (routes.Move names.MarkExpired) id ticket u v = between (codes "/orders/") id (codes "/mark_expired/") (codes "/orders/", (refl, refl)) u (codes "/mark_expired/", (refl, refl))
end_utf8 (routes.Move names.MarkCanceled) id ticket u v = between (codes "/orders/") id (codes "/mark_canceled/") (codes "/orders/", (refl, refl)) u (codes "/mark_canceled/", (refl, refl))
end_utf8 (routes.Move names.Extend) id ticket u v = between (codes "/orders/") id (codes "/extend/") (codes "/orders/", (refl, refl)) u (codes "/extend/", (refl, refl))
end_utf8 routes.WaitingEntries id ticket u v = (codes "/waitinglistentries/", (refl, refl))
end_utf8 routes.WaitingEntry id ticket u v = between (codes "/waitinglistentries/") id (codes "/") (codes "/waitinglistentries/", (refl, refl)) u (codes "/", (refl, refl))
end_utf8 routes.SendVoucher id ticket u v = between (codes "/waitinglistentries/") id (codes "/send_voucher/") (codes "/waitinglistentries/", (refl, refl)) u (codes "/send_voucher/", (refl, refl))
end_utf8 routes.Periodic id ticket u v = (codes "/periodic/", (refl, refl))
end_utf8 routes.CheckinLists id ticket u v = (codes "/checkinlists/", (refl, refl))
end_utf8 routes.CheckinList id ticket u v = between (codes "/checkinlists/") id (codes "/") (codes "/checkinlists/", (refl, refl)) u (codes "/", (refl, refl))
end_utf8 routes.Status id ticket u v = between (codes "/checkinlists/") id (codes "/status/") (codes "/checkinlists/", (refl, refl)) u (codes "/status/", (refl, refl))
end_utf8 routes.Tickets id ticket u v = between (codes "/checkinlists/") id (codes "/positions/") (codes "/checkinlists/", (refl, refl)) u (codes "/positions/", (refl, refl))
end_utf8 routes.Redeem id ticket u v =
    between (codes "/checkinlists/") id (codes "/positions/" ++ ticket ++ codes "/redeem/") (codes "/checkinlists/", (refl, refl)) u
    (between (codes "/positions/") ticket (codes "/redeem/") (codes "/positions/", (refl, refl)) v (codes "/redeem/", (refl, refl)))

pub path_route : (route : Route) (id ticket : List ℕ) → IsName id → IsSegment ticket → route_of (path_with id ticket route) ≡ Some route
unfolding route_of
path_route route id ticket n s =
    let u : is_utf8 (path_with id ticket route) ≡ true = is_utf8-from_IsUtf8 (path_with id ticket route) (end_utf8 route id ticket n.segment.utf8 s.utf8) in
    rw (u, all_written) (sought route id ticket n s)

-- a path that isn't found has no route
pub none_sought : (path : List ℕ) → route_found (first written path) ≡ None → route_of path ≡ None
unfolding route_of
none_sought path e = elim (is_utf8 path) as (λ b. cond b (route_found (first all_routes path)) None ≡ None) [ true ↦ rw all_written e | false ↦ refl ]
