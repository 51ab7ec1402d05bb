-- What the target of a path in a shop names, and the page that it asks for.
use Rattle.std.proofs.Common.{◌≡◌, ℕ, ◌<◌, ◌==◌, List, [], ◌∷◌, ◌++◌, length, Some, None, Bool, true, false, cond, nat_lt, refl, ap, ◌∙◌, arith, codes, All, bytes_eq, slice_get, not}
use Rattle.std.specs.List.{prefix_len}
use Rattle.std.proofs.lemmas.List.{append_assoc, length-append}
use Rattle.std.proofs.lemmas.List.Folds.{list_any-append}
use Rattle.std.proofs.lemmas.List.Elements.{All-nil, All-cons}
use Rattle.std.proofs.lemmas.List.Splits.{slice_split_at}
use Rattle.std.proofs.lemmas.Slice.Eq.{bytes_eq-Decides}
use Rattle.std.proofs.lemmas.Bool.Decides.{nat_tests}
use Rattle.std.proofs.Math.Seq.{take-append_seam, drop-append_seam, drop-append-add}
use Rattle.web_api.specs.declared.routes.Route.{Route}
use Rattle.web_api.specs.declared.routes.Route.TheVariants as routes
use Rattle.web_bodies.specs.declared.form.MoveName.TheVariants as names
use Rattle.web_api.specs.Table.{IsName, IsSegment, has, path_with}
use Rattle.web_api.specs.Path.{after, within, path_of, query_of, mark_of, up_to, behind, segment, target_by, target_of, ticket_named, in_shop}
use Rattle.web_api.proofs.RoutePaths.{path_route}

mark_step : (c x : ℕ) (xs : List ℕ) (v : Bool) → (x == c) ≡ v → has c (x ∷ xs) ≡ false
    → (has c xs ≡ false → prefix_len (λ b. not (b == c)) xs ≡ length xs) → prefix_len (λ b. not (b == c)) (x ∷ xs) ≡ length (x ∷ xs)
mark_step c x xs true e h again = let t : has c (x ∷ xs) ≡ true = rw e refl in cc
mark_step c x xs false e h again = let n : has c xs ≡ false = rw e at h in rw e (let l = again n in omega arith)

here_step : (c x : ℕ) (xs ys : List ℕ) (v : Bool) → (x == c) ≡ v → has c (x ∷ xs) ≡ false
    → (has c xs ≡ false → prefix_len (λ b. not (b == c)) (xs ++ c ∷ ys) ≡ length xs) → prefix_len (λ b. not (b == c)) (x ∷ (xs ++ c ∷ ys)) ≡ length (x ∷ xs)
here_step c x xs ys true e h again = let t : has c (x ∷ xs) ≡ true = rw e refl in cc
here_step c x xs ys false e h again = let n : has c xs ≡ false = rw e at h in rw e (let l = again n in omega arith)

-- no byte of its kind is among the first
before_mark : (c : ℕ) (xs : List ℕ) → has c xs ≡ false → prefix_len (λ b. not (b == c)) xs ≡ length xs
before_mark c [] h = refl
before_mark c (x ∷ xs) h = mark_step c x xs (x == c) refl h (λ n. before_mark c xs n)

mark_here : (c : ℕ) (xs ys : List ℕ) → has c xs ≡ false → prefix_len (λ b. not (b == c)) (xs ++ c ∷ ys) ≡ length xs
mark_here c [] ys h = let e : (c == c) ≡ true = grind (arith, nat_tests) in rw e refl
mark_here c (x ∷ xs) ys h = here_step c x xs ys (x == c) refl h (λ n. mark_here c xs ys n)

path_alone : (path : List ℕ) → has 63 path ≡ false → path_of path ≡ path
path_alone path h =
    let e : nat_lt (prefix_len (λ b. not (b == 63)) path) (length path) ≡ false = let l = before_mark 63 path h in grind (arith, nat_tests) in
    ap (λ v. up_to path (cond v (Some (prefix_len (λ b. not (b == 63)) path)) None)) e

marked : (path query : List ℕ) → has 63 path ≡ false → mark_of (path ++ 63 ∷ query) ≡ Some (length path)
marked path query h =
    let l : prefix_len (λ b. not (b == 63)) (path ++ 63 ∷ query) ≡ length path = mark_here 63 path query h in
    let e : nat_lt (prefix_len (λ b. not (b == 63)) (path ++ 63 ∷ query)) (length (path ++ 63 ∷ query)) ≡ true = grind (arith, nat_tests, length-append path (63 ∷ query)) in
    ap (λ v. cond v (Some (prefix_len (λ b. not (b == 63)) (path ++ 63 ∷ query))) None) e ∙ ap Some l

path_before : (path query : List ℕ) → has 63 path ≡ false → path_of (path ++ 63 ∷ query) ≡ path
path_before path query h = ap (up_to (path ++ 63 ∷ query)) (marked path query h) ∙ take-append_seam path (63 ∷ query)

pub query_behind : (path query : List ℕ) → has 63 path ≡ false → query_of (path ++ 63 ∷ query) ≡ query
query_behind path query h = ap (behind (path ++ 63 ∷ query)) (marked path query h) ∙ drop-append-add path (63 ∷ query) 1

pub has_append : (c : ℕ) (xs ys : List ℕ) → has c xs ≡ false → has c ys ≡ false → has c (xs ++ ys) ≡ false
has_append c xs ys a b = list_any-append (λ x. x == c) xs ys ∙ rw (a, b) refl

after_front : (front rest : List ℕ) → after front (front ++ rest) ≡ Some rest
after_front front rest =
    let same : bytes_eq front front ≡ true = (bytes_eq-Decides front front).1 refl in
    rw (take-append_seam front rest, same, drop-append_seam front rest) refl

shop_grouped : (organizer event path : List ℕ) → in_shop organizer event path ≡ codes "/api/v1/organizers/" ++ (organizer ++ (codes "/events/" ++ (event ++ path)))
shop_grouped organizer event path = simp (append_assoc {A = ℕ}) refl

within_grouped : (organizer event path : List ℕ) → within organizer event (codes "/api/v1/organizers/" ++ (organizer ++ (codes "/events/" ++ (event ++ path)))) ≡ Some path
unfolding within
within_grouped organizer event path = rw (after_front organizer (codes "/events/" ++ (event ++ path)), after_front event path) refl

within_shop : (organizer event path : List ℕ) → within organizer event (in_shop organizer event path) ≡ Some path
within_shop organizer event path = ap (within organizer event) (shop_grouped organizer event path) ∙ within_grouped organizer event path

slash_step : (b : ℕ) (text : List ℕ) (v : Bool) → (b == 47) ≡ v → has 47 (b ∷ text) ≡ false
    → (has 47 text ≡ false → All (λ x. (x == 47) ≡ false) text) → All (λ x. (x == 47) ≡ false) (b ∷ text)
slash_step b text true e h again = let t : has 47 (b ∷ text) ≡ true = rw e refl in cc
slash_step b text false e h again = let n : has 47 text ≡ false = rw e at h in All-cons (λ x. (x == 47) ≡ false) b text e (again n)

no_slash : (text : List ℕ) → has 47 text ≡ false → All (λ x. (x == 47) ≡ false) text
no_slash [] h = All-nil (λ x. (x == 47) ≡ false)
no_slash (b ∷ text) h = slash_step b text (b == 47) refl h (λ n. no_slash text n)

-- the text between the second slash and the third
second : (front id rest : List ℕ) → has 47 front ≡ false → has 47 id ≡ false → segment 2 (47 ∷ (front ++ 47 ∷ (id ++ 47 ∷ rest))) ≡ Some id
second front id rest f i =
    ap (λ (parts : List (List ℕ)). slice_get parts 1) (slice_split_at (λ b. b == 47) front 47 (id ++ 47 ∷ rest) (no_slash front f) refl)
    ∙ ap (λ (parts : List (List ℕ)). slice_get parts 0) (slice_split_at (λ b. b == 47) id 47 rest (no_slash id i) refl)

-- the text between the fourth slash and the fifth
fourth : (front id mid ticket rest : List ℕ) → has 47 front ≡ false → has 47 id ≡ false → has 47 mid ≡ false → has 47 ticket ≡ false
    → segment 4 (47 ∷ (front ++ 47 ∷ (id ++ 47 ∷ (mid ++ 47 ∷ (ticket ++ 47 ∷ rest))))) ≡ Some ticket
fourth front id mid ticket rest f i m t =
    ap (λ (parts : List (List ℕ)). slice_get parts 3) (slice_split_at (λ b. b == 47) front 47 (id ++ 47 ∷ (mid ++ 47 ∷ (ticket ++ 47 ∷ rest))) (no_slash front f) refl)
    ∙ ap (λ (parts : List (List ℕ)). slice_get parts 2) (slice_split_at (λ b. b == 47) id 47 (mid ++ 47 ∷ (ticket ++ 47 ∷ rest)) (no_slash id i) refl)
    ∙ ap (λ (parts : List (List ℕ)). slice_get parts 1) (slice_split_at (λ b. b == 47) mid 47 (ticket ++ 47 ∷ rest) (no_slash mid m) refl)
    ∙ ap (λ (parts : List (List ℕ)). slice_get parts 0) (slice_split_at (λ b. b == 47) ticket 47 rest (no_slash ticket t) refl)

-- what stands in the place of the ticket is what a scan reads
ticket_read : (id ticket : List ℕ) → IsName id → IsSegment ticket → segment 4 (path_with id ticket routes.Redeem) ≡ Some ticket
ticket_read id ticket n s = fourth (codes "checkinlists") id (codes "positions") ticket (codes "redeem/") refl n.segment.slash refl s.slash

-- what stands in the place of the id is what the route reads
place_read : (route : Route) (id ticket : List ℕ) → IsName id → target_by (segment 2 (path_with id ticket route)) route ≡ target_by (Some id) route
place_read routes.Items id ticket n = refl
place_read routes.Quotas id ticket n = refl
place_read routes.Vouchers id ticket n = refl
place_read routes.CartPositions id ticket n = refl
place_read routes.BulkCreate id ticket n = refl
place_read routes.Orders id ticket n = refl
place_read routes.Item (b ∷ id) ticket n = ap (λ text. target_by text routes.Item) (second (codes "items") (b ∷ id) [] refl n.segment.slash)
place_read routes.Variations (b ∷ id) ticket n = ap (λ text. target_by text routes.Variations) (second (codes "items") (b ∷ id) (codes "variations/") refl n.segment.slash)
place_read routes.Quota (b ∷ id) ticket n = ap (λ text. target_by text routes.Quota) (second (codes "quotas") (b ∷ id) [] refl n.segment.slash)
place_read routes.Availability (b ∷ id) ticket n = ap (λ text. target_by text routes.Availability) (second (codes "quotas") (b ∷ id) (codes "availability/") refl n.segment.slash)
place_read routes.Voucher (b ∷ id) ticket n = ap (λ text. target_by text routes.Voucher) (second (codes "vouchers") (b ∷ id) [] refl n.segment.slash)
place_read routes.CartPosition (b ∷ id) ticket n = ap (λ text. target_by text routes.CartPosition) (second (codes "cartpositions") (b ∷ id) [] refl n.segment.slash)
place_read routes.Order (b ∷ id) ticket n = ap (λ text. target_by text routes.Order) (second (codes "orders") (b ∷ id) [] refl n.segment.slash)
place_read (routes.Move names.MarkPaid) (b ∷ id) ticket n = ap (λ text. target_by text (routes.Move names.MarkPaid)) (second (codes "orders") (b ∷ id) (codes "mark_paid/") refl n.segment.slash)
place_read (routes.Move names.MarkPending) (b ∷ id) ticket n = ap (λ text. target_by text (routes.Move names.MarkPending)) (second (codes "orders") (b ∷ id) (codes "mark_pending/") refl n.segment.slash)
place_read (routes.Move names.MarkExpired) (b ∷ id) ticket n = ap (λ text. target_by text (routes.Move names.MarkExpired)) (second (codes "orders") (b ∷ id) (codes "mark_expired/") refl n.segment.slash)
place_read (routes.Move names.MarkCanceled) (b ∷ id) ticket n = ap (λ text. target_by text (routes.Move names.MarkCanceled)) (second (codes "orders") (b ∷ id) (codes "mark_canceled/") refl n.segment.slash)
place_read (routes.Move names.Extend) (b ∷ id) ticket n = ap (λ text. target_by text (routes.Move names.Extend)) (second (codes "orders") (b ∷ id) (codes "extend/") refl n.segment.slash)
place_read routes.WaitingEntries id ticket n = refl
place_read routes.Periodic id ticket n = refl
place_read routes.CheckinLists id ticket n = refl
place_read routes.WaitingEntry (b ∷ id) ticket n = ap (λ text. target_by text routes.WaitingEntry) (second (codes "waitinglistentries") (b ∷ id) [] refl n.segment.slash)
place_read routes.SendVoucher (b ∷ id) ticket n = ap (λ text. target_by text routes.SendVoucher) (second (codes "waitinglistentries") (b ∷ id) (codes "send_voucher/") refl n.segment.slash)
place_read routes.CheckinList (b ∷ id) ticket n = ap (λ text. target_by text routes.CheckinList) (second (codes "checkinlists") (b ∷ id) [] refl n.segment.slash)
place_read routes.Status (b ∷ id) ticket n = ap (λ text. target_by text routes.Status) (second (codes "checkinlists") (b ∷ id) (codes "status/") refl n.segment.slash)
place_read routes.Tickets (b ∷ id) ticket n = ap (λ text. target_by text routes.Tickets) (second (codes "checkinlists") (b ∷ id) (codes "positions/") refl n.segment.slash)
place_read routes.Redeem (b ∷ id) ticket n = ap (λ text. target_by text routes.Redeem) (second (codes "checkinlists") (b ∷ id) (codes "positions/" ++ ticket ++ codes "/redeem/") refl n.segment.slash)
place_read _ [] ticket n = let some : 0 < 0 = n.segment.some in absurd (omega arith)

no_mark_between : (front id back : List ℕ) → has 63 front ≡ false → has 63 id ≡ false → has 63 back ≡ false → has 63 (front ++ id ++ back) ≡ false
no_mark_between front id back f i b = has_append 63 (front ++ id) back (has_append 63 front id f i) b

-- no path of the table has a question mark
path_unmarked : (route : Route) (id ticket : List ℕ) → has 63 id ≡ false → has 63 ticket ≡ false → has 63 (path_with id ticket route) ≡ false
path_unmarked routes.Items id ticket m k = refl
path_unmarked routes.Item id ticket m k = no_mark_between (codes "/items/") id (codes "/") refl m refl
path_unmarked routes.Variations id ticket m k = no_mark_between (codes "/items/") id (codes "/variations/") refl m refl
path_unmarked routes.Quotas id ticket m k = refl
path_unmarked routes.Quota id ticket m k = no_mark_between (codes "/quotas/") id (codes "/") refl m refl
path_unmarked routes.Availability id ticket m k = no_mark_between (codes "/quotas/") id (codes "/availability/") refl m refl
path_unmarked routes.Vouchers id ticket m k = refl
path_unmarked routes.Voucher id ticket m k = no_mark_between (codes "/vouchers/") id (codes "/") refl m refl
path_unmarked routes.CartPositions id ticket m k = refl
path_unmarked routes.CartPosition id ticket m k = no_mark_between (codes "/cartpositions/") id (codes "/") refl m refl
path_unmarked routes.BulkCreate id ticket m k = refl
path_unmarked routes.Orders id ticket m k = refl
path_unmarked routes.Order id ticket m k = no_mark_between (codes "/orders/") id (codes "/") refl m refl
path_unmarked (routes.Move names.MarkPaid) id ticket m k = no_mark_between (codes "/orders/") id (codes "/mark_paid/") refl m refl
path_unmarked (routes.Move names.MarkPending) id ticket m k = no_mark_between (codes "/orders/") id (codes "/mark_pending/") refl m refl
path_unmarked (routes.Move names.MarkExpired) id ticket m k = no_mark_between (codes "/orders/") id (codes "/mark_expired/") refl m refl
path_unmarked (routes.Move names.MarkCanceled) id ticket m k = no_mark_between (codes "/orders/") id (codes "/mark_canceled/") refl m refl
path_unmarked (routes.Move names.Extend) id ticket m k = no_mark_between (codes "/orders/") id (codes "/extend/") refl m refl
path_unmarked routes.WaitingEntries id ticket m k = refl
path_unmarked routes.WaitingEntry id ticket m k = no_mark_between (codes "/waitinglistentries/") id (codes "/") refl m refl
path_unmarked routes.SendVoucher id ticket m k = no_mark_between (codes "/waitinglistentries/") id (codes "/send_voucher/") refl m refl
path_unmarked routes.Periodic id ticket m k = refl
path_unmarked routes.CheckinLists id ticket m k = refl
path_unmarked routes.CheckinList id ticket m k = no_mark_between (codes "/checkinlists/") id (codes "/") refl m refl
path_unmarked routes.Status id ticket m k = no_mark_between (codes "/checkinlists/") id (codes "/status/") refl m refl
path_unmarked routes.Tickets id ticket m k = no_mark_between (codes "/checkinlists/") id (codes "/positions/") refl m refl
path_unmarked routes.Redeem id ticket m k =
    no_mark_between (codes "/checkinlists/") id (codes "/positions/" ++ ticket ++ codes "/redeem/") refl m (no_mark_between (codes "/positions/") ticket (codes "/redeem/") refl k refl)

-- no target of a shop has a question mark in front of its query
pub shop_unmarked : (organizer event path : List ℕ) → has 63 organizer ≡ false → has 63 event ≡ false → has 63 path ≡ false → has 63 (in_shop organizer event path) ≡ false
shop_unmarked organizer event path o e p =
    has_append 63 (codes "/api/v1/organizers/" ++ organizer ++ codes "/events/" ++ event) path
    (has_append 63 (codes "/api/v1/organizers/" ++ organizer ++ codes "/events/") event
    (has_append 63 (codes "/api/v1/organizers/" ++ organizer) (codes "/events/") (has_append 63 (codes "/api/v1/organizers/") organizer refl o) refl) e) p

-- what the path of a target names is what the target names
target_by_path : (organizer event target : List ℕ) (route : Route) (id ticket : List ℕ) → IsName id → IsSegment ticket
    → path_of target ≡ in_shop organizer event (path_with id ticket route) → target_of organizer event target ≡ target_by (Some id) route
unfolding target_of
target_by_path organizer event target route id ticket n s p =
    rw (p, within_shop organizer event (path_with id ticket route), path_route route id ticket n s) (place_read route id ticket n)

ticket_by_path : (organizer event target id ticket : List ℕ) → IsName id → IsSegment ticket
    → path_of target ≡ in_shop organizer event (path_with id ticket routes.Redeem) → ticket_named organizer event target ≡ Some ticket
unfolding ticket_named
ticket_by_path organizer event target id ticket n s p =
    rw (p, within_shop organizer event (path_with id ticket routes.Redeem)) (ticket_read id ticket n s)

-- the path of a target alone, and of one with a query
alone : (organizer event id ticket : List ℕ) (route : Route) → IsName id → IsSegment ticket → has 63 organizer ≡ false → has 63 event ≡ false
    → path_of (in_shop organizer event (path_with id ticket route)) ≡ in_shop organizer event (path_with id ticket route)
alone organizer event id ticket route n s o e =
    path_alone (in_shop organizer event (path_with id ticket route))
    (shop_unmarked organizer event (path_with id ticket route) o e (path_unmarked route id ticket n.segment.mark s.mark))

with_query : (organizer event id ticket query : List ℕ) (route : Route) → IsName id → IsSegment ticket → has 63 organizer ≡ false → has 63 event ≡ false
    → path_of (in_shop organizer event (path_with id ticket route) ++ 63 ∷ query) ≡ in_shop organizer event (path_with id ticket route)
with_query organizer event id ticket query route n s o e =
    path_before (in_shop organizer event (path_with id ticket route)) query
    (shop_unmarked organizer event (path_with id ticket route) o e (path_unmarked route id ticket n.segment.mark s.mark))

pub named_alone : (organizer event id ticket : List ℕ) (route : Route) → IsName id → IsSegment ticket → has 63 organizer ≡ false → has 63 event ≡ false
    → target_of organizer event (in_shop organizer event (path_with id ticket route)) ≡ target_by (Some id) route
named_alone organizer event id ticket route n s o e =
    target_by_path organizer event (in_shop organizer event (path_with id ticket route)) route id ticket n s (alone organizer event id ticket route n s o e)

pub named_with_query : (organizer event id ticket query : List ℕ) (route : Route) → IsName id → IsSegment ticket → has 63 organizer ≡ false → has 63 event ≡ false
    → target_of organizer event (in_shop organizer event (path_with id ticket route) ++ 63 ∷ query) ≡ target_by (Some id) route
named_with_query organizer event id ticket query route n s o e =
    target_by_path organizer event (in_shop organizer event (path_with id ticket route) ++ 63 ∷ query) route id ticket n s
    (with_query organizer event id ticket query route n s o e)

pub ticket_alone : (organizer event id ticket : List ℕ) → IsName id → IsSegment ticket → has 63 organizer ≡ false → has 63 event ≡ false
    → ticket_named organizer event (in_shop organizer event (path_with id ticket routes.Redeem)) ≡ Some ticket
ticket_alone organizer event id ticket n s o e =
    ticket_by_path organizer event (in_shop organizer event (path_with id ticket routes.Redeem)) id ticket n s (alone organizer event id ticket routes.Redeem n s o e)

pub ticket_with_query : (organizer event id ticket query : List ℕ) → IsName id → IsSegment ticket → has 63 organizer ≡ false → has 63 event ≡ false
    → ticket_named organizer event (in_shop organizer event (path_with id ticket routes.Redeem) ++ 63 ∷ query) ≡ Some ticket
ticket_with_query organizer event id ticket query n s o e =
    ticket_by_path organizer event (in_shop organizer event (path_with id ticket routes.Redeem) ++ 63 ∷ query) id ticket n s
    (with_query organizer event id ticket query routes.Redeem n s o e)
