use Rattle.std.proofs.Common.{◌≡◌, inl, inr, sym, subst}
use Rattle.sqlite.specs.Effect.{IsDatabase}
use Rattle.sqlite.specs.Held.{state}
use Rattle.base_values.specs.Slugs.{IsSlug}
use Rattle.file_schema.specs.Tables.{this_version}
use Rattle.file_rows.specs.declared.rows.ShopRow.{ShopRow}
use Rattle.file_scan.specs.Read.{tables_of}
use Rattle.file_scan.proofs.FitLemmas.{of_readable}
use Rattle.file_scan.proofs.ReadLemmas.{if_ok, if_err, on_ok}
use Rattle.file_scan.proofs.SameLemmas.{file_of}
use Rattle.file_scan.proofs.Stays.{stays_same}
use Rattle.file_scan.proofs.Stopping.{closed_always, closed_so}
use Rattle.file_meaning.specs.Typed.{AreBelowNext, IsTypedShop}
use Rattle.file_open.proofs.Least.{reason, unread, clear}
use Rattle.file_open.proofs.Refused.{is_opened, both_on, on_three}
use Rattle.file_open.proofs.Fitting.{typed_read}
use Rattle.file_open.proofs.Undamaged.{undamaged}
use Rattle.file_open.proofs.reopening.reopen.Goals as goal

pub returns-in-Ok-clause-opened : goal.returns-in-Ok-clause-opened
returns-in-Ok-clause-opened g c clean db at known =
    let old = state g.S.Store c.args.connection.now in
    let new = state g.S.Store c.read_outside.new.connection in
    let t = tables_of c.in-Ok.file in
    let held = c.in-Ok.ensures.held clean db at known in
    let same = c.in-Ok.ensures.same clean in
    both_on c.open_rows.result _ _ _ c.open_rows.ensures.head c.open_rows.ensures.held c.open_rows.ensures.numbered
    (λ it is of numbered.
    let mine = of t (file_of db.trees t c.in-Ok.file held held) in
    let typed = subst (λ (h : ShopRow). IsTypedShop h t) (sym is) (typed_read c.in-Ok.file c.in-Ok.ensures.version c.in-Ok.ensures.limits numbered) in
    let listed = subst IsDatabase at.now (c.schema_known.ensures at.is_open).0 in
    is_opened t it.head it.next_row (g.B.Book.state it.book) old new (λ left is_open may. g.met.S.Store.settled c.read_outside.new.connection.store left is_open may) same.0.is_open c.in-Ok.ensures.outside (stays_same old new same) db
    (record { now = at.now; committed = at.committed }) known listed held mine.0 (λ u also. (of u (file_of db.trees u c.in-Ok.file also held)).1) mine.2 typed)

pub returns-in-Ok-clause-version : goal.returns-in-Ok-clause-version
returns-in-Ok-clause-version g c = if_ok c.open_rows.result _ _ c.open_rows.ensures.head (λ it is. subst (λ (h : ShopRow). h.version ≡ this_version) (sym is) c.in-Ok.ensures.version)

pub returns-in-Ok-clause-found : goal.returns-in-Ok-clause-found
returns-in-Ok-clause-found g c clean db at = on_ok c.open_rows.result _ _ c.open_rows.ensures.head (λ it is. c.in-Ok.ensures.found clean db at)

pub returns-in-Ok-clause-whole : goal.returns-in-Ok-clause-whole
returns-in-Ok-clause-whole g c clean db at known =
    let t = tables_of c.in-Ok.file in
    let held = c.in-Ok.ensures.held clean db at known in
    on_three c.open_rows.result _ _ _ _ _ c.open_rows.ensures.head c.open_rows.ensures.sound c.open_rows.ensures.held c.open_rows.ensures.numbered
    (λ it is sound of numbered.
    let stand = (of t (file_of db.trees t c.in-Ok.file held held)).0 in
    let organizer = subst (λ (h : ShopRow). IsSlug h.organizer) (sym is) c.in-Ok.ensures.limits.shop.organizer in
    let event = subst (λ (h : ShopRow). IsSlug h.event) (sym is) c.in-Ok.ensures.limits.shop.event in
    clear db known (of_readable db known (c.in-Ok.ensures.found clean db at)) (undamaged it.head t (g.B.Book.state it.book) _ stand db.trees held (subst (λ (h : ShopRow). AreBelowNext h t.tokens) (sym is) numbered) organizer event sound))

pub returns-in-Ok-clause-cause : goal.returns-in-Ok-clause-cause
returns-in-Ok-clause-cause g c clean db at =
    if_err c.open_rows.result _ _ c.open_rows.ensures.refused (λ e why. reason db c.in-Ok.file (c.in-Ok.ensures.found clean db at) (λ known. c.in-Ok.ensures.held clean db at known) e why)

pub returns-in-Err-clause-cause : goal.returns-in-Err-clause-cause
returns-in-Err-clause-cause g c clean db at = unread db c.in-Err.error (c.in-Err.ensures.cause clean db at)

pub returns-in-Ok-clause-store : goal.returns-in-Ok-clause-store
returns-in-Ok-clause-store g c clean db at known = closed_always c.open_rows.result _ (inr (inr (c.in-Ok.ensures.found clean db at)))

pub returns-in-Err-clause-store : goal.returns-in-Err-clause-store
returns-in-Err-clause-store g c clean db at known = closed_so c.in-Err.error _ _ (c.in-Err.ensures.store clean db at known) (λ why. elim why [ inl inside ↦ inl inside | inr stopped ↦ inr (inl stopped) ])

pub returns-in-Ok-clause-same : goal.returns-in-Ok-clause-same
returns-in-Ok-clause-same g c clean = on_ok c.open_rows.result _ _ c.open_rows.ensures.head (λ it is. c.in-Ok.ensures.same clean)
