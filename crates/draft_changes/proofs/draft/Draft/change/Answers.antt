use Rattle.std.proofs.Common.{◌≡◌, ◌≤◌, true, List, [], ◌∷◌, ◌++◌, length, OnErr, Result, Ok, Err, sym, ap, ◌∙◌, subst, arith}
use Rattle.std.specs.Result.{is_err}
use Rattle.model_catalogue.specs.declared.rows.Quota.{Quota}
use Rattle.model_catalogue.specs.CatalogueLists.{CatalogueLists}
use Rattle.model_rows.specs.Lists.{Lists}
use Rattle.model_rows.specs.Change.{change_applied}
use Rattle.draft_counts.specs.Logs.{Log, rows_of}
use Rattle.draft_counts.proofs.Logs.{when_ok}
use Rattle.draft_counts.specs.Tallied.{IsNext}
use Rattle.draft_changes.specs.CanCome.{CanCome}
use Rattle.draft_changes.specs.DraftState.{DraftState, IsDraft, now}
use Rattle.draft_changes.proofs.Extensions.{now-with_change}
use Rattle.draft_counts.specs.Tallied.{Tallied, tallied_at}
use Rattle.draft_changes.specs.Handed.{vouchers_by}
use Rattle.draft_changes.proofs.HandedLemmas.{noted_still}
use Rattle.draft_changes.proofs.Reaches.{draft_more, draft_noted, tallied_more, tallied_before, tallied_whole, reach_within, uses_within}
use Rattle.draft_changes.proofs.draft.Draft.change.Goals as goal

-- what holds of a refusal
when_err : {A E : Type 0} (P : Type 0) (r : Result A E) → is_err r ≡ true → OnErr r P → P
when_err P (Ok x) e h = absurd (cc e)
when_err P (Err x) e h = h

pub invariant_of-self-in_err-count : goal.invariant_of-self-in_err-count
invariant_of-self-in_err-count g c =
    let inside = c.self.inside in
    let log = inside.overlay in
    let book = g.B.Book.state inside.book.now in
    let noted = noted_still log.changes inside.noted.items (vouchers_by c.args.change) c.note_voucher.new.noted.items c.in_ok-note_voucher.ensures.ok c.self.invariant.each_noted in
    subst (λ (t : Tallied). IsDraft book log inside.moment t inside.bases.items c.note_voucher.new.noted.items) (sym c.in_err-count.ensures.err)
    (draft_noted book log inside.moment inside.tallies inside.bases.items inside.noted.items c.self.invariant c.note_voucher.new.noted.items noted)

pub invariant_of-self-then-is_err : goal.invariant_of-self-then-is_err
invariant_of-self-then-is_err g c =
    let inside = c.self.inside in
    let is = c.self.invariant in
    let log = inside.overlay in
    let at = inside.moment in
    let t = inside.tallies in
    let new = c.count.new.self in
    let n = c.len-count.result in
    let book = g.B.Book.state inside.book.now in
    let next = c.in_ok-count.ensures.ok in
    let noted = noted_still log.changes inside.noted.items (vouchers_by c.args.change) c.note_voucher.new.noted.items c.in_ok-note_voucher.ensures.ok is.each_noted in
    let all : n ≡ length log.changes = c.len-count.ensures.value in
    let few : n ≤ length log.changes = omega (arith, all) in
    let back : tallied_at n new ≡ t =
    tallied_before t new next.counts.on next.uses.on next.reached n (omega (arith, all, is.now.each)) (reach_within book log at t inside.bases.items inside.noted.items is n few) (uses_within book log at t inside.bases.items inside.noted.items is n few)
    ∙ tallied_whole n t (omega (arith, all, is.now.each)) in
    let same : c.push.new.self ≡ log = when_err _ c.push.result (sym c.is_err.ensures.value ∙ c.if-is_err.true) c.push.ensures.err in
    subst (λ (l : Log). IsDraft book l at c.truncate.new.self inside.bases.items c.note_voucher.new.noted.items) (sym same)
    (subst (λ (u : Tallied). IsDraft book log at u inside.bases.items c.note_voucher.new.noted.items) (sym (c.truncate.ensures ∙ back))
    (draft_noted book log at t inside.bases.items inside.noted.items is c.note_voucher.new.noted.items noted))

pub invariant_of-self-2 : goal.invariant_of-self-2
invariant_of-self-2 g c =
    let inside = c.self.inside in
    let before = c.self.invariant in
    let log = inside.overlay in
    let at = inside.moment in
    let book = g.B.Book.state inside.book.now in
    let new = c.count.new.self in
    let change = c.args.change in
    let next = c.in_ok-count.ensures.ok in
    let can : CanCome at log change = subst (λ (d : DraftState). CanCome d.moment d.log change) (sym c.self.view_is) c.requires in
    let pushed : c.push.new.self ≡ record log { changes = log.changes ++ change ∷ [] } = when_ok _ c.push.result (sym c.is_err.ensures.value ∙ c.if-is_err.false) c.push.ensures.ok in
    let quotas : c.catalogue-catalogue.result.now.lists.quotas ≡ log.base.catalogue.quotas = ap (λ (catalogue : CatalogueLists). catalogue.quotas) c.catalogue-catalogue.ensures ∙ ap (λ (l : Lists). l.catalogue.quotas) (sym before.base) in
    let counted = subst (λ (qs : List Quota). IsNext at change (rows_of log) qs inside.tallies new) quotas next in
    subst (λ (l : Log). IsDraft book l at new c.ask_bases.new.bases.items c.note_voucher.new.noted.items) (sym pushed)
    (draft_more book log at inside.tallies inside.bases.items inside.noted.items before change new c.ask_bases.new.bases.items c.note_voucher.new.noted.items c.in_ok-note_voucher.ensures.ok
    (tallied_more at log change inside.tallies new c.recall_invariant.ensures.kept can before.now counted)
    counted.counts.on counted.uses.on counted.reached c.ask_bases.ensures)

pub returns-clause-ok : goal.returns-clause-ok
returns-clause-ok g c =
    let inside = c.self.inside in
    let draft : DraftState = record { log = inside.overlay; next = inside.next; moment = inside.moment } in
    ap (λ (log : Log). now (record { log = log; next = inside.next; moment = inside.moment })) (when_ok _ c.push.result (sym c.is_err.ensures.value ∙ c.if-is_err.false) c.push.ensures.ok)
    ∙ now-with_change draft c.args.change
    ∙ ap (λ (d : DraftState). change_applied c.args.change (now d)) c.self.view_is
