use Rattle.std.proofs.Common.{◌≤◌, length, take, sym, ap, subst, arith}
use Rattle.draft_counts.specs.Logs.{Log}
use Rattle.draft_counts.specs.Tallied.{Tallied}
use Rattle.draft_changes.specs.DraftState.{DraftState, MarkState, IsDraft}
use Rattle.draft_changes.proofs.Reaches.{draft_back}
use Rattle.draft_changes.proofs.draft.Draft.back_to.Goals as goal

pub invariant_of-self : goal.invariant_of-self
invariant_of-self g c =
    let inside = c.self.inside in
    let book = g.B.Book.state inside.book.now in
    let n = c.mark.inside.count in
    let within : n ≤ length inside.overlay.changes = omega (arith, c.requires.within, ap (λ (m : MarkState). m.count) c.mark.view_is, ap (λ (d : DraftState). length d.log.changes) c.self.view_is) in
    subst (λ (log : Log). IsDraft book log inside.moment c.truncate-2.new.self inside.bases.items inside.noted.items) (sym c.truncate.ensures)
    (subst (λ (t : Tallied). IsDraft book (record inside.overlay { changes = take n inside.overlay.changes }) inside.moment t inside.bases.items inside.noted.items) (sym c.truncate-2.ensures)
    (draft_back book inside.overlay inside.moment inside.tallies inside.bases.items inside.noted.items c.self.invariant n within))
