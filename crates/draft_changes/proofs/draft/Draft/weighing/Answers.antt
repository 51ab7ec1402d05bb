use Rattle.std.proofs.Common.{◌≡◌, ◌≤◌, List, length, take, sym, ap, ◌∙◌, subst, arith}
use Rattle.model_catalogue.specs.CatalogueLists.{CatalogueLists}
use Rattle.model_rows.specs.Lists.{Lists}
use Rattle.model_rows.specs.declared.rows.Usage.{Usage}
use Rattle.book_tally.specs.declared.tally.Count.{Count}
use Rattle.draft_counts.specs.declared.tallies.JournalMark.{JournalMark}
use Rattle.draft_counts.specs.Tallied.{reach_at}
use Rattle.draft_changes.specs.declared.bases.Base.{Base}
use Rattle.draft_changes.specs.DraftState.{DraftState, MarkState, IsTotalled, log_at}
use Rattle.draft_changes.specs.Used.{AreBases}
use Rattle.draft_changes.proofs.Still.{totalled}
use Rattle.draft_changes.proofs.Reaches.{reach_within, tallied_upto}
use Rattle.draft_changes.proofs.draft.Draft.weighing.Goals as goal

pub invariant_of-result : goal.invariant_of-result
invariant_of-result g c =
    let inside = c.self.inside in
    let is = c.self.invariant in
    let book = g.B.Book.state inside.book.now in
    let log = inside.overlay in
    let tallies = inside.tallies in
    let n = c.mark.inside.count in
    let within : n ≤ length log.changes = omega (arith, c.requires.within, ap (λ (m : MarkState). m.count) c.mark.view_is, ap (λ (d : DraftState). length d.log.changes) c.self.view_is) in
    let few = reach_within book log inside.moment tallies inside.bases.items inside.noted.items is n within in
    let before = tallied_upto book log inside.moment tallies inside.bases.items inside.noted.items is n within in
    let reached = take (reach_at n tallies).counts tallies.counts in
    let counts : take c.reach_at.result.counts c.counts.result.now ≡ reached =
    ap (λ (r : JournalMark). take r.counts c.counts.result.now) c.reach_at.ensures ∙ ap (take (reach_at n tallies).counts) c.counts.ensures in
    record {
      base = is.base;
      past = is.past;
      sold = c.quotas.ensures ∙ ap (λ (k : CatalogueLists). k.quotas) c.catalogue.ensures ∙ ap (λ (l : Lists). l.catalogue.quotas) (sym is.base);
      asked = subst (λ (bases : List Base). AreBases log.base inside.moment bases) (sym c.deref.ensures.value) (subst (λ (l : Lists). AreBases l inside.moment inside.bases.items) (sym is.base) is.asked);
      within = omega (arith, few, ap (λ (r : JournalMark). r.counts) c.reach_at.ensures, ap (λ (l : List (Count Usage)). length l) c.counts.ensures);
      counted = subst (λ (l : List (Count Usage)). IsTotalled inside.moment log l) (sym c.counts.ensures) (totalled inside.moment log tallies.counts is.now.counted);
      counted_before = subst (λ (l : List (Count Usage)). IsTotalled inside.moment (log_at n log) l) (sym counts) (totalled inside.moment (log_at n log) reached before.counted);
    }
