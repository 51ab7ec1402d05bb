use Rattle.std.proofs.Common.{◌≡◌, List, sym, ap, ◌∙◌, subst}
use Rattle.std.specs.Prelude.{flat_map}
use Rattle.base_tables.specs.Tables.{AreInOrder}
use Rattle.model_catalogue.specs.declared.rows.Quota.{Quota}
use Rattle.model_catalogue.specs.CatalogueLists.{CatalogueLists}
use Rattle.model_rows.specs.declared.rows.Usage.{Usage}
use Rattle.model_rows.specs.Lists.{Lists}
use Rattle.book_tally.specs.declared.amount.Uses.{Uses}
use Rattle.book_tally.specs.declared.tally.Count.{Count}
use Rattle.draft_counts.specs.Logs.{rows_of}
use Rattle.draft_counts.proofs.Logs.{sales_catalogue}
use Rattle.draft_changes.specs.DraftState.{IsCounted, AreKept}
use Rattle.draft_changes.specs.Handed.{quota_shift, voucher_shift}
use Rattle.draft_changes.proofs.HandedLemmas.{handed}
use Rattle.draft_changes.proofs.finish.shifts_of.Goals as goal

pub returns : goal.returns
returns g c =
    let log = c.args.overlay.now in
    let counts = c.counts-counts.result.now in
    let uses = c.uses-uses.result.now in
    let base : c.catalogue-catalogue.result.now.lists ≡ log.base.catalogue = c.catalogue-catalogue.ensures ∙ ap (λ (l : Lists). l.catalogue) (sym c.requires.base) in
    let quotas : c.quotas.result.now ≡ log.base.catalogue.quotas = c.quotas.ensures ∙ ap (λ (k : CatalogueLists). k.quotas) base in
    let order = subst (λ (k : CatalogueLists). AreInOrder (λ (q : Quota). q.id) k.quotas) base c.recall_invariant-2.ensures.in_order in
    let counted = subst (λ (l : List (Count Usage)). IsCounted c.args.at log l) (sym c.counts-counts.ensures) c.requires.counted in
    let kept = subst (λ (l : List (Count Uses)). AreKept c.args.at log l) (sym c.uses-uses.ensures) c.requires.kept in
    handed log c.args.at counts uses c.args.noted.now counted kept c.requires.noted order (sales_catalogue log.changes log.base c.recall_invariant.ensures.sales)
    c.in_ok-places.places c.in_ok-ids.ids (record { quotas = c.in_ok-quotas.quotas; vouchers = c.in_ok-vouchers.vouchers }) c.in_ok-places.ensures c.in_ok-ids.ensures
    (c.in_ok-quotas.ensures ∙ ap (λ (l : List Quota). flat_map (quota_shift l counts) c.as_slice.result.now) quotas ∙ ap (flat_map (quota_shift log.base.catalogue.quotas counts)) c.as_slice.ensures)
    (c.in_ok-vouchers.ensures ∙ ap (flat_map (voucher_shift (rows_of log) uses)) c.as_slice-2.ensures)
