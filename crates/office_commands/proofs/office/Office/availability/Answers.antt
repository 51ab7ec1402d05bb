use Rattle.std.proofs.Common.{◌≡◌, Some, sym, ap, ◌∙◌}
use Rattle.model_catalogue.specs.declared.rows.Quota.{Quota}
use Rattle.model_catalogue.specs.CatalogueLists.{CatalogueLists, quota_at}
use Rattle.model_rows.specs.Lists.{State}
use Rattle.model_rows.proofs.EachRow.{key-row_at}
use Rattle.office_commands.proofs.office.Office.availability.Goals as goal

pub availability-requires-clause-stands : goal.availability-requires-clause-stands
availability-requires-clause-stands g c =
    let quota = c.in-Some.quota.now in
    let lists = c.catalogue.result.now.lists in
    let found : quota_at c.args.id lists ≡ Some quota = sym c.in-Some.ensures in
    let own : quota.id ≡ c.args.id = key-row_at (λ (q : Quota). q.id) c.args.id lists.quotas quota found in
    let same : lists ≡ (g.B.Book.state c.book-in-Some.result.now).lists.catalogue =
    c.catalogue.ensures ∙ ap (λ (s : State). s.lists.catalogue) (c.book.ensures.state ∙ sym c.book-in-Some.ensures.state) in
    ap (λ n. quota_at n (g.B.Book.state c.book-in-Some.result.now).lists.catalogue) own ∙ ap (λ (k : CatalogueLists). quota_at c.args.id k) (sym same) ∙ found
