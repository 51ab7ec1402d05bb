use Rattle.std.proofs.Common.{◌≡◌, false, Option, sym, ap, ◌∙◌}
use Rattle.std.specs.Prelude.{flat_map}
use Rattle.base_tables.specs.Tables.{has}
use Rattle.base_tables.proofs.RisingLemmas.{has-rising}
use Rattle.model_catalogue.specs.declared.rows.Quota.{Quota}
use Rattle.model_catalogue.specs.CatalogueLists.{quota_at}
use Rattle.book_counts_to_write.specs.Walked.{quotas_by, quota_after}
use Rattle.book_counts_to_write.proofs.WalkedRows.{quota_after_is, quota_stood}
use Rattle.book_counts_to_write.proofs.walk.Walk.quota.Goals as goal

pub returns-then-has : goal.returns-then-has
returns-then-has g c =
    let lists = (g.B.Book.state c.args.self.now.book.now).lists in
    let changes = c.args.self.now.changes.now in
    c.quota_after.ensures ∙ ap (λ (o : Option Quota). quota_after c.args.id o changes) (c.quota-before.ensures ∙ ap (quota_at c.args.id) c.catalogue.ensures) ∙ quota_after_is c.args.id changes lists

pub returns-else-has : goal.returns-else-has
returns-else-has g c =
    let lists = (g.B.Book.state c.args.self.now.book.now).lists in
    let changes = c.args.self.now.changes.now in
    let unput : has c.args.id (flat_map quotas_by changes) ≡ false = sym (has-rising c.args.id (flat_map quotas_by changes)) ∙ ap (has c.args.id) (sym c.args.self.now.puts) ∙ sym c.has.ensures ∙ c.if-has.false in
    c.quota-before.ensures ∙ ap (quota_at c.args.id) c.catalogue.ensures ∙ sym (quota_stood c.args.id changes lists unput)
