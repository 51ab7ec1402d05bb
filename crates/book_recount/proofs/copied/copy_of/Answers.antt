use Rattle.std.proofs.Common.{◌∙◌, subst}
use Rattle.base_tables.specs.Tables.{AreInOrder}
use Rattle.model_catalogue.specs.CatalogueLists.{CatalogueLists}
use Rattle.book_recount.proofs.CopyLemmas.{copy_is}
use Rattle.book_recount.proofs.copied.copy_of.Goals as goal

pub returns-clause-lists : goal.returns-clause-lists
returns-clause-lists g c =
    copy_is (g.B.Book.state c.args.book.now).lists _ c.recall_invariant.ensures (subst (λ (l : CatalogueLists). AreInOrder (λ q. q.id) l.quotas) c.catalogue.ensures c.recall_invariant-2.ensures.in_order)
    c.in_ok-list.list.items c.new-changes.result _ _ _ c.in_ok-list.ensures c.new-changes.ensures.list (c.reserve.ensures.same ∙ c.new-copy.ensures) c.apply.ensures
