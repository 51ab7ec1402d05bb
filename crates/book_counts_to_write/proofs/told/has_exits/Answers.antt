use Rattle.std.proofs.Common.{◌≡◌, Some, refl, sym, ap, ◌∙◌, subst}
use Rattle.std.specs.Option.{option_copied}
use Rattle.model_catalogue.specs.CatalogueLists.{CatalogueLists, quota_at}
use Rattle.book_counts_to_write.proofs.ToldRows.{no_exits, some_exits}
use Rattle.book_counts_to_write.proofs.WalkedRows.{found_stands}
use Rattle.book_counts_to_write.proofs.told.has_exits.Goals as goal

pub returns-in-None : goal.returns-in-None
returns-in-None g c =
    no_exits (g.B.Book.state c.args.book.now) c.args.count.now c.catalogue-catalogue.result.now.lists c.catalogue-catalogue.ensures c.recall_invariant.ensures.in_order (sym c.quota.ensures ∙ ap option_copied c.in-None.is)

pub usage_of-requires-clause-stands : goal.usage_of-requires-clause-stands
usage_of-requires-clause-stands g c =
    subst (λ (l : CatalogueLists). quota_at c.in-Some.quota.now.id l ≡ Some c.in-Some.quota.now) c.catalogue-catalogue.ensures
    (found_stands c.args.count.now.quota c.catalogue-catalogue.result.now.lists c.in-Some.quota.now (sym c.quota.ensures ∙ ap option_copied c.in-Some.is))

pub returns-in-Some : goal.returns-in-Some
returns-in-Some g c =
    some_exits (g.B.Book.state c.args.book.now) c.args.count.now c.catalogue-catalogue.result.now.lists c.catalogue-catalogue.ensures c.recall_invariant.ensures.in_order c.in-Some.quota.now c.moment.result c.usage_of.result _
    (sym c.quota.ensures ∙ ap option_copied c.in-Some.is) c.moment.ensures c.usage_of.ensures refl
