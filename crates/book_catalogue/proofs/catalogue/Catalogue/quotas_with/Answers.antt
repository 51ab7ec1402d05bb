use Rattle.std.proofs.Common.{◌∙◌}
use Rattle.book_catalogue.proofs.Listed.{found_by_item, found_by_variation}
use Rattle.book_catalogue.proofs.catalogue.Catalogue.quotas_with.Goals as goal

pub returns-in-None : goal.returns-in-None
returns-in-None c =
    rw (← c.self.view_is) (c.of_key.ensures.all ∙ found_by_item c.args.product c.self.inside.quotas.rows c.self.inside.by_item.rows c.recall_invariant.ensures.in_order c.recall_invariant-2.ensures c.self.invariant.0 c.in-None.is)

pub returns-in-Some : goal.returns-in-Some
returns-in-Some c =
    rw (← c.self.view_is) (c.of_key-in-Some.ensures.all ∙ found_by_variation c.args.product c.in-Some.variation c.self.inside.quotas.rows c.self.inside.by_variation.rows c.recall_invariant.ensures.in_order c.recall_invariant-3.ensures c.self.invariant.1 c.in-Some.is)
