use Rattle.std.proofs.Common.{sym, ap, ◌∙◌}
use Rattle.base_tables.specs.Tables.{has}
use Rattle.draft_counts.proofs.Reached.{no_other_of, absent_more}
use Rattle.draft_counts.proofs.touched.touch_product.Goals as goal

pub returns-clause-more : goal.returns-clause-more
returns-clause-more c =
    no_other_of c.extend_from_slice.new.self.items c.args.catalogue.now.lists c.args.product
    (λ id absent. sym (ap (has id) (c.deref.ensures.value ∙ c.in_ok-found.ensures)) ∙ absent_more c.args.ids.now.items c.deref.result.now c.extend_from_slice.new.self.items c.in_ok-extend_from_slice.ensures.items id absent)
