use Rattle.std.proofs.Common.{◌∙◌}
use Rattle.model_catalogue.specs.declared.rows.Quota.{Quota}
use Rattle.model_rows.proofs.EachRow.{key-row_at}
use Rattle.model_rows.proofs.LikeUsage.{like_usage}
use Rattle.book_counts_to_write.proofs.WalkedRows.{found_stands}
use Rattle.book_counts_to_write.proofs.walk.Walk.known_by.Goals as goal

pub known_as-requires : goal.known_as-requires
known_as-requires g c = found_stands c.args.quota.now.id (g.B.Book.state c.args.self.now.book.now).lists.catalogue c.args.old.now c.requires

pub usage_of-requires-clause-stands : goal.usage_of-requires-clause-stands
usage_of-requires-clause-stands g c = found_stands c.args.quota.now.id (g.B.Book.state c.args.self.now.book.now).lists.catalogue c.args.old.now c.requires

pub returns-then-has_same_members-clause-base : goal.returns-then-has_same_members-clause-base
returns-then-has_same_members-clause-base g c =
    let lists = (g.B.Book.state c.args.self.now.book.now).lists in
    c.known_as.ensures.base
    ∙ like_usage lists c.args.self.now.at c.args.old.now c.args.quota.now (key-row_at (λ (r : Quota). r.id) c.args.quota.now.id lists.catalogue.quotas c.args.old.now c.requires)
    (c.has_same_members.ensures.items c.if-has_same_members.true) (c.has_same_members.ensures.variations c.if-has_same_members.true) (c.has_same_members.ensures.release c.if-has_same_members.true)
