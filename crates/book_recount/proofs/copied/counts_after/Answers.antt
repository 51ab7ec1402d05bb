use Rattle.book_recount.proofs.CopyLemmas.{told_after}
use Rattle.book_recount.proofs.copied.counts_after.Goals as goal

pub returns : goal.returns
returns g c =
    told_after (g.B.Book.state c.args.book.now) c.in_ok-copy.copy.state _ _ c.in_ok-rows.rows c.args.changes c.args.at c.in_ok-rows.ensures c.apply.ensures c.reserve.ensures.same c.in_ok-copy.ensures.lists
