use Rattle.book_counts_to_write.proofs.WalkedRows.{ordered_book}
use Rattle.book_counts_to_write.proofs.walk.ids_rise.Goals as goal

pub returns : goal.returns
returns g c = ordered_book _ _ (g.B.Book.state c.args.book.now).lists c.catalogue.result.now.lists c.recall_invariant.ensures c.recall_invariant-2.ensures c.catalogue.ensures
