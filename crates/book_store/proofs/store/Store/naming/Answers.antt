use Rattle.std.proofs.Common.{arith}
use Rattle.model_rows.specs.declared.rows.CartPos.{CartPos}
use Rattle.model_rows.specs.declared.rows.OrderPos.{OrderPos}
use Rattle.model_rows.specs.declared.rows.Waiting.{Waiting}
use Rattle.model_rows.specs.Conditions.{names}
use Rattle.book_indexes.proofs.EntryLemmas.{found_count}
use Rattle.book_store.proofs.store.Store.naming.Goals as goal

pub returns-clause-value : goal.returns-clause-value
returns-clause-value c =
    let lists = c.args.self.now.state.lists in
    omega (
      arith,
      found_count (λ r. r.id) (λ (r : OrderPos). names c.args.voucher r.voucher) lists.positions c.positions_naming.result c.positions_naming.ensures.finds,
      found_count (λ r. r.id) (λ (r : CartPos). names c.args.voucher r.voucher) lists.carts c.carts_naming.result c.carts_naming.ensures.finds,
      found_count (λ r. r.id) (λ (r : Waiting). names c.args.voucher r.voucher) lists.waiting c.entries_naming.result c.entries_naming.ensures.finds,
    )
