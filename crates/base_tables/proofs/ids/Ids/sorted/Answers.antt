use Rattle.std.proofs.Common.{ℕ, List, sym, subst}
use Rattle.base_tables.specs.Tables.{AreInOrder}
use Rattle.base_tables.proofs.RisingLemmas.{rising_in_order}
use Rattle.base_tables.proofs.ids.Ids.sorted.Goals as goal

pub invariant_of-result : goal.invariant_of-result
invariant_of-result c = subst (λ (l : List ℕ). AreInOrder (λ n. n) l) (sym c.sorted.ensures) (rising_in_order c.args.ids.items)
