use Rattle.std.proofs.Common.{drop}
use Rattle.base_tables.specs.Tables.{InOrderFrom, AreInOrder}
use Rattle.file_tables.proofs.TakenLemmas.{above}
use Rattle.file_tables.proofs.writes.taken.rises.Given as goal

abbrev pub invariant-ids : goal.invariant-ids
invariant-ids l =
    let left = drop l.id-index l.ids in
    (InOrderFrom (λ n. n) (above l.last) left → AreInOrder (λ n. n) l.ids) × (AreInOrder (λ n. n) l.ids → InOrderFrom (λ n. n) (above l.last) left)
