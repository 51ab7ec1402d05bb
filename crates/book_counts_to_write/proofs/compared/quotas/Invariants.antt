use Rattle.std.proofs.Common.{◌≡◌, take}
use Rattle.std.specs.Prelude.{flat_map}
use Rattle.book_counts_to_write.specs.Told.{quota_told}
use Rattle.book_counts_to_write.proofs.compared.quotas.Given as goal

abbrev pub invariant-loop-quota : goal.invariant-loop-quota
invariant-loop-quota g l = l.rows.items ≡ flat_map (quota_told (record { before = g.A.Book.state l.before; after = g.C.Book.state l.after })) (take l.quota-index l.quota-items)
