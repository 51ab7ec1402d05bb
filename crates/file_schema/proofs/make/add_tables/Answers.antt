use Rattle.std.proofs.Common.{Bor, ℕ, List, map, ap}
use Rattle.file_schema.proofs.make.add_tables.Goals as goal

pub run_from-requires : goal.run_from-requires
run_from-requires g c = ap (map (λ (s : Bor (List ℕ)). s.now)) c.as_slice.ensures
