-- What is given in a request, or else what stood.
use Rattle.std.proofs.Common.{Option, Some, None}
use Rattle.std.specs.Prelude.{IfSome, unwrap_or}

-- keeps its limits where both do
pub given_or : {A : Type 0} (P : A → Type 0) (given : Option A) (old : A) → IfSome given P → P old → P (unwrap_or given old)
given_or P None old its stood = stood
given_or P (Some new) old its stood = its
