-- A row from a column on.
use Rattle.std.proofs.Common.{◌≡◌, ℕ, zero, suc, ◌<◌, ◌≤◌, [], ◌∷◌, length, drop, refl, arith}
use Rattle.sqlite_value.specs.Order.{Row, column}

pub split_at : (at : ℕ) (r : Row) → at < length r → drop at r ≡ column r at ∷ drop (suc at) r
split_at at [] h = absurd (omega arith)
split_at zero (x ∷ r) h = refl
split_at (suc k) (x ∷ r) h = split_at k r (omega (arith, h))

pub past_end : (at : ℕ) (r : Row) → length r ≤ at → drop at r ≡ []
past_end zero [] h = refl
past_end (suc k) [] h = refl
past_end zero (x ∷ r) h = absurd (omega arith)
past_end (suc k) (x ∷ r) h = past_end k r (omega (arith, h))
