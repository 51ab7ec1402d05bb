-- The statuses that answers have.
use Rattle.std.specs.Prelude.{ℕ, Bool, ◌==◌, List, [], ◌∷◌}
use Rattle.std.specs.List.{list_any}

-- shown, made, deleted; wrong data, no token, forbidden, not found, another method; a body too large, a head too large, a
-- coding that isn't known; no memory, or a store that refuses
abbrev pub statuses : List ℕ
statuses = 200 ∷ 201 ∷ 204 ∷ 400 ∷ 401 ∷ 403 ∷ 404 ∷ 405 ∷ 413 ∷ 431 ∷ 501 ∷ 503 ∷ []

-- some answer has this status
abbrev pub is_given : ℕ → Bool
is_given status = list_any (λ s. s == status) statuses
