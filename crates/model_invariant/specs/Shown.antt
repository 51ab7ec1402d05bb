-- What follows of positions and secrets in a sound box office, and words of the functions that test it.
use Rattle.std.specs.Prelude.{◌≡◌, ◌≤◌, ◌==◌, false, List, [], ◌∷◌, length, Bool}
use Rattle.std.specs.List.{AllByRecursion, list_any}
use Rattle.model_rows.specs.declared.rows.Order.{Order}
use Rattle.model_rows.specs.declared.rows.OrderPos.{OrderPos}
use Rattle.model_invariant.specs.Positions.{AllHavePositions, AreOfOrders}
use Rattle.base_values.specs.Texts.{same_text}
use Rattle.model_rows.specs.declared.rows.Checkin.{Checkin}
use Rattle.model_invariant.specs.Checkins.{repeats}

-- no two positions have one number
abbrev pub HaveOtherNumbers : List OrderPos → Type 0
HaveOtherNumbers [] = Unit {0}
HaveOtherNumbers (p ∷ ps) = AllByRecursion (λ q. (p.positionid == q.positionid) ≡ false) ps × HaveOtherNumbers ps

-- their numbers are 1 to their count, each once
pub record AreEachOnce (positions : List OrderPos) : Type 0 where
  pub within : AllByRecursion (λ p. (1 ≤ p.positionid) × (p.positionid ≤ length positions)) positions
  pub apart : HaveOtherNumbers positions

-- and each order has its positions
pub record AreOrdered (orders : List Order) (positions : List OrderPos) : Type 0 where
  pub each : AreOfOrders orders positions
  pub whole : AllHavePositions orders positions

-- no two order positions have one secret
abbrev pub HaveUnlikeSecrets : List OrderPos → Type 0
HaveUnlikeSecrets [] = Unit {0}
HaveUnlikeSecrets (p ∷ ps) = AllByRecursion (λ q. same_text p.secret q.secret ≡ false) ps × HaveUnlikeSecrets ps

-- a check-in of these has the list, the position and the nonce of this one
abbrev pub is_repeated : Checkin → List Checkin → Bool
is_repeated row checkins = list_any (λ c. repeats c row) checkins
