-- Who comes to a network.
use Rattle.std.specs.Prelude.{◌≡◌, ℕ, List, [], ◌∷◌, Option, Result, Ok, Err}
use Rattle.base_devices.specs.declared.device.Refused.{Refused}
use Rattle.base_devices.specs.Reported.{Adds}
use Rattle.web_sockets.specs.declared.network.Accepted.{Accepted}
use Rattle.web_sockets.specs.declared.network.Accepted.TheVariants as accepted

-- a caller as it comes: what it will send, and what it was brought, where that is known
pub record Begun : Type 0 where
  pub coming : Option (List ℕ)
  pub gone : Option (List ℕ)

-- a caller of whom this will come, and who was brought that so far
abbrev pub as_begun : Option (List ℕ) → Option (List ℕ) → Begun
as_begun coming gone = record { coming = coming; gone = gone }

-- a look waiting to be accepted: whoever is there came behind all others; else nobody did
abbrev pub AcceptsNext : {E : Type 0} → (E → Option (List ℕ)) → (E → Option (List ℕ)) → Result (Accepted E) Refused → Option (List Begun) → Option (List Begun) → Type 0
AcceptsNext left taken (Ok (accepted.Here ends)) old new = Adds old (as_begun (left ends) (taken ends) ∷ []) new
AcceptsNext left taken (Ok accepted.Gone) old new = new ≡ old
AcceptsNext left taken (Ok accepted.Nobody) old new = new ≡ old
AcceptsNext left taken (Ok accepted.Wants) old new = new ≡ old
AcceptsNext left taken (Err e) old new = new ≡ old
