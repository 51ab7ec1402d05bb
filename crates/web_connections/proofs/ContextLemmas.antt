-- What a context was lent, call after call.
use Rattle.std.proofs.Common.{◌≡◌, ◌∙◌, refl}
use Rattle.web_connections.specs.declared.context.Context.{Context}
use Rattle.web_connections.specs.Contexts.{KeepsLent}

pub kept_same : {L M T D : Type 0} (a : Context L M T D) → KeepsLent a a
kept_same a = (refl, refl)

pub kept_more : {L M T D : Type 0} (a b c : Context L M T D) → KeepsLent a b → KeepsLent b c → KeepsLent a c
kept_more a b c x y = (y.0 ∙ x.0, y.1 ∙ x.1)
