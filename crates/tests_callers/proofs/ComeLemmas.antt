-- Who comes to a slot.
use Rattle.std.proofs.Common.{◌≡◌, inl, inr, List, [], ◌∷◌, ℕ, Option, Result, Ok, Err, OnOk, OnErr, refl}
use Rattle.web_sockets.specs.Accepting.{Begun, as_begun}
use Rattle.web_connections.specs.Exchanges.{connection_begun}
use Rattle.web_connections.specs.Connections.{Callers, IsFree, AcceptsOne, with_caller}

-- nobody comes
pub nobody_came : (old new : Callers) → new ≡ old → (came : List Begun) × AcceptsOne came old new
nobody_came old new is = ([], is)

-- one who came in
pub one_came : (old new : Callers) (slot : ℕ) (coming gone : Option (List ℕ)) → IsFree slot old → new ≡ with_caller slot (connection_begun coming gone) old
    → (came : List Begun) × AcceptsOne came old new
one_came old new slot coming gone free is = (as_begun coming gone ∷ [], (refl, inr (slot, free, is)))

-- one who came in, or for whom there was no memory
pub some_came : {X Y : Type 0} (result : Result X Y) (old new : Callers) (slot : ℕ) (coming gone : Option (List ℕ)) → IsFree slot old
    → OnOk result (new ≡ with_caller slot (connection_begun coming gone) old) → OnErr result (new ≡ old) → (came : List Begun) × AcceptsOne came old new
some_came (Ok x) old new slot coming gone free is same = one_came old new slot coming gone free is
some_came (Err y) old new slot coming gone free is same = (as_begun coming gone ∷ [], (refl, inl same))
