use Rattle.std.proofs.Common.{◌⊎◌, inl, inr}
use Rattle.app_files.proofs.house.HouseHouseFiles.serve.Goals as goal

-- that nothing was said belongs to the other clause
unsaid : (A B C : Type 0) → A ⊎ (B × C) → A ⊎ B
unsaid A B C (inl a) = inl a
unsaid A B C (inr h) = inr h.0

pub returns-clause-said : goal.returns-clause-said
returns-clause-said g c = rw c.ended.ensures c.serve_shop.ensures.said

pub returns-clause-served : goal.returns-clause-served
returns-clause-served g c = inl (c.in_ok-connection.connection, c.serve_shop.result.connection, c.in_ok-connection.ensures.given, rw c.ended.ensures (unsaid _ _ _ c.serve_shop.ensures.served))
