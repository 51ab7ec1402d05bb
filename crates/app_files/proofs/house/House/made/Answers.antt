use Rattle.std.proofs.Common.{inl}
use Rattle.app_files.proofs.house.House.made.Goals as goal

pub returns-in-Ok : goal.returns-in-Ok
returns-in-Ok g c stood = inl (c.in-Ok.connection, c.make_new_shop.result.connection, (stood, c.in-Ok.ensures.given), rw c.ended.ensures c.make_new_shop.ensures)
