use Rattle.std.proofs.Common.{inl}
use Rattle.app_files.proofs.house.HouseHouseFiles.work.Goals as goal

pub returns : goal.returns
returns g c = inl (c.in_ok-connection.connection, c.work_shop.result.connection, c.in_ok-connection.ensures.given, rw c.ended.ensures c.work_shop.ensures)
