use Rattle.std.proofs.Common.{inl}
use Rattle.app_files.proofs.house.HouseHouseFiles.import.Goals as goal

pub returns : goal.returns
returns g c = inl (c.in_ok-connection.connection, c.import_shop.result.connection, c.in_ok-connection.ensures.given, (c.bytes.result, c.bytes.ensures, rw c.ended.ensures c.import_shop.ensures))
