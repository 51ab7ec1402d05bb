use Rattle.std.proofs.Common.{inl}
use Rattle.app_files.proofs.house.HouseHouseFiles.add_token.Goals as goal

pub returns : goal.returns
returns g c = inl (c.in_ok-connection.connection, c.add_shop_token.result.connection, c.in_ok-connection.ensures.given, rw c.ended.ensures c.add_shop_token.ensures)
