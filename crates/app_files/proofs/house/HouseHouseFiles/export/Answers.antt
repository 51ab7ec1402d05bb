use Rattle.std.proofs.Common.{inl, inr, [], refl}
use Rattle.base_devices.proofs.ToldLemmas.{Adds-nil}
use Rattle.app_files.proofs.ExportLemmas.{missing_counts}
use Rattle.app_files.proofs.house.HouseHouseFiles.export.Goals as goal

pub returns-in-Ok : goal.returns-in-Ok
returns-in-Ok g c =
    let (text, came, added, counted) = c.export_shop.ensures in
    (text, inl (c.in-Ok.connection, c.export_shop.result.connection, c.in-Ok.ensures.given, rw c.ended.ensures came), added, rw c.ended.ensures counted)

pub returns-in-Err : goal.returns-in-Err
returns-in-Err g c =
    let missing = c.in-Err.ensures.refused in
    ([], inr (c.in-Err.fault, refl, (missing, refl)), Adds-nil _, missing_counts g.F.Shelf.stood g.F.Shelf.refuses c.args.file.now c.in-Err.fault _ missing)
