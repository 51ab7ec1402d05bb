use Rattle.std.proofs.Common.{inl}
use Rattle.sqlite.specs.Held.{state}
use Rattle.app_files.proofs.MigrateLemmas.{tells_other, tells_version}
use Rattle.app_files.proofs.house.HouseHouseFiles.report.Goals as goal

pub returns-in-Version : goal.returns-in-Version
returns-in-Version g c =
    let old = c.in_ok-connection.connection in
    inl (
      old,
      c.migrate_shop.result.connection,
      c.in_ok-connection.ensures.given,
      tells_version g.S.Store (state g.S.Store old) c.migrate_shop.result.connection c.args.report _ c.in-Version.is (rw c.ended.ensures c.migrate_shop.ensures),
    )

pub returns-in_default : goal.returns-in_default
returns-in_default g c =
    let old = c.in_ok-connection.connection in
    inl (
      old,
      c.report_shop.result.connection,
      c.in_ok-connection.ensures.given,
      tells_other g.S.Store (state g.S.Store old) c.report_shop.result.connection c.args.report _ c.in_default.not-Version (rw c.ended-in_default.ensures c.report_shop.ensures),
    )
