use Rattle.std.proofs.Common.{inl}
use Rattle.sqlite.specs.Held.{state}
use Rattle.model_rows.specs.Lists.{empty}
use Rattle.app_files.proofs.MigrateLemmas.{brought_and_told, brought_from}
use Rattle.app_files.proofs.migrating.migrate_shop.Goals as goal

pub returns-in-Ok : goal.returns-in-Ok
returns-in-Ok g c =
    let old = state g.S.Store c.args.connection in
    brought_and_told g.S.Store old c.in-Ok.connection c.version_of.result (c.version_of.ensures empty.lists) (brought_from g.S.Store old c.in-Ok.connection c.in-Ok.field-0-1 c.in-Ok.ensures.version c.in-Ok.ensures.migrated) c.in-Ok.ensures.crash

pub returns-in-Err : goal.returns-in-Err
returns-in-Err g c = record {
  told = tt;
  brought = tt;
  none = inl (λ clean opened db at. (c.in-Err.ensures.none clean opened db (record { now = at.now; committed = at.committed }), (c.in-Err.field-0.error, c.fault_of_opening.ensures, c.in-Err.ensures.cause clean opened db at)));
  crash = c.in-Err.ensures.crash_none;
}
