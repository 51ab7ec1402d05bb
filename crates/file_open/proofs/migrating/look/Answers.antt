use Rattle.std.proofs.Common.{OnOk, Result, subst, sym}
use Rattle.sqlite.specs.Held.{state}
use Rattle.file_schema.specs.Tables.{this_version}
use Rattle.file_scan.specs.declared.error.OpenError.{OpenError}
use Rattle.file_open.specs.Migrated.{IsMigrated}
use Rattle.file_open.proofs.Raised.{opened_migrated}
use Rattle.file_open.proofs.migrating.look.Goals as goal
use Rattle.file_open.proofs.migrating.look.Goals.{in-Ok, in-Err}

pub returns-clause-migrated : goal.returns-clause-migrated
returns-clause-migrated g c clean at known =
    let old = state g.S.Store c.args.connection.now in
    let new = state g.S.Store c.reopen.new.connection in
    elim c.match-reopen.branch [
      | in-Ok w ↦
          let migrated = opened_migrated _ _ _ old new at known (w.in-Ok.ensures.opened clean old.now at known) w.in-Ok.ensures.version w.in-Ok.ensures.sound (w.in-Ok.ensures.same clean) in
          subst (λ (r : Result (Unit {0}) OpenError). OnOk r (IsMigrated this_version old new)) (sym w.result-is) migrated
      | in-Err w ↦ subst (λ (r : Result (Unit {0}) OpenError). OnOk r (IsMigrated this_version old new)) (sym w.result-is) tt
    ]
