use Rattle.std.proofs.Common.{inl, inr, arith, subst}
use Rattle.sqlite.specs.Held.{state}
use Rattle.sqlite.specs.State.{HasCleanDisk}
use Rattle.sqlite.proofs.StateLemmas.{survives_then, survives_weaker}
use Rattle.file_schema.specs.Tables.{this_version}
use Rattle.file_open.specs.Migrated.{MayBeMigrated}
use Rattle.file_open.specs.Opened.{IsReason}
use Rattle.file_open.proofs.ItsVersion.{read_version, told_version}
use Rattle.file_open.proofs.Raised.{may_be_before, migrated_before}
use Rattle.file_open.proofs.migrating.migrate.Goals as goal

-- ---- it is of this program's version

pub returns-in-Ok-clause-version : goal.returns-in-Ok-clause-version
returns-in-Ok-clause-version g c clean at version of = read_version version _ of this_version (c.in-Ok.ensures.found clean _ at)

pub returns-in-Ok-clause-migrated : goal.returns-in-Ok-clause-migrated
returns-in-Ok-clause-migrated g c clean at known = c.in-Ok.ensures.migrated clean at known

pub returns-in-Ok-clause-crash : goal.returns-in-Ok-clause-crash
returns-in-Ok-clause-crash g c =
    let old = state g.S.Store c.args.connection in
    survives_weaker old (state g.S.Store c.look.new.connection) (λ _. ⊥) (MayBeMigrated old) (λ _ db none. absurd none) c.in-Ok.ensures.crash

-- ---- it isn't opened for another reason than an earlier version

pub returns-in_default-clause-none : goal.returns-in_default-clause-none
returns-in_default-clause-none g c clean opened db at declared = (c.in-Err.ensures.rests clean opened).stays db at

pub returns-in_default-clause-cause : goal.returns-in_default-clause-cause
returns-in_default-clause-cause g c clean opened db at = inl (c.in-Err.ensures.cause clean db at, c.in_default.ensures.none)

pub returns-in_default-clause-crash_none : goal.returns-in_default-clause-crash_none
returns-in_default-clause-crash_none g c =
    let old = state g.S.Store c.args.connection in
    survives_weaker old (state g.S.Store c.look.new.connection) (λ _. ⊥) (MayBeMigrated old) (λ _ db none. absurd none) c.in-Err.ensures.crash

-- ---- it is of an earlier version

pub returns-in-Ok-raise-clause-version : goal.returns-in-Ok-raise-clause-version
returns-in-Ok-raise-clause-version g c clean at version of =
    let old = state g.S.Store c.args.connection in
    let early : HasCleanDisk (state g.S.Store c.look.new.connection) = omega (arith, c.raise.ensures.crash.clean, clean) in
    told_version version old.now of c.in-Some.from (subst (IsReason old.now) c.in-Some.ensures.found.2 (c.in-Err.ensures.cause early old.now at))

pub returns-in-Ok-raise-clause-migrated : goal.returns-in-Ok-raise-clause-migrated
returns-in-Ok-raise-clause-migrated g c clean at known =
    let old = state g.S.Store c.args.connection in
    let mid = state g.S.Store c.look.new.connection in
    let early : HasCleanDisk mid = omega (arith, c.raise.ensures.crash.clean, clean) in
    let opened = c.in-Ok-raise.ensures.opened clean in
    migrated_before c.in-Some.from old mid (state g.S.Store c.raise.new.connection) (c.in-Err.ensures.rests early opened) opened at known (c.in-Ok-raise.ensures.migrated clean)

pub returns-in-Ok-raise-clause-crash : goal.returns-in-Ok-raise-clause-crash
returns-in-Ok-raise-clause-crash g c =
    let old = state g.S.Store c.args.connection in
    let mid = state g.S.Store c.look.new.connection in
    survives_then old mid (state g.S.Store c.raise.new.connection) (λ _. ⊥) (MayBeMigrated mid) (MayBeMigrated old) (λ _ db none. absurd none)
    (λ clean trees may. may_be_before old mid trees (c.in-Err.ensures.rests (omega (arith, c.raise.ensures.crash.clean, clean)) may.was_open) may) c.in-Err.ensures.crash c.raise.ensures.crash

pub returns-in-Err-raise-clause-none : goal.returns-in-Err-raise-clause-none
returns-in-Err-raise-clause-none g c clean opened db at declared =
    let early : HasCleanDisk (state g.S.Store c.look.new.connection) = omega (arith, c.raise.ensures.crash.clean, clean) in
    let back = c.in-Err-raise.ensures.none clean opened in
    let rests = c.in-Err.ensures.rests early back.0 in
    let cause = subst (IsReason db) c.in-Some.ensures.found.2 (c.in-Err.ensures.cause early db (record { is_open = rests.was_open; now = at.now; committed = at.committed })) in
    back.1 db (rests.stays db at) (declared c.in-Some.from cause)

pub returns-in-Err-raise-clause-cause : goal.returns-in-Err-raise-clause-cause
returns-in-Err-raise-clause-cause g c clean opened db at =
    let early : HasCleanDisk (state g.S.Store c.look.new.connection) = omega (arith, c.raise.ensures.crash.clean, clean) in
    let back = c.in-Err-raise.ensures.none clean opened in
    let rests = c.in-Err.ensures.rests early back.0 in
    let here = rests.stays db (record { now = at.now; committed = at.committed }) in
    let cause = subst (IsReason db) c.in-Some.ensures.found.2 (c.in-Err.ensures.cause early db at) in
    inr (c.in-Some.from, c.in-Some.ensures.found.0, c.in-Some.ensures.found.1, cause, c.in-Err-raise.ensures.cause clean db (record { is_open = back.0; now = here.now; committed = here.committed }))

pub returns-in-Err-raise-clause-crash_none : goal.returns-in-Err-raise-clause-crash_none
returns-in-Err-raise-clause-crash_none g c =
    let old = state g.S.Store c.args.connection in
    let mid = state g.S.Store c.look.new.connection in
    survives_then old mid (state g.S.Store c.raise.new.connection) (λ _. ⊥) (MayBeMigrated mid) (MayBeMigrated old) (λ _ db none. absurd none)
    (λ clean trees may. may_be_before old mid trees (c.in-Err.ensures.rests (omega (arith, c.raise.ensures.crash.clean, clean)) may.was_open) may) c.in-Err.ensures.crash c.raise.ensures.crash
