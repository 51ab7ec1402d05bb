use Rattle.std.proofs.Common.{◌≡◌, ◌∙◌, IfOk, arith, subst₂}
use Rattle.sqlite.specs.Held.{state}
use Rattle.sqlite.specs.State.{HasCleanDisk}
use Rattle.sqlite.proofs.StateLemmas.{survives_then, survives_weaker}
use Rattle.file_schema.specs.Versions.{schema_of_version}
use Rattle.file_schema.specs.Whole.{IsOver, IsStill, IsWritten, MayBeWritten}
use Rattle.file_scan.proofs.ReadLemmas.{if_err, on_always, on_ok}
use Rattle.file_tables.specs.Begun.{IsUpgraded, of_this_version}
use Rattle.file_open.specs.Migrated.{MayBeMigrated}
use Rattle.file_open.specs.Supplied.{lacking_exits, lacking_spents}
use Rattle.file_open.proofs.Raised.{err_from, may_be, no_transaction, raised, still_at}
use Rattle.file_open.proofs.Reasons.{machine_as}
use Rattle.file_open.proofs.migrating.raise.Goals as goal

pub read_earlier-requires-clause-outside : goal.read_earlier-requires-clause-outside
read_earlier-requires-clause-outside g c = no_transaction c.is_autocommit.result c.args.connection.now.in_transaction c.is_autocommit.ensures.value c.if-not-is_autocommit.false

pub returns-in-Ok-clause-opened : goal.returns-in-Ok-clause-opened
returns-in-Ok-clause-opened g c clean =
    let early : HasCleanDisk (state g.S.Store c.read_earlier.new.connection) = omega (arith, c.write_version.ensures.writes.crash.clean, clean) in
    on_always c.write_version.result _ (c.in-Ok.ensures.same early).0.was_open

pub returns-in-Ok-clause-migrated : goal.returns-in-Ok-clause-migrated
returns-in-Ok-clause-migrated g c clean at known =
    let old = state g.S.Store c.args.connection.now in
    let mid = state g.S.Store c.read_earlier.new.connection in
    let new = state g.S.Store c.write_version.new.connection in
    let from = c.args.from in
    let it = c.in-Ok.ensures.held in
    let early : HasCleanDisk mid = omega (arith, c.write_version.ensures.writes.crash.clean, clean) in
    let its = it.2.held early old.now at known in
    let exits : c.as_slice.result.now ≡ lacking_exits from it.0.counts = c.as_slice.ensures.value ∙ it.2.lacking.exits in
    let spents : c.as_slice-in-Ok.result.now ≡ lacking_spents from it.0.vouchers = c.as_slice-in-Ok.ensures.value ∙ it.2.lacking.spents in
    let written = subst₂ (λ l m. IfOk c.write_version.result (λ _. IsWritten (IsUpgraded (of_this_version c.in-Ok.head) l m from) mid new)) exits spents (c.write_version.ensures.writes.all clean (λ _. its.known)) in
    on_ok c.write_version.result _ _ written (λ _ is. raised from c.in-Ok.head it.0 it.1 old mid new (c.in-Ok.ensures.same early) (it.2.held early) at known is)

pub returns-in-Ok-clause-none : goal.returns-in-Ok-clause-none
returns-in-Ok-clause-none g c clean opened =
    let old = state g.S.Store c.args.connection.now in
    let mid = state g.S.Store c.read_earlier.new.connection in
    let new = state g.S.Store c.write_version.new.connection in
    let from = c.args.from in
    let early : HasCleanDisk mid = omega (arith, c.write_version.ensures.writes.crash.clean, clean) in
    let same = c.in-Ok.ensures.same early in
    err_from c.write_version.result (IsOver (schema_of_version from) mid) (IsStill mid new) _ (c.write_version.ensures.writes.none clean) (λ still. (same.0.was_open, λ db at known. still_at from old mid new same still opened db at known))

pub returns-in-Err-clause-none : goal.returns-in-Err-clause-none
returns-in-Err-clause-none g c clean opened = let rests = c.in-Err.ensures.rests clean opened in (rests.was_open, λ db at known. rests.stays db at)

pub returns-in-Ok-clause-cause : goal.returns-in-Ok-clause-cause
returns-in-Ok-clause-cause g c clean db at = if_err c.write_version.result _ _ c.write_version.ensures.machine (λ e of. machine_as c.args.from db e of)

pub returns-in-Ok-clause-crash : goal.returns-in-Ok-clause-crash
returns-in-Ok-clause-crash g c =
    let old = state g.S.Store c.args.connection.now in
    let mid = state g.S.Store c.read_earlier.new.connection in
    let new = state g.S.Store c.write_version.new.connection in
    let from = c.args.from in
    let head = c.in-Ok.head in
    let it = c.in-Ok.ensures.held in
    let exits : c.as_slice.result.now ≡ lacking_exits from it.0.counts = c.as_slice.ensures.value ∙ it.2.lacking.exits in
    let spents : c.as_slice-in-Ok.result.now ≡ lacking_spents from it.0.vouchers = c.as_slice-in-Ok.ensures.value ∙ it.2.lacking.spents in
    survives_then old mid new (λ _. ⊥) (MayBeWritten (schema_of_version from) (λ (_ : Unit {0}). IsUpgraded (of_this_version head) c.as_slice.result.now c.as_slice-in-Ok.result.now from) mid) (MayBeMigrated old) (λ _ db none. absurd none)
    (λ clean trees may.
    let early : HasCleanDisk mid = omega (arith, c.write_version.ensures.writes.crash.clean, clean) in
    may_be from head it.0 it.1 old mid new (c.in-Ok.ensures.same early) (it.2.held early) c.requires.first (omega (arith, c.requires.version)) (c.in-Ok.ensures.found early) trees
    (subst₂ (λ l m. MayBeWritten (schema_of_version from) (λ (_ : Unit {0}). IsUpgraded (of_this_version head) l m from) mid trees) exits spents may))
    c.in-Ok.ensures.crash c.write_version.ensures.writes.crash

pub returns-in-Err-clause-crash : goal.returns-in-Err-clause-crash
returns-in-Err-clause-crash g c =
    let old = state g.S.Store c.args.connection.now in
    survives_weaker old (state g.S.Store c.read_earlier.new.connection) (λ _. ⊥) (MayBeMigrated old) (λ _ db none. absurd none) c.in-Err.ensures.crash
