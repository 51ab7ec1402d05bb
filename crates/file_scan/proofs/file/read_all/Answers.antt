use Rattle.std.proofs.Common.{arith}
use Rattle.sqlite.specs.Held.{state}
use Rattle.sqlite.specs.State.{HasCleanDisk}
use Rattle.file_schema.specs.declared.error.RowError.TheVariants.{Damaged}
use Rattle.file_reads.proofs.SinceLemmas.{since_before}
use Rattle.sqlite.proofs.Callers.{unchanged_then}
use Rattle.file_scan.proofs.ReadLemmas.{reads_then, if_some, was_ok, was_err}
use Rattle.file_scan.proofs.Shown.{shown_either}
use Rattle.file_scan.proofs.Stays.{at_same}
use Rattle.file_scan.proofs.Stopping.{err_closed, err_stopped, stopped_later}
use Rattle.file_scan.proofs.file.read_all.Goals as goal

pub returns-in-Ok-readable-clause-loaded : goal.returns-in-Ok-readable-clause-loaded
returns-in-Ok-readable-clause-loaded g c clean db at known =
    let mid = state g.S.Store c.read_head.new.conn in
    let clean_mid : HasCleanDisk mid = omega (arith, clean, c.read_tables.ensures.only.crash.clean) in
    let at_mid = at_same (state g.S.Store c.args.conn.now) mid (c.in-Ok.ensures.same clean_mid) db at in
    if_some c.in-Ok-readable.tables _ _ c.in-Ok-readable.ensures.read (λ rows is. was_ok c.read_tables.result rows _ is (c.read_tables.ensures.loaded clean db at_mid known))

pub returns-in-Ok-readable-clause-limits : goal.returns-in-Ok-readable-clause-limits
returns-in-Ok-readable-clause-limits g c =
    if_some c.in-Ok-readable.tables _ _ c.in-Ok-readable.ensures.read (λ rows is. was_ok c.read_tables.result rows _ is c.read_tables.ensures.limits)

pub returns-in-Ok-readable-clause-found : goal.returns-in-Ok-readable-clause-found
returns-in-Ok-readable-clause-found g c clean db at =
    let start = state g.S.Store c.args.conn.now in
    let mid = state g.S.Store c.read_head.new.conn in
    let clean_mid : HasCleanDisk mid = omega (arith, clean, c.read_tables.ensures.only.crash.clean) in
    let head = c.in-Ok.ensures.found clean_mid db at in
    let at_mid = at_same start mid (c.in-Ok.ensures.same clean_mid) db at in (
      head.0,
      head.1,
      shown_either c.in-Ok-readable.tables c.read_tables.result _ c.in-Ok-readable.ensures.read c.in-Ok-readable.ensures.unread (c.read_tables.ensures.found clean db at_mid),
      λ none. was_err c.read_tables.result Damaged _ (c.in-Ok-readable.ensures.unread none) (c.read_tables.ensures.refused clean db at_mid),
    )

pub returns-in-Err-readable-clause-cause : goal.returns-in-Err-readable-clause-cause
returns-in-Err-readable-clause-cause g c clean db at =
    let start = state g.S.Store c.args.conn.now in
    let mid = state g.S.Store c.read_head.new.conn in
    let clean_mid : HasCleanDisk mid = omega (arith, clean, c.read_tables.ensures.only.crash.clean) in
    let head = c.in-Ok.ensures.found clean_mid db at in
    let at_mid = at_same start mid (c.in-Ok.ensures.same clean_mid) db at in
    c.in-Err-readable.ensures.cause c.args.own db (c.in-Ok.rows.items, head.0, head.1) (c.read_tables.ensures.refused clean db at_mid)

pub returns-in-Err-readable-clause-store : goal.returns-in-Err-readable-clause-store
returns-in-Err-readable-clause-store g c clean db at known =
    let start = state g.S.Store c.args.conn.now in
    let mid = state g.S.Store c.read_head.new.conn in
    let end = state g.S.Store c.read_tables.new.conn in
    let clean_mid : HasCleanDisk mid = omega (arith, clean, c.read_tables.ensures.only.crash.clean) in
    let same = c.in-Ok.ensures.same clean_mid in
    err_closed c.read_tables.result c.in-Err-readable.error _ c.in-Err-readable.ensures.store
    (err_stopped c.read_tables.result _ _ (c.read_tables.ensures.store clean db (at_same start mid same db at) known) (stopped_later start mid end same c.read_head.ensures.only.crash))

pub returns-in-Ok-readable-clause-only : goal.returns-in-Ok-readable-clause-only
returns-in-Ok-readable-clause-only g c = reads_then g.S.Store c.args.conn.now c.read_head.new.conn c.read_tables.new.conn c.read_head.ensures.only c.read_tables.ensures.only

pub returns-in-Err-readable-clause-only : goal.returns-in-Err-readable-clause-only
returns-in-Err-readable-clause-only g c = reads_then g.S.Store c.args.conn.now c.read_head.new.conn c.read_tables.new.conn c.read_head.ensures.only c.read_tables.ensures.only

pub returns-in-Ok-readable-clause-same : goal.returns-in-Ok-readable-clause-same
returns-in-Ok-readable-clause-same g c clean =
    let start = state g.S.Store c.args.conn.now in
    let mid = state g.S.Store c.read_head.new.conn in
    let end = state g.S.Store c.read_tables.new.conn in
    let clean_mid : HasCleanDisk mid = omega (arith, clean, c.read_tables.ensures.only.crash.clean) in
    unchanged_then start mid end (c.in-Ok.ensures.same clean_mid)
    (shown_either c.in-Ok-readable.tables c.read_tables.result _ c.in-Ok-readable.ensures.read c.in-Ok-readable.ensures.unread (c.read_tables.ensures.same clean))

pub returns-in-Err-clause-store : goal.returns-in-Err-clause-store
returns-in-Err-clause-store g c clean db at known = c.in-Err.ensures.store clean db at (since_before 1 c.args.own c.requires.first db.schema known)
