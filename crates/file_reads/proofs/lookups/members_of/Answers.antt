use Rattle.std.proofs.Common.{[], ◌∷◌, map}
use Rattle.std.specs.Prelude.{IfOk}
use Rattle.sqlite.specs.Held.{state}
use Rattle.sqlite.specs.State.{Shown}
use Rattle.file_schema.specs.Shapes.{by_owner}
use Rattle.file_rows.specs.Cells.{number}
use Rattle.file_reads.proofs.Causes.{if_err, on_ok, refuses}
use Rattle.file_reads.proofs.Loads.{if_ok, still_inside}
use Rattle.file_reads.proofs.LookupLemmas.{finds_owned}
use Rattle.file_reads.proofs.lookups.members_of.Goals as goal

pub returns-clause-found : goal.returns-clause-found
returns-clause-found g c clean known =
    let old = state g.S.Store c.args.tx.now.conn.now in
    let new = state g.S.Store c.rows_of.new.tx.conn.now in
    let shown : IfOk c.rows_of.result (λ all. Shown c.select_by_owner.result.now (number c.args.owner ∷ []) old new (map g.T.Loaded.as_row all.items)) = rw c.in_ok-id.ensures.value at (c.rows_of.ensures.shown clean) in
    if_ok c.rows_of.result _ _ shown (λ all h. finds_owned c.select_by_owner.result.now g.T.Loaded.tree g.T.Loaded.as_row g.T.Member.owner_of g.T.Member.rows c.select_by_owner.ensures c.args.owner old new known all.items h)

pub returns-clause-still : goal.returns-clause-still
returns-clause-still g c clean at =
    let old = state g.S.Store c.args.tx.now.conn.now in
    let new = state g.S.Store c.rows_of.new.tx.conn.now in
    let shown : IfOk c.rows_of.result (λ all. Shown c.select_by_owner.result.now (number c.args.owner ∷ []) old new (map g.T.Loaded.as_row all.items)) = rw c.in_ok-id.ensures.value at (c.rows_of.ensures.shown clean) in
    on_ok c.rows_of.result _ _ shown (λ all h. still_inside c.select_by_owner.result.now (number c.args.owner ∷ []) old new c.select_by_owner.ensures.select.asks.1 at (map g.T.Loaded.as_row all.items) h)

pub returns-clause-kept : goal.returns-clause-kept
returns-clause-kept g c clean = c.rows_of.ensures.kept_reading clean (c.select_by_owner.ensures.select.reads (state g.S.Store c.args.tx.now.conn.now).now.schema)

pub returns-clause-refused : goal.returns-clause-refused
returns-clause-refused g c clean known =
    let old = state g.S.Store c.args.tx.now.conn.now in
    let new = state g.S.Store c.rows_of.new.tx.conn.now in
    let sql = c.select_by_owner.result.now in
    let is = c.select_by_owner.ensures in
    let refused = rw c.in_ok-id.ensures.value at (c.rows_of.ensures.refused clean) in
    if_err c.rows_of.result _ _ (refused (is.select.reads old.now.schema)) (λ e. refuses g.T.Loaded.as_row g.T.Loaded.fits sql g.T.Loaded.tree by_owner is.select (number c.args.owner ∷ []) old new known e)
