use Rattle.sqlite.specs.Held.{state}
use Rattle.app_files.specs.Served.{handler_of}
use Rattle.web_http.specs.Written.{Page, writer_page}
use Rattle.app_files.proofs.ExportLemmas.{opened_exported, unopened_exported}
use Rattle.app_files.proofs.exporting.export_shop.Goals as goal

pub returns-in-Ok : goal.returns-in-Ok
returns-in-Ok g c =
    let handler = handler_of c.in-Ok.opened in
    let old : Page = writer_page g.W.Drain c.args.writer.now in
    let new : Page = writer_page g.W.Drain c.write_positions-outcome.new.writer in
    let (text, e) = c.write_positions-outcome.ensures in
    (text, opened_exported g.S.Store (state g.S.Store c.args.connection) c.connection_of-connection.result _ handler text old new _ c.in-Ok.ensures.opens c.connection_of-connection.ensures e, e.added, e.counted)

pub returns-in-Err : goal.returns-in-Err
returns-in-Err g c =
    let old : Page = writer_page g.W.Drain c.args.writer.now in
    unopened_exported g.S.Store (state g.S.Store c.args.connection) _ _ old c.in-Err.ensures.stays
