use Rattle.web_http.specs.Written.{Page, writer_page}
use Rattle.web_http.proofs.WriteLemmas.{writes_as}
use Rattle.app_run.proofs.file_commands.tell.Goals as goal

pub returns-in-Ok : goal.returns-in-Ok
returns-in-Ok g c =
    let old : Page = writer_page g.W.Drain c.args.writer.now in
    let new : Page = writer_page g.W.Drain c.write_all.new.writer in
    let written = writes_as c.write_all.result old new _ _ c.as_slice.ensures c.write_all.ensures in
    rw c.in-Ok.is (c.write_all.result, written, c.end_said.ensures)
