use Rattle.std.proofs.Common.{[], ◌∷◌, ◌++◌}
use Rattle.web_http.specs.Written.{Page, writer_page}
use Rattle.web_http.proofs.WriteLemmas.{stops, goes_on}
use Rattle.web_cli.proofs.saying.say.Goals as goal

pub returns-in-Ok : goal.returns-in-Ok
returns-in-Ok g c =
    let old : Page = writer_page g.W.Drain c.args.writer.now in
    let mid : Page = writer_page g.W.Drain c.write_all.new.writer in
    let new : Page = writer_page g.W.Drain c.end_line.new.writer in
    goes_on c.end_line.result c.in-Ok.field-0 old mid new c.args.first.now (c.args.second.now ++ 10 ∷ []) c.in-Ok.ensures c.end_line.ensures

pub returns-in-Err : goal.returns-in-Err
returns-in-Err g c =
    let old : Page = writer_page g.W.Drain c.args.writer.now in
    let new : Page = writer_page g.W.Drain c.write_all.new.writer in
    stops c.in-Err.refused old new c.args.first.now (c.args.second.now ++ 10 ∷ []) c.in-Err.ensures
