use Rattle.std.proofs.Common.{ℕ, List, inl, subst, take}
use Rattle.web_http.specs.Written.{Page, writer_page}
use Rattle.app_run.specs.Line.{AddsLine}
use Rattle.app_run.proofs.typed.add_typed_token.Goals as goal

pub returns-in-Ok : goal.returns-in-Ok
returns-in-Ok g c =
    let old : Page = writer_page g.W.Drain c.args.writer.now in
    let new : Page = writer_page g.W.Drain c.add_line.new.writer in
    let added = subst (λ (t : List ℕ). AddsLine g.F.HouseFiles.added c.args.file.now t old new c.add_line.result) c.uncut.ensures c.add_line.ensures in
    (inl (take c.in-Ok.n c.read_first_line.new.line, c.in-Ok.ensures.came, added, c.in-Ok.ensures.well), c.in-Ok.ensures.calls)
