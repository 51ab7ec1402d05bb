use Rattle.std.proofs.Common.{◌≡◌, ◌++◌, ◌∷◌, [], List, ℕ, ap, Ok}
use Rattle.web_http.specs.Written.{Page, writer_page}
use Rattle.web_http.proofs.WriteLemmas.{writes_as}
use Rattle.app_run.proofs.file_commands.work_shop.Goals as goal

pub returns-in-Ok : goal.returns-in-Ok
returns-in-Ok g c =
    let old : Page = writer_page g.W.Drain c.args.writer.now in
    let new : Page = writer_page g.W.Drain c.say.new.writer in
    let written = writes_as c.say.result old new _ _ (ap (λ (t : List ℕ). t ++ 10 ∷ []) c.as_slice.ensures) c.say.ensures in
    (Ok c.in-Ok.done, c.in-Ok.ensures, (c.say.result, written, c.end_said.ensures))
