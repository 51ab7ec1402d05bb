use Rattle.std.proofs.Common.{◌≡◌, ◌∙◌, ◌++◌, ◌∷◌, [], List, ℕ, ap, codes, rules, true, Ok}
use Rattle.std.specs.Fmt.{decimal}
use Rattle.web_http.specs.Written.{Page, writer_page}
use Rattle.web_http.proofs.WriteLemmas.{writes_as}
use Rattle.web_cli.specs.Values.{is_token}
use Rattle.app_run.proofs.SayLemmas.{adds_there}
use Rattle.app_run.proofs.file_commands.add_token.Goals as goal

pub returns-in-Ok : goal.returns-in-Ok
returns-in-Ok g c =
    let old : Page = writer_page g.W.Drain c.args.writer.now in
    let new : Page = writer_page g.W.Drain c.say.new.writer in
    let well : is_token c.args.token.now ≡ true = search rules in
    let digits : c.as_bytes.result.now ≡ decimal c.in-Ok.number = c.as_bytes.ensures.value ∙ c.format.ensures.text in
    let written = writes_as c.say.result old new _ _ (ap (λ (d : List ℕ). codes "token " ++ (d ++ 10 ∷ [])) digits) c.say.ensures in
    adds_there g.F.HouseFiles.added _ _ _ old new (Ok c.in-Ok.number) c.end_said.result well c.in-Ok.ensures (c.say.result, written, c.end_said.ensures)
