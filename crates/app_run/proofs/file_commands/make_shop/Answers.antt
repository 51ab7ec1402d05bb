use Rattle.std.proofs.Common.{◌≡◌, ◌&&◌, rules, true, Ok}
use Rattle.base_values.specs.Slugs.{is_slug}
use Rattle.web_http.specs.Written.{Page, writer_page}
use Rattle.app_run.proofs.SayLemmas.{makes_there}
use Rattle.app_run.proofs.file_commands.make_shop.Goals as goal

pub returns-in-Ok : goal.returns-in-Ok
returns-in-Ok g c =
    let old : Page = writer_page g.W.Drain c.args.writer.now in
    let new : Page = writer_page g.W.Drain c.say.new.writer in
    let well : (is_slug c.args.organizer.now && is_slug c.args.event.now) ≡ true = search rules in
    makes_there g.F.HouseFiles.made _ _ _ _ old new (Ok c.in-Ok.field-0) c.end_said.result well c.in-Ok.ensures (c.say.result, c.say.ensures, c.end_said.ensures)
