use Rattle.std.proofs.Common.{ap, ◌∙◌}
use Rattle.app_csv.specs.VerdictLines.{codes_of}
use Rattle.app_files.specs.Served.{handler_of}
use Rattle.app_files.proofs.ImportLemmas.{adds_all}
use Rattle.app_files.proofs.importing.add_vouchers.Goals as goal

pub returns-in-Ok : goal.returns-in-Ok
returns-in-Ok g c =
    adds_all _ _ c.args.vouchers c.in-Ok.codes (handler_of c.args.opened) _ _ (c.in-Ok.ensures ∙ ap codes_of c.as_slice.ensures) c.act_opened.ensures
