use Rattle.std.proofs.Common.{◌∙◌, inr, refl}
use Rattle.app_files.specs.Served.{handler_of}
use Rattle.app_files.proofs.ServeLemmas.{leads_by_names, nobody_answered}
use Rattle.app_files.proofs.serving.serve_opened.Goals as goal

pub returns-in-Ok-clause-leads : goal.returns-in-Ok-clause-leads
returns-in-Ok-clause-leads g c =
    leads_by_names _ _ _ c.args.opened.tables _ c.args.opened.office.organizer c.args.opened.office.event _ _ c.args.opened.office.state _ _ c.with_words-handler.ensures (c.in-Ok.ensures.organizer ∙ c.organizer.ensures) (c.in-Ok.ensures.event ∙ c.event.ensures) c.serve_handler.ensures.leads

pub returns-in-Err-clause-said : goal.returns-in-Err-clause-said
returns-in-Err-clause-said g c = inr (refl, (_, refl))

pub returns-in-Err-clause-leads : goal.returns-in-Err-clause-leads
returns-in-Err-clause-leads g c =
    nobody_answered _ _ _ (handler_of c.args.opened) _ c.connection_of.ensures
