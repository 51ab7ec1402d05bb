use Rattle.std.proofs.Common.{◌∙◌, ap}
use Rattle.app_files.proofs.serving.serve_handler.Goals as goal

pub returns-clause-leads : goal.returns-clause-leads
returns-clause-leads g c = record {
  last = c.run_over_tcp-outcome.new.handler;
  serving = rw (c.new-logged.ensures) at c.run_over_tcp-outcome.ensures.leads;
  connection = c.into_connection.ensures ∙ ap (λ t. t.connection) (c.into_tables.ensures ∙ ap (λ d. d.tables) c.into_handler.ensures);
}
