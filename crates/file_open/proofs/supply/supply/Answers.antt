use Rattle.file_open.proofs.supply.supply.Goals as goal

pub returns-clause-limits : goal.returns-clause-limits
returns-clause-limits c = λ fit. record {
  shop = fit.shop;
  ids = fit.ids;
  tables = record { catalogue = fit.tables.catalogue; sales = fit.tables.sales; doors = fit.tables.doors; others = record { tokens = fit.tables.others.tokens; kept = fit.tables.others.kept } };
}
