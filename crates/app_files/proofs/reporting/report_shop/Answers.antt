use Rattle.std.proofs.Common.{inl, inr}
use Rattle.app_files.specs.Served.{handler_of}
use Rattle.app_files.proofs.reporting.report_shop.Goals as goal

pub returns-in-Ok : goal.returns-in-Ok
returns-in-Ok g c =
    inl
    (record {
      handler = handler_of c.in-Ok.opened;
      opens = c.in-Ok.ensures.opens;
      told = c.report_opened.ensures.told;
      connection = c.report_opened.ensures.connection;
    })

pub returns-in-Err : goal.returns-in-Err
returns-in-Err g c = inr c.in-Err.ensures.stays
