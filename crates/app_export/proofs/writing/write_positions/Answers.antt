use Rattle.std.proofs.Common.{rules, refl}
use Rattle.sqlite.specs.Held.{state}
use Rattle.web_http.specs.Written.{writer_page}
use Rattle.web_cli.specs.declared.fault.RunFault.TheVariants as faults
use Rattle.app_export.proofs.WriteLemmas.{exports_none}
use Rattle.app_export.proofs.writing.write_positions.Goals as goal

pub returns-then-not-is_autocommit : goal.returns-then-not-is_autocommit
returns-then-not-is_autocommit g c =
    exports_none (state g.S.Store c.args.connection.now) (writer_page g.W.Drain c.args.writer.now) faults.Store tt (search rules) (search rules) refl
