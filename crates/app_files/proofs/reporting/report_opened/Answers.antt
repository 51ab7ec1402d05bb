use Rattle.std.proofs.Common.{◌≡◌, ℕ, List, Result, sym, subst}
use Rattle.model_rows.specs.Lists.{Lists}
use Rattle.web_cli.specs.declared.fault.RunFault.{RunFault}
use Rattle.web_cli.specs.declared.values.Report.{Report}
use Rattle.app_files.specs.Reported.{IsReport}
use Rattle.app_files.proofs.reporting.report_opened.Goals as goal
use Rattle.app_files.proofs.reporting.report_opened.Goals.{in-Sales, in-Door, in-Version}

-- what is told of one report is told of the report that it is
told_as : (report one : Report) (version : ℕ) (lists : Lists) (outcome came : Result (List ℕ) RunFault) → report ≡ one → outcome ≡ came → IsReport one version lists came → IsReport report version lists outcome
told_as report one version lists outcome came is same told =
    subst (λ (r : Report). IsReport r version lists outcome) (sym is) (subst (λ (o : Result (List ℕ) RunFault). IsReport one version lists o) (sym same) told)

pub returns-clause-told : goal.returns-clause-told
returns-clause-told g c =
    let version = c.args.opened.tables.head.version in
    let lists = c.args.opened.office.state.lists in
    elim c.match-report.branch [
      | in-Sales w ↦ told_as c.args.report _ version lists c.match-report.outcome _ w.in-Sales.is w.outcome-is (w.sales_of-outcome.ensures version)
      | in-Door w ↦ told_as c.args.report _ version lists c.match-report.outcome _ w.in-Door.is w.outcome-is (w.door_of-outcome.ensures version)
      | in-Version w ↦ told_as c.args.report _ version lists c.match-report.outcome _ w.in-Version.is w.outcome-is (w.version_of-outcome.ensures lists)
    ]
