use Rattle.std.proofs.Common.{[], ◌∷◌, ◌++◌, List, sym, ap, ◌∙◌}
use Rattle.std.proofs.lemmas.List.{append-nil}
use Rattle.model_rows.specs.declared.changes.Change.{Change}
use Rattle.model_commands.specs.declared.vouchers.Verdict.{Verdict}
use Rattle.decide_vouchers.specs.Imported.{import_changes}
use Rattle.decide_vouchers.proofs.Imports.{puts_nothing}
use Rattle.decide_vouchers.proofs.importing.import_row.Goals as goal

pub returns-in-Some-clause-changes : goal.returns-in-Some-clause-changes
returns-in-Some-clause-changes g c =
    let made = c.args.draft.now.log.changes in
    let none = ap (λ (verdict : Verdict). import_changes (verdict ∷ [])) c.verdict_on.ensures ∙ puts_nothing c.args.new.now c.in-Some.row.now in
    sym (ap (λ (changes : List Change). made ++ changes) none ∙ append-nil made)
