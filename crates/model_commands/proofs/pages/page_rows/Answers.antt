use Rattle.std.proofs.Common.{ℕ, ap, ◌∙◌, take, drop}
use Rattle.model_commands.proofs.PageRows.{first_fifty}
use Rattle.model_commands.proofs.pages.page_rows.Goals as goal

pub returns : goal.returns
returns g c =
    first_fifty c.rows_before.result c.min.result c.args.rows.now c.min.ensures
    ∙ ap (λ (n : ℕ). take 50 (drop n c.args.rows.now)) c.rows_before.ensures
