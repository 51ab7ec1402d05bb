use Rattle.std.proofs.Common.{Option, Some, sym, ap, ◌∙◌}
use Rattle.model_rows.specs.declared.passages.Passage.{Passage}
use Rattle.model_rows.specs.Passages.{is_exit_if, later, passage}
use Rattle.draft_overlay.specs.Logs.{rows_of}
use Rattle.draft_counts.proofs.Releases.{out_after}
use Rattle.draft_counts.proofs.checkins.is_out_after.Goals as goal

pub returns : goal.returns
returns g c =
    let lists = rows_of c.args.overlay.now in
    let row = c.args.row.now in
    c.is_exit_if.ensures
    ∙ ap (λ (p : Passage). is_exit_if (Some p)) (c.later.ensures ∙ ap (later c.last_at-last.result) c.of.ensures ∙ ap (λ (o : Option Passage). later o (passage row)) c.last_at-last.ensures)
    ∙ sym (out_after row lists c.requires)
