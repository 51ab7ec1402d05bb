use Rattle.std.proofs.Common.{List, ap, ◌∙◌}
use Rattle.model_rows.specs.declared.rows.Checkin.{Checkin}
use Rattle.model_invariant.specs.Checkins.{repeats}
use Rattle.file_check.specs.Firsts.{is_first}
use Rattle.file_check.proofs.Likes.{first_of_position}
use Rattle.file_check.proofs.nonces.is_new.Goals as goal

pub returns : goal.returns
returns g c =
    c.is_new_among-new.ensures
    ∙ ap (λ (rows : List Checkin). is_first (λ r. r.id) repeats rows c.args.row.now) (c.as_slice.ensures ∙ c.in_ok-rows.ensures)
    ∙ first_of_position c.args.row.now (g.B.Book.state c.args.book.now).lists.checkins
