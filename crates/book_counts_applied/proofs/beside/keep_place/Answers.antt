use Rattle.std.proofs.Common.{sym, ap, ◌∙◌}
use Rattle.book_counts_applied.proofs.beside.keep_place.Goals as goal

pub returns-clause-kept : goal.returns-clause-kept
returns-clause-kept g c f row own none is = c.keep.ensures.kept (λ r. f (g.T.Row.key r)) row own (c.value_beside-value.ensures f none (c.as_slice.ensures.value ∙ is) ∙ ap f (sym own)) is
