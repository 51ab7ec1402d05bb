use Rattle.std.proofs.Common.{sym, ap, ◌∙◌}
use Rattle.std.specs.Prelude.{is_some}
use Rattle.model_rows.specs.Waits.{waits_as}
use Rattle.book_store.proofs.Listed.{any_find, some_copied}
use Rattle.book_store.proofs.store.Store.is_waiting.Goals as goal

pub returns : goal.returns
returns c =
    c.is_some.ensures
    ∙ some_copied c.entry_waiting.result
    ∙ ap is_some c.entry_waiting.ensures
    ∙ sym (any_find (waits_as c.args.email.now c.args.product) c.args.self.now.state.lists.waiting)
