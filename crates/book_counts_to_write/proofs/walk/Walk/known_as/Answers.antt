use Rattle.std.proofs.Common.{◌≡◌, false, Some, sym, ap, ◌∙◌}
use Rattle.base_tables.specs.Tables.{has}
use Rattle.base_tables.proofs.RisingLemmas.{has-rising}
use Rattle.book_counts_to_write.specs.Due.{due_quotas}
use Rattle.book_counts_to_write.proofs.Undue.{used_alike}
use Rattle.book_counts_to_write.proofs.walk.Walk.known_as.Goals as goal

pub returns-else-has-clause-had : goal.returns-else-has-clause-had
returns-else-has-clause-had g c =
    let state = g.B.Book.state c.args.self.now.book.now in
    let q = c.args.quota.now in
    let undue : has q.id (due_quotas state.moment c.args.self.now.at state.lists) ≡ false = sym (has-rising q.id (due_quotas state.moment c.args.self.now.at state.lists)) ∙ ap (has q.id) (sym c.args.self.now.dues) ∙ sym c.has.ensures ∙ c.if-has.false in
    ap Some (c.usage_of-base.ensures ∙ used_alike state.moment c.args.self.now.at c.args.self.now.past state.lists q c.requires undue c.ids_rise.ensures)
