use Rattle.std.proofs.Common.{◌≡◌, ◌≤◌, reverse, vec_len}
use Rattle.model_rows.specs.Change.{after_all}
use Rattle.model_rows.specs.Weight.{weight}
use Rattle.book_recount.proofs.recount.Recount.apply_list.Given as goal

-- the changes that are left lead to where all lead
abbrev pub invariant-loop-change : goal.invariant-loop-change
invariant-loop-change l = record {
  rest : after_all (reverse l.list.items) l.self.state.lists ≡ after_all l.fn.list.items l.fn.self.state.lists;
  next : l.self.state.next ≡ l.fn.self.state.next;
  moment : l.self.state.moment ≡ l.fn.self.state.moment;
  room : weight (reverse l.list.items) ≤ l.self.room;
}

abbrev pub decreases-loop-change : goal.decreases-loop-change
decreases-loop-change l = vec_len l.list
