use Rattle.std.proofs.Common.{◌≡◌, ◌∷◌, List, reverse, sym, ap, ◌∙◌, subst, arith, length}
use Rattle.model_rows.specs.declared.changes.Change.{Change}
use Rattle.model_rows.specs.Change.{after_all}
use Rattle.model_rows.specs.Lists.{State}
use Rattle.model_rows.specs.Weight.{weight}
use Rattle.book_counts_applied.specs.Settled.{AreSmall}
use Rattle.book_counts_applied.proofs.AgainLemmas.{quotas_few, vouchers_few}
use Rattle.book_counts_applied.proofs.Carries.{taken}
use Rattle.book_counts_applied.proofs.again.put_rows.Goals as goal

pub loop-change-preserved : goal.loop-change-preserved
loop-change-preserved c =
    let list : reverse c.loop-change.list.items ≡ c.in-Some.change ∷ reverse c.pop.new.self.items = taken c.loop-change.list.items c.pop.new.self.items c.in-Some.change c.in-Some.ensures.items in
    record {
      rest =
          ap (λ (s : State). after_all (reverse c.pop.new.self.items) s.lists) c.put_row.ensures.state
          ∙ ap (λ (l : List Change). after_all l c.loop-change.store.state.lists) (sym list) ∙ c.loop-change.invariant.rest;
      next = ap (λ (s : State). s.next) c.put_row.ensures.state ∙ c.loop-change.invariant.next;
      moment = ap (λ (s : State). s.moment) c.put_row.ensures.state ∙ c.loop-change.invariant.moment;
      room = omega (arith, c.loop-change.invariant.room, ap weight list, c.put_row.ensures.room);
      small = subst (λ (s : State). AreSmall s.lists) (sym c.put_row.ensures.state) c.put_row.ensures.small;
      quotas = omega (arith, c.loop-change.invariant.quotas, ap weight list, quotas_few c.in-Some.change c.loop-change.store.state.lists, ap (λ (s : State). length s.lists.catalogue.quotas) c.put_row.ensures.state);
      vouchers = omega (arith, c.loop-change.invariant.vouchers, ap weight list, vouchers_few c.in-Some.change c.loop-change.store.state.lists, ap (λ (s : State). length s.lists.vouchers) c.put_row.ensures.state);
    }
