use Rattle.std.proofs.Common.{◌≡◌, ◌∷◌, List, map, reverse, refl, sym, ap, ◌∙◌, subst, arith}
use Rattle.base_tables.specs.Tables.{AreInOrder, row_at}
use Rattle.model_catalogue.specs.declared.rows.Quota.{Quota}
use Rattle.model_catalogue.specs.CatalogueLists.{CatalogueLists}
use Rattle.model_rows.specs.declared.changes.Change.{Change}
use Rattle.model_rows.specs.declared.rows.Voucher.{Voucher}
use Rattle.model_rows.specs.Change.{after_all}
use Rattle.model_rows.specs.Lists.{State}
use Rattle.model_rows.specs.Weight.{weight}
use Rattle.book_counts_over_time.specs.Held.{AreHeld}
use Rattle.book_counts_applied.specs.Settled.{used_at, redeemed_at, spent_at, ArePutsNew, AreSmall}
use Rattle.book_counts_applied.proofs.Carries.{none_goes, by_id, redeemed_by_id, spent_by_id, none_used, first_new, others_new, turned, taken}
use Rattle.book_counts_applied.proofs.settle.carry_all.Goals as goal

pub loop-change-init : goal.loop-change-init
loop-change-init c =
    let order = subst (λ (l : CatalogueLists). AreInOrder (λ (q : Quota). q.id) l.quotas) c.catalogue-catalogue.ensures c.recall_invariant-2.ensures.in_order in
    let list : reverse c.reverse.new.self.items ≡ c.args.list.items = turned c.args.list.items c.reverse.new.self.items c.reverse.ensures.items in
    record {
      rest = ap (λ (l : List Change). after_all l c.args.store.now.state.lists) list;
      next = refl;
      moment = refl;
      room = omega (arith, c.requires.fits.rows, ap weight list);
      usages_room = omega (arith, c.requires.fits.usages, ap weight list);
      redeems_room = omega (arith, c.requires.fits.redeems, ap weight list);
      spents_room = omega (arith, c.requires.fits.spents, ap weight list);
      holds_room = omega (arith, c.requires.fits.holds, ap weight list);
      stay = λ id none. none;
      new = subst (λ (l : List Change). ArePutsNew (redeemed_at c.args.store.now.state) l c.args.store.now.state.lists) (sym list) c.requires.new;
      unspent = subst (λ (l : List Change). ArePutsNew (spent_at c.args.store.now.state) l c.args.store.now.state.lists) (sym list) c.requires.unspent;
      usages = by_id (record c.args.store.now.state { moment = c.args.from }) c.args.counted.now.usages.items order c.requires.usages;
      redeems = redeemed_by_id c.args.store.now.state c.args.counted.now.redeems.items c.recall_invariant.ensures.vouchers.in_order c.requires.redeems;
      spents = spent_by_id c.args.store.now.state c.args.counted.now.spents.items c.recall_invariant.ensures.vouchers.in_order c.requires.spents;
      small = c.requires.small;
      held = c.requires.held;
    }

pub loop-change-preserved : goal.loop-change-preserved
loop-change-preserved c =
    let old : State = c.args.store.now.state in
    let past : State = record old { moment = c.args.from } in
    let list : reverse c.loop-change.list.items ≡ c.in-Some.change ∷ reverse c.pop.new.self.items = taken c.loop-change.list.items c.pop.new.self.items c.in-Some.change c.in-Some.ensures.items in
    let puts : ArePutsNew (redeemed_at old) (c.in-Some.change ∷ reverse c.pop.new.self.items) c.loop-change.store.state.lists =
    subst (λ (l : List Change). ArePutsNew (redeemed_at old) l c.loop-change.store.state.lists) list c.loop-change.invariant.new in
    let unspent : ArePutsNew (spent_at old) (c.in-Some.change ∷ reverse c.pop.new.self.items) c.loop-change.store.state.lists =
    subst (λ (l : List Change). ArePutsNew (spent_at old) l c.loop-change.store.state.lists) list c.loop-change.invariant.unspent in
    record {
      rest =
          ap (λ (s : State). after_all (reverse c.pop.new.self.items) s.lists) c.carry.ensures.state
          ∙ ap (λ (l : List Change). after_all l c.loop-change.store.state.lists) (sym list) ∙ c.loop-change.invariant.rest;
      next = ap (λ (s : State). s.next) c.carry.ensures.state ∙ c.loop-change.invariant.next;
      moment = ap (λ (s : State). s.moment) c.carry.ensures.state ∙ c.loop-change.invariant.moment;
      room = omega (arith, c.loop-change.invariant.room, ap weight list, c.carry.ensures.room);
      usages_room = omega (arith, c.loop-change.invariant.usages_room, ap weight list, c.carry.ensures.kept.usages_room);
      redeems_room = omega (arith, c.loop-change.invariant.redeems_room, ap weight list, c.carry.ensures.kept.redeems_room);
      spents_room = omega (arith, c.loop-change.invariant.spents_room, ap weight list, c.carry.ensures.kept.spents_room);
      holds_room = omega (arith, c.loop-change.invariant.holds_room, ap weight list, c.carry.ensures.kept.holds_room);
      stay = λ id none. c.loop-change.invariant.stay id (none_goes id c.in-Some.change c.loop-change.store.state.lists (sym (ap (λ (s : State). row_at (λ (q : Quota). q.id) id s.lists.catalogue.quotas) c.carry.ensures.state) ∙ none));
      new = subst (λ (s : State). ArePutsNew (redeemed_at old) (reverse c.pop.new.self.items) s.lists) (sym c.carry.ensures.state) (others_new (redeemed_at old) c.in-Some.change (reverse c.pop.new.self.items) c.loop-change.store.state.lists puts);
      unspent = subst (λ (s : State). ArePutsNew (spent_at old) (reverse c.pop.new.self.items) s.lists) (sym c.carry.ensures.state) (others_new (spent_at old) c.in-Some.change (reverse c.pop.new.self.items) c.loop-change.store.state.lists unspent);
      usages = c.carry.ensures.kept.usages (used_at past) (λ id none. none_used past id (c.loop-change.invariant.stay id none)) c.loop-change.invariant.usages ∙ ap (λ (s : State). map (λ (q : Quota). used_at past q.id) s.lists.catalogue.quotas) (sym c.carry.ensures.state);
      redeems = c.carry.ensures.kept.redeems (redeemed_at old) (first_new (redeemed_at old) c.in-Some.change (reverse c.pop.new.self.items) c.loop-change.store.state.lists puts) c.loop-change.invariant.redeems ∙ ap (λ (s : State). map (λ (v : Voucher). redeemed_at old v.id) s.lists.vouchers) (sym c.carry.ensures.state);
      spents = c.carry.ensures.kept.spents (spent_at old) (first_new (spent_at old) c.in-Some.change (reverse c.pop.new.self.items) c.loop-change.store.state.lists unspent) c.loop-change.invariant.spents ∙ ap (λ (s : State). map (λ (v : Voucher). spent_at old v.id) s.lists.vouchers) (sym c.carry.ensures.state);
      small = subst (λ (s : State). AreSmall s.lists) (sym c.carry.ensures.state) c.carry.ensures.small;
      held = subst (λ (s : State). AreHeld s.lists s.moment c.carry.new.counted.holds.items) (sym c.carry.ensures.state) c.carry.ensures.held;
    }

pub carry-requires-clause-fits : goal.carry-requires-clause-fits
carry-requires-clause-fits c =
    let list : reverse c.loop-change.list.items ≡ c.in-Some.change ∷ reverse c.pop.new.self.items = taken c.loop-change.list.items c.pop.new.self.items c.in-Some.change c.in-Some.ensures.items in
    record {
      rows = omega (arith, c.loop-change.invariant.room, ap weight list);
      usages = omega (arith, c.loop-change.invariant.usages_room, ap weight list);
      redeems = omega (arith, c.loop-change.invariant.redeems_room, ap weight list);
      spents = omega (arith, c.loop-change.invariant.spents_room, ap weight list);
      holds = omega (arith, c.loop-change.invariant.holds_room, ap weight list);
    }
