use Rattle.std.proofs.Common.{rules, ◌≡◌, ℕ, List, map, sym, ap, ◌∙◌, subst, arith}
use Rattle.base_tables.specs.Tables.{AreInOrder}
use Rattle.model_catalogue.specs.declared.rows.Quota.{Quota}
use Rattle.model_catalogue.specs.CatalogueLists.{CatalogueLists}
use Rattle.model_rows.specs.declared.changes.Change.{Change}
use Rattle.model_rows.specs.declared.rows.Voucher.{Voucher}
use Rattle.model_rows.specs.Change.{changes_applied}
use Rattle.model_rows.specs.CountRows.{counts_after}
use Rattle.model_rows.specs.Lists.{State}
use Rattle.model_rows.specs.Usage.{redeemed}
use Rattle.model_rows.specs.Weight.{weight}
use Rattle.book_counts_over_time.specs.Spends.{AreSpent}
use Rattle.book_counts_applied.specs.Settled.{used_at, redeemed_at, spent_at, ArePutsNew}
use Rattle.book_counts_applied.proofs.SparedLemmas.{spared_new, spared_unspent}
use Rattle.book_counts_applied.proofs.Told.{settle_is, redeems_are, spents_are}
use Rattle.book_counts_applied.proofs.settle.settle.Goals as goal

pub carry_all-requires-clause-redeems : goal.carry_all-requires-clause-redeems
carry_all-requires-clause-redeems c = subst (λ (s : State). c.args.counted.now.redeems.items ≡ map (λ (v : Voucher). redeemed v.id s.lists) s.lists.vouchers) (sym c.set.ensures.state) c.requires.kept.redeems

pub carry_all-requires-clause-spents : goal.carry_all-requires-clause-spents
carry_all-requires-clause-spents c = subst (λ (s : State). AreSpent s.lists c.args.counted.now.spents.items) (sym c.set.ensures.state) c.requires.kept.spents

pub carry_all-requires-clause-new : goal.carry_all-requires-clause-new
carry_all-requires-clause-new c =
    let old : State = c.args.store.now.state in
    let given = subst (λ (l : List Change). ArePutsNew (redeemed_at old) l old.lists) (sym c.into_parts-list.ensures.list) (spared_new old c.args.changes.list c.requires.spared) in
    subst (λ (s : State). ArePutsNew (redeemed_at s) c.into_parts-list.result.0.items s.lists) (sym c.set.ensures.state) given

pub carry_all-requires-clause-unspent : goal.carry_all-requires-clause-unspent
carry_all-requires-clause-unspent c =
    let old : State = c.args.store.now.state in
    let given = subst (λ (l : List Change). ArePutsNew (spent_at old) l old.lists) (sym c.into_parts-list.ensures.list) (spared_unspent old c.args.changes.list c.requires.spared) in
    subst (λ (s : State). ArePutsNew (spent_at s) c.into_parts-list.result.0.items s.lists) (sym c.set.ensures.state) given

pub carry_all-requires-clause-fits : goal.carry_all-requires-clause-fits
carry_all-requires-clause-fits c = record {
  rows = omega (arith, c.requires.fits.rows, ap weight c.into_parts-list.ensures.list, c.set.ensures.room);
  usages = omega (arith, c.requires.fits.usages, ap weight c.into_parts-list.ensures.list);
  redeems = omega (arith, c.requires.fits.redeems, ap weight c.into_parts-list.ensures.list);
  spents = omega (arith, c.requires.fits.spents, ap weight c.into_parts-list.ensures.list);
  holds = omega (arith, c.requires.fits.holds, ap weight c.into_parts-list.ensures.list, c.hold_at.ensures.stays.room, c.hold_at.ensures.stays.same);
}

pub returns-clause-kept : goal.returns-clause-kept
returns-clause-kept c =
    let old : State = c.args.store.now.state in
    let new : State = c.carry_all.new.store.state in
    let is : new ≡ changes_applied c.args.changes c.args.at old = search rules in
    let before = subst (λ (l : CatalogueLists). AreInOrder (λ (q : Quota). q.id) l.quotas) c.catalogue-old.ensures c.recall_invariant-2.ensures.in_order in
    let after = subst (λ (l : List Quota). AreInOrder (λ (q : Quota). q.id) l) (sym c.quotas.ensures) c.recall_invariant-4.ensures.in_order in
    let quotas = c.quotas.ensures ∙ ap (λ (l : CatalogueLists). l.quotas) c.catalogue-catalogue.ensures in
    let used =
    c.carry_all.ensures.usages
    ∙ ap (λ (s : State). map (λ (q : Quota). used_at (record s { moment = c.moment-from.result }) q.id) new.lists.catalogue.quotas) c.set.ensures.state
    ∙ ap (λ (at : ℕ). map (λ (q : Quota). used_at (record old { moment = at }) q.id) new.lists.catalogue.quotas) c.moment-from.ensures
    ∙ ap (λ (l : List Quota). map (λ q. used_at old q.id) l) (sym quotas) in
    let uses =
    c.carry_all.ensures.redeems
    ∙ ap (λ (s : State). map (λ (v : Voucher). redeemed_at s v.id) new.lists.vouchers) c.set.ensures.state
    ∙ ap (λ (l : List Voucher). map (λ v. redeemed_at old v.id) l) (sym c.vouchers.ensures) in
    let cents =
    c.carry_all.ensures.spents
    ∙ ap (λ (s : State). map (λ (v : Voucher). spent_at s v.id) new.lists.vouchers) c.set.ensures.state
    ∙ ap (λ (l : List Voucher). map (λ v. spent_at old v.id) l) (sym c.vouchers-3.ensures) in
    record {
      usages = settle_is old new c.carry_all.new.counted.usages.items c.set_usages.new.usages.items c.args.counts.now c.quotas-2.result.now c.quotas.result.now before after quotas (c.requires.counts ∙ ap (counts_after old) (sym is)) c.quotas-2.ensures used c.set_usages.ensures.kept;
      redeems = redeems_are old new c.carry_all.new.counted.redeems.items c.set_redeems.new.redeems.items c.args.counts.now c.vouchers-2.result.now c.vouchers.result.now c.recall_invariant.ensures.vouchers.in_order c.recall_invariant-3.ensures.vouchers.in_order c.vouchers.ensures (c.requires.counts ∙ ap (counts_after old) (sym is)) c.vouchers-2.ensures uses c.set_redeems.ensures.kept;
      spents = spents_are old new c.carry_all.new.counted.spents.items c.set_spents.new.spents.items c.args.counts.now c.vouchers-4.result.now c.vouchers-3.result.now c.recall_invariant.ensures.vouchers.in_order c.recall_invariant-3.ensures.vouchers.in_order c.vouchers-3.ensures (c.requires.counts ∙ ap (counts_after old) (sym is)) c.vouchers-4.ensures cents c.set_spents.ensures.kept;
      held = c.carry_all.ensures.held;
      small = c.carry_all.ensures.small;
    }
