use Rattle.std.proofs.Common.{refl, sym, ◌∙◌, take}
use Rattle.std.proofs.lemmas.List.{take_all}
use Rattle.base_tables.specs.Tables.{has}
use Rattle.book_counts_over_time.specs.UsageUpdates.{only}
use Rattle.book_counts_over_time.proofs.TouchedLemmas.{beside_same, each_more, each_taken}
use Rattle.book_counts_over_time.proofs.touched.shift_each.Goals as goal

pub loop-place-init : goal.loop-place-init
loop-place-init g c = record {
  done = sym (beside_same (only (λ q. has q.id (take 0 c.args.ids.now)) (g.S.UsageUpdate.shift c.args.shift.now)) c.args.quotas.now c.args.usages.now.items c.requires.same (λ q u. refl));
  same = c.requires.same;
  room = refl;
}

pub loop-place-preserved : goal.loop-place-preserved
loop-place-preserved g c =
    let lt = rw c.len-place-end.ensures at c.loop-place-test.true in
    record {
      done = each_more (g.S.UsageUpdate.shift c.args.shift.now) c.args.quotas.now c.args.usages.now.items c.loop-place.usages.items c.shift_one.new.usages.items c.args.ids.now c.loop-place.place c.at.result c.requires.rising lt c.at.ensures c.loop-place.invariant.done c.shift_one.ensures.items;
      same = c.shift_one.ensures.same ∙ c.loop-place.invariant.same;
      room = c.shift_one.ensures.room ∙ c.loop-place.invariant.room;
    }

pub returns-clause-items : goal.returns-clause-items
returns-clause-items g c =
    let le = rw c.len-place-end.ensures at c.loop-place-test.false in
    c.loop-place.invariant.done ∙ each_taken (g.S.UsageUpdate.shift c.args.shift.now) c.args.quotas.now c.args.usages.now.items c.args.ids.now (take c.loop-place.place c.args.ids.now) (take_all c.loop-place.place c.args.ids.now le)

pub returns-clause-stays : goal.returns-clause-stays
returns-clause-stays g c = record { room = c.loop-place.invariant.room; same = c.loop-place.invariant.same ∙ sym c.requires.same }
