use Rattle.std.proofs.Common.{◌∙◌, map, sym, ap, subst}
use Rattle.base_tables.specs.Tables.{AreInOrder}
use Rattle.decide_door.specs.declared.stays.Stay.{Stay}
use Rattle.decide_door.specs.Stays.{noted_all, counts_of}
use Rattle.decide_door.proofs.Noting.{no_stays_in_order, status_is}
use Rattle.decide_door.proofs.stays.status.Goals as goal

pub note_all-requires : goal.note_all-requires
note_all-requires g c = subst (λ l. AreInOrder (λ (s : Stay). s.position) l) (sym c.in_ok-stays.ensures) (no_stays_in_order c.args.list.now (g.B.Book.state c.args.book.now).lists c.recall_invariant.ensures.positions.in_order)

pub returns : goal.returns
returns g c =
    let list = c.args.list.now in
    let lists = (g.B.Book.state c.args.book.now).lists in
    c.counted.ensures
    ∙ ap counts_of (c.deref.ensures.value ∙ c.note_all.ensures ∙ ap (λ cs. map (noted_all list.id cs) c.in_ok-stays.stays.items) c.checkins.ensures ∙ ap (map (noted_all list.id lists.checkins)) c.in_ok-stays.ensures)
    ∙ status_is list lists
