use Rattle.decide_orders.proofs.creating.create.Goals as goal

pub new_rows-requires-clause-next : goal.new_rows-requires-clause-next
new_rows-requires-clause-next g c = c.requires.sound.range.next_ids.positions.within
