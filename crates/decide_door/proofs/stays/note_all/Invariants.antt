use Rattle.std.proofs.Common.{◌≡◌, map, drop}
use Rattle.base_tables.specs.Tables.{AreInOrder}
use Rattle.decide_door.specs.Stays.{noted_all}
use Rattle.decide_door.proofs.stays.note_all.Given as goal

-- positions rise, and what is left to note leads to what noting all does
abbrev pub invariant-loop-checkin : goal.invariant-loop-checkin
invariant-loop-checkin l = record {
  order : AreInOrder (λ s. s.position) l.stays.items;
  rest : map (noted_all l.list (drop l.checkin-index l.checkins)) l.stays.items ≡ map (noted_all l.list l.checkins) l.fn.stays.items;
}
