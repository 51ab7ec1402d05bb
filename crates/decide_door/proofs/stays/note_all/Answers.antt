use Rattle.std.proofs.Common.{◌≡◌, ◌∷◌, ◌+◌, sym, ap, ◌∙◌, map, drop, arith}
use Rattle.std.proofs.lemmas.List.{drop_more, drop_all, map-id}
use Rattle.model_rows.specs.declared.rows.Checkin.{Checkin}
use Rattle.decide_door.specs.Stays.{checkin_noted, noted_all}
use Rattle.base_tables.proofs.Mapped.{map_two}
use Rattle.decide_door.proofs.stays.note_all.Goals as goal

pub loop-checkin-preserved : goal.loop-checkin-preserved
loop-checkin-preserved c =
    let i = c.loop-checkin.checkin-index in
    let list = c.args.list in
    let checkin = c.checkin-item.result in
    let all = c.args.checkins.now in
    let rest = drop (i + 1) all in
    let stays = c.loop-checkin.stays.items in
    let left : drop i all ≡ checkin ∷ rest = drop_more all i checkin c.loop-checkin-test.true ∙ ap (λ (r : Checkin). r ∷ rest) (sym c.checkin-item.is) in
    record {
      order = c.note.ensures.order;
      rest = ap (map (noted_all list rest)) c.note.ensures.noted ∙ map_two (checkin_noted list checkin) (noted_all list rest) stays ∙ ap (λ l. map (noted_all list l) stays) (sym left) ∙ c.loop-checkin.invariant.rest;
    }

pub returns : goal.returns
returns c =
    let stays = c.loop-checkin.stays.items in
    sym (map-id stays) ∙ ap (λ l. map (noted_all c.args.list l) stays) (sym (drop_all c.loop-checkin.checkin-index c.args.checkins.now (omega arith))) ∙ c.loop-checkin.invariant.rest
