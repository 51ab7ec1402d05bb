-- A new check-in list and a new check-in keep a box office sound.
use Rattle.std.proofs.Common.{◌≡◌, false}
use Rattle.model_catalogue.specs.Limits.{most_rows, last_id}
use Rattle.model_rows.specs.declared.rows.CheckinList.{CheckinList}
use Rattle.model_rows.specs.declared.rows.Checkin.{Checkin}
use Rattle.model_rows.specs.Lists.{State}
use Rattle.model_rows.specs.Numbered.{with_checkin_list, with_checkin}
use Rattle.model_invariant.specs.Checkins.{HasItems, IsCheckedIn}
use Rattle.model_invariant.specs.Shown.{is_repeated}
use Rattle.model_invariant.specs.Limits.{IsLimitedCheckinList, IsLimitedCheckin}
use Rattle.model_invariant.specs.Sound.{IsSound}
use Rattle.model_rows.proofs.EachRow.{all-with_row}
use Rattle.model_invariant.proofs.Checkins.{door_put_list, door_new_checkin}
use Rattle.model_invariant.proofs.EachTable.{set_checkin_lists, set_checkins}
use Rattle.model_invariant.proofs.Numbered.{numbered_put, few_put, Takes, next_put}

-- a new list of items that stand
pub sound_checkin_list : (state : State) (row : CheckinList) → row.id ≡ state.next.list → Takes state.next.list state.lists.checkin_lists → HasItems state.lists.catalogue.items row → IsLimitedCheckinList row → IsSound state → IsSound (with_checkin_list row state)
sound_checkin_list state row e takes has limits h = record {
  range = record { moment = h.range.moment; next_ids = set_checkin_lists h.range.next_ids (next_put last_id state.next.list takes.1 h.range.next_ids.checkin_lists) };
  limits = set_checkin_lists h.limits (all-with_row (λ r. r.id) IsLimitedCheckinList row state.lists.checkin_lists limits h.limits.checkin_lists);
  few = set_checkin_lists h.few (few_put (λ r. r.id) most_rows row state.lists.checkin_lists takes.0);
  ids = set_checkin_lists h.ids (numbered_put (λ r. r.id) row state.next.list state.lists.checkin_lists e h.range.next_ids.checkin_lists.from_one h.ids.checkin_lists);
  members = h.members;
  targets = h.targets;
  whole = h.whole;
  varied = h.varied;
  products = record { carts = h.products.carts; positions = h.products.positions; waiting = h.products.waiting };
  sent = h.sent;
  fit = record { carts = h.fit.carts; positions = h.fit.positions };
  codes = h.codes;
  ordered = h.ordered;
  door = door_put_list state.lists h.door row has;
  headroom = h.headroom;
  budgets = h.budgets;
}

-- a new check-in of a position by a list that stand, with a new nonce, or none
pub sound_checkin : (state : State) (row : Checkin) → row.id ≡ state.next.checkin → Takes state.next.checkin state.lists.checkins → IsCheckedIn state.lists.checkin_lists state.lists.positions row → is_repeated row state.lists.checkins ≡ false → IsLimitedCheckin row → IsSound state → IsSound (with_checkin row state)
sound_checkin state row e takes is new limits h = record {
  range = record { moment = h.range.moment; next_ids = set_checkins h.range.next_ids (next_put last_id state.next.checkin takes.1 h.range.next_ids.checkins) };
  limits = set_checkins h.limits (all-with_row (λ r. r.id) IsLimitedCheckin row state.lists.checkins limits h.limits.checkins);
  few = set_checkins h.few (few_put (λ r. r.id) most_rows row state.lists.checkins takes.0);
  ids = set_checkins h.ids (numbered_put (λ r. r.id) row state.next.checkin state.lists.checkins e h.range.next_ids.checkins.from_one h.ids.checkins);
  members = h.members;
  targets = h.targets;
  whole = h.whole;
  varied = h.varied;
  products = record { carts = h.products.carts; positions = h.products.positions; waiting = h.products.waiting };
  sent = h.sent;
  fit = record { carts = h.fit.carts; positions = h.fit.positions };
  codes = h.codes;
  ordered = h.ordered;
  door = door_new_checkin state row e h.ids.checkins.below is new h.door;
  headroom = h.headroom;
  budgets = h.budgets;
}
