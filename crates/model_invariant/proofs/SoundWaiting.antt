-- What keeps a box office sound: the waiting list.
use Rattle.std.proofs.Common.{◌≡◌, ℕ, true, Some, refl}
use Rattle.model_catalogue.specs.Limits.{most_rows, last_id}
use Rattle.model_rows.specs.declared.rows.Waiting.{Waiting}
use Rattle.model_rows.specs.declared.changes.Change.TheVariants.{PutWaiting, DropWaiting}
use Rattle.model_rows.specs.Change.{after_change, change_applied}
use Rattle.model_rows.specs.Fits.{AllFit}
use Rattle.model_rows.specs.Lists.{Lists, State, waiting_at}
use Rattle.model_rows.specs.Numbered.{with_waiting}
use Rattle.model_invariant.specs.Limits.{IsLimitedWaiting}
use Rattle.model_invariant.specs.Sent.{voucher_stands}
use Rattle.model_invariant.specs.Sound.{IsSound}
use Rattle.model_invariant.specs.Varied.{IsProduct}
use Rattle.model_rows.proofs.EachRow.{all-with_row, all-without_row}
use Rattle.model_invariant.proofs.EachTable.{set_waiting}
use Rattle.model_invariant.proofs.Fit.{carts_stay, positions_stay, fit_same}
use Rattle.model_invariant.proofs.Numbered.{numbered_put, numbered_changed, numbered_dropped, few_put, few_changed, few_dropped, Takes, next_put}

-- cart positions and order positions stay fit
fit_put : (lists : Lists) (row : Waiting) → AllFit lists → AllFit (after_change (PutWaiting row) lists)
fit_put lists row h =
    let stays = fit_same lists (after_change (PutWaiting row) lists) refl refl in
    record {
      carts = carts_stay lists (after_change (PutWaiting row) lists) stays lists.carts h.carts;
      positions = positions_stay lists (after_change (PutWaiting row) lists) stays lists.positions h.positions;
    }

fit_drop : (lists : Lists) (id : ℕ) → AllFit lists → AllFit (after_change (DropWaiting id) lists)
fit_drop lists id h =
    let stays = fit_same lists (after_change (DropWaiting id) lists) refl refl in
    record {
      carts = carts_stay lists (after_change (DropWaiting id) lists) stays lists.carts h.carts;
      positions = positions_stay lists (after_change (DropWaiting id) lists) stays lists.positions h.positions;
    }

-- a new entry within its limits, for a product; the voucher that it names, if it names one, stands
pub sound_waiting : (state : State) (row : Waiting) → row.id ≡ state.next.waiting → Takes state.next.waiting state.lists.waiting → IsProduct state.lists.catalogue row.product → voucher_stands state.lists.vouchers row.voucher ≡ true → IsLimitedWaiting row → IsSound state → IsSound (with_waiting row state)
sound_waiting state row e takes product stands limits h = record {
  range = record { moment = h.range.moment; next_ids = set_waiting h.range.next_ids (next_put last_id state.next.waiting takes.1 h.range.next_ids.waiting) };
  few = set_waiting h.few (few_put (λ r. r.id) most_rows row state.lists.waiting takes.0);
  ids = set_waiting h.ids (numbered_put (λ r. r.id) row state.next.waiting state.lists.waiting e h.range.next_ids.waiting.from_one h.ids.waiting);
  limits = set_waiting h.limits (all-with_row (λ r. r.id) IsLimitedWaiting row state.lists.waiting limits h.limits.waiting);
  members = h.members;
  targets = h.targets;
  whole = h.whole;
  varied = h.varied;
  products = record { carts = h.products.carts; positions = h.products.positions; waiting = all-with_row (λ r. r.id) (λ w. IsProduct state.lists.catalogue w.product) row state.lists.waiting product h.products.waiting };
  sent = all-with_row (λ r. r.id) (λ w. voucher_stands state.lists.vouchers w.voucher ≡ true) row state.lists.waiting stands h.sent;
  fit = fit_put state.lists row h.fit;
  codes = h.codes;
  ordered = h.ordered;
  door = h.door;
  headroom = h.headroom;
  budgets = h.budgets;
}

-- an entry that is changed
pub sound_changed_waiting : (state : State) (row old : Waiting) → waiting_at row.id state.lists ≡ Some old → IsProduct state.lists.catalogue row.product → voucher_stands state.lists.vouchers row.voucher ≡ true → IsLimitedWaiting row → IsSound state → IsSound (change_applied (PutWaiting row) state)
sound_changed_waiting state row old at product stands limits h = record {
  range = h.range;
  few = set_waiting h.few (few_changed (λ r. r.id) most_rows row old state.lists.waiting h.ids.waiting.in_order at h.few.waiting);
  ids = set_waiting h.ids (numbered_changed (λ r. r.id) row old state.next.waiting state.lists.waiting at h.ids.waiting);
  limits = set_waiting h.limits (all-with_row (λ r. r.id) IsLimitedWaiting row state.lists.waiting limits h.limits.waiting);
  members = h.members;
  targets = h.targets;
  whole = h.whole;
  varied = h.varied;
  products = record { carts = h.products.carts; positions = h.products.positions; waiting = all-with_row (λ r. r.id) (λ w. IsProduct state.lists.catalogue w.product) row state.lists.waiting product h.products.waiting };
  sent = all-with_row (λ r. r.id) (λ w. voucher_stands state.lists.vouchers w.voucher ≡ true) row state.lists.waiting stands h.sent;
  fit = fit_put state.lists row h.fit;
  codes = h.codes;
  ordered = h.ordered;
  door = h.door;
  headroom = h.headroom;
  budgets = h.budgets;
}

-- an entry that goes
pub sound_drop_waiting : (state : State) (id : ℕ) → IsSound state → IsSound (change_applied (DropWaiting id) state)
sound_drop_waiting state id h = record {
  range = h.range;
  few = set_waiting h.few (few_dropped (λ r. r.id) most_rows id state.lists.waiting h.few.waiting);
  ids = set_waiting h.ids (numbered_dropped (λ r. r.id) id state.next.waiting state.lists.waiting h.ids.waiting);
  limits = set_waiting h.limits (all-without_row (λ r. r.id) IsLimitedWaiting id state.lists.waiting h.limits.waiting);
  members = h.members;
  targets = h.targets;
  whole = h.whole;
  varied = h.varied;
  products = record { carts = h.products.carts; positions = h.products.positions; waiting = all-without_row (λ r. r.id) (λ w. IsProduct state.lists.catalogue w.product) id state.lists.waiting h.products.waiting };
  sent = all-without_row (λ r. r.id) (λ w. voucher_stands state.lists.vouchers w.voucher ≡ true) id state.lists.waiting h.sent;
  fit = fit_drop state.lists id h.fit;
  codes = h.codes;
  ordered = h.ordered;
  door = h.door;
  headroom = h.headroom;
  budgets = h.budgets;
}
