-- What a voucher that is sent to a waiting entry changes.
use Rattle.std.proofs.Common.{◌≡◌, ℕ, ◌+◌, ◌-◌, ◌≤◌, Bool, true, false, ◌&&◌, Option, Some, None, refl, sym, ap, ◌∙◌, arith}
use Rattle.std.specs.Prelude.{if◌then◌else◌}
use Rattle.std.proofs.lemmas.Bool.Decides.{nat_tests}
use Rattle.std.proofs.lemmas.List.Sums.{sum_by-le-sum_by}
use Rattle.base_values.specs.declared.draw.Draw.{Draw}
use Rattle.base_tables.specs.Tables.{sum_at, with_row}
use Rattle.base_tables.proofs.Edits.{sum_by-with_row, row_at-with_row}
use Rattle.base_tables.proofs.Places.{with_row_in_order}
use Rattle.model_catalogue.specs.declared.rows.Product.{Product}
use Rattle.model_catalogue.specs.declared.rows.Quota.{Quota}
use Rattle.model_catalogue.specs.Member.{is_in, lists as quota_lists}
use Rattle.model_rows.specs.declared.rows.Voucher.{Voucher}
use Rattle.model_rows.specs.declared.rows.Waiting.{Waiting}
use Rattle.model_rows.specs.declared.changes.Change.TheVariants.{PutVoucher}
use Rattle.model_rows.specs.Change.{after_change}
use Rattle.model_rows.specs.Fits.{fits_if, fits}
use Rattle.model_rows.specs.Asked.{held_in}
use Rattle.model_rows.specs.Lists.{State, voucher_at, waiting_at}
use Rattle.model_invariant.specs.Sound.{IsSound}
use Rattle.model_rows.specs.Takes.{places_used}
use Rattle.model_rows.specs.Conditions.{blocks, holds, hits, is_live_voucher}
use Rattle.model_rows.specs.Usage.{usage_of, blocked_by, blocks_if, has_none, redeemed, waits_for}
use Rattle.model_rows.proofs.EachRow.{next_absent}
use Rattle.model_invariant.proofs.Numbered.{numbered_put}
use Rattle.model_invariant.proofs.Fit.{fit_voucher, carts_stay, positions_stay}
use Rattle.model_invariant.proofs.Fresh.{none_redeemed, none_held}
use Rattle.model_rows.proofs.Time.{one}
use Rattle.book_usage.proofs.VoucherCounts.{carts_with}
use Rattle.decide_waiting.specs.Places.{used_unwaited}
use Rattle.decide_waiting.specs.Sending.{sent_voucher, with_its_voucher, with_sent, place_in}
use Rattle.decide_waiting.specs.Steps.{TradesPlace, CanSend}

pub sound_can_send : (state : State) → IsSound state → CanSend state
sound_can_send state h = record { moment = h.range.moment; next = h.range.next_ids.vouchers.from_one; vouchers = h.ids.vouchers; fit = h.fit; waiting = h.ids.waiting.in_order }

module _ (draw : Draw) (state : State) (entry : Waiting) (h : CanSend state) where
  abbrev voucher : Voucher
  voucher = sent_voucher draw state entry.product

  abbrev after : State
  after = with_sent draw entry state

  absent : voucher_at state.next.voucher state.lists ≡ None
  absent = next_absent (λ (r : Voucher). r.id) state.next.voucher state.lists.vouchers h.vouchers.below

  -- no row is for a voucher that doesn't stand
  nothing : (product : Product) → fits_if state.lists.catalogue product (voucher_at state.next.voucher state.lists) ≡ true → fits state.lists.catalogue voucher product ≡ true
  nothing product fit =
      let never : false ≡ true = ap (fits_if state.lists.catalogue product) (sym absent) ∙ fit in
      absurd (cc)

  pub sent_can_send : CanSend after
  sent_can_send = record {
    moment = h.moment;
    next = omega (arith, h.next);
    vouchers = numbered_put (λ r. r.id) voucher state.next.voucher state.lists.vouchers refl h.next h.vouchers;
    fit = record {
      carts = carts_stay state.lists (after_change (PutVoucher voucher) state.lists) (fit_voucher state.lists voucher nothing) state.lists.carts h.fit.carts;
      positions = positions_stay state.lists (after_change (PutVoucher voucher) state.lists) (fit_voucher state.lists voucher nothing) state.lists.positions h.fit.positions;
    };
    waiting = with_row_in_order (λ r. r.id) 0 (with_its_voucher state entry) state.lists.waiting (omega arith) h.waiting;
  }

  module _ (quota : Quota) where
    -- it is live, and hits the quotas of the product
    live : is_live_voucher state.moment voucher ≡ true
    live = grind (arith, nat_tests, h.moment)

    hits_by_variation : (variation : Option ℕ) → quota_lists quota (record { item = entry.product.item; variation = variation }) variation ≡ quota_lists quota entry.product variation
    hits_by_variation None = refl
    hits_by_variation (Some id) = refl

    hits_product : blocks state.moment quota voucher ≡ is_in quota entry.product
    hits_product = ap (λ b. b && hits quota voucher) live ∙ hits_by_variation entry.product.variation

    unused : redeemed state.next.voucher state.lists ≡ 0
    unused = none_redeemed state.lists state.next.voucher h.vouchers state.lists.positions h.fit.positions

    both_le : (a b : Bool) → one (a && b) ≤ one a
    both_le true true = omega arith
    both_le true false = omega arith
    both_le false b = omega arith

    unheld : held_in state.moment quota state.next.voucher state.lists ≡ 0
    unheld = omega (arith, none_held state.lists state.next.voucher h.vouchers state.moment state.lists.carts h.fit.carts, sum_by-le-sum_by (λ c. one (holds state.moment state.next.voucher c && is_in quota c.product)) (λ c. one (holds state.moment state.next.voucher c)) state.lists.carts (λ c. both_le (holds state.moment state.next.voucher c) (is_in quota c.product)))

    -- no live cart position names it, so whom it covers makes no difference
    either_zero : (b : Bool) (n : ℕ) → n ≡ 0 → (if b then 0 else n) ≡ 0
    either_zero true n e = refl
    either_zero false n e = e

    same_carts : (usage_of (after_change (PutVoucher voucher) state.lists) state.moment quota).carts ≡ (usage_of state.lists state.moment quota).carts
    unfolding usage_of blocked_by
    same_carts = omega (
      arith,
      carts_with state.lists state.moment quota state.next.voucher (Some voucher) (with_row (λ r. r.id) voucher state.lists.vouchers) (λ x. row_at-with_row (λ r. r.id) x voucher state.lists.vouchers),
      either_zero (blocks_if state.moment quota (voucher_at state.next.voucher state.lists)) (held_in state.moment quota state.next.voucher state.lists) unheld,
      either_zero (blocks_if state.moment quota (Some voucher)) (held_in state.moment quota state.next.voucher state.lists) unheld,
    )

    share_by : (b : Bool) (n : ℕ) → n ≡ 0 → (if b then 1 - n else 0) ≡ one b
    share_by true n e = omega (arith, e)
    share_by false n e = refl

    share : blocked_by state.lists state.moment quota voucher ≡ place_in quota entry.product
    unfolding blocked_by
    share = share_by (blocks state.moment quota voucher) (redeemed state.next.voucher state.lists) unused ∙ ap one hits_product

    blocked_more : (usage_of (after_change (PutVoucher voucher) state.lists) state.moment quota).blocked ≡ (usage_of state.lists state.moment quota).blocked + place_in quota entry.product
    unfolding usage_of blocked_by
    blocked_more = omega (arith, sum_by-with_row (λ r. r.id) (blocked_by state.lists state.moment quota) 0 voucher state.lists.vouchers h.vouchers.in_order, share, ap (sum_at (blocked_by state.lists state.moment quota)) absent)

    module _ (stands : waiting_at entry.id state.lists ≡ Some entry) (waits : has_none entry.voucher ≡ true) where
      waiting_share : sum_at (λ w. one (waits_for quota w)) (waiting_at entry.id state.lists) ≡ place_in quota entry.product
      waiting_share = ap (sum_at (λ w. one (waits_for quota w))) stands ∙ ap (λ b. one (b && is_in quota entry.product)) waits

      pub sent_trades : TradesPlace quota entry.product (usage_of state.lists state.moment quota) (usage_of after.lists after.moment quota)
      unfolding usage_of blocked_by
      sent_trades = record {
        paid = refl;
        pending = refl;
        blocked = blocked_more;
        carts = same_carts;
        waiting = omega (arith, sum_by-with_row (λ r. r.id) (λ w. one (waits_for quota w)) 0 (with_its_voucher state entry) state.lists.waiting h.waiting, waiting_share);
        exited = refl;
      }

      pub sent_unwaited : used_unwaited after quota ≡ used_unwaited state quota + place_in quota entry.product
      sent_unwaited = omega (arith, sent_trades.paid, sent_trades.pending, sent_trades.blocked, sent_trades.carts, sent_trades.exited)

      pub sent_used : places_used after quota ≡ places_used state quota
      sent_used = omega (arith, sent_trades.paid, sent_trades.pending, sent_trades.blocked, sent_trades.carts, sent_trades.waiting, sent_trades.exited)
