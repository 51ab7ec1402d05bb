-- The usage of a quota after an entry came, changed or went.
use Rattle.std.proofs.Common.{◌≡◌, ℕ, ◌+◌, ◌≤◌, ◌&&◌, Option, Some, None, ap, ◌∙◌, arith}
use Rattle.base_tables.specs.Tables.{sum_at}
use Rattle.base_tables.proofs.Edits.{sum_by-with_row, sum_by-without_row}
use Rattle.model_catalogue.specs.declared.rows.Quota.{Quota}
use Rattle.model_catalogue.specs.Member.{is_in}
use Rattle.model_rows.specs.declared.rows.Waiting.{Waiting}
use Rattle.model_rows.specs.declared.changes.Change.TheVariants.{PutWaiting, DropWaiting}
use Rattle.model_rows.specs.Change.{change_applied}
use Rattle.model_rows.specs.Lists.{State, waiting_at}
use Rattle.model_rows.specs.Numbered.{with_waiting}
use Rattle.model_rows.specs.Takes.{places_used}
use Rattle.model_rows.specs.Usage.{usage_of, blocked_by, has_none, waits_for}
use Rattle.model_rows.proofs.EachRow.{next_absent}
use Rattle.model_rows.proofs.Time.{one}
use Rattle.model_invariant.specs.Sound.{IsSound}
use Rattle.decide_waiting.specs.Sending.{place_in}

abbrev share : Quota → Option Waiting → ℕ
share quota entry = sum_at (λ w. one (waits_for quota w)) entry

-- with an entry instead of the one of its id
put_shares : (state : State) (row : Waiting) (quota : Quota) → IsSound state → places_used (change_applied (PutWaiting row) state) quota + share quota (waiting_at row.id state.lists) ≡ places_used state quota + one (waits_for quota row)
unfolding usage_of blocked_by
put_shares state row quota sound = omega (arith, sum_by-with_row (λ r. r.id) (λ w. one (waits_for quota w)) 0 row state.lists.waiting sound.ids.waiting.in_order)

-- a new entry that waits
pub put_new : (state : State) (row : Waiting) → row.id ≡ state.next.waiting → row.voucher ≡ None → (quota : Quota) → IsSound state → places_used (with_waiting row state) quota ≡ places_used state quota + place_in quota row.product
put_new state row id waits quota sound =
    let absent : waiting_at row.id state.lists ≡ None = ap (λ (n : ℕ). waiting_at n state.lists) id ∙ next_absent (λ (r : Waiting). r.id) state.next.waiting state.lists.waiting sound.ids.waiting.below in
    let none : share quota (waiting_at row.id state.lists) ≡ 0 = ap (share quota) absent in
    let its : one (waits_for quota row) ≡ place_in quota row.product = ap (λ v. one (has_none v && is_in quota row.product)) waits in
    omega (arith, put_shares state row quota sound, none, its)

-- an entry that is changed, and waits for its product as before
pub put_alike : (state : State) (row old : Waiting) → waiting_at row.id state.lists ≡ Some old → row.voucher ≡ old.voucher → row.product ≡ old.product → (quota : Quota) → IsSound state → places_used (change_applied (PutWaiting row) state) quota ≡ places_used state quota
put_alike state row old stands voucher product quota sound =
    let was : share quota (waiting_at row.id state.lists) ≡ one (waits_for quota old) = ap (share quota) stands in
    let same : one (waits_for quota row) ≡ one (waits_for quota old) = λ i. one (has_none (voucher i) && is_in quota (product i)) in
    omega (arith, put_shares state row quota sound, was, same)

-- an entry that goes
pub drop_lowers : (state : State) (id : ℕ) (quota : Quota) → IsSound state → places_used (change_applied (DropWaiting id) state) quota ≤ places_used state quota
unfolding usage_of blocked_by
drop_lowers state id quota sound = omega (arith, sum_by-without_row (λ r. r.id) (λ w. one (waits_for quota w)) 0 id state.lists.waiting sound.ids.waiting.in_order)
