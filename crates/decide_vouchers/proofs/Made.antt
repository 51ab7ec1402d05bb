-- What is known where a voucher was made.
use Rattle.std.proofs.Common.{◌≡◌, ℕ, ◌^◌, ◌<◌, ◌≤◌, true, false, [], None, Result, Ok, refl, sym, ap, ◌∙◌, subst, arith}
use Rattle.std.specs.Prelude.{IfSome}
use Rattle.base_values.proofs.Decided.{gave_it, gave_unit, passed}
use Rattle.base_values.specs.Draws.{IsDraw}
use Rattle.base_values.specs.declared.draw.Draw.{Draw}
use Rattle.model_rows.specs.declared.rows.Voucher.{Voucher}
use Rattle.model_rows.specs.Lists.{State}
use Rattle.model_rows.specs.Full.{takes_voucher}
use Rattle.model_rows.specs.Numbered.{with_voucher}
use Rattle.model_rows.specs.Usage.{spent}
use Rattle.model_rows.specs.Over.{first_over}
use Rattle.model_invariant.specs.Limits.{IsLimitedVoucher}
use Rattle.model_invariant.specs.OwnCodes.{has_own_code}
use Rattle.model_invariant.specs.Sound.{IsSound}
use Rattle.model_rows.specs.Takes.{TakesNoMore}
use Rattle.model_invariant.proofs.Fresh.{fresh_budget}
use Rattle.model_invariant.proofs.Numbered.{takes_it}
use Rattle.model_invariant.proofs.Sound.{sound_voucher}
use Rattle.model_rows.proofs.Takes.{takes_no_more_alone}
use Rattle.model_commands.specs.FitRequests.{IsFitVoucher}
use Rattle.model_commands.specs.declared.vouchers.NewVoucher.{NewVoucher}
use Rattle.model_commands.specs.declared.vouchers.VoucherRefusal.{VoucherRefusal}
use Rattle.decide_vouchers.specs.Rows.{voucher_row}
use Rattle.decide_vouchers.specs.Checks.{value_fits, row_test}
use Rattle.decide_vouchers.specs.Placed.{place_test}
use Rattle.decide_vouchers.specs.Made.{voucher_made}
use Rattle.decide_vouchers.proofs.Limited.{made_limited}
use Rattle.decide_vouchers.proofs.OwnCodes.{made_own}
use Rattle.decide_vouchers.proofs.Passed.{Passed, tested_is, placed_is}
use Rattle.decide_vouchers.proofs.Unlike.{alone}

-- the row, the tests that it passed, and the box office with it
pub record IsMade (new : NewVoucher) (draw : Draw) (before after : State) (row : Voucher) : Type 0 where
  pub is_row : voucher_row new draw before.next.voucher ≡ row
  pub passed : Passed (row_test new.code row before.lists)
  pub placed : Passed (place_test 0 row before)
  pub takes : takes_voucher before ≡ true
  pub is_after : with_voucher row before ≡ after

module _ (new : NewVoucher) (draw : Draw) (before after : State) (row : Voucher) where
  abbrev Gives : Result (State × Voucher) VoucherRefusal → Type 0
  Gives result = result ≡ Ok (after, row)

  abbrev asked : Voucher
  asked = voucher_row new draw before.next.voucher

  pub made_is : Gives (voucher_made new draw before) → IsMade new draw before after row
  unfolding voucher_made
  made_is h =
      let (tested, h1) = gave_unit (row_test new.code asked before.lists) _ h in
      let (placed, h2) = gave_unit (place_test 0 asked before) _ h1 in
      let (takes, h3) = passed (takes_voucher before) _ _ h2 in
      let same = gave_it (with_voucher asked before, asked) (after, row) h3 in
      let is_row : asked ≡ row = ap (λ (x : State × Voucher). x.1) same in
      record {
        is_row = is_row;
        passed = subst (λ (r : Voucher). Passed (row_test new.code r before.lists)) is_row tested;
        placed = subst (λ (r : Voucher). Passed (place_test 0 r before)) is_row placed;
        takes = takes;
        is_after = ap (λ (r : Voucher). with_voucher r before) (sym is_row) ∙ ap (λ (x : State × Voucher). x.0) same;
      }

  pub made_id : IsMade new draw before after row → row.id ≡ before.next.voucher
  made_id m = sym (ap (λ (r : Voucher). r.id) m.is_row)

  pub made_moment : Gives (voucher_made new draw before) → after.moment ≡ before.moment
  made_moment h = sym (ap (λ (s : State). s.moment) (made_is h).is_after)

  -- no quota is over, unless the voucher ignores quotas
  pub made_not_over : Gives (voucher_made new draw before) → row.allow_ignore_quota ≡ false → first_over before.lists after.lists before.moment [] ≡ None
  made_not_over h counts =
      let m = made_is h in
      subst (λ (s : State). first_over before.lists s.lists before.moment [] ≡ None) m.is_after ((placed_is 0 row before m.placed).not_over counts)

  pub made_takes_no_more : Gives (voucher_made new draw before) → row.allow_ignore_quota ≡ false → TakesNoMore before after
  made_takes_no_more h counts = takes_no_more_alone before after (made_moment h) (made_not_over h counts)

  -- the box office stays sound
  pub made_sound : IsFitVoucher new → IsDraw draw → IsSound before → Gives (voucher_made new draw before) → IsSound after
  made_sound fit sixteen sound h =
      let m = made_is h in
      let t = tested_is new.code row before.lists m.passed in
      let own = subst (λ (r : Voucher). has_own_code r ≡ true) m.is_row (made_own new.code draw asked refl t.form) in
      let code = alone row before.lists.vouchers sound.codes.unlike t.code in
      let small : before.next.voucher < 2 ^ 64 = omega (arith, sound.range.next_ids.vouchers.within) in
      let limits = subst IsLimitedVoucher m.is_row (made_limited new draw before.next.voucher sixteen small fit (subst (λ (r : Voucher). value_fits r.price_mode r.value ≡ true) (sym m.is_row) t.value)) in
      let budget = subst (λ (n : ℕ). IfSome row.budget (λ b. spent n before.lists ≤ b)) (sym (made_id m)) (fresh_budget before.lists before.next.voucher sound.ids.vouchers row.budget sound.fit) in
      subst IsSound m.is_after (sound_voucher before row (made_id m) (takes_it before.next.voucher before.lists.vouchers m.takes) t.named.target (code, own) (placed_is 0 row before m.placed).uses budget t.named.whole limits sound)
