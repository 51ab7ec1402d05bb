-- What is known where a voucher was changed.
use Rattle.std.proofs.Common.{◌≡◌, ℕ, ◌⊎◌, inl, inr, Bool, true, false, ◌&&◌, not, [], Option, Some, None, Result, Ok, refl, sym, ap, ◌∙◌, subst, arith}
use Rattle.std.specs.Prelude.{◌||◌}
use Rattle.std.proofs.lemmas.Bool.Decides.{nat_tests}
use Rattle.base_values.proofs.Decided.{found, gave, gave_it, gave_unit, passed}
use Rattle.base_values.specs.Texts.{same_text}
use Rattle.model_rows.specs.declared.rows.Voucher.{Voucher}
use Rattle.model_rows.specs.declared.changes.Change.TheVariants.{PutVoucher}
use Rattle.model_rows.specs.Lists.{Lists, State, voucher_at}
use Rattle.model_rows.specs.Change.{change_applied}
use Rattle.model_rows.specs.Named.{is_used}
use Rattle.model_rows.specs.Over.{first_over}
use Rattle.model_rows.specs.Usage.{spent}
use Rattle.model_invariant.specs.Limits.{IsLimitedVoucher}
use Rattle.model_invariant.specs.OwnCodes.{has_own_code}
use Rattle.model_invariant.specs.Sound.{IsSound}
use Rattle.model_rows.specs.Takes.{TakesNoMore}
use Rattle.model_rows.proofs.EachRow.{all-row_at, key-row_at}
use Rattle.model_invariant.proofs.Sound.{sound_changed_voucher}
use Rattle.model_rows.proofs.Takes.{takes_no_more_alone}
use Rattle.model_commands.specs.FitRequests.{IsFitVoucherPatch}
use Rattle.model_commands.specs.declared.vouchers.VoucherPatch.{VoucherPatch}
use Rattle.model_commands.specs.declared.vouchers.VoucherRefusal.{VoucherRefusal}
use Rattle.decide_vouchers.specs.Codes.{new_code}
use Rattle.decide_vouchers.specs.Rows.{patched_voucher}
use Rattle.decide_vouchers.specs.Checks.{value_fits, row_test}
use Rattle.decide_vouchers.specs.Placed.{place_test}
use Rattle.model_rows.specs.Conditions.{same_id}
use Rattle.decide_vouchers.specs.Changed.{names_the_same, may_change, changed_row, voucher_changed}
use Rattle.decide_vouchers.proofs.Limited.{changed_limited}
use Rattle.decide_vouchers.proofs.OwnCodes.{changed_own}
use Rattle.decide_vouchers.proofs.Passed.{Passed, tested_is, placed_is}
use Rattle.decide_vouchers.proofs.Unlike.{alone}

-- the voucher as it was, the row, and the tests that it passed
pub record IsAsked (patch : VoucherPatch) (lists : Lists) (old row : Voucher) : Type 0 where
  pub is_row : patched_voucher patch old ≡ row
  pub passed : Passed (row_test (new_code patch.code old.code) row lists)
  pub may : may_change old row lists ≡ true

module _ (patch : VoucherPatch) (lists : Lists) (old row : Voucher) where
  abbrev GivesRow : Result Voucher VoucherRefusal → Type 0
  GivesRow result = result ≡ Ok row

  abbrev asked : Voucher
  asked = patched_voucher patch old

  pub row_is_asked : GivesRow (changed_row patch lists old) → IsAsked patch lists old row
  unfolding changed_row
  row_is_asked h =
      let (tested, h1) = gave_unit (row_test (new_code patch.code old.code) asked lists) _ h in
      let (may, h2) = passed (may_change old asked lists) _ _ h1 in
      let is_row = gave_it asked row h2 in
      record {
        is_row = is_row;
        passed = subst (λ (r : Voucher). Passed (row_test (new_code patch.code old.code) r lists)) is_row tested;
        may = subst (λ (r : Voucher). may_change old r lists ≡ true) is_row may;
      }

-- the voucher that stood, the row in its place, and the box office with it
pub record IsChanged (id : ℕ) (patch : VoucherPatch) (before after : State) (row : Voucher) : Type 0 where
  pub old : Voucher
  pub stood : voucher_at id before.lists ≡ Some old
  pub asked : IsAsked patch before.lists old row
  pub placed : Passed (place_test (spent row.id before.lists) row before)
  pub is_after : change_applied (PutVoucher row) before ≡ after

same_id_is : (a b : Option ℕ) → same_id a b ≡ true → a ≡ b
same_id_is None None h = refl
same_id_is None (Some b) h = absurd (cc)
same_id_is (Some a) None h = absurd (cc)
same_id_is (Some a) (Some b) h = ap (λ (n : ℕ). Some n) (grind (arith, nat_tests, h))

and_first : (a b : Bool) → (a && b) ≡ true → a ≡ true
and_first true b h = refl
and_first false b h = absurd (cc)

and_second : (a b : Bool) → (a && b) ≡ true → b ≡ true
and_second true b h = h
and_second false b h = absurd (cc)

-- a voucher that may change so isn't in use, or names the same
module _ (old row : Voucher) where
  names_same : names_the_same old row ≡ true → (row.item ≡ old.item) × ((row.variation ≡ old.variation) × (row.quota ≡ old.quota))
  names_same h =
      let rest = and_second (same_text old.code row.code) (same_id old.item row.item && (same_id old.variation row.variation && same_id old.quota row.quota)) h in
      let last = and_second (same_id old.item row.item) (same_id old.variation row.variation && same_id old.quota row.quota) rest in (
        sym (same_id_is old.item row.item (and_first (same_id old.item row.item) (same_id old.variation row.variation && same_id old.quota row.quota) rest)),
        (
          sym (same_id_is old.variation row.variation (and_first (same_id old.variation row.variation) (same_id old.quota row.quota) last)),
          sym (same_id_is old.quota row.quota (and_second (same_id old.variation row.variation) (same_id old.quota row.quota) last)),
        ),
      )

  by_either : (same used : Bool) → names_the_same old row ≡ same → (same || not used) ≡ true → (used ≡ false) ⊎ ((row.item ≡ old.item) × ((row.variation ≡ old.variation) × (row.quota ≡ old.quota)))
  by_either true used e h = inr (names_same e)
  by_either false true e h = absurd (cc)
  by_either false false e h = inl refl

  pub may_change_is : (lists : Lists) → may_change old row lists ≡ true → (is_used old.id lists ≡ false) ⊎ ((row.item ≡ old.item) × ((row.variation ≡ old.variation) × (row.quota ≡ old.quota)))
  may_change_is lists h = by_either (names_the_same old row) (is_used old.id lists) refl h

module _ (id : ℕ) (patch : VoucherPatch) (before after : State) (row : Voucher) where
  abbrev Gives : Result (State × Voucher) VoucherRefusal → Type 0
  Gives result = result ≡ Ok (after, row)

  pub changed_is : Gives (voucher_changed id patch before) → IsChanged id patch before after row
  unfolding voucher_changed
  changed_is h =
      let (old, stood, h1) = found (voucher_at id before.lists) _ _ h in
      let (r, asked, h2) = gave (changed_row patch before.lists old) _ h1 in
      let (placed, h3) = gave_unit (place_test (spent r.id before.lists) r before) _ h2 in
      let same = gave_it (change_applied (PutVoucher r) before, r) (after, row) h3 in
      let is_row : r ≡ row = ap (λ (x : State × Voucher). x.1) same in
      record {
        old = old;
        stood = stood;
        asked = row_is_asked patch before.lists old row (asked ∙ ap (λ (x : Voucher). Ok x) is_row);
        placed = subst (λ (x : Voucher). Passed (place_test (spent x.id before.lists) x before)) is_row placed;
        is_after = ap (λ (x : Voucher). change_applied (PutVoucher x) before) (sym is_row) ∙ ap (λ (x : State × Voucher). x.0) same;
      }

  pub changed_moment : Gives (voucher_changed id patch before) → after.moment ≡ before.moment
  changed_moment h = sym (ap (λ (s : State). s.moment) (changed_is h).is_after)

  -- no quota is over, unless the voucher ignores quotas
  pub changed_not_over : Gives (voucher_changed id patch before) → row.allow_ignore_quota ≡ false → first_over before.lists after.lists before.moment [] ≡ None
  changed_not_over h counts =
      let c = changed_is h in
      subst (λ (s : State). first_over before.lists s.lists before.moment [] ≡ None) c.is_after ((placed_is (spent row.id before.lists) row before c.placed).not_over counts)

  pub changed_takes_no_more : Gives (voucher_changed id patch before) → row.allow_ignore_quota ≡ false → TakesNoMore before after
  changed_takes_no_more h counts = takes_no_more_alone before after (changed_moment h) (changed_not_over h counts)

  -- the box office stays sound
  pub changed_sound : IsFitVoucherPatch patch → IsSound before → Gives (voucher_changed id patch before) → IsSound after
  changed_sound fit sound h =
      let c = changed_is h in
      let own : row.id ≡ c.old.id = sym (ap (λ (r : Voucher). r.id) c.asked.is_row) in
      let stood = ap (λ (n : ℕ). voucher_at n before.lists) (own ∙ key-row_at (λ (r : Voucher). r.id) id before.lists.vouchers c.old c.stood) ∙ c.stood in
      let t = tested_is (new_code patch.code c.old.code) row before.lists c.asked.passed in
      let code = alone row before.lists.vouchers sound.codes.unlike t.code in
      let old_own = all-row_at (λ (r : Voucher). r.id) (λ v. has_own_code v ≡ true) id before.lists.vouchers c.old c.stood sound.codes.own in
      let its = changed_own c.old row own old_own patch.code (sym (ap (λ (r : Voucher). r.code) c.asked.is_row)) t.form in
      let may = subst (λ (n : ℕ). (is_used n before.lists ≡ false) ⊎ ((row.item ≡ c.old.item) × ((row.variation ≡ c.old.variation) × (row.quota ≡ c.old.quota)))) (sym own) (may_change_is c.old row before.lists c.asked.may) in
      let old_limits = all-row_at (λ (r : Voucher). r.id) IsLimitedVoucher id before.lists.vouchers c.old c.stood sound.limits.vouchers in
      let value = subst (λ (r : Voucher). value_fits r.price_mode r.value ≡ true) (sym c.asked.is_row) t.value in
      let limits = subst IsLimitedVoucher c.asked.is_row (changed_limited patch c.old fit old_limits value) in
      let placed = placed_is (spent row.id before.lists) row before c.placed in
      subst IsSound c.is_after (sound_changed_voucher before row c.old stood t.named.target (code, its) placed.uses placed.budget t.named.whole limits sound may)
