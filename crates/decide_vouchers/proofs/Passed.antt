-- What is known of a voucher's row that passed its tests.
use Rattle.std.proofs.Common.{◌≡◌, ℕ, ◌+◌, ◌≤◌, Bool, true, false, List, [], Option, Some, None, Result, Ok, refl, arith}
use Rattle.std.specs.Prelude.{◌||◌, not, is_some, IfSome, if◌then◌else◌}
use Rattle.std.proofs.lemmas.Bool.Decides.{nat_tests}
use Rattle.base_values.proofs.Decided.{passed, unrefused, found_none}
use Rattle.model_catalogue.specs.declared.rows.Item.{Item}
use Rattle.model_catalogue.specs.CatalogueLists.{CatalogueLists, item_at}
use Rattle.model_rows.specs.declared.rows.Voucher.{Voucher}
use Rattle.model_rows.specs.declared.changes.Change.TheVariants.{PutVoucher}
use Rattle.model_rows.specs.Lists.{Lists, State}
use Rattle.model_rows.specs.Budgets.{covers}
use Rattle.model_rows.specs.Change.{after_change}
use Rattle.model_rows.specs.Headroom.{held}
use Rattle.model_rows.specs.Usage.{redeemed}
use Rattle.model_rows.specs.Over.{first_over}
use Rattle.model_rows.proofs.Budgets.{is_covered}
use Rattle.model_invariant.specs.Targets.{HasTarget}
use Rattle.model_invariant.specs.Varied.{sold_as, is_plain, is_whole}
use Rattle.model_commands.specs.declared.vouchers.VoucherRefusal.{VoucherRefusal}
use Rattle.model_commands.specs.declared.vouchers.VoucherRefusal.TheVariants.{SoldOut}
use Rattle.decide_vouchers.specs.Codes.{is_reserved_if, has_anothers_code}
use Rattle.decide_vouchers.specs.Checks.{value_fits, item_can_block, item_named_can_block, names_test, row_test}
use Rattle.decide_vouchers.specs.Placed.{has_uses, over_with, place_test}

abbrev pub Passed : Result (Unit {0}) VoucherRefusal → Type 0
Passed result = result ≡ Ok tt

-- what it names stands and is one thing, and it may block, if it does
pub record IsNamed (row : Voucher) (lists : CatalogueLists) : Type 0 where
  pub target : HasTarget lists row
  pub whole : is_whole lists.items row ≡ true

module _ (row : Voucher) (lists : CatalogueLists) where
  by_item : (variation : Option ℕ) (found : Option Item) → item_can_block found variation ≡ true → (is_some variation || sold_as (λ varied. not varied) found) ≡ true
  by_item variation None h = absurd (cc)
  by_item None (Some item) h = h
  by_item (Some id) (Some item) h = refl

  by_item_named : (item variation : Option ℕ) → item_named_can_block lists item variation ≡ true → (is_some variation || is_plain lists.items item) ≡ true
  by_item_named None variation h = absurd (cc)
  by_item_named (Some item) variation h = by_item variation (item_at item lists) h

  can_is_whole : (blocks : Bool) (quota : Option ℕ) → (not blocks || (is_some quota || item_named_can_block lists row.item row.variation)) ≡ true → (not blocks || (is_some quota || (is_some row.variation || is_plain lists.items row.item))) ≡ true
  can_is_whole false quota h = refl
  can_is_whole true (Some id) h = refl
  can_is_whole true None h = by_item_named row.item row.variation h

  passed_names : Passed (names_test row lists) → IsNamed row lists
  unfolding names_test
  passed_names h =
      let (item, h1) = passed _ _ _ h in
      let (variation, h2) = passed _ _ _ h1 in
      let (quota, h3) = passed _ _ _ h2 in
      let (one, h4) = passed _ _ _ h3 in
      let (blocks, h5) = passed _ _ _ h4 in
      record {
        target = record { item = item; variation = variation; quota = quota; one = one };
        whole = can_is_whole row.block_quota row.quota blocks;
      }

-- it takes off no more than 100 percent, its code isn't reserved, nor another voucher's, and what it names is known
pub record IsTested (given : Option (List ℕ)) (row : Voucher) (lists : Lists) : Type 0 where
  pub value : value_fits row.price_mode row.value ≡ true
  pub form : is_reserved_if given ≡ false
  pub code : has_anothers_code row lists ≡ false
  pub named : IsNamed row lists.catalogue

pub tested_is : (given : Option (List ℕ)) (row : Voucher) (lists : Lists) → Passed (row_test given row lists) → IsTested given row lists
unfolding row_test
tested_is given row lists h =
    let (value, h1) = passed _ _ _ h in
    let (form, h2) = unrefused _ _ _ h1 in
    let (code, h3) = unrefused _ _ _ h2 in
    record { value = value; form = form; code = code; named = passed_names row lists.catalogue h3 }

-- it has its uses, what it took off is within its budget, and no quota is over, unless it ignores quotas
pub record IsPlaced (taken_off : ℕ) (row : Voucher) (state : State) : Type 0 where
  pub uses : redeemed row.id state.lists + held state.moment row.id state.lists ≤ row.max_usages
  pub budget : IfSome row.budget (λ b. taken_off ≤ b)
  pub not_over : row.allow_ignore_quota ≡ false → first_over state.lists (after_change (PutVoucher row) state.lists) state.moment [] ≡ None

module _ (taken_off : ℕ) (row : Voucher) (state : State) where
  abbrev over : Option ℕ
  over = first_over state.lists (after_change (PutVoucher row) state.lists) state.moment []

  by_ignored : (b : Bool) → (if b then None else over) ≡ None → b ≡ false → over ≡ None
  by_ignored true h counts = absurd (cc)
  by_ignored false h counts = h

  pub placed_is : Passed (place_test taken_off row state) → IsPlaced taken_off row state
  unfolding place_test
  placed_is h =
      let (fits, h1) = passed (has_uses row state) _ _ h in
      let (within, h2) = passed (covers row.budget taken_off) _ _ h1 in
      let (none, h3) = found_none SoldOut (over_with row state) _ h2 in
      record { uses = grind (arith, nat_tests, fits); budget = is_covered row.budget taken_off within; not_over = by_ignored row.allow_ignore_quota none }
