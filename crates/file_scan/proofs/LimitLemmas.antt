-- The values of a box office that is limited fit the columns of the file.
use Rattle.std.proofs.Common.{◌≡◌, ℕ, Bool, true, false, ◌<◌, ◌^◌, ◌==◌, if◌then◌else◌, List, [], ◌∷◌, ◌++◌, map, Option, Some, None, IfSome, sym, subst, arith}
use Rattle.std.specs.Prelude.{option_to_list}
use Rattle.std.specs.List.{All, AllByRecursion}
use Rattle.std.specs.List.Sorted.{IsPermutation}
use Rattle.std.specs.Str.{IsUtf8}
use Rattle.std.proofs.lemmas.List.Elements.{All-nil, All-cons, All-head, All-tail}
use Rattle.std.proofs.lemmas.List.Sorted.{IsPermutation-sym}
use Rattle.sqlite_trees.proofs.ListLemmas.{all-permutation}
use Rattle.base_values.specs.Counts.{IsSize}
use Rattle.base_values.specs.Moments.{IsMoment}
use Rattle.base_values.specs.Money.{IsMoney}
use Rattle.base_values.specs.Slugs.{IsSlug}
use Rattle.base_values.specs.Texts.{IsText}
use Rattle.base_values.specs.declared.price_mode.PriceMode.{PriceMode}
use Rattle.base_values.specs.declared.price_mode.PriceMode.TheVariants as modes
use Rattle.model_catalogue.specs.declared.rows.Quota.{Quota}
use Rattle.model_catalogue.specs.Limits.{last_id}
use Rattle.model_rows.specs.declared.rows.CheckinList.{CheckinList}
use Rattle.model_rows.specs.declared.rows.OrderPos.{OrderPos}
use Rattle.model_rows.specs.declared.rows.Voucher.{Voucher}
use Rattle.model_rows.specs.Lists.{State}
use Rattle.model_invariant.specs.Limits.{IsValue, IsLimitedItem, IsLimitedVariation, IsLimitedQuota, IsLimitedVoucher, IsLimitedCart, IsLimitedOrder, IsLimitedPosition, IsLimitedWaiting, IsLimitedCheckinList, IsLimitedCheckin}
use Rattle.model_invariant.specs.Range.{IsNextId, AllNextIds}
use Rattle.model_invariant.specs.Sound.{IsSound}
use Rattle.model_answers.specs.declared.kept.Kept.{Kept}
use Rattle.file_schema.specs.Tables.{this_version}
use Rattle.file_rows.specs.declared.rows.ShopRow.{ShopRow}
use Rattle.file_rows.specs.declared.rows.BudgetRow.{BudgetRow}
use Rattle.file_rows.specs.declared.rows.DiscountRow.{DiscountRow}
use Rattle.file_rows.specs.declared.rows.QuotaRow.{QuotaRow}
use Rattle.file_rows.specs.declared.rows.PositionRow.{PositionRow}
use Rattle.file_rows.specs.declared.rows.VoucherHead.{VoucherHead}
use Rattle.file_rows.specs.declared.rows.VoucherRow.{VoucherRow}
use Rattle.file_rows.specs.declared.rows.ListRow.{ListRow}
use Rattle.file_rows.specs.Changes.{head_of_quota, head_of_voucher, head_of_position, head_of_list}
use Rattle.file_rows.specs.Fit.{IsStored, IsFitItem, IsFitVariation, IsFitQuota, IsFitVoucher, IsFitBudget, IsFitCart, IsFitOrder, IsFitPosition, IsFitDiscount, IsFitWaiting, IsFitList, IsFitCheckin}
use Rattle.file_rows.specs.Tables.{Tables}
use Rattle.file_meaning.specs.Links.{Link, all_links}
use Rattle.file_meaning.specs.Rows.{voucher_of, position_of, budgets_of, discounts_of}
use Rattle.file_meaning.specs.Stands.{Stand}
use Rattle.file_meaning.specs.Typed.{AreTyped}
use Rattle.file_scan.specs.Lawful.{AreFit}

-- ---- lists

-- what holds of each row of a list and of each row of the same rows in another order
with_both : {T : Type 0} (P Q R : T → Type 0) → ((x : T) → P x → Q x → R x) → (xs : List T) → AllByRecursion P xs → All Q xs → All R xs
with_both P Q R k [] h i = All-nil R
with_both P Q R k (x ∷ xs) h i = All-cons R x xs (k x h.0 (All-head Q x xs i)) (with_both P Q R k xs h.1 (All-tail Q x xs i))

joined : {T : Type 0} (P Q R : T → Type 0) → ((x : T) → P x → Q x → R x) → (rows list : List T) → IsPermutation rows list → AllByRecursion P list → All Q rows → All R rows
joined P Q R k rows list same h i = with_both P Q R k rows (all-permutation P list rows (IsPermutation-sym rows list same) h) i

-- of what is made of each
mapped : {A B : Type 0} (f : A → B) (P : A → Type 0) (Q : B → Type 0) → ((a : A) → P a → Q (f a)) → (xs : List A) → AllByRecursion P xs → AllByRecursion Q (map f xs)
mapped f P Q k [] h = tt
mapped f P Q k (x ∷ xs) h = (k x h.0, mapped f P Q k xs h.1)

-- and of what it was made of
unmapped : {A B : Type 0} (f : A → B) (P : B → Type 0) (xs : List A) → AllByRecursion P (map f xs) → AllByRecursion (λ a. P (f a)) xs
unmapped f P [] h = tt
unmapped f P (x ∷ xs) h = (h.0, unmapped f P xs h.1)

-- of each row of a list, as a record of what holds of it
each_so : {T : Type 0} (P R : T → Type 0) → ((x : T) → P x → R x) → (xs : List T) → AllByRecursion P xs → All R xs
each_so P R k [] h = All-nil R
each_so P R k (x ∷ xs) h = All-cons R x xs (k x h.0) (each_so P R k xs h.1)

-- ---- links that tell amounts of money

abbrev OfMoney : Link → Type 0
OfMoney link = IsMoney link.member

one_links : (owner : ℕ) (amounts : List ℕ) (more : List Link) → AllByRecursion IsMoney amounts → AllByRecursion OfMoney more → AllByRecursion OfMoney (map (λ n. record { owner = owner; member = n }) amounts ++ more)
one_links owner [] more h k = k
one_links owner (n ∷ ns) more h k = (h.0, one_links owner ns more h.1 k)

money_links : {T : Type 0} (key : T → ℕ) (amounts : T → List ℕ) (P : T → Type 0) → ((x : T) → P x → AllByRecursion IsMoney (amounts x)) → (rows : List T) → AllByRecursion P rows → AllByRecursion OfMoney (all_links key amounts rows)
money_links key amounts P k [] h = tt
money_links key amounts P k (x ∷ xs) h = one_links (key x) (amounts x) (all_links key amounts xs) (k x h.0) (money_links key amounts P k xs h.1)

-- the budget of a voucher, if it has one
of_budget : (o : Option ℕ) → IfSome o IsMoney → AllByRecursion IsMoney (option_to_list o)
of_budget None h = tt
of_budget (Some n) h = (h, tt)

-- the discount of an order position, if it has one
of_discount : (nothing : Bool) (n : ℕ) → IsMoney n → AllByRecursion IsMoney (if nothing then [] else n ∷ [])
of_discount true n h = tt
of_discount false n h = (h, tt)

-- ---- values

stored : (t : List ℕ) → IsText t → IsUtf8 t → IsStored t
stored t text utf8 = record { text = text; utf8 = utf8 }

stored_or_none : (o : Option (List ℕ)) → IfSome o IsText → IfSome o IsUtf8 → IfSome o IsStored
stored_or_none None text utf8 = tt
stored_or_none (Some t) text utf8 = stored t text utf8

money : (mode : PriceMode) (value : ℕ) → IsValue mode value → IsMoney value
money modes.None value h = h
money modes.Set value h = h
money modes.Subtract value h = h
money modes.Percent value h = omega (arith, h)

money_or_none : (mode : PriceMode) (o : Option ℕ) → IfSome o (IsValue mode) → IfSome o IsMoney
money_or_none mode None h = tt
money_or_none mode (Some value) h = money mode value h

-- ---- rows without their members

record IsLimitedHead (row : QuotaRow) : Type 0 where
  name : IsText row.name
  size : IfSome row.size IsSize

voucher_fits : (w : VoucherRow) → IsLimitedVoucher (voucher_of None w.voucher) → IsUtf8 w.voucher.code × IsUtf8 w.voucher.tag × IsUtf8 w.voucher.comment → IsFitVoucher w
voucher_fits w h utf8 = record {
  code = stored w.voucher.code h.code utf8.0;
  uses = h.uses;
  end = h.end;
  value = money_or_none w.voucher.price_mode w.voucher.value h.value;
  tag = stored w.voucher.tag h.tag utf8.1;
  comment = stored w.voucher.comment h.comment utf8.2;
}

-- a voucher without its budget, and an order position without its discount
voucher_alone : (v : Voucher) → IsLimitedVoucher v → IsLimitedVoucher (voucher_of None (head_of_voucher v))
voucher_alone v h = record { code = h.code; uses = h.uses; end = h.end; value = h.value; tag = h.tag; comment = h.comment; budget = tt }

position_alone : (p : OrderPos) → IsLimitedPosition p → IsLimitedPosition (position_of 0 (head_of_position p))
position_alone p h = record { price = h.price; secret = h.secret; discount = omega arith }

-- ---- the tables

pub sound_fits : (shop : ShopRow) (t : Tables) (state : State) (answers : List Kept) → shop.version ≡ this_version → IsSlug shop.organizer → IsSlug shop.event → IsNextId last_id shop.next_token → Stand shop t state answers → IsSound state → AreTyped t → AreFit t
sound_fits shop t state answers first organizer event token stand sound typed =
    let lists = state.lists in
    let limited = sound.limits in
    record {
      shop = shop;
      alone = stand.shop_is;
      first = first;
      shop_fits = record { organizer = organizer; event = event; moment = subst IsMoment (sym stand.moment) sound.range.moment };
      ids = record { ids = subst AllNextIds (sym stand.next) sound.range.next_ids; token = token };
      items = joined IsLimitedItem _ IsFitItem (λ w h utf8. record { name = stored w.name h.name utf8; price = h.price }) t.items lists.catalogue.items stand.rows.items limited.items typed.items;
      variations = joined IsLimitedVariation _ IsFitVariation (λ w h utf8. record { name = stored w.name h.name utf8; price = h.price }) t.variations lists.catalogue.variations stand.rows.variations limited.variations typed.variations;
      quotas =
          joined IsLimitedHead _ IsFitQuota (λ w h utf8. record { name = stored w.name h.name utf8; size = h.size }) t.quotas (map head_of_quota lists.catalogue.quotas) stand.rows.quotas
          (mapped head_of_quota IsLimitedQuota IsLimitedHead (λ (q : Quota) h. record { name = h.name; size = h.size }) lists.catalogue.quotas limited.quotas) typed.quotas;
      vouchers =
          with_both (λ (w : VoucherRow). IsLimitedVoucher (voucher_of None w.voucher)) _ IsFitVoucher voucher_fits t.vouchers
          (unmapped (λ (w : VoucherRow). w.voucher) (λ (h : VoucherHead). IsLimitedVoucher (voucher_of None h)) t.vouchers
          (all-permutation (λ (h : VoucherHead). IsLimitedVoucher (voucher_of None h)) (map head_of_voucher lists.vouchers) (map (λ (w : VoucherRow). w.voucher) t.vouchers) (IsPermutation-sym _ _ stand.rows.vouchers)
          (mapped head_of_voucher IsLimitedVoucher (λ (h : VoucherHead). IsLimitedVoucher (voucher_of None h)) voucher_alone lists.vouchers limited.vouchers))) typed.vouchers;
      carts = joined IsLimitedCart _ IsFitCart (λ w h utf8. record { cart_id = stored w.cart_id h.cart_id utf8; price = h.price; made_at = h.made_at; expires = h.expires }) t.carts lists.carts stand.rows.carts limited.carts typed.carts;
      orders = joined IsLimitedOrder _ IsFitOrder (λ w h utf8. record { email = stored_or_none w.email h.email utf8; made_at = h.made_at; expires = h.expires }) t.orders lists.orders stand.rows.orders limited.orders typed.orders;
      positions =
          joined (λ (w : PositionRow). IsLimitedPosition (position_of 0 w)) (λ (w : PositionRow). (w.positionid < 2 ^ 32) × IsUtf8 w.secret) IsFitPosition (λ w h of. record { positionid = of.0; price = h.price; secret = stored w.secret h.secret of.1 }) t.positions
          (map head_of_position lists.positions) stand.rows.positions (mapped head_of_position IsLimitedPosition (λ (w : PositionRow). IsLimitedPosition (position_of 0 w)) position_alone lists.positions limited.positions) typed.positions;
      waiting = joined IsLimitedWaiting _ IsFitWaiting (λ w h utf8. record { email = stored w.email h.email utf8; priority = h.priority; created = h.created }) t.waiting lists.waiting stand.rows.waiting limited.waiting typed.waiting;
      checkin_lists =
          joined (λ (w : ListRow). IsText w.name) _ IsFitList (λ w h utf8. record { name = stored w.name h utf8 }) t.checkin_lists (map head_of_list lists.checkin_lists) stand.rows.checkin_lists
          (mapped head_of_list IsLimitedCheckinList (λ (w : ListRow). IsText w.name) (λ (l : CheckinList) h. h.name) lists.checkin_lists limited.checkin_lists) typed.checkin_lists;
      checkins = joined IsLimitedCheckin _ IsFitCheckin (λ w h utf8. record { datetime = h.datetime; nonce = stored_or_none w.nonce h.nonce utf8 }) t.checkins lists.checkins stand.rows.checkins limited.checkins typed.checkins;
      tokens = typed.tokens;
      kept = typed.kept;
      budgets =
          each_so (λ (w : BudgetRow). IsMoney w.budget) IsFitBudget (λ w h. record { budget = h }) t.budgets
          (unmapped (λ (w : BudgetRow). record { owner = w.voucher_id; member = w.budget }) OfMoney t.budgets
          (all-permutation OfMoney (all_links (λ v. v.id) budgets_of lists.vouchers) _ (IsPermutation-sym _ _ stand.rows.voucher_budget)
          (money_links (λ (v : Voucher). v.id) budgets_of IsLimitedVoucher (λ v h. of_budget v.budget h.budget) lists.vouchers limited.vouchers)));
      discounts =
          each_so (λ (w : DiscountRow). IsMoney w.discount) IsFitDiscount (λ w h. record { discount = h }) t.discounts
          (unmapped (λ (w : DiscountRow). record { owner = w.position_id; member = w.discount }) OfMoney t.discounts
          (all-permutation OfMoney (all_links (λ p. p.id) discounts_of lists.positions) _ (IsPermutation-sym _ _ stand.rows.position_discount)
          (money_links (λ (p : OrderPos). p.id) discounts_of IsLimitedPosition (λ p h. of_discount (p.discount == 0) p.discount h.discount) lists.positions limited.positions)));
    }
