-- What keeps a box office sound.
use Rattle.std.proofs.Common.{◌≡◌, ℕ, ◌+◌, ◌≤◌, ◌⊎◌, inl, inr, Bool, true, false, List, [], ◌∷◌, length, map, Option, Some, None, refl, sym, ap, ◌∙◌, subst, arith}
use Rattle.std.specs.Prelude.{◌||◌, not}
use Rattle.std.specs.List.{AllByRecursion}
use Rattle.model_catalogue.specs.declared.rows.Item.{Item}
use Rattle.model_catalogue.specs.declared.rows.Variation.{Variation}
use Rattle.model_catalogue.specs.declared.rows.ItemRows.{ItemRows}
use Rattle.model_catalogue.specs.declared.rows.Quota.{Quota}
use Rattle.model_catalogue.specs.declared.rows.Product.{Product}
use Rattle.model_catalogue.specs.declared.requests.NewVariation.{NewVariation}
use Rattle.base_values.specs.Moments.{last_moment}
use Rattle.model_catalogue.specs.Limits.{most_rows, last_id}
use Rattle.model_catalogue.specs.CatalogueLists.{CatalogueLists, item_at, variation_at, quota_at}
use Rattle.model_catalogue.specs.ItemAdded.{variation_rows}
use Rattle.model_catalogue.specs.Member.{is_in}
use Rattle.model_rows.specs.declared.rows.CartPos.{CartPos}
use Rattle.model_rows.specs.declared.rows.Voucher.{Voucher}
use Rattle.model_rows.specs.declared.changes.Change.TheVariants.{PutItem, PutVariation, PutQuota, PutVoucher, DropVoucher, DropCart}
use Rattle.model_rows.specs.Conditions.{is_live_cart}
use Rattle.model_rows.specs.Lists.{Lists, State, empty, voucher_at}
use Rattle.model_rows.specs.Change.{after_change, after_all, change_applied}
use Rattle.model_rows.specs.Usage.{redeemed}
use Rattle.model_rows.specs.Headroom.{held, HasHeadroom, AllHaveHeadroom, has_use}
use Rattle.model_rows.specs.Budgets.{HasBudget}
use Rattle.model_rows.specs.Fits.{fits_quota, fits_by, fits, fits_if, is_fit, AllFit}
use Rattle.model_rows.specs.Named.{is_used}
use Rattle.model_rows.specs.Numbered.{AreFrom, with_item, with_variation, with_quota, with_voucher, with_cart}
use Rattle.model_invariant.specs.Limits.{IsLimitedItem, IsLimitedVariation, IsLimitedQuota, IsLimitedVoucher, IsLimitedCart}
use Rattle.model_invariant.specs.Members.{HasMembers}
use Rattle.model_invariant.specs.Range.{IsNextId}
use Rattle.model_invariant.specs.Targets.{HasTarget}
use Rattle.model_invariant.specs.Varied.{sold_as, is_sold_as, is_of_varied, is_whole, IsProduct}
use Rattle.model_invariant.specs.Sound.{IsSound}
use Rattle.model_rows.proofs.EachRow.{all-with_row, all-without_row, next_absent}
use Rattle.model_invariant.proofs.Checkins.{door_none, door_put_item}
use Rattle.model_invariant.proofs.EachTable.{set_items, set_variations, set_quotas, set_vouchers, set_carts}
use Rattle.model_invariant.proofs.Numbered.{numbered_none, numbered_put, numbered_changed, numbered_dropped, few_put, few_changed, few_dropped, Takes, TakesSome, takes_first, takes_others, next_put}
use Rattle.model_invariant.proofs.Members.{members_put_item, members_put_variation, members_put_quota, members_kept}
use Rattle.model_invariant.proofs.Targets.{targets_put_item, targets_put_variation, targets_put_quota}
use Rattle.model_invariant.proofs.Sent.{sent_put, sent_drop}
use Rattle.model_rows.proofs.Headroom.{headroom_later, headroom_put, headroom_drop}
use Rattle.model_invariant.proofs.Fit.{carts_stay, positions_stay, fit_same, fit_quota, fit_voucher, fit_put_other, fit_drop_other, carts_unless, positions_unless, all_fit_cart, all_fit_drop_cart}
use Rattle.model_invariant.proofs.Fresh.{fresh_headroom, fresh_budget}
use Rattle.model_invariant.proofs.OwnCodes.{HasItsCode, codes_put, codes_drop}
use Rattle.model_invariant.proofs.Varied.{AreOf, varied_stay, whole_stay, put_of_varied, products_put_item, products_put_variation, products_put_quota, products_put_voucher, products_drop_voucher, products_put_cart, products_drop_cart}

-- rows that don't change, in a catalogue of the same quotas
fit_catalogue : (lists : Lists) (catalogue : CatalogueLists) → lists.catalogue.quotas ≡ catalogue.quotas → AllFit lists → AllFit (record lists { catalogue = catalogue })
fit_catalogue lists catalogue e h =
    let stays = fit_same lists (record lists { catalogue = catalogue }) e refl in
    record {
      carts = carts_stay lists (record lists { catalogue = catalogue }) stays lists.carts h.carts;
      positions = positions_stay lists (record lists { catalogue = catalogue }) stays lists.positions h.positions;
    }

-- ids count from 1
first_next : IsNextId last_id 1
first_next = record { from_one = omega arith; within = omega arith }

-- the empty box office is sound
pub sound_empty : IsSound empty
sound_empty = record {
  range = record {
    moment = omega arith;
    next_ids = record { items = first_next; variations = first_next; quotas = first_next; vouchers = first_next; carts = first_next; orders = record { from_one = omega arith; within = omega arith }; positions = first_next; waiting = first_next; checkin_lists = first_next; checkins = first_next };
  };
  few = record { items = omega arith; variations = omega arith; quotas = omega arith; vouchers = omega arith; carts = omega arith; orders = omega arith; positions = omega arith; waiting = omega arith; checkin_lists = omega arith; checkins = omega arith };
  limits = record { items = tt; variations = tt; quotas = tt; vouchers = tt; carts = tt; orders = tt; positions = tt; waiting = tt; checkin_lists = tt; checkins = tt };
  ids = record {
    items = numbered_none (λ r. r.id) 1;
    variations = numbered_none (λ r. r.id) 1;
    quotas = numbered_none (λ r. r.id) 1;
    vouchers = numbered_none (λ r. r.id) 1;
    carts = numbered_none (λ r. r.id) 1;
    orders = numbered_none (λ r. r.id) 1;
    positions = numbered_none (λ r. r.id) 1;
    waiting = numbered_none (λ r. r.id) 1;
    checkin_lists = numbered_none (λ r. r.id) 1;
    checkins = numbered_none (λ r. r.id) 1;
  };
  members = tt;
  targets = tt;
  whole = tt;
  varied = tt;
  products = record { carts = tt; positions = tt; waiting = tt };
  sent = tt;
  fit = record { carts = tt; positions = tt };
  codes = record { unlike = tt; own = tt };
  ordered = record { each = record { stand = tt; secrets = tt }; whole = tt };
  door = door_none;
  headroom = tt;
  budgets = tt;
}

-- a box office stays sound as time goes on
pub sound_later : (state : State) (at : ℕ) → state.moment ≤ at → at ≤ last_moment → IsSound state → IsSound (record state { moment = at })
sound_later state at le last h = record {
  range = record { moment = last; next_ids = h.range.next_ids };
  few = h.few;
  limits = h.limits;
  ids = h.ids;
  members = h.members;
  targets = h.targets;
  whole = h.whole;
  varied = h.varied;
  products = h.products;
  sent = h.sent;
  fit = h.fit;
  codes = h.codes;
  ordered = h.ordered;
  door = h.door;
  headroom = headroom_later state.moment at state.lists le h.headroom;
  budgets = h.budgets;
}

-- a new cart position of a product, that names no voucher, or one for its product, with a use left where the position is live
pub sound_cart : (state : State) (row : CartPos) → row.id ≡ state.next.cart → Takes state.next.cart state.lists.carts → IsProduct state.lists.catalogue row.product → (not (is_live_cart state.moment row) || has_use state.moment state.lists row.voucher) ≡ true → is_fit state.lists row.product row.voucher ≡ true → IsLimitedCart row → IsSound state → IsSound (with_cart row state)
sound_cart state row e takes product left fits limits h = record {
  range = record { moment = h.range.moment; next_ids = set_carts h.range.next_ids (next_put last_id state.next.cart takes.1 h.range.next_ids.carts) };
  few = set_carts h.few (few_put (λ r. r.id) most_rows row state.lists.carts takes.0);
  limits = set_carts h.limits (all-with_row (λ r. r.id) IsLimitedCart row state.lists.carts limits h.limits.carts);
  ids = set_carts h.ids (numbered_put (λ r. r.id) row state.next.cart state.lists.carts e h.range.next_ids.carts.from_one h.ids.carts);
  members = h.members;
  targets = h.targets;
  whole = h.whole;
  varied = h.varied;
  products = products_put_cart row state.lists product h.products;
  sent = h.sent;
  fit = all_fit_cart state.lists row fits h.fit;
  codes = h.codes;
  ordered = h.ordered;
  door = h.door;
  headroom = headroom_put state.moment state.lists row h.ids.carts.in_order h.ids.vouchers.in_order left h.headroom;
  budgets = h.budgets;
}

-- a cart position that goes
pub sound_drop_cart : (state : State) (id : ℕ) → IsSound state → IsSound (change_applied (DropCart id) state)
sound_drop_cart state id h = record {
  range = h.range;
  few = set_carts h.few (few_dropped (λ r. r.id) most_rows id state.lists.carts h.few.carts);
  limits = set_carts h.limits (all-without_row (λ r. r.id) IsLimitedCart id state.lists.carts h.limits.carts);
  ids = set_carts h.ids (numbered_dropped (λ r. r.id) id state.next.cart state.lists.carts h.ids.carts);
  members = h.members;
  targets = h.targets;
  whole = h.whole;
  varied = h.varied;
  products = products_drop_cart id state.lists h.products;
  sent = h.sent;
  fit = all_fit_drop_cart state.lists id h.fit;
  codes = h.codes;
  ordered = h.ordered;
  door = h.door;
  headroom = headroom_drop state.moment state.lists id h.ids.carts.in_order h.headroom;
  budgets = h.budgets;
}

-- an item without its variations
put_item : (state : State) (row : Item) → row.id ≡ state.next.item → Takes state.next.item state.lists.catalogue.items → IsLimitedItem row → IsSound state → IsSound (record state { lists = after_change (PutItem row) state.lists; next = record state.next { item = state.next.item + 1 } })
put_item state row e takes limits h = record {
  range = record { moment = h.range.moment; next_ids = set_items h.range.next_ids (next_put last_id state.next.item takes.1 h.range.next_ids.items) };
  few = set_items h.few (few_put (λ r. r.id) most_rows row state.lists.catalogue.items takes.0);
  limits = set_items h.limits (all-with_row (λ r. r.id) IsLimitedItem row state.lists.catalogue.items limits h.limits.items);
  ids = set_items h.ids (numbered_put (λ r. r.id) row state.next.item state.lists.catalogue.items e h.range.next_ids.items.from_one h.ids.items);
  members = members_put_item row state.lists.catalogue kept h.members;
  targets = targets_put_item row state.lists.catalogue state.lists.vouchers h.targets;
  whole = whole_stay row state.lists.catalogue.items kept state.lists.vouchers h.whole;
  varied = varied_stay row state.lists.catalogue.items kept state.lists.catalogue.variations h.varied;
  products = products_put_item row state.lists kept h.products;
  sent = h.sent;
  fit = fit_catalogue state.lists (after_change (PutItem row) state.lists).catalogue refl h.fit;
  codes = h.codes;
  ordered = h.ordered;
  door = door_put_item state.lists h.door row;
  headroom = h.headroom;
  budgets = h.budgets;
}
  where
    absent : item_at row.id state.lists.catalogue ≡ None
    absent = ap (λ (n : ℕ). item_at n state.lists.catalogue) e ∙ next_absent (λ (r : Item). r.id) state.next.item state.lists.catalogue.items h.ids.items.below

    kept : (test : Bool → Bool) → is_sold_as test row.id state.lists.catalogue.items ≡ true → test row.varied ≡ true
    kept test is =
        let never : false ≡ true = ap (sold_as test) (sym absent) ∙ is in
        absurd (cc)

-- a new variation of an item that is sold by variation
pub sound_variation : (state : State) (row : Variation) → row.id ≡ state.next.variation → Takes state.next.variation state.lists.catalogue.variations → is_of_varied state.lists.catalogue.items row ≡ true → IsLimitedVariation row → IsSound state → IsSound (with_variation row state)
sound_variation state row e takes of limits h = record {
  range = record { moment = h.range.moment; next_ids = set_variations h.range.next_ids (next_put last_id state.next.variation takes.1 h.range.next_ids.variations) };
  few = set_variations h.few (few_put (λ r. r.id) most_rows row state.lists.catalogue.variations takes.0);
  limits = set_variations h.limits (all-with_row (λ r. r.id) IsLimitedVariation row state.lists.catalogue.variations limits h.limits.variations);
  ids = set_variations h.ids (numbered_put (λ r. r.id) row state.next.variation state.lists.catalogue.variations e h.range.next_ids.variations.from_one h.ids.variations);
  members = members_put_variation row state.lists.catalogue absent h.members;
  targets = targets_put_variation row state.lists.catalogue absent state.lists.vouchers h.targets;
  whole = h.whole;
  varied = all-with_row (λ r. r.id) (λ v. is_of_varied state.lists.catalogue.items v ≡ true) row state.lists.catalogue.variations of h.varied;
  products = products_put_variation row state.lists absent h.products;
  sent = h.sent;
  fit = fit_catalogue state.lists (after_change (PutVariation row) state.lists).catalogue refl h.fit;
  codes = h.codes;
  ordered = h.ordered;
  door = h.door;
  headroom = h.headroom;
  budgets = h.budgets;
}
  where
    absent : variation_at row.id state.lists.catalogue ≡ None
    absent = ap (λ (n : ℕ). variation_at n state.lists.catalogue) e ∙ next_absent (λ (r : Variation). r.id) state.next.variation state.lists.catalogue.variations h.ids.variations.below

-- some new variations
abbrev more_variations : List Variation → State → State
more_variations rows state = record state { lists = after_all (map PutVariation rows) state.lists; next = record state.next { variation = state.next.variation + length rows } }

put_variations : (rows : List Variation) (state : State) → TakesSome (length rows) state.next.variation state.lists.catalogue.variations → AreFrom state.next.variation rows → AllByRecursion (λ v. is_of_varied state.lists.catalogue.items v ≡ true) rows → AllByRecursion IsLimitedVariation rows → IsSound state → IsSound (more_variations rows state)
put_variations [] state takes from of limits h =
    let none : state.next.variation ≡ state.next.variation + 0 = omega arith in
    subst (λ (n : ℕ). IsSound (record state { next = record state.next { variation = n } })) none h
put_variations (row ∷ rows) state takes from of limits h =
    let more = put_variations rows (with_variation row state) (takes_others (λ (r : Variation). r.id) row rows state.next.variation state.lists.catalogue.variations takes) from.1 of.1 limits.1 (sound_variation state row from.0 (takes_first (λ (r : Variation). r.id) row rows state.next.variation state.lists.catalogue.variations takes) of.0 limits.0 h) in
    let count : state.next.variation + 1 + length rows ≡ state.next.variation + length (row ∷ rows) = omega arith in
    subst (λ (n : ℕ). IsSound (record state { lists = after_all (map PutVariation rows) (after_change (PutVariation row) state.lists); next = record state.next { variation = n } })) count more

-- a new item with its variations, whose ids count on
pub sound_item : (state : State) (rows : ItemRows) → rows.item.id ≡ state.next.item → Takes state.next.item state.lists.catalogue.items → TakesSome (length rows.variations) state.next.variation state.lists.catalogue.variations
    → AreFrom state.next.variation rows.variations → AreOf rows.item rows.variations → IsLimitedItem rows.item → AllByRecursion IsLimitedVariation rows.variations → IsSound state → IsSound (with_item rows state)
sound_item state rows e takes takes_more from of limits each h = put_variations rows.variations (record state { lists = after_change (PutItem rows.item) state.lists; next = record state.next { item = state.next.item + 1 } }) takes_more from (put_of_varied rows.item state.lists.catalogue.items rows.variations of) each (put_item state rows.item e takes limits h)

-- those that are made with an item do
pub variation_rows_count : (new : List NewVariation) (item first : ℕ) → AreFrom first (variation_rows new item first)
variation_rows_count [] item first = tt
variation_rows_count (variation ∷ variations) item first = (refl, variation_rows_count variations item (first + 1))

-- an item that is changed, and sold as before
pub sound_changed_item : (state : State) (row old : Item) → item_at row.id state.lists.catalogue ≡ Some old → row.varied ≡ old.varied → IsLimitedItem row → IsSound state → IsSound (change_applied (PutItem row) state)
sound_changed_item state row old e varied limits h = record {
  range = h.range;
  few = set_items h.few (few_changed (λ r. r.id) most_rows row old state.lists.catalogue.items h.ids.items.in_order e h.few.items);
  limits = set_items h.limits (all-with_row (λ r. r.id) IsLimitedItem row state.lists.catalogue.items limits h.limits.items);
  ids = set_items h.ids (numbered_changed (λ r. r.id) row old state.next.item state.lists.catalogue.items e h.ids.items);
  members = members_put_item row state.lists.catalogue kept h.members;
  targets = targets_put_item row state.lists.catalogue state.lists.vouchers h.targets;
  whole = whole_stay row state.lists.catalogue.items kept state.lists.vouchers h.whole;
  varied = varied_stay row state.lists.catalogue.items kept state.lists.catalogue.variations h.varied;
  products = products_put_item row state.lists kept h.products;
  sent = h.sent;
  fit = fit_catalogue state.lists (after_change (PutItem row) state.lists).catalogue refl h.fit;
  codes = h.codes;
  ordered = h.ordered;
  door = door_put_item state.lists h.door row;
  headroom = h.headroom;
  budgets = h.budgets;
}
  where
    kept : (test : Bool → Bool) → is_sold_as test row.id state.lists.catalogue.items ≡ true → test row.varied ≡ true
    kept test is = ap test varied ∙ (ap (sold_as test) (sym e) ∙ is)

-- a quota that has what the one in its place had
fit_put_quota : (lists : Lists) (row : Quota) → ((product : Product) → fits_quota (quota_at row.id lists.catalogue) product ≡ true → is_in row product ≡ true) → AllFit lists → AllFit (after_change (PutQuota row) lists)
fit_put_quota lists row has h = record {
  carts = carts_stay lists (after_change (PutQuota row) lists) (fit_quota lists row has) lists.carts h.carts;
  positions = positions_stay lists (after_change (PutQuota row) lists) (fit_quota lists row has) lists.positions h.positions;
}

-- a new quota, whose members stand and fit together
pub sound_quota : (state : State) (row : Quota) → row.id ≡ state.next.quota → Takes state.next.quota state.lists.catalogue.quotas → HasMembers state.lists.catalogue row → IsLimitedQuota row → IsSound state → IsSound (with_quota row state)
sound_quota state row e takes its limits h = record {
  range = record { moment = h.range.moment; next_ids = set_quotas h.range.next_ids (next_put last_id state.next.quota takes.1 h.range.next_ids.quotas) };
  few = set_quotas h.few (few_put (λ r. r.id) most_rows row state.lists.catalogue.quotas takes.0);
  limits = set_quotas h.limits (all-with_row (λ r. r.id) IsLimitedQuota row state.lists.catalogue.quotas limits h.limits.quotas);
  ids = set_quotas h.ids (numbered_put (λ r. r.id) row state.next.quota state.lists.catalogue.quotas e h.range.next_ids.quotas.from_one h.ids.quotas);
  members = members_put_quota row state.lists.catalogue its h.members;
  targets = targets_put_quota row state.lists.catalogue state.lists.vouchers h.targets;
  whole = h.whole;
  varied = h.varied;
  products = products_put_quota row state.lists h.products;
  sent = h.sent;
  fit = fit_put_quota state.lists row nothing h.fit;
  codes = h.codes;
  ordered = h.ordered;
  door = h.door;
  headroom = h.headroom;
  budgets = h.budgets;
}
  where
    absent : quota_at row.id state.lists.catalogue ≡ None
    absent = ap (λ (n : ℕ). quota_at n state.lists.catalogue) e ∙ next_absent (λ (r : Quota). r.id) state.next.quota state.lists.catalogue.quotas h.ids.quotas.below

    nothing : (product : Product) → fits_quota (quota_at row.id state.lists.catalogue) product ≡ true → is_in row product ≡ true
    nothing product fits =
        let never : false ≡ true = ap (λ (found : Option Quota). fits_quota found product) (sym absent) ∙ fits in
        absurd (cc)

-- a quota that gets another size
pub sound_resized : (state : State) (row old : Quota) → quota_at row.id state.lists.catalogue ≡ Some old → row.items ≡ old.items → row.variations ≡ old.variations → IsLimitedQuota row → IsSound state → IsSound (change_applied (PutQuota row) state)
sound_resized state row old e items variations limits h = record {
  range = h.range;
  few = set_quotas h.few (few_changed (λ r. r.id) most_rows row old state.lists.catalogue.quotas h.ids.quotas.in_order e h.few.quotas);
  limits = set_quotas h.limits (all-with_row (λ r. r.id) IsLimitedQuota row state.lists.catalogue.quotas limits h.limits.quotas);
  ids = set_quotas h.ids (numbered_changed (λ r. r.id) row old state.next.quota state.lists.catalogue.quotas e h.ids.quotas);
  members = members_put_quota row state.lists.catalogue (members_kept state.lists.catalogue row old e items variations h.members) h.members;
  targets = targets_put_quota row state.lists.catalogue state.lists.vouchers h.targets;
  whole = h.whole;
  varied = h.varied;
  products = products_put_quota row state.lists h.products;
  sent = h.sent;
  fit = fit_put_quota state.lists row same h.fit;
  codes = h.codes;
  ordered = h.ordered;
  door = h.door;
  headroom = h.headroom;
  budgets = h.budgets;
}
  where
    by_variation : (variation : Option ℕ) (item : ℕ) → is_in old (record { item = item; variation = variation }) ≡ true → is_in row (record { item = item; variation = variation }) ≡ true
    by_variation None item h = rw items h
    by_variation (Some id) item h = rw variations h

    same : (product : Product) → fits_quota (quota_at row.id state.lists.catalogue) product ≡ true → is_in row product ≡ true
    same product fits = by_variation product.variation product.item (ap (λ (found : Option Quota). fits_quota found product) (sym e) ∙ fits)

-- a voucher that is put
module _ (lists : Lists) (row : Voucher) where
  -- the row is for what the one in its place was for
  fit_alike : ((product : Product) → fits_if lists.catalogue product (voucher_at row.id lists) ≡ true → fits lists.catalogue row product ≡ true) → AllFit lists → AllFit (after_change (PutVoucher row) lists)
  fit_alike has h = record {
    carts = carts_stay lists (after_change (PutVoucher row) lists) (fit_voucher lists row has) lists.carts h.carts;
    positions = positions_stay lists (after_change (PutVoucher row) lists) (fit_voucher lists row has) lists.positions h.positions;
  }

  -- or nothing names it
  fit_unused : is_used row.id lists ≡ false → AllFit lists → AllFit (after_change (PutVoucher row) lists)
  fit_unused unused h = record {
    carts = carts_unless row.id lists (after_change (PutVoucher row) lists) unused (fit_put_other lists row) h.carts;
    positions = positions_unless row.id lists (after_change (PutVoucher row) lists) unused (fit_put_other lists row) h.positions;
  }

  headroom_voucher : (at : ℕ) → redeemed row.id lists + held at row.id lists ≤ row.max_usages → AllHaveHeadroom at lists → AllHaveHeadroom at (after_change (PutVoucher row) lists)
  headroom_voucher at room h = all-with_row (λ r. r.id) (HasHeadroom at lists) row lists.vouchers room h

-- a new voucher whose code no other one has, that names what stands, and that may block if it does
pub sound_voucher : (state : State) (row : Voucher) → row.id ≡ state.next.voucher → Takes state.next.voucher state.lists.vouchers → HasTarget state.lists.catalogue row → HasItsCode row state.lists
    → redeemed row.id state.lists + held state.moment row.id state.lists ≤ row.max_usages → HasBudget state.lists row → is_whole state.lists.catalogue.items row ≡ true → IsLimitedVoucher row → IsSound state
    → IsSound (with_voucher row state)
sound_voucher state row e takes target code room budget whole limits h = record {
  range = record { moment = h.range.moment; next_ids = set_vouchers h.range.next_ids (next_put last_id state.next.voucher takes.1 h.range.next_ids.vouchers) };
  few = set_vouchers h.few (few_put (λ r. r.id) most_rows row state.lists.vouchers takes.0);
  limits = set_vouchers h.limits (all-with_row (λ r. r.id) IsLimitedVoucher row state.lists.vouchers limits h.limits.vouchers);
  ids = set_vouchers h.ids (numbered_put (λ r. r.id) row state.next.voucher state.lists.vouchers e h.range.next_ids.vouchers.from_one h.ids.vouchers);
  members = h.members;
  targets = all-with_row (λ r. r.id) (HasTarget state.lists.catalogue) row state.lists.vouchers target h.targets;
  whole = all-with_row (λ r. r.id) (λ v. is_whole state.lists.catalogue.items v ≡ true) row state.lists.vouchers whole h.whole;
  varied = h.varied;
  products = products_put_voucher row state.lists h.products;
  sent = sent_put row state.lists.vouchers state.lists.waiting h.sent;
  fit = fit_alike state.lists row nothing h.fit;
  codes = codes_put row state.lists h.ids.vouchers.in_order code h.codes;
  ordered = h.ordered;
  door = h.door;
  headroom = headroom_voucher state.lists row state.moment room h.headroom;
  budgets = all-with_row (λ r. r.id) (HasBudget state.lists) row state.lists.vouchers budget h.budgets;
}
  where
    absent : voucher_at row.id state.lists ≡ None
    absent = ap (λ (n : ℕ). voucher_at n state.lists) e ∙ next_absent (λ (r : Voucher). r.id) state.next.voucher state.lists.vouchers h.ids.vouchers.below

    nothing : (product : Product) → fits_if state.lists.catalogue product (voucher_at row.id state.lists) ≡ true → fits state.lists.catalogue row product ≡ true
    nothing product fit =
        let never : false ≡ true = ap (fits_if state.lists.catalogue product) (sym absent) ∙ fit in
        absurd (cc)

-- it has headroom, since nothing names an id that wasn't given yet
pub sound_new_voucher : (state : State) (row : Voucher) → row.id ≡ state.next.voucher → Takes state.next.voucher state.lists.vouchers → HasTarget state.lists.catalogue row → HasItsCode row state.lists → is_whole state.lists.catalogue.items row ≡ true → IsLimitedVoucher row → IsSound state → IsSound (with_voucher row state)
sound_new_voucher state row e takes target code whole limits h = sound_voucher state row e takes target code (rw e (fresh_headroom state.lists state.next.voucher h.ids.vouchers state.moment row.max_usages h.fit)) (rw e (fresh_budget state.lists state.next.voucher h.ids.vouchers row.budget h.fit)) whole limits h

-- a voucher that is changed: it names what stands, its code is its own, it has headroom, and it may block if it does
module _ (state : State) (row old : Voucher) (stands : voucher_at row.id state.lists ≡ Some old) (target : HasTarget state.lists.catalogue row) (code : HasItsCode row state.lists)
    (room : redeemed row.id state.lists + held state.moment row.id state.lists ≤ row.max_usages) (budget : HasBudget state.lists row) (whole : is_whole state.lists.catalogue.items row ≡ true) (limits : IsLimitedVoucher row)
    (h : IsSound state) where
  by_fit : AllFit (after_change (PutVoucher row) state.lists) → IsSound (change_applied (PutVoucher row) state)
  by_fit fit = record {
    range = h.range;
    few = set_vouchers h.few (few_changed (λ r. r.id) most_rows row old state.lists.vouchers h.ids.vouchers.in_order stands h.few.vouchers);
    limits = set_vouchers h.limits (all-with_row (λ r. r.id) IsLimitedVoucher row state.lists.vouchers limits h.limits.vouchers);
    ids = set_vouchers h.ids (numbered_changed (λ r. r.id) row old state.next.voucher state.lists.vouchers stands h.ids.vouchers);
    members = h.members;
    targets = all-with_row (λ r. r.id) (HasTarget state.lists.catalogue) row state.lists.vouchers target h.targets;
    whole = all-with_row (λ r. r.id) (λ v. is_whole state.lists.catalogue.items v ≡ true) row state.lists.vouchers whole h.whole;
    varied = h.varied;
    products = products_put_voucher row state.lists h.products;
    sent = sent_put row state.lists.vouchers state.lists.waiting h.sent;
    fit = fit;
    codes = codes_put row state.lists h.ids.vouchers.in_order code h.codes;
    ordered = h.ordered;
    door = h.door;
    headroom = headroom_voucher state.lists row state.moment room h.headroom;
    budgets = all-with_row (λ r. r.id) (HasBudget state.lists) row state.lists.vouchers budget h.budgets;
  }

  -- where nothing names it
  pub sound_unused_voucher : is_used row.id state.lists ≡ false → IsSound (change_applied (PutVoucher row) state)
  sound_unused_voucher unused = by_fit (fit_unused state.lists row unused h.fit)

  -- where it is for the same products as before
  pub sound_alike_voucher : row.item ≡ old.item → row.variation ≡ old.variation → row.quota ≡ old.quota → IsSound (change_applied (PutVoucher row) state)
  sound_alike_voucher item variation quota = by_fit (fit_alike state.lists row same h.fit)
    where
      by_quota : (product : Product) (q : Option ℕ) → fits_by state.lists.catalogue old product q ≡ true → fits_by state.lists.catalogue row product q ≡ true
      by_quota product None fit = rw (item, variation) fit
      by_quota product (Some id) fit = fit

      same : (product : Product) → fits_if state.lists.catalogue product (voucher_at row.id state.lists) ≡ true → fits state.lists.catalogue row product ≡ true
      same product fit = rw quota (by_quota product old.quota (ap (fits_if state.lists.catalogue product) (sym stands) ∙ fit))

  -- either of them
  pub sound_changed_voucher : (is_used row.id state.lists ≡ false) ⊎ ((row.item ≡ old.item) × ((row.variation ≡ old.variation) × (row.quota ≡ old.quota))) → IsSound (change_applied (PutVoucher row) state)
  sound_changed_voucher (inl unused) = sound_unused_voucher unused
  sound_changed_voucher (inr same) = sound_alike_voucher same.0 same.1.0 same.1.1

-- a voucher that nothing names goes
pub sound_drop_voucher : (state : State) (id : ℕ) → is_used id state.lists ≡ false → IsSound state → IsSound (change_applied (DropVoucher id) state)
sound_drop_voucher state id unused h = record {
  range = h.range;
  few = set_vouchers h.few (few_dropped (λ r. r.id) most_rows id state.lists.vouchers h.few.vouchers);
  limits = set_vouchers h.limits (all-without_row (λ r. r.id) IsLimitedVoucher id state.lists.vouchers h.limits.vouchers);
  ids = set_vouchers h.ids (numbered_dropped (λ r. r.id) id state.next.voucher state.lists.vouchers h.ids.vouchers);
  members = h.members;
  targets = all-without_row (λ r. r.id) (HasTarget state.lists.catalogue) id state.lists.vouchers h.targets;
  whole = all-without_row (λ r. r.id) (λ v. is_whole state.lists.catalogue.items v ≡ true) id state.lists.vouchers h.whole;
  varied = h.varied;
  products = products_drop_voucher id state.lists h.products;
  sent = sent_drop id state.lists unused h.sent;
  fit = record {
    carts = carts_unless id state.lists (after_change (DropVoucher id) state.lists) unused (fit_drop_other state.lists id) h.fit.carts;
    positions = positions_unless id state.lists (after_change (DropVoucher id) state.lists) unused (fit_drop_other state.lists id) h.fit.positions;
  };
  codes = codes_drop id state.lists.vouchers h.codes;
  ordered = h.ordered;
  door = h.door;
  headroom = all-without_row (λ r. r.id) (HasHeadroom state.moment state.lists) id state.lists.vouchers h.headroom;
  budgets = all-without_row (λ r. r.id) (HasBudget state.lists) id state.lists.vouchers h.budgets;
}
