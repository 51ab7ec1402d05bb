-- A box office that is sound after a change tells that the change could be made.
use Rattle.std.proofs.Common.{◌≡◌, ℕ, ◌≢◌, ◌⊎◌, inl, inr, Bool, true, false, ◌&&◌, eqb, List, [], ◌∷◌, ◌++◌, map, Option, Some, None, refl, sym, ap, ap₂, ◌∙◌, subst, arith}
use Rattle.std.specs.Prelude.{◌||◌, is_some, if◌then◌else◌}
use Rattle.std.specs.List.{list_any, AllByRecursion}
use Rattle.std.proofs.lemmas.Bool.Decides.{eqb_tells}
use Rattle.base_tables.specs.Tables.{row_at, without_row}
use Rattle.base_values.specs.Texts.{same_text}
use Rattle.base_tables.proofs.Edits.{row_at-without_row}
use Rattle.model_catalogue.specs.declared.rows.Item.{Item}
use Rattle.model_catalogue.specs.declared.rows.ItemRows.{ItemRows}
use Rattle.model_catalogue.specs.declared.rows.Product.{Product}
use Rattle.model_catalogue.specs.declared.rows.Quota.{Quota}
use Rattle.model_catalogue.specs.declared.rows.Variation.{Variation}
use Rattle.model_catalogue.specs.CatalogueLists.{CatalogueLists, variation_at}
use Rattle.model_catalogue.specs.QuotaAdded.{items_stand, variations_stand}
use Rattle.model_rows.specs.declared.rows.CartPos.{CartPos}
use Rattle.model_rows.specs.declared.rows.Checkin.{Checkin}
use Rattle.model_rows.specs.declared.rows.CheckinList.{CheckinList}
use Rattle.model_rows.specs.declared.rows.NextIds.{NextIds}
use Rattle.model_rows.specs.declared.rows.OrderPos.{OrderPos}
use Rattle.model_rows.specs.declared.rows.Voucher.{Voucher}
use Rattle.model_rows.specs.declared.rows.Waiting.{Waiting}
use Rattle.model_rows.specs.declared.changes.Change.{Change}
use Rattle.model_rows.specs.declared.changes.Change.TheVariants.{PutItem, PutVariation, PutQuota, PutVoucher, PutCart, PutOrder, PutPosition, PutWaiting, DropVoucher, DropCart, DropWaiting, PutCheckinList, PutCheckin}
use Rattle.model_rows.specs.Conditions.{names}
use Rattle.model_rows.specs.Fits.{fits_if, is_fit}
use Rattle.model_rows.specs.Lists.{Lists, State, voucher_at}
use Rattle.model_rows.specs.Change.{after_change, after_all}
use Rattle.model_rows.specs.Numbered.{puts_of}
use Rattle.model_rows.specs.Named.{AreUnlike, is_ordered, is_in_cart, is_sent}
use Rattle.model_rows.proofs.EachRow.{all_weaker}
use Rattle.model_rows.proofs.Time.{eqb_flip}
use Rattle.model_invariant.specs.Changes.{product_stands, same_place, CanBeMade, EachCanBeMade, LeadTo}
use Rattle.model_invariant.specs.Checkins.{HasItems, IsCheckedIn, same_nonce, repeats, AreOnce}
use Rattle.model_invariant.specs.Members.{HasMembers}
use Rattle.model_invariant.specs.Shown.{HaveUnlikeSecrets}
use Rattle.model_invariant.specs.Sent.{voucher_stands}
use Rattle.model_invariant.specs.Sound.{IsSound, IsSoundWith}
use Rattle.model_invariant.specs.Targets.{variation_by, variation_stands, HasTarget}
use Rattle.model_invariant.specs.Varied.{sold_as, is_of_varied, names_as_sold, IsProduct}
use Rattle.model_invariant.proofs.Apart.{AreApart, neither, put_has, put_apart}
use Rattle.model_invariant.proofs.Codes.{same_text_flip}
use Rattle.model_invariant.proofs.Secrets.{secrets_unlike, places_apart}
use Rattle.model_invariant.proofs.Varied.{AreOf, put_of_varied}

-- ---- what stands

both : (a b : Bool) → a ≡ true → b ≡ true → (a && b) ≡ true
both true b e h = h
both false b e h = absurd (cc (e))

item_if_sold : (test : Bool → Bool) (found : Option Item) → sold_as test found ≡ true → is_some found ≡ true
item_if_sold test None h = absurd (cc (h))
item_if_sold test (Some item) h = refl

variation_if_own : (item : Option ℕ) (found : Option Variation) → variation_by item found ≡ true → variation_by None found ≡ true
variation_if_own item None h = absurd (cc (h))
variation_if_own item (Some variation) h = refl

variation_if_any : (catalogue : CatalogueLists) (item name : Option ℕ) → variation_stands catalogue item name ≡ true → variation_stands catalogue None name ≡ true
variation_if_any catalogue item None h = refl
variation_if_any catalogue item (Some id) h = variation_if_own item (variation_at id catalogue) h

voucher_if_fit : (catalogue : CatalogueLists) (product : Product) (found : Option Voucher) → fits_if catalogue product found ≡ true → is_some found ≡ true
voucher_if_fit catalogue product None h = absurd (cc (h))
voucher_if_fit catalogue product (Some voucher) h = refl

voucher_if_any : (lists : Lists) (product : Product) (name : Option ℕ) → is_fit lists product name ≡ true → voucher_stands lists.vouchers name ≡ true
voucher_if_any lists product None h = refl
voucher_if_any lists product (Some id) h = voucher_if_fit lists.catalogue product (voucher_at id lists) h

product_if : (catalogue : CatalogueLists) (product : Product) → IsProduct catalogue product → product_stands catalogue product ≡ true
product_if catalogue product h = both _ _ (item_if_sold (names_as_sold product.variation) (row_at (λ r. r.id) product.item catalogue.items) h.as_sold) (variation_if_any catalogue (Some product.item) product.variation h.own)

members_if : (row : Quota) (catalogue : CatalogueLists) (quotas : List Quota) → HasMembers (record catalogue { quotas = quotas }) row → (items_stand row catalogue ≡ true) × (variations_stand row catalogue ≡ true)
unfolding items_stand variations_stand
members_if row catalogue quotas h = (h.items, h.variations)

-- ---- what is apart

unlike_apart : (vs : List Voucher) → AreUnlike vs → AreApart (λ v w. same_text v.code w.code) vs
unlike_apart [] h = tt
unlike_apart (v ∷ vs) h = (h.0, unlike_apart vs h.1)

secrets_apart : (ps : List OrderPos) → HaveUnlikeSecrets ps → AreApart (λ p q. same_text p.secret q.secret) ps
secrets_apart [] h = tt
secrets_apart (p ∷ ps) h = (h.0, secrets_apart ps h.1)

once_apart : (cs : List Checkin) → AreOnce cs → AreApart repeats cs
once_apart [] h = tt
once_apart (c ∷ cs) h = (h.0, once_apart cs h.1)

pub nonce_flip : (a b : Option (List ℕ)) → same_nonce a b ≡ same_nonce b a
nonce_flip None None = refl
nonce_flip None (Some b) = refl
nonce_flip (Some a) None = refl
nonce_flip (Some a) (Some b) = same_text_flip a b

repeats_flip : (a b : Checkin) → repeats a b ≡ repeats b a
repeats_flip a b = ap₂ (λ x y. x && y) (eqb_flip a.list b.list) (ap₂ (λ x y. x && y) (eqb_flip a.position b.position) (nonce_flip a.nonce b.nonce))

place_flip : (a b : OrderPos) → same_place a b ≡ same_place b a
place_flip a b = ap₂ (λ x y. x && y) (eqb_flip a.order b.order) (eqb_flip a.positionid b.positionid)

-- each order position's order stands, and no two have one secret, nor one number in one order
pub record AreInPlace (lists : Lists) : Type 0 where
  pub stand : AllByRecursion (λ p. is_some (row_at (λ o. o.id) p.order lists.orders) ≡ true) lists.positions
  pub secrets : AreApart (λ p q. same_text p.secret q.secret) lists.positions
  pub places : AreApart same_place lists.positions

pub sound_in_place : (state : State) → IsSound state → AreInPlace state.lists
sound_in_place state h = record {
  stand = h.ordered.each.stand;
  secrets = secrets_apart state.lists.positions (secrets_unlike state.lists.orders state.next.order state.lists.positions (omega (arith, h.range.next_ids.orders.within)) h.ids.orders.below h.ordered);
  places = places_apart state.lists.orders state.lists.positions h.ordered;
}

-- ---- what nothing names

gone_unnamed : (gone : ℕ) (vouchers : List Voucher) (name : Option ℕ) → voucher_stands (without_row (λ r. r.id) gone vouchers) name ≡ true → names gone name ≡ false
gone_unnamed gone vouchers None h = refl
gone_unnamed gone vouchers (Some id) h = by_id (eqb_tells id gone) (ap is_some (sym (row_at-without_row (λ (r : Voucher). r.id) id gone vouchers)) ∙ h)
  where
    by_id : ((eqb id gone ≡ true) × (id ≡ gone)) ⊎ ((eqb id gone ≡ false) × (id ≢ gone)) → is_some (if eqb gone id then None else row_at (λ r. r.id) id vouchers) ≡ true → eqb id gone ≡ false
    by_id (inr other) e = other.0
    by_id (inl same) e =
        let it : eqb gone id ≡ true = eqb_flip gone id ∙ same.0 in
        let none : false ≡ true = sym (ap (λ b. is_some (if b then None else row_at (λ (r : Voucher). r.id) id vouchers)) it) ∙ e in
        absurd (cc (none))

none_named : {T : Type 0} (name : T → Option ℕ) (gone : ℕ) (vouchers : List Voucher) (rows : List T) → AllByRecursion (λ r. voucher_stands (without_row (λ v. v.id) gone vouchers) (name r) ≡ true) rows → list_any (λ r. names gone (name r)) rows ≡ false
none_named name gone vouchers [] h = refl
none_named name gone vouchers (r ∷ rs) h = neither (names gone (name r)) (list_any (λ s. names gone (name s)) rs) (gone_unnamed gone vouchers (name r) h.0) (none_named name gone vouchers rs h.1)

-- ---- each change

-- a box office that is sound, but for what orders have, tells that the change that led to it could be made
pub can_be_made : (rule within : Type 0) (change : Change) (lists : Lists) (next : NextIds) (at : ℕ) → IsSoundWith rule within (record { lists = after_change change lists; next = next; moment = at }) → AreInPlace (after_change change lists) → CanBeMade change lists
can_be_made rule within (PutItem row) lists next at h places = tt
can_be_made rule within (PutVariation row) lists next at h places = item_if_sold (λ varied. varied) (row_at (λ r. r.id) row.item lists.catalogue.items) (put_has (λ (v : Variation). v.id) (λ v. is_of_varied lists.catalogue.items v ≡ true) row lists.catalogue.variations h.varied)
can_be_made rule within (PutQuota row) lists next at h places = members_if row lists.catalogue (after_change (PutQuota row) lists).catalogue.quotas (put_has (λ (q : Quota). q.id) (HasMembers (after_change (PutQuota row) lists).catalogue) row lists.catalogue.quotas h.members)
can_be_made rule within (PutVoucher row) lists next at h places =
    let target = put_has (λ (v : Voucher). v.id) (HasTarget lists.catalogue) row lists.vouchers h.targets in
    record {
      item = target.item;
      variation = variation_if_any lists.catalogue row.item row.variation target.variation;
      quota = target.quota;
      code = put_apart (λ (v : Voucher). v.id) (λ v w. same_text v.code w.code) (λ v w. same_text_flip v.code w.code) row lists.vouchers (unlike_apart (after_change (PutVoucher row) lists).vouchers h.codes.unlike);
    }
can_be_made rule within (PutCart row) lists next at h places =
    let product = put_has (λ (c : CartPos). c.id) (λ c. IsProduct lists.catalogue c.product) row lists.carts h.products.carts in
    let fit = put_has (λ (c : CartPos). c.id) (λ c. is_fit (after_change (PutCart row) lists) c.product c.voucher ≡ true) row lists.carts h.fit.carts in
    (product_if lists.catalogue row.product product, voucher_if_any (after_change (PutCart row) lists) row.product row.voucher fit)
can_be_made rule within (PutOrder row) lists next at h places = tt
can_be_made rule within (PutPosition row) lists next at h places =
    let product = put_has (λ (p : OrderPos). p.id) (λ p. IsProduct lists.catalogue p.product) row lists.positions h.products.positions in
    let fit = put_has (λ (p : OrderPos). p.id) (λ p. is_fit (after_change (PutPosition row) lists) p.product p.voucher ≡ true) row lists.positions h.fit.positions in
    record {
      order = put_has (λ (p : OrderPos). p.id) (λ p. is_some (row_at (λ o. o.id) p.order lists.orders) ≡ true) row lists.positions places.stand;
      sale = (product_if lists.catalogue row.product product, voucher_if_any (after_change (PutPosition row) lists) row.product row.voucher fit);
      secret = put_apart (λ (p : OrderPos). p.id) (λ p q. same_text p.secret q.secret) (λ p q. same_text_flip p.secret q.secret) row lists.positions places.secrets;
      place = put_apart (λ (p : OrderPos). p.id) same_place place_flip row lists.positions places.places;
    }
can_be_made rule within (PutWaiting row) lists next at h places =
    let product = put_has (λ (w : Waiting). w.id) (λ w. IsProduct lists.catalogue w.product) row lists.waiting h.products.waiting in
    (product_if lists.catalogue row.product product, put_has (λ (w : Waiting). w.id) (λ w. voucher_stands lists.vouchers w.voucher ≡ true) row lists.waiting h.sent)
can_be_made rule within (PutCheckinList row) lists next at h places = (put_has (λ (l : CheckinList). l.id) (HasItems lists.catalogue.items) row lists.checkin_lists h.door.limited).stand
can_be_made rule within (PutCheckin row) lists next at h places = (
  put_has (λ (c : Checkin). c.id) (IsCheckedIn lists.checkin_lists lists.positions) row lists.checkins h.door.checked,
  put_apart (λ (c : Checkin). c.id) repeats repeats_flip row lists.checkins (once_apart (after_change (PutCheckin row) lists).checkins h.door.nonces),
)
can_be_made rule within (DropVoucher id) lists next at h places =
    let after = after_change (DropVoucher id) lists in
    let ordered = none_named (λ (p : OrderPos). p.voucher) id lists.vouchers lists.positions (all_weaker (λ p. is_fit after p.product p.voucher ≡ true) (λ p. voucher_stands after.vouchers p.voucher ≡ true) (λ p e. voucher_if_any after p.product p.voucher e) lists.positions h.fit.positions) in
    let in_cart = none_named (λ (c : CartPos). c.voucher) id lists.vouchers lists.carts (all_weaker (λ c. is_fit after c.product c.voucher ≡ true) (λ c. voucher_stands after.vouchers c.voucher ≡ true) (λ c e. voucher_if_any after c.product c.voucher e) lists.carts h.fit.carts) in
    let sent = none_named (λ (w : Waiting). w.voucher) id lists.vouchers lists.waiting h.sent in
    neither (is_ordered id lists) (is_in_cart id lists || is_sent id lists) ordered (neither (is_in_cart id lists) (is_sent id lists) in_cart sent)
can_be_made rule within (DropCart id) lists next at h places = tt
can_be_made rule within (DropWaiting id) lists next at h places = tt

-- a change that leads to a sound box office could be made
pub sound_can : (change : Change) (lists : Lists) (next : NextIds) (at : ℕ) → IsSound (record { lists = after_change change lists; next = next; moment = at }) → CanBeMade change lists
sound_can change lists next at h = can_be_made _ _ change lists next at h (sound_in_place (record { lists = after_change change lists; next = next; moment = at }) h)

-- ---- several

-- one change
pub leads_one : (change : Change) (state after : State) → after_change change state.lists ≡ after.lists → IsSound after → LeadTo (change ∷ []) state.lists after.lists
leads_one change state after is h = record {
  can = (sound_can change state.lists after.next after.moment (subst (λ (lists : Lists). IsSound (record { lists = lists; next = after.next; moment = after.moment })) (sym is) h), tt);
  is = is;
}

-- none
pub leads_nowhere : (lists : Lists) → LeadTo [] lists lists
leads_nowhere lists = record { can = tt; is = refl }

each_joined : (xs ys : List Change) (a b : Lists) → after_all xs a ≡ b → EachCanBeMade xs a → EachCanBeMade ys b → EachCanBeMade (xs ++ ys) a
each_joined [] ys a b is first second = subst (EachCanBeMade ys) (sym is) second
each_joined (x ∷ xs) ys a b is first second = (first.0, each_joined xs ys (after_change x a) b is first.1 second)

all_joined : (xs ys : List Change) (a : Lists) → after_all (xs ++ ys) a ≡ after_all ys (after_all xs a)
all_joined [] ys a = refl
all_joined (x ∷ xs) ys a = all_joined xs ys (after_change x a)

-- some and then others
pub leads_joined : (xs ys : List Change) (a b c : Lists) → LeadTo xs a b → LeadTo ys b c → LeadTo (xs ++ ys) a c
leads_joined xs ys a b c first second = record {
  can = each_joined xs ys a b first.is first.can second.can;
  is = all_joined xs ys a ∙ ap (after_all ys) first.is ∙ second.is;
}

-- cart positions may go at any time
carts_can_go : (ids : List ℕ) (lists : Lists) → EachCanBeMade (map DropCart ids) lists
carts_can_go [] lists = tt
carts_can_go (id ∷ ids) lists = (tt, carts_can_go ids (after_change (DropCart id) lists))

pub carts_lead : (ids : List ℕ) (lists : Lists) → LeadTo (map DropCart ids) lists (after_all (map DropCart ids) lists)
carts_lead ids lists = record { can = carts_can_go ids lists; is = refl }

-- variations of items that are sold by them
variations_can_come : (rows : List Variation) (lists : Lists) → AllByRecursion (λ v. is_of_varied lists.catalogue.items v ≡ true) rows → EachCanBeMade (map PutVariation rows) lists
variations_can_come [] lists h = tt
variations_can_come (row ∷ rows) lists h = (item_if_sold (λ varied. varied) (row_at (λ r. r.id) row.item lists.catalogue.items) h.0, variations_can_come rows (after_change (PutVariation row) lists) h.1)

-- an item, and then variations of it, which is sold by them
pub item_leads : (rows : ItemRows) (lists : Lists) → AreOf rows.item rows.variations → LeadTo (puts_of rows) lists (after_all (puts_of rows) lists)
item_leads rows lists of = record {
  can = (tt, variations_can_come rows.variations (after_change (PutItem rows.item) lists) (put_of_varied rows.item lists.catalogue.items rows.variations of));
  is = refl;
}
