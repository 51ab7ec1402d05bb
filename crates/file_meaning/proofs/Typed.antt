-- What a commit, the first row of a shop and a token make of the tables keeps what types promise of them.
use Rattle.std.proofs.Common.{◌≡◌, ℕ, ◌+◌, ◌<◌, ◌≤◌, ◌==◌, Bool, true, false, cond, not, List, [], ◌∷◌, map, filter, sym, subst, ◌∙◌, arith}
use Rattle.std.specs.List.{All, AllByRecursion}
use Rattle.std.specs.Str.{IsUtf8}
use Rattle.std.proofs.lemmas.List.Elements.{All-nil, All-cons, All-head, All-tail, All-filter}
use Rattle.base_values.specs.Slugs.{IsSlug}
use Rattle.model_catalogue.specs.Limits.{last_id}
use Rattle.model_catalogue.specs.declared.rows.Item.{Item}
use Rattle.model_catalogue.specs.declared.rows.Variation.{Variation}
use Rattle.model_rows.specs.declared.changes.Change.{Change}
use Rattle.model_rows.specs.declared.changes.Change.TheVariants.{PutItem, PutVariation, PutQuota, PutVoucher, PutCart, PutOrder, PutPosition, PutWaiting, DropVoucher, DropCart, DropWaiting, PutCheckinList, PutCheckin}
use Rattle.model_rows.specs.declared.count_rows.QuotaCount.{QuotaCount}
use Rattle.model_rows.specs.declared.count_rows.VoucherCount.{VoucherCount}
use Rattle.model_rows.specs.declared.rows.CartPos.{CartPos}
use Rattle.model_rows.specs.declared.rows.Order.{Order}
use Rattle.file_rows.specs.declared.rows.PositionRow.{PositionRow}
use Rattle.model_rows.specs.declared.rows.Waiting.{Waiting}
use Rattle.model_rows.specs.declared.rows.Checkin.{Checkin}
use Rattle.model_rows.specs.CountRows.{CountRows}
use Rattle.model_answers.specs.declared.kept.Kept.{Kept}
use Rattle.model_answers.specs.KeptAnswers.{lasts}
use Rattle.model_invariant.specs.Range.{IsNextId}
use Rattle.file_schema.specs.Tables.{this_version}
use Rattle.file_rows.specs.declared.rows.ShopRow.{ShopRow}
use Rattle.file_rows.specs.declared.rows.QuotaRow.{QuotaRow}
use Rattle.file_rows.specs.declared.rows.VoucherRow.{VoucherRow}
use Rattle.file_rows.specs.declared.rows.ListRow.{ListRow}
use Rattle.file_rows.specs.declared.rows.Token.{Token}
use Rattle.file_rows.specs.declared.rows.KeptRow.{KeptRow}
use Rattle.file_rows.specs.Changes.{head_of_quota, head_of_voucher, head_of_position, head_of_list, with_shop, without_shop, with_token}
use Rattle.file_rows.specs.Fit.{IsDigest, IsFitToken, IsFitKept}
use Rattle.file_rows.specs.Tables.{Tables, no_rows}
use Rattle.file_meaning.specs.Free.{IsFree}
use Rattle.file_meaning.specs.Made.{made_by, next_by, changes_made, next_after, put_shop, put_uses, put_count, put_exit, each, with_counts, with_listed, without_past, commit_made}
use Rattle.file_meaning.specs.Rows.{redeemed_in}
use Rattle.file_meaning.specs.RowsAfter.{redeemed_of}
use Rattle.file_meaning.proofs.Carried.{tokens_stay}
use Rattle.file_meaning.specs.Typed.{IsTypedItem, IsTypedVariation, IsTypedVoucher, IsTypedCart, IsTypedOrder, IsTypedPosition, IsTypedWaiting, IsTypedCheckin, IsTypedKept, IsTypedChange, AreTyped, IsTypedShop, IsSameShop}
use Rattle.file_meaning.proofs.EachTyped.{set_items, set_variations, set_quotas, set_vouchers, set_carts, set_orders, set_positions, set_waiting, set_checkin_lists, set_checkins, set_tokens, set_kept}

-- ---- changes

-- a row in the place of those that don't pass
put : {T : Type 0} (P : T → Type 0) (p : T → Bool) (w : T) (rows : List T) → P w → All P rows → All P (w ∷ filter p rows)
put P p w rows is h = All-cons P w (filter p rows) is (All-filter p P rows h)

abbrev OfVoucher : VoucherRow → Type 0
OfVoucher w = IsTypedVoucher w.voucher

abbrev OfQuota : QuotaRow → Type 0
OfQuota w = IsUtf8 w.name

abbrev OfList : ListRow → Type 0
OfList w = IsUtf8 w.name

change_typed : (change : Change) (from : ℕ) (t : Tables) → IsTypedChange change → AreTyped t → AreTyped (made_by change from t)
change_typed (PutItem w) from t is h = set_items h (put IsTypedItem (λ (r : Item). not (r.id == w.id)) w t.items is h.items)
change_typed (PutVariation w) from t is h = set_variations h (put IsTypedVariation (λ (r : Variation). not (r.id == w.id)) w t.variations is h.variations)
change_typed (PutQuota w) from t is h = set_quotas h (put OfQuota (λ (r : QuotaRow). not (r.id == w.id)) (head_of_quota w) t.quotas is h.quotas)
change_typed (PutVoucher w) from t is h = set_vouchers h (put OfVoucher (λ (r : VoucherRow). not (r.voucher.id == w.id)) (record { voucher = head_of_voucher w; redeemed = redeemed_of w.id (redeemed_in t) }) t.vouchers is h.vouchers)
change_typed (PutCart w) from t is h = set_carts h (put IsTypedCart (λ (r : CartPos). not (r.id == w.id)) w t.carts is h.carts)
change_typed (PutOrder w) from t is h = set_orders h (put IsTypedOrder (λ (r : Order). not (r.id == w.id)) w t.orders is h.orders)
change_typed (PutPosition w) from t is h = set_positions h (put IsTypedPosition (λ (r : PositionRow). not (r.id == w.id)) (head_of_position w) t.positions is h.positions)
change_typed (PutWaiting w) from t is h = set_waiting h (put IsTypedWaiting (λ (r : Waiting). not (r.id == w.id)) w t.waiting is h.waiting)
change_typed (DropVoucher id) from t is h = set_vouchers h (All-filter (λ (r : VoucherRow). not (r.voucher.id == id)) OfVoucher t.vouchers h.vouchers)
change_typed (DropCart id) from t is h = set_carts h (All-filter (λ (r : CartPos). not (r.id == id)) IsTypedCart t.carts h.carts)
change_typed (DropWaiting id) from t is h = set_waiting h (All-filter (λ (r : Waiting). not (r.id == id)) IsTypedWaiting t.waiting h.waiting)
change_typed (PutCheckinList w) from t is h = set_checkin_lists h (put OfList (λ (r : ListRow). not (r.id == w.id)) (head_of_list w) t.checkin_lists is h.checkin_lists)
change_typed (PutCheckin w) from t is h = set_checkins h (put IsTypedCheckin (λ (r : Checkin). not (r.id == w.id)) w t.checkins is h.checkins)

changes_typed : (changes : List Change) (from : ℕ) (t : Tables) → AllByRecursion IsTypedChange changes → AreTyped t → AreTyped (changes_made changes from t)
changes_typed [] from t is h = h
changes_typed (change ∷ changes) from t is h = changes_typed changes (next_by change from) (made_by change from t) is.1 (change_typed change from t is.0 h)

-- ---- counters and answers

abbrev recounted : VoucherCount → VoucherRow → VoucherRow
recounted c r = cond (r.voucher.id == c.voucher) (record { voucher = r.voucher; redeemed = c.redeemed }) r

one_recounted : (c : VoucherCount) (r : VoucherRow) → OfVoucher r → OfVoucher (recounted c r)
one_recounted c r h = elim (r.voucher.id == c.voucher) as (λ b. OfVoucher (cond b (record { voucher = r.voucher; redeemed = c.redeemed }) r)) [ true ↦ h | false ↦ h ]

all_recounted : (c : VoucherCount) (rows : List VoucherRow) → All OfVoucher rows → All OfVoucher (map (recounted c) rows)
all_recounted c [] h = All-nil OfVoucher
all_recounted c (r ∷ rows) h = All-cons OfVoucher (recounted c r) (map (recounted c) rows) (one_recounted c r (All-head OfVoucher r rows h)) (all_recounted c rows (All-tail OfVoucher r rows h))

uses_typed : (cs : List VoucherCount) (t : Tables) → AreTyped t → AreTyped (each put_uses cs t)
uses_typed [] t h = h
uses_typed (c ∷ cs) t h = uses_typed cs (put_uses c t) (set_vouchers h (all_recounted c t.vouchers h.vouchers))

used_typed : (cs : List QuotaCount) (t : Tables) → AreTyped t → AreTyped (each put_count cs t)
used_typed [] t h = h
used_typed (c ∷ cs) t h = used_typed cs (put_count c t) h

exits_typed : (cs : List QuotaCount) (t : Tables) → AreTyped t → AreTyped (each put_exit cs t)
exits_typed [] t h = h
exits_typed (c ∷ cs) t h = exits_typed cs (put_exit c t) h

counted_typed : (counts : CountRows) (t : Tables) → AreTyped t → AreTyped (with_counts counts t)
counted_typed counts t h =
    let set = each put_uses counts.vouchers t in
    exits_typed counts.exits (each put_count counts.quotas set) (used_typed counts.quotas set (uses_typed counts.vouchers t h))

listed_typed : (rowid : ℕ) (ks : List Kept) (t : Tables) → AllByRecursion IsTypedKept ks → AreTyped t → AreTyped (with_listed rowid ks t)
listed_typed rowid [] t is h = h
listed_typed rowid (k ∷ ks) t is h = set_kept h (All-cons IsFitKept (record { rowid = rowid; kept = k }) t.kept (record { at = is.0.0; status = is.0.1 }) h.kept)

past_typed : (at : ℕ) (t : Tables) → AreTyped t → AreTyped (without_past at t)
past_typed at t h = set_kept h (All-filter (λ (r : KeptRow). lasts at r.kept.at) IsFitKept t.kept h.kept)

-- ---- a commit

module _ (old shop : ShopRow) (changes : List Change) (counts : CountRows) (from : ℕ) (ks : List Kept) (at : ℕ) (t : Tables) (same : IsSameShop old shop) (of_changes : AllByRecursion IsTypedChange changes) (of_kept : AllByRecursion IsTypedKept ks) where
  done_typed : AreTyped t → AreTyped (commit_made shop changes counts from ks at t)
  done_typed h =
      let start = put_shop shop t in
      let mid = changes_made changes from start in
      let full = without_past at (with_counts counts mid) in
      past_typed at (with_listed (next_after changes from) ks full) (listed_typed (next_after changes from) ks full of_kept (past_typed at (with_counts counts mid) (counted_typed counts mid (changes_typed changes from start of_changes h))))

  pub committed_typed : IsFree from t → IsTypedShop old t → IsTypedShop shop (commit_made shop changes counts from ks at t)
  committed_typed free h = record {
    first = same.version ∙ h.first;
    organizer = subst IsSlug (sym same.organizer) h.organizer;
    event = subst IsSlug (sym same.event) h.event;
    token = subst (IsNextId last_id) (sym same.token) h.token;
    numbered =
        subst (λ n. AllByRecursion (λ (w : Token). w.id < n) (commit_made shop changes counts from ks at t).tokens) (sym same.token)
        (subst (λ l. AllByRecursion (λ (w : Token). w.id < old.next_token) l) (sym (tokens_stay shop changes counts from at ks t free)) h.numbered);
    rows = done_typed h.rows;
  }

-- ---- a shop that begins, and a token

pub first_typed : (shop : ShopRow) → shop.version ≡ this_version → IsSlug shop.organizer → IsSlug shop.event → IsNextId last_id shop.next_token → IsTypedShop shop (with_shop shop no_rows)
first_typed shop first organizer event token = record {
  first = first;
  organizer = organizer;
  event = event;
  token = token;
  numbered = tt;
  rows = record {
    items = All-nil IsTypedItem;
    variations = All-nil IsTypedVariation;
    quotas = All-nil OfQuota;
    vouchers = All-nil OfVoucher;
    carts = All-nil IsTypedCart;
    orders = All-nil IsTypedOrder;
    positions = All-nil IsTypedPosition;
    waiting = All-nil IsTypedWaiting;
    checkin_lists = All-nil OfList;
    checkins = All-nil IsTypedCheckin;
    tokens = All-nil IsFitToken;
    kept = All-nil IsFitKept;
  };
}

below_more : (n : ℕ) (tokens : List Token) → AllByRecursion (λ (w : Token). w.id < n) tokens → AllByRecursion (λ (w : Token). w.id < n + 1) tokens
below_more n [] h = tt
below_more n (w ∷ tokens) h = (omega (arith, h.0), below_more n tokens h.1)

module _ (head : ShopRow) (digest : List ℕ) (t : Tables) where
  abbrev raised : ShopRow
  raised = record head { next_token = head.next_token + 1 }

  abbrev token : Token
  token = record { id = head.next_token; digest = digest }

  pub token_typed : head.next_token ≤ last_id → IsDigest digest → IsTypedShop head t → IsTypedShop raised (with_token token (with_shop raised (without_shop 1 t)))
  token_typed room is h = record {
    first = h.first;
    organizer = h.organizer;
    event = h.event;
    token = record { from_one = omega arith; within = omega (arith, room) };
    numbered = (omega arith, below_more head.next_token t.tokens h.numbered);
    rows = set_tokens h.rows (All-cons IsFitToken token t.tokens (record { digest = is }) h.rows.tokens);
  }
