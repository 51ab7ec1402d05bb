-- From a row back to its value: a row determines the value that it is of.
use Rattle.std.proofs.Common.{◌≡◌, ℕ, suc, ℤ, pos, Bool, true, false, if◌then◌else◌, List, [], ◌∷◌, map, Option, Some, None, codes, bytes_eq, refl, subst}
use Rattle.std.specs.List.Sorted.{IsPermutation}
use Rattle.std.proofs.lemmas.List.Sorted.{IsPermutation-map, IsPermutation-sym, IsPermutation-trans}
use Rattle.sqlite_value.specs.declared.value.Value.{Value}
use Rattle.sqlite_value.specs.declared.value.Value.TheVariants.{Null, Int, Text, Blob}
use Rattle.sqlite_value.specs.Order.{Row, column}
use Rattle.sqlite.specs.Values.{or_null}
use Rattle.base_values.specs.declared.answer.Methods.{Methods}
use Rattle.base_values.specs.declared.price_mode.PriceMode.{PriceMode}
use Rattle.base_values.specs.declared.price_mode.PriceMode.TheVariants as modes
use Rattle.model_rows.specs.declared.rows.Status.{Status}
use Rattle.model_rows.specs.declared.rows.Status.TheVariants as statuses
use Rattle.model_rows.specs.declared.rows.CheckinKind.{CheckinKind}
use Rattle.model_rows.specs.declared.rows.CheckinKind.TheVariants as kinds
use Rattle.file_rows.specs.declared.rows.ShopRow.{ShopRow}
use Rattle.model_catalogue.specs.declared.rows.Item.{Item}
use Rattle.model_catalogue.specs.declared.rows.Variation.{Variation}
use Rattle.file_rows.specs.declared.rows.QuotaRow.{QuotaRow}
use Rattle.file_rows.specs.declared.rows.QuotaItem.{QuotaItem}
use Rattle.file_rows.specs.declared.rows.QuotaVariation.{QuotaVariation}
use Rattle.file_rows.specs.declared.rows.VoucherRow.{VoucherRow}
use Rattle.model_rows.specs.declared.rows.CartPos.{CartPos}
use Rattle.model_rows.specs.declared.rows.Order.{Order}
use Rattle.file_rows.specs.declared.rows.PositionRow.{PositionRow}
use Rattle.model_rows.specs.declared.rows.Waiting.{Waiting}
use Rattle.file_rows.specs.declared.rows.ListRow.{ListRow}
use Rattle.file_rows.specs.declared.rows.ListItem.{ListItem}
use Rattle.model_rows.specs.declared.rows.Checkin.{Checkin}
use Rattle.file_rows.specs.declared.rows.CountRow.{CountRow}
use Rattle.file_rows.specs.declared.rows.Token.{Token}
use Rattle.file_rows.specs.declared.rows.KeptRow.{KeptRow}
use Rattle.file_rows.specs.declared.rows.ReleaseRow.{ReleaseRow}
use Rattle.file_rows.specs.declared.rows.ExitRow.{ExitRow}
use Rattle.file_rows.specs.declared.rows.BudgetRow.{BudgetRow}
use Rattle.file_rows.specs.declared.rows.SpentRow.{SpentRow}
use Rattle.file_rows.specs.declared.rows.DiscountRow.{DiscountRow}
use Rattle.file_rows.specs.Cells.{number, truth, mode, status, kind, methods, methods_text}
use Rattle.file_rows.specs.Rows.{shop_row, item_row, variation_row, quota_row, quota_item_row, quota_variation_row, voucher_row, cart_row, order_row, position_row, waiting_row, list_row, list_item_row, checkin_row, count_row, token_row, kept_row, release_row, exit_row, budget_row, spent_row, discount_row}

-- ---- one column

abbrev int_in : Value → ℤ
int_in (Int n) = n
int_in v = pos 0

abbrev number_in : Value → ℕ
number_in (Int (pos n)) = n
number_in v = 0

abbrev truth_in : Value → Bool
truth_in (Int (pos (suc n))) = true
truth_in v = false

abbrev text_in : Value → List ℕ
text_in (Text t) = t
text_in v = []

abbrev blob_in : Value → List ℕ
blob_in (Blob b) = b
blob_in v = []

abbrev maybe : {A : Type 0} → (Value → A) → Value → Option A
maybe f Null = None
maybe f v = Some (f v)

abbrev mode_in : Value → PriceMode
mode_in v = if bytes_eq (text_in v) (codes "set") then modes.Set
    else (if bytes_eq (text_in v) (codes "subtract") then modes.Subtract
    else (if bytes_eq (text_in v) (codes "percent") then modes.Percent else modes.None))

abbrev status_in : Value → Status
status_in v = if bytes_eq (text_in v) (codes "n") then statuses.Pending
    else (if bytes_eq (text_in v) (codes "p") then statuses.Paid
    else (if bytes_eq (text_in v) (codes "e") then statuses.Expired else statuses.Cancelled))

abbrev kind_in : Value → CheckinKind
kind_in v = if bytes_eq (text_in v) (codes "entry") then kinds.Entry else kinds.Exit

abbrev methods_of : List ℕ → Option Methods
methods_of t = if bytes_eq t (codes "-") then Some (record { get = false; post = false; patch = false; delete = false })
    else (if bytes_eq t (codes "GET") then Some (record { get = true; post = false; patch = false; delete = false })
    else (if bytes_eq t (codes "POST") then Some (record { get = false; post = true; patch = false; delete = false })
    else (if bytes_eq t (codes "GET, POST") then Some (record { get = true; post = true; patch = false; delete = false })
    else (if bytes_eq t (codes "PATCH") then Some (record { get = false; post = false; patch = true; delete = false })
    else (if bytes_eq t (codes "GET, PATCH") then Some (record { get = true; post = false; patch = true; delete = false })
    else (if bytes_eq t (codes "POST, PATCH") then Some (record { get = false; post = true; patch = true; delete = false })
    else (if bytes_eq t (codes "GET, POST, PATCH") then Some (record { get = true; post = true; patch = true; delete = false })
    else (if bytes_eq t (codes "DELETE") then Some (record { get = false; post = false; patch = false; delete = true })
    else (if bytes_eq t (codes "GET, DELETE") then Some (record { get = true; post = false; patch = false; delete = true })
    else (if bytes_eq t (codes "POST, DELETE") then Some (record { get = false; post = true; patch = false; delete = true })
    else (if bytes_eq t (codes "GET, POST, DELETE") then Some (record { get = true; post = true; patch = false; delete = true })
    else (if bytes_eq t (codes "PATCH, DELETE") then Some (record { get = false; post = false; patch = true; delete = true })
    else (if bytes_eq t (codes "GET, PATCH, DELETE") then Some (record { get = true; post = false; patch = true; delete = true })
    else (if bytes_eq t (codes "POST, PATCH, DELETE") then Some (record { get = false; post = true; patch = true; delete = true })
    else (if bytes_eq t (codes "GET, POST, PATCH, DELETE") then Some (record { get = true; post = true; patch = true; delete = true })
    else (None))))))))))))))))

abbrev methods_in : Value → Option Methods
methods_in v = methods_of (text_in v)

maybe_number : (o : Option ℕ) → maybe number_in (or_null number o) ≡ o
maybe_number None = refl
maybe_number (Some n) = refl

maybe_text : (o : Option (List ℕ)) → maybe text_in (or_null Text o) ≡ o
maybe_text None = refl
maybe_text (Some t) = refl

truth_back : (b : Bool) → truth_in (truth b) ≡ b
truth_back true = refl
truth_back false = refl

mode_back : (m : PriceMode) → mode_in (mode m) ≡ m
mode_back modes.None = refl
mode_back modes.Set = refl
mode_back modes.Subtract = refl
mode_back modes.Percent = refl

status_back : (s : Status) → status_in (status s) ≡ s
status_back statuses.Pending = refl
status_back statuses.Paid = refl
status_back statuses.Expired = refl
status_back statuses.Cancelled = refl

kind_back : (k : CheckinKind) → kind_in (kind k) ≡ k
kind_back kinds.Entry = refl
kind_back kinds.Exit = refl

by_flags : (get post patch delete : Bool) → methods_of (methods_text (record { get = get; post = post; patch = patch; delete = delete })) ≡ Some (record { get = get; post = post; patch = patch; delete = delete })
by_flags false false false false = refl
by_flags true false false false = refl
by_flags false true false false = refl
by_flags true true false false = refl
by_flags false false true false = refl
by_flags true false true false = refl
by_flags false true true false = refl
by_flags true true true false = refl
by_flags false false false true = refl
by_flags true false false true = refl
by_flags false true false true = refl
by_flags true true false true = refl
by_flags false false true true = refl
by_flags true false true true = refl
by_flags false true true true = refl
by_flags true true true true = refl

methods_back : (o : Option Methods) → methods_in (methods o) ≡ o
methods_back None = refl
methods_back (Some m) = by_flags m.get m.post m.patch m.delete

-- ---- each row

abbrev pub shop_in : Row → ShopRow
shop_in r = record {
  version = number_in (column r 1);
  organizer = text_in (column r 2);
  event = text_in (column r 3);
  moment = number_in (column r 4);
  next = record {
    item = number_in (column r 5);
    variation = number_in (column r 6);
    quota = number_in (column r 7);
    voucher = number_in (column r 8);
    cart = number_in (column r 9);
    order = number_in (column r 10);
    position = number_in (column r 11);
    waiting = number_in (column r 12);
    list = number_in (column r 13);
    checkin = number_in (column r 14);
  };
  next_token = number_in (column r 15);
}

pub shop_back : (w : ShopRow) → shop_in (shop_row w) ≡ w
shop_back w = refl

abbrev pub item_in : Row → Item
item_in r = record { id = number_in (column r 0); name = text_in (column r 1); default_price = number_in (column r 2); active = truth_in (column r 3); varied = truth_in (column r 4) }

pub item_back : (w : Item) → item_in (item_row w) ≡ w
item_back w = rw (truth_back w.active, truth_back w.varied)

abbrev pub variation_in : Row → Variation
variation_in r = record { id = number_in (column r 0); item = number_in (column r 1); name = text_in (column r 2); default_price = maybe number_in (column r 3); active = truth_in (column r 4) }

pub variation_back : (w : Variation) → variation_in (variation_row w) ≡ w
variation_back w = rw (maybe_number w.default_price, truth_back w.active)

abbrev pub quota_in : Row → QuotaRow
quota_in r = record { id = number_in (column r 0); name = text_in (column r 1); size = maybe number_in (column r 2) }

pub quota_back : (w : QuotaRow) → quota_in (quota_row w) ≡ w
quota_back w = rw (maybe_number w.size)

abbrev pub quota_item_in : Row → QuotaItem
quota_item_in r = record { rowid = number_in (column r 0); quota = number_in (column r 1); item = number_in (column r 2) }

pub quota_item_back : (w : QuotaItem) → quota_item_in (quota_item_row w) ≡ w
quota_item_back w = refl

abbrev pub quota_variation_in : Row → QuotaVariation
quota_variation_in r = record { rowid = number_in (column r 0); quota = number_in (column r 1); variation = number_in (column r 2) }

pub quota_variation_back : (w : QuotaVariation) → quota_variation_in (quota_variation_row w) ≡ w
quota_variation_back w = refl

abbrev pub voucher_in : Row → VoucherRow
voucher_in r = record {
  voucher = record {
    id = number_in (column r 0);
    code = text_in (column r 1);
    max_usages = number_in (column r 2);
    valid_until = maybe number_in (column r 3);
    block_quota = truth_in (column r 4);
    allow_ignore_quota = truth_in (column r 5);
    price_mode = mode_in (column r 6);
    value = maybe number_in (column r 7);
    item = maybe number_in (column r 8);
    variation = maybe number_in (column r 9);
    quota = maybe number_in (column r 10);
    tag = text_in (column r 11);
    comment = text_in (column r 12);
  };
  redeemed = number_in (column r 13);
}

pub voucher_back : (w : VoucherRow) → voucher_in (voucher_row w) ≡ w
voucher_back w = rw (maybe_number w.voucher.valid_until, truth_back w.voucher.block_quota, truth_back w.voucher.allow_ignore_quota, mode_back w.voucher.price_mode, maybe_number w.voucher.value, maybe_number w.voucher.item, maybe_number w.voucher.variation, maybe_number w.voucher.quota)

abbrev pub cart_in : Row → CartPos
cart_in r = record { id = number_in (column r 0); cart_id = text_in (column r 1); product = record { item = number_in (column r 2); variation = maybe number_in (column r 3) }; price = number_in (column r 4); made_at = number_in (column r 5); expires = number_in (column r 6); voucher = maybe number_in (column r 7) }

pub cart_back : (w : CartPos) → cart_in (cart_row w) ≡ w
cart_back w = rw (maybe_number w.product.variation, maybe_number w.voucher)

abbrev pub order_in : Row → Order
order_in r = record { id = number_in (column r 0); email = maybe text_in (column r 1); status = status_in (column r 2); made_at = number_in (column r 3); expires = number_in (column r 4) }

pub order_back : (w : Order) → order_in (order_row w) ≡ w
order_back w = rw (maybe_text w.email, status_back w.status)

abbrev pub position_in : Row → PositionRow
position_in r = record { id = number_in (column r 0); order = number_in (column r 1); positionid = number_in (column r 2); product = record { item = number_in (column r 3); variation = maybe number_in (column r 4) }; price = number_in (column r 5); voucher = maybe number_in (column r 6); secret = text_in (column r 7) }

pub position_back : (w : PositionRow) → position_in (position_row w) ≡ w
position_back w = rw (maybe_number w.product.variation, maybe_number w.voucher)

abbrev pub waiting_in : Row → Waiting
waiting_in r = record { id = number_in (column r 0); email = text_in (column r 1); product = record { item = number_in (column r 2); variation = maybe number_in (column r 3) }; priority = int_in (column r 4); created = number_in (column r 5); voucher = maybe number_in (column r 6) }

pub waiting_back : (w : Waiting) → waiting_in (waiting_row w) ≡ w
waiting_back w = rw (maybe_number w.product.variation, maybe_number w.voucher)

abbrev pub list_in : Row → ListRow
list_in r = record { id = number_in (column r 0); name = text_in (column r 1); all_products = truth_in (column r 2); include_pending = truth_in (column r 3); allow_multiple_entries = truth_in (column r 4); allow_entry_after_exit = truth_in (column r 5) }

pub list_back : (w : ListRow) → list_in (list_row w) ≡ w
list_back w = rw (truth_back w.all_products, truth_back w.include_pending, truth_back w.allow_multiple_entries, truth_back w.allow_entry_after_exit)

abbrev pub list_item_in : Row → ListItem
list_item_in r = record { rowid = number_in (column r 0); list = number_in (column r 1); item = number_in (column r 2) }

pub list_item_back : (w : ListItem) → list_item_in (list_item_row w) ≡ w
list_item_back w = refl

abbrev pub checkin_in : Row → Checkin
checkin_in r = record { id = number_in (column r 0); list = number_in (column r 1); position = number_in (column r 2); kind = kind_in (column r 3); datetime = number_in (column r 4); nonce = maybe text_in (column r 5) }

pub checkin_back : (w : Checkin) → checkin_in (checkin_row w) ≡ w
checkin_back w = rw (kind_back w.kind, maybe_text w.nonce)

abbrev pub count_in : Row → CountRow
count_in r = record { quota = number_in (column r 0); paid = number_in (column r 1); pending = number_in (column r 2); blocked = number_in (column r 3); carts = number_in (column r 4); waiting = number_in (column r 5) }

pub count_back : (w : CountRow) → count_in (count_row w) ≡ w
count_back w = refl

abbrev pub token_in : Row → Token
token_in r = record { id = number_in (column r 0); digest = blob_in (column r 1) }

pub token_back : (w : Token) → token_in (token_row w) ≡ w
token_back w = refl

abbrev pub kept_in : Row → KeptRow
kept_in r = record { rowid = number_in (column r 0); kept = record { token = number_in (column r 1); key = blob_in (column r 2); at = number_in (column r 3); response = record { status = number_in (column r 4); allow = methods_in (column r 5); body = blob_in (column r 6) } } }

pub kept_back : (w : KeptRow) → kept_in (kept_row w) ≡ w
kept_back w = rw (methods_back w.kept.response.allow)

abbrev pub release_in : Row → ReleaseRow
release_in r = record { quota = number_in (column r 0) }

pub release_back : (w : ReleaseRow) → release_in (release_row w) ≡ w
release_back w = refl

abbrev pub exit_in : Row → ExitRow
exit_in r = record { quota = number_in (column r 0); exited = number_in (column r 1) }

pub exit_back : (w : ExitRow) → exit_in (exit_row w) ≡ w
exit_back w = refl

abbrev pub budget_in : Row → BudgetRow
budget_in r = record { voucher_id = number_in (column r 0); budget = number_in (column r 1) }

pub budget_back : (w : BudgetRow) → budget_in (budget_row w) ≡ w
budget_back w = refl

abbrev pub spent_in : Row → SpentRow
spent_in r = record { voucher_id = number_in (column r 0); spent = number_in (column r 1) }

pub spent_back : (w : SpentRow) → spent_in (spent_row w) ≡ w
spent_back w = refl

abbrev pub discount_in : Row → DiscountRow
discount_in r = record { position_id = number_in (column r 0); discount = number_in (column r 1) }

pub discount_back : (w : DiscountRow) → discount_in (discount_row w) ≡ w
discount_back w = refl

-- ---- lists of values of which a table shows the rows

map_back : {A : Type 0} (row : A → Row) (back : Row → A) → ((a : A) → back (row a) ≡ a) → (xs : List A) → map back (map row xs) ≡ xs
map_back row back same [] = refl
map_back row back same (x ∷ xs) = rw (same x, map_back row back same xs)

-- what a table shows is one list of values, up to order
pub alike : {A : Type 0} (row : A → Row) (back : Row → A) → ((a : A) → back (row a) ≡ a) → (xs ys : List A) (rows : List Row) → IsPermutation (map row xs) rows → IsPermutation (map row ys) rows → IsPermutation xs ys
alike row back same xs ys rows h k =
    let both : IsPermutation (map back (map row xs)) (map back (map row ys)) = IsPermutation-map back _ _ (IsPermutation-trans _ _ _ h (IsPermutation-sym _ _ k)) in
    subst (λ l. IsPermutation l ys) (map_back row back same xs) (subst (IsPermutation (map back (map row xs))) (map_back row back same ys) both)
