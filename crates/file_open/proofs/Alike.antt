-- Tables that the same trees show have the same rows, in some order. Supplied with what they lack, they have too.
use Rattle.std.proofs.Common.{◌≡◌, ℕ, zero, suc, List, [], ◌∷◌, map, refl, sym, subst₂}
use Rattle.std.specs.Prelude.{take}
use Rattle.std.specs.List.{AllByRecursion}
use Rattle.std.specs.List.Sorted.{IsPermutation}
use Rattle.std.proofs.lemmas.List.Sorted.{IsPermutation-append, IsPermutation-map, IsPermutation-refl, IsPermutation-sym}
use Rattle.sqlite_trees.specs.Tree.{Trees}
use Rattle.sqlite.proofs.Callers.{one_permutation}
use Rattle.file_schema.specs.Parts.{HoldsPart}
use Rattle.file_schema.specs.Tables.{schema}
use Rattle.file_schema.specs.Versions.{schema_of_version}
use Rattle.file_rows.specs.declared.rows.CountRow.{CountRow}
use Rattle.file_rows.specs.declared.rows.VoucherRow.{VoucherRow}
use Rattle.file_rows.specs.Rows.{shop_row, item_row, variation_row, quota_row, quota_item_row, quota_variation_row, voucher_row, cart_row, order_row, position_row, waiting_row, list_row, list_item_row, checkin_row, count_row, token_row, kept_row, release_row, exit_row, budget_row, spent_row, discount_row}
use Rattle.file_rows.specs.Tables.{Tables, HoldsAt, parts}
use Rattle.file_reads.proofs.Back.{alike, shop_in, shop_back, item_in, item_back, variation_in, variation_back, quota_in, quota_back, quota_item_in, quota_item_back, quota_variation_in, quota_variation_back, voucher_in, voucher_back, cart_in, cart_back, order_in, order_back, position_in, position_back, waiting_in, waiting_back}
use Rattle.file_reads.proofs.Back.{list_in, list_back, list_item_in, list_item_back, checkin_in, checkin_back, count_in, count_back, token_in, token_back, kept_in, kept_back, release_in, release_back, exit_in, exit_back, budget_in, budget_back, spent_in, spent_back, discount_in, discount_back}
use Rattle.file_scan.specs.declared.file.FileTables.{FileTables}
use Rattle.file_scan.specs.Read.{IsFileOf, tables_of}
use Rattle.file_scan.proofs.FitLemmas.{HoldsOfVersion1}
use Rattle.file_open.specs.Supplied.{lacking_exits, lacking_spents, none_out, none_spent, tables_supplied}

-- each table has the same rows, in some order
pub record AreAlike (t u : Tables) : Type 0 where
  pub shop : IsPermutation t.shop u.shop
  pub items : IsPermutation t.items u.items
  pub variations : IsPermutation t.variations u.variations
  pub quotas : IsPermutation t.quotas u.quotas
  pub quota_items : IsPermutation t.quota_items u.quota_items
  pub quota_variations : IsPermutation t.quota_variations u.quota_variations
  pub vouchers : IsPermutation t.vouchers u.vouchers
  pub carts : IsPermutation t.carts u.carts
  pub orders : IsPermutation t.orders u.orders
  pub positions : IsPermutation t.positions u.positions
  pub waiting : IsPermutation t.waiting u.waiting
  pub checkin_lists : IsPermutation t.checkin_lists u.checkin_lists
  pub list_items : IsPermutation t.list_items u.list_items
  pub checkins : IsPermutation t.checkins u.checkins
  pub counts : IsPermutation t.counts u.counts
  pub tokens : IsPermutation t.tokens u.tokens
  pub kept : IsPermutation t.kept u.kept
  pub releases : IsPermutation t.releases u.releases
  pub exits : IsPermutation t.exits u.exits
  pub budgets : IsPermutation t.budgets u.budgets
  pub spents : IsPermutation t.spents u.spents
  pub discounts : IsPermutation t.discounts u.discounts

-- what was read is what tables hold that have the same rows
pub alike_file : (t : Tables) (file : FileTables) → AreAlike t (tables_of file) → IsFileOf t file
alike_file t file h = record {
  shop = one_permutation file.shop t.shop (IsPermutation-sym _ _ h.shop);
  tables = record {
    catalogue = record { items = h.items; variations = h.variations; quotas = h.quotas; quota_items = h.quota_items; quota_variations = h.quota_variations; releases = h.releases };
    sales = record { vouchers = h.vouchers; carts = h.carts; orders = h.orders; positions = h.positions; waiting = h.waiting; budgets = h.budgets; discounts = h.discounts };
    doors = record { checkin_lists = h.checkin_lists; list_items = h.list_items; checkins = h.checkins };
    others = record { counts = h.counts; tokens = h.tokens; kept = h.kept; exits = h.exits; spents = h.spents };
  };
}

-- the tables of the first version are the same in each
take_all : {A : Type 0} (P : A → Type 0) (n : ℕ) (xs : List A) → AllByRecursion P xs → AllByRecursion P (take n xs)
take_all P zero xs h = tt
take_all P (suc n) [] h = tt
take_all P (suc n) (x ∷ xs) h = (h.0, take_all P n xs h.1)

pub first_of : (version : ℕ) (db : Trees) (t : Tables) → HoldsAt (suc version) db t → HoldsOfVersion1 db t
first_of zero db t h = h.shown
first_of (suc zero) db t h = take_all (HoldsPart (schema_of_version 2) db) 17 (take 19 (parts t)) h.shown
first_of (suc (suc version)) db t h = take_all (HoldsPart schema db) 17 (parts t) h.shown

-- those of later versions are alike
record AreLaterAlike (t u : Tables) : Type 0 where
  releases : IsPermutation t.releases u.releases
  exits : IsPermutation t.exits u.exits
  budgets : IsPermutation t.budgets u.budgets
  spents : IsPermutation t.spents u.spents
  discounts : IsPermutation t.discounts u.discounts

first_alike : (db : Trees) (t u : Tables) → HoldsOfVersion1 db t → HoldsOfVersion1 db u → AreLaterAlike t u → AreAlike t u
first_alike db t u h k later = record {
  shop = alike shop_row shop_in shop_back t.shop u.shop _ h.0 k.0;
  items = alike item_row item_in item_back t.items u.items _ h.1.0 k.1.0;
  variations = alike variation_row variation_in variation_back t.variations u.variations _ h.1.1.0 k.1.1.0;
  quotas = alike quota_row quota_in quota_back t.quotas u.quotas _ h.1.1.1.0 k.1.1.1.0;
  quota_items = alike quota_item_row quota_item_in quota_item_back t.quota_items u.quota_items _ h.1.1.1.1.0 k.1.1.1.1.0;
  quota_variations = alike quota_variation_row quota_variation_in quota_variation_back t.quota_variations u.quota_variations _ h.1.1.1.1.1.0 k.1.1.1.1.1.0;
  vouchers = alike voucher_row voucher_in voucher_back t.vouchers u.vouchers _ h.1.1.1.1.1.1.0 k.1.1.1.1.1.1.0;
  carts = alike cart_row cart_in cart_back t.carts u.carts _ h.1.1.1.1.1.1.1.0 k.1.1.1.1.1.1.1.0;
  orders = alike order_row order_in order_back t.orders u.orders _ h.1.1.1.1.1.1.1.1.0 k.1.1.1.1.1.1.1.1.0;
  positions = alike position_row position_in position_back t.positions u.positions _ h.1.1.1.1.1.1.1.1.1.0 k.1.1.1.1.1.1.1.1.1.0;
  waiting = alike waiting_row waiting_in waiting_back t.waiting u.waiting _ h.1.1.1.1.1.1.1.1.1.1.0 k.1.1.1.1.1.1.1.1.1.1.0;
  checkin_lists = alike list_row list_in list_back t.checkin_lists u.checkin_lists _ h.1.1.1.1.1.1.1.1.1.1.1.0 k.1.1.1.1.1.1.1.1.1.1.1.0;
  list_items = alike list_item_row list_item_in list_item_back t.list_items u.list_items _ h.1.1.1.1.1.1.1.1.1.1.1.1.0 k.1.1.1.1.1.1.1.1.1.1.1.1.0;
  checkins = alike checkin_row checkin_in checkin_back t.checkins u.checkins _ h.1.1.1.1.1.1.1.1.1.1.1.1.1.0 k.1.1.1.1.1.1.1.1.1.1.1.1.1.0;
  counts = alike count_row count_in count_back t.counts u.counts _ h.1.1.1.1.1.1.1.1.1.1.1.1.1.1.0 k.1.1.1.1.1.1.1.1.1.1.1.1.1.1.0;
  tokens = alike token_row token_in token_back t.tokens u.tokens _ h.1.1.1.1.1.1.1.1.1.1.1.1.1.1.1.0 k.1.1.1.1.1.1.1.1.1.1.1.1.1.1.1.0;
  kept = alike kept_row kept_in kept_back t.kept u.kept _ h.1.1.1.1.1.1.1.1.1.1.1.1.1.1.1.1.0 k.1.1.1.1.1.1.1.1.1.1.1.1.1.1.1.1.0;
  releases = later.releases;
  exits = later.exits;
  budgets = later.budgets;
  spents = later.spents;
  discounts = later.discounts;
}

none_at : {A B : Type 0} (f : A → B) (xs : List A) → map f xs ≡ [] → xs ≡ []
none_at f [] h = refl
none_at f (x ∷ xs) h = absurd cc

both_none : {A B : Type 0} (f : A → B) (xs ys : List A) → map f xs ≡ [] → map f ys ≡ [] → IsPermutation xs ys
both_none f xs ys h k = subst₂ IsPermutation (sym (none_at f xs h)) (sym (none_at f ys k)) (IsPermutation-refl [])

-- the same trees show them as tables of one version
later_alike : (version : ℕ) (db : Trees) (t u : Tables) → HoldsAt (suc version) db t → HoldsAt (suc version) db u → AreLaterAlike t u
later_alike zero db t u h k =
    record {
      releases = both_none release_row t.releases u.releases h.none.0 k.none.0;
      exits = both_none exit_row t.exits u.exits h.none.1.0 k.none.1.0;
      budgets = both_none budget_row t.budgets u.budgets h.none.1.1.0 k.none.1.1.0;
      spents = both_none spent_row t.spents u.spents h.none.1.1.1.0 k.none.1.1.1.0;
      discounts = both_none discount_row t.discounts u.discounts h.none.1.1.1.1.0 k.none.1.1.1.1.0;
    }
later_alike (suc zero) db t u h k =
    record {
      releases = alike release_row release_in release_back t.releases u.releases _ h.shown.1.1.1.1.1.1.1.1.1.1.1.1.1.1.1.1.1.0 k.shown.1.1.1.1.1.1.1.1.1.1.1.1.1.1.1.1.1.0;
      exits = alike exit_row exit_in exit_back t.exits u.exits _ h.shown.1.1.1.1.1.1.1.1.1.1.1.1.1.1.1.1.1.1.0 k.shown.1.1.1.1.1.1.1.1.1.1.1.1.1.1.1.1.1.1.0;
      budgets = both_none budget_row t.budgets u.budgets h.none.0 k.none.0;
      spents = both_none spent_row t.spents u.spents h.none.1.0 k.none.1.0;
      discounts = both_none discount_row t.discounts u.discounts h.none.1.1.0 k.none.1.1.0;
    }
later_alike (suc (suc version)) db t u h k =
    record {
      releases = alike release_row release_in release_back t.releases u.releases _ h.shown.1.1.1.1.1.1.1.1.1.1.1.1.1.1.1.1.1.0 k.shown.1.1.1.1.1.1.1.1.1.1.1.1.1.1.1.1.1.0;
      exits = alike exit_row exit_in exit_back t.exits u.exits _ h.shown.1.1.1.1.1.1.1.1.1.1.1.1.1.1.1.1.1.1.0 k.shown.1.1.1.1.1.1.1.1.1.1.1.1.1.1.1.1.1.1.0;
      budgets = alike budget_row budget_in budget_back t.budgets u.budgets _ h.shown.1.1.1.1.1.1.1.1.1.1.1.1.1.1.1.1.1.1.1.0 k.shown.1.1.1.1.1.1.1.1.1.1.1.1.1.1.1.1.1.1.1.0;
      spents = alike spent_row spent_in spent_back t.spents u.spents _ h.shown.1.1.1.1.1.1.1.1.1.1.1.1.1.1.1.1.1.1.1.1.0 k.shown.1.1.1.1.1.1.1.1.1.1.1.1.1.1.1.1.1.1.1.1.0;
      discounts = alike discount_row discount_in discount_back t.discounts u.discounts _ h.shown.1.1.1.1.1.1.1.1.1.1.1.1.1.1.1.1.1.1.1.1.1.0 k.shown.1.1.1.1.1.1.1.1.1.1.1.1.1.1.1.1.1.1.1.1.1.0;
    }

pub held_alike : (version : ℕ) (db : Trees) (t u : Tables) → HoldsAt (suc version) db t → HoldsAt (suc version) db u → AreAlike t u
held_alike version db t u h k = first_alike db t u (first_of version db t h) (first_of version db u k) (later_alike version db t u h k)

exits_alike : (version : ℕ) (cs ds : List CountRow) → IsPermutation cs ds → IsPermutation (lacking_exits version cs) (lacking_exits version ds)
exits_alike zero cs ds same = IsPermutation-map none_out cs ds same
exits_alike (suc zero) cs ds same = IsPermutation-map none_out cs ds same
exits_alike (suc (suc version)) cs ds same = IsPermutation-refl []

spents_alike : (version : ℕ) (vs ws : List VoucherRow) → IsPermutation vs ws → IsPermutation (lacking_spents version vs) (lacking_spents version ws)
spents_alike zero vs ws same = IsPermutation-map none_spent vs ws same
spents_alike (suc zero) vs ws same = IsPermutation-map none_spent vs ws same
spents_alike (suc (suc zero)) vs ws same = IsPermutation-map none_spent vs ws same
spents_alike (suc (suc (suc version))) vs ws same = IsPermutation-refl []

pub supplied_alike : (version : ℕ) (t u : Tables) → AreAlike t u → AreAlike (tables_supplied version t) (tables_supplied version u)
supplied_alike version t u h = record {
  shop = h.shop;
  items = h.items;
  variations = h.variations;
  quotas = h.quotas;
  quota_items = h.quota_items;
  quota_variations = h.quota_variations;
  vouchers = h.vouchers;
  carts = h.carts;
  orders = h.orders;
  positions = h.positions;
  waiting = h.waiting;
  checkin_lists = h.checkin_lists;
  list_items = h.list_items;
  checkins = h.checkins;
  counts = h.counts;
  tokens = h.tokens;
  kept = h.kept;
  releases = h.releases;
  exits = IsPermutation-append (lacking_exits version t.counts) (lacking_exits version u.counts) t.exits u.exits (exits_alike version t.counts u.counts h.counts) h.exits;
  budgets = h.budgets;
  spents = IsPermutation-append (lacking_spents version t.vouchers) (lacking_spents version u.vouchers) t.spents u.spents (spents_alike version t.vouchers u.vouchers h.vouchers) h.spents;
  discounts = h.discounts;
}
