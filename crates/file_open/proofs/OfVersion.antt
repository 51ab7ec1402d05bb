-- What was read of a file of some version holds a shop whole.
use Rattle.std.proofs.Common.{◌≡◌, ℕ, map, IsTrue, Result, Ok, Err, IfOk, refl, sym, ap, subst, ◌∙◌}
use Rattle.std.proofs.lemmas.List.Sorted.{IsPermutation-refl}
use Rattle.sqlite.specs.Effect.{Database}
use Rattle.sqlite.specs.State.{State as Connected}
use Rattle.file_schema.specs.Versions.{schema_of_version}
use Rattle.model_rows.specs.Lists.{State}
use Rattle.base_values.specs.Slugs.{IsSlug}
use Rattle.model_catalogue.specs.Limits.{last_id}
use Rattle.model_invariant.specs.Range.{IsNextId}
use Rattle.model_invariant.specs.Sound.{IsSound}
use Rattle.file_rows.specs.declared.rows.ShopRow.{ShopRow}
use Rattle.file_rows.specs.Tables.{Tables, HoldsAt}
use Rattle.file_meaning.specs.Stands.{Stand}
use Rattle.file_meaning.specs.Typed.{AreBelowNext, IsTypedShop}
use Rattle.file_scan.specs.declared.file.FileTables.{FileTables}
use Rattle.file_scan.specs.Fits.{IsFitFile}
use Rattle.file_scan.specs.Read.{IsFileOf, tables_of}
use Rattle.file_scan.proofs.FitLemmas.{fit_read}
use Rattle.file_tables.specs.Begun.{of_this_version}
use Rattle.file_open.specs.Supplied.{tables_supplied}
use Rattle.file_open.specs.Upgraded.{HoldsShopAt, StandTyped}
use Rattle.file_open.proofs.Fitting.{fit_typed}

-- what was read is what tables hold that have just these rows
pub read_itself : (file : FileTables) → IsFileOf (tables_of file) file
read_itself file = record {
  shop = refl;
  tables = record {
    catalogue = record { items = IsPermutation-refl _; variations = IsPermutation-refl _; quotas = IsPermutation-refl _; quota_items = IsPermutation-refl _; quota_variations = IsPermutation-refl _; releases = IsPermutation-refl _ };
    sales = record { vouchers = IsPermutation-refl _; carts = IsPermutation-refl _; orders = IsPermutation-refl _; positions = IsPermutation-refl _; waiting = IsPermutation-refl _; budgets = IsPermutation-refl _; discounts = IsPermutation-refl _ };
    doors = record { checkin_lists = IsPermutation-refl _; list_items = IsPermutation-refl _; checkins = IsPermutation-refl _ };
    others = record { counts = IsPermutation-refl _; tokens = IsPermutation-refl _; kept = IsPermutation-refl _; exits = IsPermutation-refl _; spents = IsPermutation-refl _ };
  };
}

-- what was read is what its types promise, under this program's version
pub shop_typed : (file : FileTables) → IsFitFile file → AreBelowNext file.shop file.tables.others.tokens.items → (head : ShopRow) → head ≡ file.shop → IsTypedShop (of_this_version head) (tables_of file)
shop_typed file fit numbered head is = record {
  first = refl;
  organizer = subst (λ (h : ShopRow). IsSlug h.organizer) (sym is) fit.shop.organizer;
  event = subst (λ (h : ShopRow). IsSlug h.event) (sym is) fit.shop.event;
  token = subst (λ (h : ShopRow). IsNextId last_id h.next_token) (sym is) fit.ids.token;
  numbered = subst (λ (h : ShopRow). AreBelowNext h file.tables.others.tokens.items) (sym is) numbered;
  rows = fit_typed (tables_of file) (fit_read file refl fit);
}

-- so do those that were read, once what they lack is supplied
pub stand_supplied : (own : ℕ) (file full : FileTables) → tables_of full ≡ tables_supplied own (tables_of file) → IsFitFile full → AreBelowNext full.shop full.tables.others.tokens.items → (head : ShopRow) → head ≡ full.shop → (s : State)
    → Stand head (tables_of full) s (map (λ r. r.kept) (tables_of full).kept) → StandTyped head s (tables_supplied own (tables_of file))
stand_supplied own file full is fit numbered head same s stand = subst (StandTyped head s) is (stand, shop_typed full fit numbered head same)

pub holds_shop : (own : ℕ) (t : Tables) (head : ShopRow) (s : State) → Stand head (tables_supplied own t) s (map (λ r. r.kept) t.kept) → IsTypedShop (of_this_version head) (tables_supplied own t) → IsSound s → (db : Database) (c : Connected) → IsTrue c.is_open → c.now ≡ db → c.committed ≡ db
    → db.schema ≡ schema_of_version own → HoldsAt own db.trees t → HoldsShopAt own head t s (map (λ r. r.kept) t.kept) c
holds_shop own t head s stand typed sound db c opened now committed known held = record {
  is_open = opened;
  settled = now ∙ sym committed;
  known = ap (λ (d : Database). d.schema) now ∙ known;
  held = subst (λ (d : Database). HoldsAt own d.trees t) (sym now) held;
  stand = stand;
  typed = typed;
  sound = sound;
}

-- what follows of a value from three facts
pub three_ok : {T E : Type 0} (r : Result T E) (P Q R S : T → Type 0) → IfOk r P → IfOk r Q → IfOk r R → ((x : T) → P x → Q x → R x → S x) → IfOk r S
three_ok (Ok x) P Q R S h i j k = k x h i j
three_ok (Err e) P Q R S h i j k = tt
