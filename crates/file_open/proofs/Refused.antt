-- What was read of a file, and what its tables hold of an office.
use Rattle.std.proofs.Common.{◌≡◌, ◌≤◌, ℕ, false, map, IsTrue, Result, Ok, Err, IfOk, OnOk, refl, sym, ap, subst, ◌∙◌}
use Rattle.std.specs.List.Sorted.{IsPermutation}
use Rattle.std.proofs.lemmas.List.Sorted.{IsPermutation-map, IsPermutation-refl}
use Rattle.sqlite_trees.specs.Tree.{Trees}
use Rattle.sqlite.specs.Effect.{Database, IsDatabase}
use Rattle.sqlite.specs.State.{State as Connected}
use Rattle.file_schema.specs.Tables.{schema}
use Rattle.model_rows.specs.Lists.{State}
use Rattle.file_rows.specs.declared.rows.ShopRow.{ShopRow}
use Rattle.file_rows.specs.declared.rows.VoucherRow.{VoucherRow}
use Rattle.file_rows.specs.Changes.{head_of_count, head_of_exit, head_of_spent}
use Rattle.file_rows.specs.Tables.{Tables, Holds}
use Rattle.file_meaning.specs.Free.{IsFree}
use Rattle.file_meaning.specs.Rows.{head_of_redeemed, rows_of, redeemed_in}
use Rattle.file_meaning.specs.Stands.{AreRowsOf, AreSameRows, Stand}
use Rattle.file_meaning.proofs.Follow.{rows_along}
use Rattle.model_damage.specs.Rules.{File, IsCounted}
use Rattle.file_scan.specs.declared.file.FileTables.{FileTables}
use Rattle.file_rows.specs.declared.table_rows.TableRows.{TableRows}
use Rattle.file_scan.specs.Read.{AreTableRows, IsFileOf}
use Rattle.file_scan.specs.Rests.{IsAt, StaysOpen}
use Rattle.file_rebuild.specs.Arranged.{file_arranged, rows_in, told_by, item_link, variation_link, release_link, budget_link, discount_link, list_link, ArePaired, AreReadInOrder}
use Rattle.file_meaning.specs.Typed.{IsTypedShop}
use Rattle.file_tables.proofs.ShopLemmas.{declared}
use Rattle.file_tables.proofs.Told.{shop_again}
use Rattle.file_open.specs.Opened.{IsOpened}
use Rattle.file_open.proofs.Paired.{counts_paired, exits_paired, spents_paired, uses_of, uses_paired}

-- the rows that were read are those of the tables
pub same_rows : (t : Tables) (rows : TableRows) → AreTableRows t rows → AreSameRows (rows_of t) (rows_in rows)
same_rows t rows h = record {
  items = h.catalogue.items;
  variations = h.catalogue.variations;
  quotas = h.catalogue.quotas;
  quota_items = IsPermutation-map item_link _ _ h.catalogue.quota_items;
  quota_variations = IsPermutation-map variation_link _ _ h.catalogue.quota_variations;
  quota_release = IsPermutation-map release_link _ _ h.catalogue.releases;
  vouchers = IsPermutation-map (λ (r : VoucherRow). r.voucher) _ _ h.sales.vouchers;
  voucher_budget = IsPermutation-map budget_link _ _ h.sales.budgets;
  carts = h.sales.carts;
  orders = h.sales.orders;
  positions = h.sales.positions;
  position_discount = IsPermutation-map discount_link _ _ h.sales.discounts;
  waiting = h.sales.waiting;
  checkin_lists = h.doors.checkin_lists;
  list_items = IsPermutation-map list_link _ _ h.doors.list_items;
  checkins = h.doors.checkins;
}

pub stand_read : (t : Tables) (read : FileTables) → IsFileOf t read → AreReadInOrder read.shop read.tables → AreRowsOf (told_by (rows_in read.tables)) (rows_in read.tables) → ArePaired read.tables → IsCounted (file_arranged read.shop read.tables)
    → Stand read.shop t (file_arranged read.shop read.tables).state (map (λ r. r.kept) t.kept)
stand_read t read of order whole pairs counted =
    let counts = read.tables.others.counts.items in
    let exits = read.tables.others.exits.items in
    let vouchers = read.tables.sales.vouchers.items in
    let spents = read.tables.others.spents.items in
    record {
      shop_is = of.shop;
      moment = refl;
      next = refl;
      rows = rows_along (told_by (rows_in read.tables)) (rows_of t) (rows_in read.tables) (same_rows t read.tables of.tables) whole;
      ordered = order.file.lists;
      used = subst (IsPermutation t.counts) (sym (counts_paired counts exits pairs.exits) ∙ ap (map head_of_count) counted.used) of.tables.others.counts;
      exits = subst (IsPermutation t.exits) (sym (exits_paired counts exits pairs.exits) ∙ ap (map head_of_exit) counted.used) of.tables.others.exits;
      redeemed = subst (IsPermutation (redeemed_in t)) (sym (uses_paired vouchers spents pairs.spents) ∙ ap (map head_of_redeemed) counted.redeemed) (IsPermutation-map uses_of _ _ of.tables.sales.vouchers);
      spents = subst (IsPermutation t.spents) (sym (spents_paired vouchers spents pairs.spents) ∙ ap (map head_of_spent) counted.redeemed) of.tables.others.spents;
      kept = IsPermutation-refl _;
    }

-- it is told by a state that is the file's
pub stand_as : (t : Tables) (read : FileTables) (file : File) (s : State) → file ≡ file_arranged read.shop read.tables → s ≡ file.state → IsFileOf t read → AreReadInOrder read.shop read.tables → AreRowsOf (told_by (rows_in read.tables)) (rows_in read.tables)
    → ArePaired read.tables → IsCounted file → Stand read.shop t s (map (λ r. r.kept) t.kept)
stand_as t read file s is state of order whole pairs counted =
    subst (λ z. Stand read.shop t z (map (λ r. r.kept) t.kept)) (sym (state ∙ ap (λ (f : File). f.state) is)) (stand_read t read of order whole pairs (subst IsCounted is counted))

-- of an open connection a crash leaves the last commit
pub is_opened : (t : Tables) (head : ShopRow) (next : ℕ) (s : State) (old new : Connected) → ((db : Trees) → IsTrue new.is_open → new.may_leave db → db ≡ new.committed.trees) → IsTrue new.is_open → new.in_transaction ≡ false → StaysOpen old new
    → (db : Database) → IsAt db old → db.schema ≡ schema → IsDatabase db → Holds db.trees t → Stand head t s (map (λ r. r.kept) t.kept) → ((u : Tables) → Holds db.trees u → IsFree next u) → ((number : ℕ) → IsFree number t → next ≤ number) → IsTypedShop head t → IsOpened db.trees head next s new
is_opened t head next s old new law opened outside stays db was has listed holds stand free least typed =
    let at = stays.stays db was in
    let known : new.now.schema ≡ schema = ap (λ (d : Database). d.schema) at.now ∙ has in
    let held : Holds new.now.trees t = subst (λ (d : Database). Holds d.trees t) (sym at.now) holds in
    let settled : new.now ≡ new.committed = at.now ∙ sym at.committed in
    record {
      tables = t;
      held = holds;
      stand = stand;
      typed = typed;
      least = least;
      holds = λ is_open. record { known = known; outside = outside; settled = settled; tables = t; held = held; stand = stand; typed = typed; free = free t holds };
      knows = λ u also.
          let row = shop_again db.trees t u holds also head stand.shop_is in
          let here : Holds new.now.trees u = subst (λ (d : Database). Holds d.trees u) (sym at.now) also in
          record {
            now = λ is_open. record { known = known; tells = record { tables = u; held = here; shop_is = row; told = refl }; free = free u also };
            left = λ trees may.
                let same : trees ≡ new.now.trees = law trees opened may ∙ sym (ap (λ (d : Database). d.trees) settled) in
                (declared db trees listed has (same ∙ ap (λ (d : Database). d.trees) at.now), (head, record { tables = u; held = subst (λ d. Holds d u) (sym same) here; shop_is = row; told = refl }));
          };
      leaves = λ left l.
          let same : l.trees ≡ new.now.trees = law l.trees opened l.may ∙ sym (ap (λ (d : Database). d.trees) settled) in
          l.only head t (record { state = s; kept = map (λ r. r.kept) t.kept }) (subst (λ d. Holds d t) (sym same) held) stand typed;
    }

-- what follows of a value from what holds of it
pub both_on : {T E : Type 0} (r : Result T E) (P Q R : T → Type 0) {O : Type 0} → IfOk r P → IfOk r Q → OnOk r O → ((x : T) → P x → Q x → O → R x) → IfOk r R
both_on (Ok x) P Q R h i o k = k x h i o
both_on (Err e) P Q R h i o k = tt

pub on_three : {T E : Type 0} (r : Result T E) (P Q R : T → Type 0) (O S : Type 0) → IfOk r P → IfOk r Q → IfOk r R → OnOk r O → ((x : T) → P x → Q x → R x → O → S) → OnOk r S
on_three (Ok x) P Q R O S h i j o k = k x h i j o
on_three (Err e) P Q R O S h i j o k = tt
