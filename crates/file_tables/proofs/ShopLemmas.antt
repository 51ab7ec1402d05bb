-- What the calls of tables leave.
use Rattle.std.proofs.Common.{◌≡◌, ◌⊎◌, ℕ, ◌+◌, true, false, List, Option, IsTrue, inl, inr, refl, sym, ap, subst, ◌∙◌, arith}
use Rattle.std.specs.Borrow.{Bor}
use Rattle.std.specs.List.{AllByRecursion}
use Rattle.sqlite_trees.specs.Tree.{Trees}
use Rattle.sqlite_schema.specs.declared.schema.Schema.{Schema}
use Rattle.sqlite.specs.Effect.{Database, IsDatabase}
use Rattle.sqlite.specs.State.{State as Connected, HasCleanDisk, Survives}
use Rattle.file_schema.specs.Tables.{schema}
use Rattle.model_rows.specs.Change.{Changed, changes_applied}
use Rattle.model_rows.specs.CountRows.{CountRows, counts_after}
use Rattle.model_rows.specs.Lists.{State}
use Rattle.model_rows.specs.declared.rows.NextIds.{NextIds}
use Rattle.model_answers.specs.declared.kept.Kept.{Kept}
use Rattle.model_answers.specs.House.{House}
use Rattle.model_answers.specs.ShopView.{ShopView, IsSame, kept_listed, with_kept, view_committed}
use Rattle.file_rows.specs.declared.rows.ShopRow.{ShopRow}
use Rattle.file_rows.specs.Tables.{Tables, Holds}
use Rattle.file_meaning.specs.Free.{IsFree}
use Rattle.file_meaning.specs.Lawful.{puts_come_first}
use Rattle.file_meaning.specs.Made.{commit_made, next_after}
use Rattle.file_meaning.specs.Stands.{IsRising, Stand}
use Rattle.file_meaning.proofs.Carried.{carried, free_done, shop_put, tokens_stay}
use Rattle.file_meaning.specs.Typed.{IsTypedChange, IsTypedKept, IsTypedShop, IsSameShop}
use Rattle.file_meaning.proofs.Typed.{committed_typed}
use Rattle.file_schema.specs.Whole.{IsStill, IsWritten, MayBeWritten}
use Rattle.file_tables.specs.Held.{KnowsTokens, number_of}
use Rattle.file_tables.specs.Committed.{Turns}
use Rattle.file_tables.specs.Shops.{Keeps, HoldsWhileOpen, Tells, Knows, KnowsWhileOpen, AreDeclared, LeavesHouse, IsOfHouse, HoldNoOther, Leaves, house_of_rows}

-- the trees of a database over our schema list it
pub declared : (db : Database) (trees : Trees) → IsDatabase db → db.schema ≡ schema → trees ≡ db.trees → AreDeclared trees
declared db trees listed known same = subst (λ (t : Trees). AreDeclared t) (sym same) (subst (λ (s : Schema). IsDatabase (record { schema = s; trees = db.trees })) known listed)

-- ---- nothing changed

pub still_holds : (head : ShopRow) (next : ℕ) (old new : Connected) (s : State) (ks : List Kept) → IsStill old new → HoldsWhileOpen head next old s ks → HoldsWhileOpen head next new s ks
still_holds head next old new s ks still holds is_open =
    let was = still.same is_open in
    let it = holds was.was_open in
    record {
      known = ap (λ (d : Database). d.schema) was.now ∙ it.known;
      outside = still.outside it.outside;
      settled = was.now ∙ it.settled ∙ sym was.committed;
      tables = it.tables;
      held = subst (λ (d : Database). Holds d.trees it.tables) (sym was.now) it.held;
      stand = it.stand;
      typed = it.typed;
      free = it.free;
    }

pub still_knows : (head : ShopRow) (next : ℕ) (old new : Connected) (house : House) → IsStill old new → KnowsWhileOpen head next old house → KnowsWhileOpen head next new house
still_knows head next old new house still knows is_open =
    let was = still.same is_open in
    subst (λ (d : Database). Knows head next d house) (sym was.now) (knows was.was_open)

pub house_still : (old new : Connected) (house : House) → HasCleanDisk new → Survives old new (λ _. ⊥) → LeavesHouse old house → LeavesHouse new house
house_still old new house clean h left trees may = elim (h.crash clean trees may) [ inl was ↦ left trees was | inr none ↦ absurd none ]

pub still_house : (head : ShopRow) (next : ℕ) (old new : Connected) (house : House) → HasCleanDisk new → IsStill old new → Survives old new (λ _. ⊥) → IsOfHouse head next old house → IsOfHouse head next new house
still_house head next old new house clean still survives of = record { now = still_knows head next old new house still of.now; left = house_still old new house clean survives of.left }

-- a house that is known tells the number of each digest
pub tells_tokens : (head : ShopRow) (next : ℕ) (db : Database) (house : House) → Knows head next db house → KnowsTokens db house.tokens
tells_tokens head next db house k = record { known = k.known; tables = k.tells.tables; held = k.tells.held; told = λ digest. ap (λ (h : House). h.tokens digest) k.tells.told }

pub leaves_still : (old new : Connected) → Survives old new (λ _. ⊥) → (left : ShopView) → Leaves new left → Leaves old left
leaves_still old new h left l =
    let clean : HasCleanDisk old = let more = l.clean in omega (arith, h.clean) in
    elim (h.crash l.clean l.trees l.may) [
      | inl may ↦ record { clean = clean; trees = l.trees; may = may; only = l.only }
      | inr none ↦ absurd none
    ]

-- ---- a commit

-- the shop's row at another moment, with other next ids
pub moved_on : (head : ShopRow) (at : ℕ) (next : NextIds) → IsSameShop head (record head { moment = at; next = next })
moved_on head at next = record { version = refl; organizer = refl; event = refl; token = refl }

module _ (head shop : ShopRow) (changes : Changed) (counts : CountRows) (from : ℕ) (o : Option (Bor Kept)) (number : shop.next ≡ changes.next) (rising : AllByRecursion IsRising changes.list) (first : puts_come_first false changes.list ≡ true)
    (same : IsSameShop head shop) (of_changes : AllByRecursion IsTypedChange changes.list) (of_kept : AllByRecursion IsTypedKept (kept_listed o)) (old new : Connected) where
  abbrev change : Tables → Tables
  change = commit_made shop changes.list counts from (kept_listed o) shop.moment

  abbrev turns : ℕ → Database → Database → Type 0
  turns free before after = (free ≡ next_after changes.list from + 1) × Turns from change before after

  abbrev is_right : State → Type 0
  is_right s = counts ≡ counts_after s (changes_applied changes shop.moment s)

  carried_here : (s : State) (ks : List Kept) (it : Keeps head from old s ks) → is_right s → Stand shop (change it.tables) (changes_applied changes shop.moment s) (with_kept shop.moment ks (kept_listed o))
  carried_here s ks it right = carried head shop changes counts from shop.moment o refl number rising first it.tables s ks right it.stand it.free

  typed_here : (s : State) (ks : List Kept) (it : Keeps head from old s ks) → IsTypedShop shop (change it.tables)
  typed_here s ks it = committed_typed head shop changes.list counts from (kept_listed o) shop.moment it.tables same of_changes of_kept it.free it.typed

  pub written_holds : (free : ℕ) → IsWritten (turns free) old new → (s : State) (ks : List Kept) → HoldsWhileOpen head from old s ks → is_right s → HoldsWhileOpen shop free new (changes_applied changes shop.moment s) (with_kept shop.moment ks (kept_listed o))
  written_holds free w s ks holds right is_open =
      let it = holds w.was_open in
      record {
        known = w.turned.1.known;
        outside = w.outside;
        settled = w.settled;
        tables = change it.tables;
        held = w.turned.1.holds it.tables it.free it.held;
        stand = carried_here s ks it right;
        typed = typed_here s ks it;
        free = rw w.turned.0 (free_done shop changes.list counts from (kept_listed o) shop.moment it.tables it.free);
      }

  -- the shop's row has the names that it had, and no token came or went
  same_house : (t : Tables) → IsFree from t → house_of_rows head t.tokens ≡ house_of_rows shop (change t).tokens
  same_house t free =
      let organizer = sym same.organizer in
      let event = sym same.event in
      let all = sym (tokens_stay shop changes.list counts from shop.moment (kept_listed o) t free) in
      let next = sym same.token in
      λ i. record { organizer = organizer i; event = event i; tokens = number_of (all i); next_token = next i }

  tells_on : (db : Trees) (house : House) (t : Tables) → IsFree from t → house ≡ house_of_rows head t.tokens → Holds db (change t) → Tells db shop house
  tells_on db house t free told held =
      record { tables = change t; held = held; shop_is = shop_put shop changes.list counts from shop.moment (kept_listed o) t free; told = told ∙ same_house t free }

  pub written_knows : (free : ℕ) → IsWritten (turns free) old new → (house : House) → KnowsWhileOpen head from old house → KnowsWhileOpen shop free new house
  unfolding tells_on
  written_knows free w house knows is_open =
      let it = knows w.was_open in
      let t = it.tells.tables in
      record {
        known = w.turned.1.known;
        tells = tells_on new.now.trees house t it.free it.tells.told (w.turned.1.holds t it.free it.tells.held);
        free = rw w.turned.0 (free_done shop changes.list counts from (kept_listed o) shop.moment t it.free);
      }

  -- what a crash leaves of it is of the same house, whether it was made or not
  pub written_leaves : HasCleanDisk new → Survives old new (MayBeWritten schema turns old) → (house : House) → IsOfHouse head from old house → LeavesHouse new house
  written_leaves clean h house of trees may = elim (h.crash clean trees may) [
    | inl was ↦ of.left trees was
    | inr made ↦
        let it = of.now made.was_open in
        let t = it.tells.tables in
        let turned = made.turned it.known in (
          declared made.after trees (made.listed it.known) turned.1.known made.is,
          (shop, tells_on trees house t it.free it.tells.told (subst (λ d. Holds d (change t)) (sym made.is) (turned.1.holds t it.free it.tells.held))),
        )
  ]

  pub written_house : (free : ℕ) → HasCleanDisk new → IsWritten (turns free) old new → Survives old new (MayBeWritten schema turns old) → (house : House) → IsOfHouse head from old house → IsOfHouse shop free new house
  written_house free clean w h house of = record { now = written_knows free w house of.now; left = written_leaves clean h house of }

  left_so : (db : Trees) → MayBeWritten schema turns old db → (left : ShopView) → HoldNoOther db left → (s : State) (ks : List Kept) → HoldsWhileOpen head from old s ks → is_right s → IsSame left (view_committed changes shop.moment o s ks)
  left_so db may left only s ks holds right =
      let it = holds may.was_open in
      let turned = may.turned it.known in
      let here : Holds db (change it.tables) = subst (λ d. Holds d (change it.tables)) (sym may.is) (turned.1.holds it.tables it.free it.held) in
      only shop (change it.tables) (view_committed changes shop.moment o s ks) here (carried_here s ks it right) (typed_here s ks it)

  pub leaves_or : Survives old new (MayBeWritten schema turns old) → (left : ShopView) → Leaves new left → Leaves old left ⊎ ((s : State) (ks : List Kept) → HoldsWhileOpen head from old s ks → is_right s → IsSame left (view_committed changes shop.moment o s ks))
  leaves_or h left l =
      let clean : HasCleanDisk old = let more = l.clean in omega (arith, h.clean) in
      elim (h.crash l.clean l.trees l.may) [
        | inl may ↦ inl (record { clean = clean; trees = l.trees; may = may; only = l.only })
        | inr may ↦ inr (left_so l.trees may left l.only)
      ]

  -- of an open connection a crash leaves the last commit
  pub leaves_written : ((db : Trees) → IsTrue new.is_open → new.may_leave db → db ≡ new.committed.trees) → (free : ℕ) → IsWritten (turns free) old new → (left : ShopView) → Leaves new left → (s : State) (ks : List Kept) → HoldsWhileOpen head from old s ks → is_right s
      → IsSame left (view_committed changes shop.moment o s ks)
  leaves_written law free w left l s ks holds right =
      let it = written_holds free w s ks holds right w.is_open in
      let db : l.trees ≡ new.now.trees = law l.trees w.is_open l.may ∙ sym (ap (λ (d : Database). d.trees) w.settled) in
      l.only shop it.tables (view_committed changes shop.moment o s ks) (subst (λ d. Holds d it.tables) (sym db) it.held) it.stand it.typed
