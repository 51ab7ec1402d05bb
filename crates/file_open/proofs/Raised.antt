-- A file that was brought to this program's version.
use Rattle.std.proofs.Common.{◌≡◌, ◌≤◌, ℕ, List, [], ◌∷◌, ◌∙◌, filter, not, ◌==◌, IsTrue, Bool, true, false, Result, Ok, Err, OnErr, refl, sym, ap, subst}
use Rattle.sqlite_trees.specs.Tree.{Trees}
use Rattle.sqlite.specs.Effect.{Database, IsDatabase}
use Rattle.sqlite.specs.State.{State as Connected, IsUnchanged}
use Rattle.file_schema.specs.Tables.{schema, this_version}
use Rattle.file_schema.specs.Versions.{schema_of_version}
use Rattle.file_schema.specs.Whole.{IsOver, IsStill, IsWritten, MayBeWritten}
use Rattle.model_rows.specs.Lists.{State}
use Rattle.model_invariant.specs.Sound.{IsSound}
use Rattle.model_answers.specs.declared.kept.Kept.{Kept}
use Rattle.file_rows.specs.declared.rows.ShopRow.{ShopRow}
use Rattle.file_rows.specs.Tables.{Tables, Holds, HoldsAt}
use Rattle.file_meaning.specs.Stands.{Stand}
use Rattle.file_meaning.specs.Typed.{IsTypedShop}
use Rattle.file_scan.specs.Causes.{IsReadableAs}
use Rattle.file_scan.specs.Rests.{IsAt, IsOpenAt, StaysOpen}
use Rattle.file_tables.specs.Begun.{IsUpgraded, of_this_version}
use Rattle.file_tables.proofs.Upgrades.{upgraded_stands}
use Rattle.file_open.specs.Migrated.{IsMigrated, IsOfVersion, MayBeMigrated}
use Rattle.file_open.specs.Opened.{IsOpened, answers_in}
use Rattle.file_open.specs.Supplied.{brought, lacking_exits, lacking_spents, tables_supplied}
use Rattle.file_open.specs.Upgraded.{HoldsShopAt}
use Rattle.file_open.proofs.ItsVersion.{read_version}

-- a shop is held by a connection that shows the same
pub moved : (version : ℕ) (head : ShopRow) (t : Tables) (s : State) (ks : List Kept) (c d : Connected) → HoldsShopAt version head t s ks c → IsTrue d.is_open → d.now ≡ c.now → d.now ≡ d.committed → HoldsShopAt version head t s ks d
moved version head t s ks c d its opened same settled = record {
  is_open = opened;
  settled = settled;
  known = ap (λ (b : Database). b.schema) same ∙ its.known;
  held = subst (λ (b : Database). HoldsAt version b.trees t) (sym same) its.held;
  stand = its.stand;
  typed = its.typed;
  sound = its.sound;
}

-- tables that became those of this program's version hold the shop
brought_holds : (from : ℕ) (head : ShopRow) (t : Tables) (s : State) (ks : List Kept) → Stand head (tables_supplied from t) s ks → IsTypedShop (of_this_version head) (tables_supplied from t) → IsSound s
    → (c : Connected) → IsTrue c.is_open → c.now ≡ c.committed → c.now.schema ≡ schema → Holds c.now.trees (brought from head t) → HoldsShopAt this_version (of_this_version head) (brought from head t) s ks c
brought_holds from head t s ks stand typed sound c opened settled known held = record {
  is_open = opened;
  settled = settled;
  known = known;
  held = record { shown = held; none = tt };
  stand = upgraded_stands head (tables_supplied from t) s ks stand;
  typed = record { first = refl; organizer = typed.organizer; event = typed.event; token = typed.token; numbered = typed.numbered; rows = typed.rows };
  sound = sound;
}

-- ---- one of this program's version

row_is : (head : ShopRow) → head.version ≡ this_version → head ≡ of_this_version head
row_is head version = λ i. record head { version = version i }

-- its tables become themselves
brought_same : (head : ShopRow) (t : Tables) → head.version ≡ this_version → t.shop ≡ head ∷ [] → brought this_version head t ≡ t
brought_same head t version one =
    let row = of_this_version head in
    let is : row ∷ filter (λ r. not (1 == 1)) t.shop ≡ t.shop = ap (λ l. row ∷ filter (λ r. not (1 == 1)) l) one ∙ ap (λ (h : ShopRow). h ∷ []) (sym (row_is head version)) ∙ sym one in
    ap (λ l. record t { shop = l }) is

-- it is migrated by being opened
pub opened_migrated : (head : ShopRow) (next : ℕ) (s : State) (old new : Connected) → IsOpenAt old.now old → old.now.schema ≡ schema → IsOpened old.now.trees head next s new → head.version ≡ this_version → IsSound s → IsUnchanged old new
    → IsMigrated this_version old new
opened_migrated head next s old new at known o version sound same =
    let t = o.tables in
    let typed : IsTypedShop (of_this_version head) t = subst (λ (h : ShopRow). IsTypedShop h t) (row_is head version) o.typed in
    let here : Holds old.now.trees (brought this_version head t) = subst (Holds old.now.trees) (sym (brought_same head t version o.stand.shop_is)) o.held in
    record {
      head = head;
      tables = t;
      office = s;
      held = record { is_open = at.is_open; settled = sym at.committed; known = known; held = record { shown = o.held; none = tt }; stand = o.stand; typed = typed; sound = sound };
      holds = brought_holds this_version head t s (answers_in t) o.stand typed sound new same.0.is_open (same.0.now_is ∙ sym at.committed ∙ sym same.0.committed_is) (ap (λ (b : Database). b.schema) same.0.now_is ∙ known)
          (subst (λ (b : Database). Holds b.trees (brought this_version head t)) (sym same.0.now_is) here);
    }

-- ---- an earlier one

module _ (from : ℕ) (head : ShopRow) (t : Tables) (s : State) (old mid new : Connected) (same : IsUnchanged old mid) (holds : (db : Database) → IsOpenAt db old → db.schema ≡ schema_of_version from → HoldsShopAt from head t s (answers_in t) mid) where
  -- it was written
  pub raised : IsOpenAt old.now old → old.now.schema ≡ schema_of_version from → IsWritten (IsUpgraded (of_this_version head) (lacking_exits from t.counts) (lacking_spents from t.vouchers) from) mid new → IsMigrated from old new
  raised at known written =
      let its = holds old.now at known in
      record {
        head = head;
        tables = t;
        office = s;
        held = moved from head t s (answers_in t) mid old its at.is_open (sym same.0.now_is) (sym at.committed);
        holds = brought_holds from head t s (answers_in t) its.stand its.typed its.sound new written.is_open written.settled written.turned.known (written.turned.holds t its.held);
      }

  -- it may have been
  pub may_be : 1 ≤ from → from ≤ this_version → ((db : Database) → IsOpenAt db old → IsReadableAs from db) → (trees : Trees)
      → MayBeWritten (schema_of_version from) (λ (_ : Unit {0}). IsUpgraded (of_this_version head) (lacking_exits from t.counts) (lacking_spents from t.vouchers) from) mid trees → MayBeMigrated old trees
  may_be first last found trees may = record {
    was_open = same.0.was_open;
    from = from;
    first = first;
    last = last;
    head = head;
    tables = t;
    office = s;
    version_is = λ at version of. read_version version old.now of from (found old.now at);
    held = λ at known. moved from head t s (answers_in t) mid old (holds old.now at known) at.is_open (sym same.0.now_is) (sym at.committed);
    holds = λ at known.
        let its = holds old.now at known in
        let turned = may.turned its.known in
        let after = may.after in
        let as_ours : after ≡ record { schema = schema; trees = trees } = λ i. record { schema = turned.known i; trees = sym may.is i } in
        (subst IsDatabase as_ours (may.listed its.known), subst (λ (d : Trees). Holds d (brought from head t)) (sym may.is) (turned.holds t its.held));
  }

-- ---- a connection that was only read before

there : (old mid : Connected) → StaysOpen old mid → IsTrue mid.is_open → IsOpenAt old.now old → IsOpenAt mid.now mid × (mid.now ≡ old.now)
there old mid stays opened at =
    let here = stays.stays old.now (record { now = refl; committed = at.committed }) in
    (record { is_open = opened; now = refl; committed = here.committed ∙ sym here.now }, here.now)

-- of the connection as it was before, the same holds
pub migrated_before : (from : ℕ) (old mid new : Connected) → StaysOpen old mid → IsTrue mid.is_open → IsOpenAt old.now old → old.now.schema ≡ schema_of_version from
    → (IsOpenAt mid.now mid → mid.now.schema ≡ schema_of_version from → IsMigrated from mid new) → IsMigrated from old new
migrated_before from old mid new stays opened at known migrated =
    let here = there old mid stays opened at in
    let m = migrated here.0 (ap (λ (b : Database). b.schema) here.1 ∙ known) in
    record { head = m.head; tables = m.tables; office = m.office; held = moved from m.head m.tables m.office (answers_in m.tables) mid old m.held at.is_open (sym here.1) (sym at.committed); holds = m.holds }

pub may_be_before : (old mid : Connected) (trees : Trees) → StaysOpen old mid → MayBeMigrated mid trees → MayBeMigrated old trees
may_be_before old mid trees stays may = record {
  was_open = stays.was_open;
  from = may.from;
  first = may.first;
  last = may.last;
  head = may.head;
  tables = may.tables;
  office = may.office;
  version_is = λ at version of. let here = there old mid stays may.was_open at in may.version_is here.0 version (subst (IsOfVersion version) (sym here.1) of);
  held = λ at known.
      let here = there old mid stays may.was_open at in
      moved may.from may.head may.tables may.office (answers_in may.tables) mid old (may.held here.0 (ap (λ (b : Database). b.schema) here.1 ∙ known)) at.is_open (sym here.1) (sym at.committed);
  holds = λ at known. let here = there old mid stays may.was_open at in may.holds here.0 (ap (λ (b : Database). b.schema) here.1 ∙ known);
}

-- where nothing was written, all is as it was
pub still_at : (from : ℕ) (old mid new : Connected) → IsUnchanged old mid → (IsOver (schema_of_version from) mid → IsStill mid new) → IsTrue new.is_open → (db : Database) → IsAt db old → db.schema ≡ schema_of_version from → IsAt db new
still_at from old mid new same still opened db at known =
    let over : IsOver (schema_of_version from) mid = λ _. ap (λ (b : Database). b.schema) (same.0.now_is ∙ at.now) ∙ known in
    let kept = (still over).same opened in
    record { now = kept.now ∙ same.0.now_is ∙ at.now; committed = kept.committed ∙ same.0.committed_is ∙ at.committed }

-- ---- what follows of a result

pub err_from : {T E : Type 0} (r : Result T E) (A P Q : Type 0) → (A → OnErr r P) → ((A → P) → Q) → OnErr r Q
err_from (Ok x) A P Q h k = tt
err_from (Err e) A P Q h k = k h

-- outside a transaction there is none
pub no_transaction : (alone inside : Bool) → alone ≡ not inside → alone ≡ true → inside ≡ false
no_transaction alone true is h = absurd (let never : true ≡ false = sym h ∙ is in cc)
no_transaction alone false is h = refl
