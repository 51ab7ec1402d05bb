-- What a file holds that was brought to this version.
use Rattle.std.proofs.Common.{◌≡◌, ℕ, ◌+◌, zero, suc, List, [], ◌∷◌, ◌++◌, map, take, drop, true, refl, ap, subst, Result, Ok, Err, OnOk, IfOk}
use Rattle.std.specs.List.Sorted.{IsPermutation}
use Rattle.std.proofs.lemmas.List.Sorted.{IsPermutation-refl, IsPermutation-sym, IsPermutation-trans, IsPermutation-map, IsPermutation-middle}
use Rattle.sqlite_value.specs.Order.{Row}
use Rattle.sqlite_trees.specs.Tree.{Trees}
use Rattle.sqlite.specs.Effect.{Database, IsDatabase}
use Rattle.sqlite.specs.State.{State as Connected, Survives}
use Rattle.sqlite.proofs.StateLemmas.{survives_weaker}
use Rattle.file_schema.specs.Tables.{schema, all_tables, quota_release_table, quota_exited_table, voucher_budget_table, voucher_spent_table, position_discount_table}
use Rattle.file_schema.specs.Blank.{blank_schema}
use Rattle.file_schema.specs.Grown.{Grows}
use Rattle.file_schema.specs.Parts.{Part, HoldParts}
use Rattle.file_schema.specs.Versions.{schema_of_version}
use Rattle.file_schema.specs.Whole.{IsWritten, MayBeWritten}
use Rattle.file_schema.proofs.Standing.{parts_grown}
use Rattle.model_rows.specs.Lists.{State}
use Rattle.model_answers.specs.declared.kept.Kept.{Kept}
use Rattle.file_rows.specs.declared.rows.ExitRow.{ExitRow}
use Rattle.file_rows.specs.declared.rows.ShopRow.{ShopRow}
use Rattle.file_rows.specs.declared.rows.SpentRow.{SpentRow}
use Rattle.file_rows.specs.Rows.{exit_row, spent_row}
use Rattle.file_rows.specs.Changes.{Changes, ChangesFit, with_exit, with_spent}
use Rattle.file_rows.specs.Tables.{Tables, Holds, HoldsAt, no_rows, parts, tables_of}
use Rattle.file_meaning.specs.Made.{each}
use Rattle.file_meaning.specs.Stands.{Stand}
use Rattle.file_tables.proofs.Steps.{Reaches, goes_on, fits_all}
use Rattle.file_tables.specs.Begun.{IsBegun, IsUpgraded, of_this_version, with_head, with_exits, with_spents}

-- the tables of a version go on to hold what they held, and the new ones nothing
stands_on : (from : ℕ) (old new : Connected) (t : Tables) → Grows (schema_of_version from) schema old new → HoldsAt from old.now.trees t → Holds new.now.trees t
stands_on zero old new t grown held = parts_grown (schema_of_version 0) schema all_tables old new [] (parts t) refl refl refl held.none grown tt
stands_on (suc zero) old new t grown held =
    parts_grown (schema_of_version 1) schema (quota_release_table ∷ quota_exited_table ∷ voucher_budget_table ∷ voucher_spent_table ∷ position_discount_table ∷ []) old new (take (tables_of 1) (parts t)) (drop (tables_of 1) (parts t)) refl refl refl held.none grown held.shown
stands_on (suc (suc zero)) old new t grown held =
    parts_grown (schema_of_version 2) schema (voucher_budget_table ∷ voucher_spent_table ∷ position_discount_table ∷ []) old new (take (tables_of 2) (parts t)) (drop (tables_of 2) (parts t)) refl refl refl held.none grown held.shown
stands_on (suc (suc (suc n))) old new t grown held = parts_grown (schema_of_version (suc (suc (suc n)))) schema [] old new (parts t) [] refl refl refl tt grown held.shown

-- ---- rows that are added one after another stand before the others, in another order

-- what is added each time goes first
module _ {A : Type 0} (with_row : A → Tables → Tables) (rows : Tables → List A) (adds : (x : A) (t : Tables) → rows (with_row x t) ≡ x ∷ rows t) where
  added_first : (xs : List A) (t : Tables) → IsPermutation (xs ++ rows t) (rows (each with_row xs t))
  added_first [] t = IsPermutation-refl (rows t)
  added_first (x ∷ xs) t =
      let more = rows (each with_row xs (with_row x t)) in
      IsPermutation-trans (x ∷ (xs ++ rows t)) (xs ++ x ∷ rows t) more (IsPermutation-sym (xs ++ x ∷ rows t) (x ∷ (xs ++ rows t)) (IsPermutation-middle xs x (rows t))) (subst (λ l. IsPermutation (xs ++ l) more) (adds x t) (added_first xs (with_row x t)))

abbrev part : ℕ → List Row → Part
part tree rows = record { tree = tree; rows = rows }

-- the rows of one table, in another order
part_along : (db : Trees) (before after : List Part) (tree : ℕ) (xs ys : List Row) → IsPermutation xs ys → HoldParts schema db (before ++ part tree ys ∷ after) → HoldParts schema db (before ++ part tree xs ∷ after)
part_along db [] after tree xs ys same h = (IsPermutation-trans xs ys _ same h.0, h.1)
part_along db (p ∷ before) after tree xs ys same h = (h.0, part_along db before after tree xs ys same h.1)

-- only the rows of exits differ
only_exits : (exits : List ExitRow) (t : Tables) → each with_exit exits t ≡ record t { exits = (each with_exit exits t).exits }
only_exits [] t = refl
only_exits (x ∷ xs) t = only_exits xs (with_exit x t)

exits_along : (db : Trees) (t : Tables) (xs : List ExitRow) → IsPermutation xs t.exits → Holds db t → Holds db (record t { exits = xs })
exits_along db t xs same = part_along db (take 18 (parts t)) (drop 19 (parts t)) 28 (map exit_row xs) (map exit_row t.exits) (IsPermutation-map exit_row xs t.exits same)

exits_held : (exits : List ExitRow) (db : Trees) (t : Tables) → Holds db (each with_exit exits t) → Holds db (with_exits exits t)
exits_held exits db t h =
    let added = (each with_exit exits t).exits in
    exits_along db (record t { exits = added }) (exits ++ t.exits) (added_first with_exit (λ t. t.exits) (λ x t. refl) exits t) (subst (Holds db) (only_exits exits t) h)

-- only the rows of what is spent differ
only_spents : (spents : List SpentRow) (t : Tables) → each with_spent spents t ≡ record t { spents = (each with_spent spents t).spents }
only_spents [] t = refl
only_spents (x ∷ xs) t = only_spents xs (with_spent x t)

spents_along : (db : Trees) (t : Tables) (xs : List SpentRow) → IsPermutation xs t.spents → Holds db t → Holds db (record t { spents = xs })
spents_along db t xs same = part_along db (take 20 (parts t)) (drop 21 (parts t)) 30 (map spent_row xs) (map spent_row t.spents) (IsPermutation-map spent_row xs t.spents same)

spents_held : (spents : List SpentRow) (db : Trees) (t : Tables) → Holds db (each with_spent spents t) → Holds db (with_spents spents t)
spents_held spents db t h =
    let added = (each with_spent spents t).spents in
    spents_along db (record t { spents = added }) (spents ++ t.spents) (added_first with_spent (λ t. t.spents) (λ x t. refl) spents t) (subst (Holds db) (only_spents spents t) h)

-- ---- the loop

abbrev pub Adds : {A : Type 0} → (A → Tables → Tables) → List A → List A → Connected → Connected → Type 0
Adds with_row left all old new = Reaches (λ _. Unit {0}) (λ _. Unit {0}) (each with_row left) (each with_row all) old new

-- one more of the loop
pub one_added : {A : Type 0} (with_row : A → Tables → Tables) (all : List A) (i : ℕ) (x : A) (old mid new : Connected) → drop i all ≡ x ∷ drop (i + 1) all → Adds with_row (drop i all) all old mid → Changes (with_row x) mid new → Adds with_row (drop (i + 1) all) all old new
one_added with_row all i x old mid new is reached added =
    goes_on (λ _. Unit {0}) (λ _. Unit {0}) (λ _. Unit {0}) (each with_row (drop i all)) (with_row x) (each with_row (drop (i + 1) all)) (each with_row all) old mid new
    (λ u _. tt) (λ u. ap (λ l. each with_row l u) is) reached (fits_all (λ _. Unit {0}) (with_row x) mid new added)

-- all that were to be added are
pub all_added : {A : Type 0} (with_row : A → Tables → Tables) (all : List A) (old new : Connected) → ChangesFit (λ _. Unit {0}) (each with_row all) old new → Changes (each with_row all) old new
all_added with_row all old new h = record { known = h.known; inside = h.inside; committed = h.committed; listed = h.listed; holds = λ t held. h.holds t tt held }

-- ---- the whole upgrade

-- the new tables are made, rows are added, and the shop's row is put
pub upgraded : {T E : Type 0} (r : Result T E) (shop : ShopRow) (exits : List ExitRow) (spents : List SpentRow) (from : ℕ) (old mid late last new : Connected) → Grows (schema_of_version from) schema old mid → Changes (each with_exit exits) mid late
    → Changes (each with_spent spents) late last → OnOk r (Changes (with_head shop) last new) → IfOk r (λ _. (new.in_transaction ≡ true) × IsUpgraded shop exits spents from old.now new.now × IsDatabase new.now)
upgraded (Ok x) shop exits spents from old mid late last new grown out paid put = (
  put.inside,
  record {
    known = put.known;
    holds = λ t held.
        let exited = with_exits exits t in
        let h1 : Holds late.now.trees exited = exits_held exits late.now.trees t (out.holds t (stands_on from old mid t grown held)) in
        let h2 : Holds last.now.trees (with_spents spents exited) = spents_held spents last.now.trees exited (paid.holds exited h1) in
        put.holds (with_spents spents exited) h2;
  },
  put.listed (paid.listed (out.listed grown.listed)),
)
upgraded (Err e) shop exits spents from old mid late last new grown out paid put = tt

-- ---- from no table

holds_none : (db : Database) → HoldsAt 0 db.trees no_rows
holds_none db = record { shown = tt; none = (refl, (refl, (refl, (refl, (refl, (refl, (refl, (refl, (refl, (refl, (refl, (refl, (refl, (refl, (refl, (refl, (refl, (refl, (refl, (refl, (refl, (refl, tt)))))))))))))))))))))) }

pub begun : (shop : ShopRow) (db after : Database) → IsUpgraded shop [] [] 0 db after → IsBegun shop after
begun shop db after h = record { known = h.known; held = h.holds no_rows (holds_none db) }

pub written_begun : (shop : ShopRow) (old new : Connected) → IsWritten (IsUpgraded shop [] [] 0) old new → IsWritten (λ db after. IsBegun shop after) old new
written_begun shop old new w = record { was_open = w.was_open; is_open = w.is_open; outside = w.outside; settled = w.settled; turned = begun shop old.now new.now w.turned; listed = w.listed }

pub crash_begun : (shop : ShopRow) (old new : Connected) → Survives old new (MayBeWritten (schema_of_version 0) (λ (_ : Unit {0}). IsUpgraded shop [] [] 0) old)
    → Survives old new (MayBeWritten blank_schema (λ (_ : Unit {0}) db after. IsBegun shop after) old)
crash_begun shop old new = survives_weaker old new _ _ (λ clean trees may. record {
  was_open = may.was_open;
  answer = may.answer;
  after = may.after;
  turned = λ known. begun shop old.now may.after (may.turned known);
  listed = may.listed;
  is = may.is;
})

-- ---- the office

-- it is the same one, with the same answers
pub upgraded_stands : (head : ShopRow) (t : Tables) (state : State) (answers : List Kept) → Stand head t state answers → Stand (of_this_version head) (with_head (of_this_version head) t) state answers
upgraded_stands head t state answers h = record {
  shop_is = ap (λ (l : List ShopRow). (with_head (of_this_version head) (record t { shop = l })).shop) h.shop_is;
  moment = h.moment;
  next = h.next;
  rows = h.rows;
  ordered = h.ordered;
  used = h.used;
  exits = h.exits;
  redeemed = h.redeemed;
  spents = h.spents;
  kept = h.kept;
}
