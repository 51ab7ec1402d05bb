-- A file that was brought to this version is opened as the shop that it held.
use Rattle.std.proofs.Common.{◌≡◌, ◌≢◌, ◌⊎◌, ℕ, pos, List, map, inl, inr, refl, sym, ap, subst, ◌∙◌}
use Rattle.sqlite_trees.specs.Tree.{Trees}
use Rattle.sqlite.specs.Effect.{Database, IsDatabase}
use Rattle.sqlite.specs.State.{State as Connected}
use Rattle.file_schema.specs.Tables.{schema, this_version}
use Rattle.file_schema.specs.Versions.{schema_of_version}
use Rattle.file_schema.specs.Whole.{MayBeWritten}
use Rattle.file_schema.proofs.WholeLemmas.{one_schema}
use Rattle.model_rows.specs.Lists.{State}
use Rattle.model_answers.specs.declared.kept.Kept.{Kept}
use Rattle.file_rows.specs.declared.rows.ShopRow.{ShopRow}
use Rattle.file_rows.specs.Tables.{Tables, Holds}
use Rattle.file_scan.specs.declared.error.OpenError.{OpenError}
use Rattle.file_scan.specs.declared.error.OpenError.TheVariants.{Memory, NotAShop, Version, Damaged, Store}
use Rattle.file_scan.specs.Lawful.{IsOfMachine}
use Rattle.file_scan.proofs.FitLemmas.{of_machine, told_as, unreadable}
use Rattle.file_scan.proofs.LimitLemmas.{sound_fits}
use Rattle.file_scan.specs.Rests.{IsOpenAt}
use Rattle.file_tables.specs.Begun.{IsUpgraded, of_this_version, with_head}
use Rattle.file_tables.specs.Shops.{Tells, house_of_rows}
use Rattle.file_tables.proofs.Upgrades.{upgraded_stands}
use Rattle.file_open.specs.Migrated.{IsOfVersion, MayBeMigrated}
use Rattle.file_open.specs.Opened.{IsReason}
use Rattle.file_open.specs.Supplied.{lacking_exits, lacking_spents, tables_supplied}
use Rattle.file_open.specs.Upgraded.{HoldsShopAt, IsOpenedAsBefore}
use Rattle.file_open.proofs.Least.{clear}
use Rattle.file_open.proofs.Tokens.{known_as}
use Rattle.file_open.proofs.Undamaged.{undamaged, same_shop}

module _ (from : ℕ) (head : ShopRow) (t : Tables) (s : State) (answers : List Kept) (old opened : Connected) (its : HoldsShopAt from head t s answers old) where
  abbrev row : ShopRow
  row = of_this_version head

  abbrev tables : Tables
  tables = with_head row (tables_supplied from t)

  pub as_before : (db : Database) → db.schema ≡ schema → Holds db.trees tables → IsOpenedAsBefore head t s answers db opened
  as_before db known held =
      let stand = upgraded_stands head (tables_supplied from t) s answers its.stand in
      let is = its.typed in
      let fit = sound_fits row tables s answers is.first is.organizer is.event is.token stand its.sound is.rows in
      let tells : Tells db.trees row (house_of_rows head t.tokens) = record { tables = tables; held = held; shop_is = stand.shop_is; told = refl } in
      record {
        known = known;
        no_fault = clear db known (of_machine db known tables held fit) (undamaged row tables s answers stand db.trees held is.numbered is.organizer is.event its.sound);
        same = λ shop next z o. same_shop db.trees tables o.tables held o.held row shop s z answers (map (λ r. r.kept) o.tables.kept) stand o.stand;
        house = λ shop next z o. (known_as db.trees row shop next z opened (house_of_rows head t.tokens) tells o).0;
      }

  pub upgraded_opens : (after : Database) → IsUpgraded row (lacking_exits from t.counts) (lacking_spents from t.vouchers) from old.now after → IsOpenedAsBefore head t s answers after opened
  upgraded_opens after h = as_before after h.known (h.holds t its.held)

  -- as it is it isn't opened: its version is told, unless memory is refused or the store fails
  pub told_as_it_is : (head.version ≢ this_version) → (error : OpenError) → IsReason old.now error → (error ≡ Version (pos head.version)) ⊎ IsOfMachine error
  told_as_it_is other Memory h = inr tt
  told_as_it_is other NotAShop h = told_as from t old.now its.known its.held head its.stand.shop_is other NotAShop h
  told_as_it_is other (Version version) h = told_as from t old.now its.known its.held head its.stand.shop_is other (Version version) h
  told_as_it_is other (Damaged rule) (inl h) = told_as from t old.now its.known its.held head its.stand.shop_is other (Damaged rule) h
  told_as_it_is other (Damaged rule) (inr h) = absurd (unreadable from t old.now its.known its.held head its.stand.shop_is other h.0)
  told_as_it_is other Store h = inr tt

  -- what may have been written is found as what it was turned into
  pub found_upgraded : (fresh : Connected) → IsDatabase fresh.now → MayBeWritten (schema_of_version from) (λ (_ : Unit {0}). IsUpgraded row (lacking_exits from t.counts) (lacking_spents from t.vouchers) from) old fresh.now.trees → IsOpenedAsBefore head t s answers fresh.now opened
  found_upgraded fresh listed may =
      let turned = may.turned its.known in
      as_before fresh.now (one_schema fresh.now may.after listed (may.listed its.known) may.is ∙ turned.known) (subst (λ (d : Trees). Holds d tables) (sym may.is) (turned.holds t its.held))

-- what wasn't written is found as it was
pub found_as_it_was : (old fresh : Connected) → old.now ≡ old.committed → IsDatabase fresh.now → IsDatabase old.now → fresh.now.trees ≡ old.committed.trees → fresh.now ≡ old.now
found_as_it_was old fresh settled listed live is =
    let trees : fresh.now.trees ≡ old.now.trees = is ∙ sym (ap (λ (d : Database). d.trees) settled) in
    let known = one_schema fresh.now old.now listed live trees in
    λ i. record { schema = known i; trees = trees i }

-- what was brought to this version holds a shop, and is opened as it
pub found_brought : (from : ℕ) (old fresh opened : Connected) → IsOpenAt old.now old → IsOfVersion from old.now → IsDatabase fresh.now → MayBeMigrated old fresh.now.trees
    → (head : ShopRow) × (t : Tables) × (s : State) × HoldsShopAt from head t s (map (λ r. r.kept) t.kept) old × IsOpenedAsBefore head t s (map (λ r. r.kept) t.kept) fresh.now opened
found_brought from old fresh opened at of listed may =
    let is : from ≡ may.from = may.version_is at from of in
    let known : old.now.schema ≡ schema_of_version may.from = of.known ∙ ap schema_of_version is in
    let ks = map (λ r. r.kept) may.tables.kept in
    let its = may.held at known in
    let holds = may.holds at known in
    let declared : fresh.now.schema ≡ schema = one_schema fresh.now (record { schema = schema; trees = fresh.now.trees }) listed holds.0 refl in
    (may.head, may.tables, may.office, subst (λ v. HoldsShopAt v may.head may.tables may.office ks old) (sym is) its, as_before may.from may.head may.tables may.office ks old opened its fresh.now declared holds.1)
