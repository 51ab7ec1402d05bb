-- A file that holds a shop of a version isn't refused as one of that version, but for want of memory or because the store fails.
use Rattle.std.proofs.Common.{◌≡◌, ◌≢◌, ◌≤◌, ◌<◌, ◌⊎◌, ℕ, zero, suc, pos, inl, inr, List, [], refl, sym, ap, subst, ◌∙◌, arith}
use Rattle.sqlite_value.specs.Order.{Row}
use Rattle.sqlite_trees.specs.Tree.{Trees}
use Rattle.sqlite.specs.State.{State as Connected}
use Rattle.base_values.specs.Moments.{IsMoment}
use Rattle.file_schema.specs.Tables.{this_version}
use Rattle.model_rows.specs.Lists.{State}
use Rattle.model_invariant.specs.Range.{AllNextIds}
use Rattle.model_answers.specs.declared.kept.Kept.{Kept}
use Rattle.file_rows.specs.declared.rows.ShopRow.{ShopRow}
use Rattle.file_rows.specs.Tables.{Tables, HoldsAt}
use Rattle.file_reads.specs.Since.{IsSince}
use Rattle.file_reads.specs.Texts.{shop_text}
use Rattle.file_reads.proofs.Causes.{lacks_none}
use Rattle.file_reads.proofs.ShopLemmas as of_shop
use Rattle.file_reads.proofs.SinceLemmas.{since_before}
use Rattle.model_damage.specs.declared.rule.Rule.{Rule}
use Rattle.model_damage.specs.declared.rule.Rule.TheVariants as rule
use Rattle.file_scan.specs.declared.error.OpenError.{OpenError}
use Rattle.file_scan.specs.declared.error.OpenError.TheVariants.{Memory, NotAShop, Version, Damaged, Store}
use Rattle.file_scan.specs.Causes.{IsCauseAs, IsOneShop, ShowsBy}
use Rattle.file_scan.specs.Lawful.{AreFit, AreFitAt, IsOfMachine}
use Rattle.file_scan.specs.Read.{tables_of}
use Rattle.file_scan.proofs.CauseLemmas.{one_is_ours}
use Rattle.file_scan.proofs.FitLemmas.{HoldsOfVersion1, HoldsOfVersion2, HoldsOfVersion3, has_tables, of_machine, undamaged_tables}
use Rattle.file_scan.proofs.LimitLemmas.{sound_fits}
use Rattle.file_tables.specs.Begun.{of_this_version}
use Rattle.file_tables.proofs.Upgrades.{upgraded_stands}
use Rattle.file_open.specs.Migrated.{IsOfVersion}
use Rattle.file_open.specs.Opened.{IsReason}
use Rattle.file_open.specs.Refusals.{IsDamagedAs, IsReasonAs, IsUnmigrated}
use Rattle.file_open.specs.Supplied.{brought, tables_supplied}
use Rattle.file_open.specs.Upgraded.{HoldsShopAt}
use Rattle.file_open.proofs.Alike.{AreAlike, alike_file, first_of, held_alike, supplied_alike}
use Rattle.file_open.proofs.ItsVersion.{its_row, told_version}
use Rattle.file_open.proofs.Least.{clear}
use Rattle.file_open.proofs.Undamaged.{unbroken, undamaged}
use Rattle.file_open.proofs.Upgraded.{told_as_it_is}

-- the trees of a version show the rows of the tables that it has
of_first : (own : ℕ) → 1 ≤ own → (db : Trees) (t : Tables) → HoldsAt own db t → HoldsOfVersion1 db t
of_first zero from db t h = absurd (omega (arith, from))
of_first (suc own) from db t h = first_of own db t h

of_version2 : (own : ℕ) (db : Trees) (t : Tables) → HoldsAt own db t → 2 ≤ own → HoldsOfVersion2 db t
of_version2 zero db t h late = absurd (omega (arith, late))
of_version2 (suc zero) db t h late = absurd (omega (arith, late))
of_version2 (suc (suc zero)) db t h late = record { releases = h.shown.1.1.1.1.1.1.1.1.1.1.1.1.1.1.1.1.1.0; exits = h.shown.1.1.1.1.1.1.1.1.1.1.1.1.1.1.1.1.1.1.0 }
of_version2 (suc (suc (suc own))) db t h late = record { releases = h.shown.1.1.1.1.1.1.1.1.1.1.1.1.1.1.1.1.1.0; exits = h.shown.1.1.1.1.1.1.1.1.1.1.1.1.1.1.1.1.1.1.0 }

of_version3 : (own : ℕ) (db : Trees) (t : Tables) → HoldsAt own db t → 3 ≤ own → HoldsOfVersion3 db t
of_version3 zero db t h late = absurd (omega (arith, late))
of_version3 (suc zero) db t h late = absurd (omega (arith, late))
of_version3 (suc (suc zero)) db t h late = absurd (omega (arith, late))
of_version3 (suc (suc (suc own))) db t h late = record { budgets = h.shown.1.1.1.1.1.1.1.1.1.1.1.1.1.1.1.1.1.1.1.0; spents = h.shown.1.1.1.1.1.1.1.1.1.1.1.1.1.1.1.1.1.1.1.1.0; discounts = h.shown.1.1.1.1.1.1.1.1.1.1.1.1.1.1.1.1.1.1.1.1.1.0 }

module _ (own : ℕ) (first : 1 ≤ own) (last : own ≤ this_version) (head : ShopRow) (t : Tables) (s : State) (ks : List Kept) (c : Connected) (its : HoldsShopAt own head t s ks c) (version : head.version ≡ own) where
  pub its_version : IsOfVersion own c.now
  its_version = record { known = its.known; tables = t; held = its.held; shop = head; alone = its.stand.shop_is; version_is = version }

  since : IsSince own c.now.schema
  since = record { version = own; from = omega arith; known = last; is = its.known }

  since_first : IsSince 1 c.now.schema
  since_first = since_before 1 own first c.now.schema since

  -- all values are within their limits
  fit : AreFitAt own t
  fit =
      let is = its.typed in
      let all = sound_fits (of_this_version head) (brought own head t) s ks is.first is.organizer is.event is.token (upgraded_stands head (tables_supplied own t) s ks its.stand) its.sound is.rows in
      record {
        shop = head;
        alone = its.stand.shop_is;
        first = version;
        shop_fits = record { organizer = is.organizer; event = is.event; moment = subst IsMoment (sym its.stand.moment) its.sound.range.moment };
        ids = record { ids = subst AllNextIds (sym its.stand.next) its.sound.range.next_ids; token = is.token };
        items = all.items;
        variations = all.variations;
        quotas = all.quotas;
        vouchers = all.vouchers;
        carts = all.carts;
        orders = all.orders;
        positions = all.positions;
        waiting = all.waiting;
        checkin_lists = all.checkin_lists;
        checkins = all.checkins;
        tokens = all.tokens;
        kept = all.kept;
        budgets = all.budgets;
        discounts = all.discounts;
      }

  one_shop : (rows : List Row) → ShowsBy shop_text c.now rows → IsOneShop own rows
  unfolding fit its_version
  one_shop rows shows = (head, fit.shop_fits, fit.ids, version, its_row own c.now its_version rows shows)

  read_whole : (e : OpenError) → IsCauseAs own c.now e → IsOfMachine e
  read_whole Memory h = tt
  read_whole NotAShop (inl none) = absurd (lacks_none of_shop.select_text _ [] (of_shop.select_since c.now.schema since_first) c.now.schema refl none)
  read_whole NotAShop (inr h) = absurd (has_tables own first c.now.schema since h.2.1)
  read_whole (Version told) h = absurd (one_is_ours own h.0 (one_shop h.0 h.1) told h.2)
  read_whole (Damaged rule.Shop) h = absurd (h.2.2 (one_shop h.0 h.1))
  read_whole (Damaged rule.Limits) h = absurd (undamaged_tables t c.now.trees (of_first own first c.now.trees t its.held) (of_version2 own c.now.trees t its.held) (of_version3 own c.now.trees t its.held) fit (h.2.2 since))
  read_whole (Damaged rule.Ids) h = absurd h
  read_whole (Damaged rule.Names) h = absurd h
  read_whole (Damaged rule.Positions) h = absurd h
  read_whole (Damaged rule.Headroom) h = absurd h
  read_whole (Damaged rule.Counters) h = absurd h
  read_whole (Damaged rule.Budgets) h = absurd h
  read_whole Store h = tt

  same_rows : (u : Tables) → HoldsAt own c.now.trees u → AreAlike t u
  same_rows u = go own first its.held
    where
      go : (version : ℕ) → 1 ≤ version → HoldsAt version c.now.trees t → HoldsAt version c.now.trees u → AreAlike t u
      go zero from h k = absurd (omega (arith, from))
      go (suc version) from h k = held_alike version c.now.trees t u h k

  none_broken : (broken : Rule) → IsDamagedAs own broken c.now.trees → ⊥
  none_broken broken d =
      let full = d.broken.full in
      let alike : AreAlike (tables_supplied own t) (tables_of full) = subst (AreAlike (tables_supplied own t)) (sym d.broken.is) (supplied_alike own t (tables_of d.read) (same_rows (tables_of d.read) d.held)) in
      unbroken head (tables_supplied own t) s ks its.stand full (alike_file (tables_supplied own t) full alike) d.broken.order its.typed.numbered its.typed.organizer its.typed.event its.sound broken d.broken.least

  pub whole_as : (e : OpenError) → IsReasonAs own c.now e → IsOfMachine e
  whole_as Memory h = tt
  whole_as NotAShop h = read_whole NotAShop h
  whole_as (Version told) h = read_whole (Version told) h
  whole_as (Damaged broken) (inl h) = read_whole (Damaged broken) h
  whole_as (Damaged broken) (inr h) = absurd (none_broken broken (h.1 its.known))
  whole_as Store h = tt

-- one of this program's version is opened
opened_whole : (head : ShopRow) (t : Tables) (s : State) (ks : List Kept) (c : Connected) → HoldsShopAt this_version head t s ks c → head.version ≡ this_version → (e : OpenError) → IsReason c.now e → IsOfMachine e
opened_whole head t s ks c its version =
    let is = its.typed in
    let limits : AreFit t = fit this_version (omega arith) (omega arith) head t s ks c its version in
    clear c.now its.known (of_machine c.now its.known t its.held.shown limits) (undamaged head t s ks its.stand c.now.trees its.held.shown is.numbered is.organizer is.event its.sound)

either : (n m : ℕ) → n ≤ m → (n < m) ⊎ (n ≡ m)
either zero zero le = inr refl
either zero (suc m) le = inl (omega arith)
either (suc n) zero le = absurd (omega (arith, le))
either (suc n) (suc m) le = elim (either n m (omega (arith, le))) [ inl below ↦ inl (omega (arith, below)) | inr same ↦ inr (ap suc same) ]

-- and each is brought to it
pub migrated_whole : (from : ℕ) → 1 ≤ from → from ≤ this_version → (head : ShopRow) (t : Tables) (s : State) (ks : List Kept) (c : Connected) → HoldsShopAt from head t s ks c → head.version ≡ from
    → (e : OpenError) → IsUnmigrated c.now e → IsOfMachine e
migrated_whole from first last head t s ks c its version e (inr (told, low, high, cause, why)) =
    let is : from ≡ told = told_version from c.now (its_version from first last head t s ks c its version) told cause in
    whole_as from first last head t s ks c its version e (subst (λ v. IsReasonAs v c.now e) (sym is) why)
migrated_whole from first last head t s ks c its version e (inl (why, other)) = elim (either from this_version last) [
  | inl earlier ↦
      let differs : head.version ≢ this_version = λ is. let same : from ≡ this_version = sym version ∙ is in omega (arith, earlier, same) in
      elim (told_as_it_is from head t s ks c c its differs e why) [ inl told ↦ absurd (other (from, first, earlier, told ∙ ap (λ v. Version (pos v)) version)) | inr of ↦ of ]
  | inr is ↦ opened_whole head t s ks c (subst (λ v. HoldsShopAt v head t s ks c) is its) (version ∙ is) e why
]
