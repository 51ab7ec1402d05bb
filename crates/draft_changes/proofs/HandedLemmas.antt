-- That what a draft hands on is what its changes shift.
use Rattle.std.proofs.Common.{append_assoc, ◌≡◌, ◌≢◌, ℕ, zero, suc, ◌+◌, ◌<◌, ◌≤◌, ◌⊎◌, inl, inr, Bool, true, false, eqb, List, [], ◌∷◌, ◌++◌, length, take, get_or, map, Option, Some, None, refl, sym, ap, ap₂, ◌∙◌, subst, arith}
use Rattle.std.specs.Prelude.{if◌then◌else◌, ◌||◌, flat_map, is_some}
use Rattle.std.proofs.lemmas.Bool.{cases_lt}
use Rattle.std.proofs.lemmas.Bool.Decides.{nat_tests, eqb_tells}
use Rattle.std.proofs.lemmas.List.{get_or_default}
use Rattle.book_log.specs.Places.{further}
use Rattle.base_tables.specs.Tables.{has, row_at, InOrderFrom, AreInOrder}
use Rattle.base_tables.specs.Rising.{rising}
use Rattle.base_tables.proofs.Appended.{has-append, neither}
use Rattle.base_tables.proofs.Edits.{row_at-with_row, row_at-without_row}
use Rattle.base_tables.proofs.Places.{at_least}
use Rattle.base_tables.proofs.RisingLemmas.{has-rising, rising_in_order}
use Rattle.model_catalogue.specs.declared.rows.Quota.{Quota}
use Rattle.model_catalogue.specs.CatalogueLists.{quota_at}
use Rattle.model_rows.specs.declared.changes.Change.{Change}
use Rattle.model_rows.specs.declared.changes.Change.TheVariants.{PutItem, PutVariation, PutQuota, PutVoucher, PutCart, PutOrder, PutPosition, PutWaiting, DropVoucher, DropCart, DropWaiting, PutCheckinList, PutCheckin}
use Rattle.model_rows.specs.declared.rows.Usage.{Usage}
use Rattle.model_rows.specs.declared.rows.Voucher.{Voucher}
use Rattle.model_rows.specs.Change.{after_change, after_all}
use Rattle.model_rows.specs.Lists.{Lists, voucher_at}
use Rattle.model_rows.specs.Usage.{usage_of, redeemed, spent}
use Rattle.draft_counts.specs.Counts.{value_at}
use Rattle.draft_counts.specs.Logs.{Log, rows_of}
use Rattle.draft_counts.proofs.Values.{value_here}
use Rattle.book_tally.specs.declared.amount.Uses.{Uses}
use Rattle.book_tally.specs.declared.deltas.QuotaDelta.{QuotaDelta}
use Rattle.book_tally.specs.declared.deltas.VoucherDelta.{VoucherDelta}
use Rattle.book_tally.specs.declared.deltas.CountDeltas.{CountDeltas}
use Rattle.book_tally.specs.declared.tally.Count.{Count}
use Rattle.book_tally.specs.Amounts.{nothing, plus, no_uses}
use Rattle.book_tally.specs.Counts.{newest, came, went, part_at}
use Rattle.book_tally.specs.CountDeltas.{come_by, gone_by, come_used, gone_used, come_spent, gone_spent, stands_by, quota_delta_at, voucher_delta_at, AreCountDeltas}
use Rattle.draft_changes.specs.DraftState.{IsCounted, AreKept}
use Rattle.draft_changes.specs.Handed.{vouchers_by, AreNoted, quota_shift, voucher_shift}

-- ---- keys of a journal
pub keys_more : {A : Type 0} (old : List ℕ) (journal : List (Count A)) (i : ℕ) (d : Count A) (keys : List ℕ) → i < length journal → keys ≡ old ++ map (λ (c : Count A). c.id) (take i journal) → keys ++ (get_or journal i d).id ∷ [] ≡ old ++ map (λ (c : Count A). c.id) (take (i + 1) journal)
keys_more {A} old journal i d keys lt is =
    ap (λ (l : List ℕ). l ++ (get_or journal i d).id ∷ []) is
    ∙ behind old (map (λ (c : Count A). c.id) (take i journal)) (get_or journal i d).id
    ∙ ap (λ (l : List ℕ). old ++ l) (each journal i lt)
  where
    behind : (xs ys : List ℕ) (z : ℕ) → (xs ++ ys) ++ z ∷ [] ≡ xs ++ (ys ++ z ∷ [])
    behind [] ys z = refl
    behind (x ∷ xs) ys z = ap (λ (l : List ℕ). x ∷ l) (behind xs ys z)

    each : (journal : List (Count A)) (i : ℕ) → i < length journal → map (λ (c : Count A). c.id) (take i journal) ++ (get_or journal i d).id ∷ [] ≡ map (λ (c : Count A). c.id) (take (i + 1) journal)
    each [] i lt = absurd (omega arith)
    each (c ∷ cs) zero lt = refl
    each (c ∷ cs) (suc i) lt =
        let next : suc (i + 1) ≡ suc i + 1 = omega arith in
        ap (λ (l : List ℕ). c.id ∷ l) (each cs i (omega arith)) ∙ ap (λ (n : ℕ). map (λ (e : Count A). e.id) (take n (c ∷ cs))) next

-- a key to which nothing was added
untouched_key : {A : Type 0} (key : ℕ) (journal : List (Count A)) → has key (map (λ (c : Count A). c.id) journal) ≡ false → newest key journal ≡ None
untouched_key key [] absent = refl
untouched_key {A} key (c ∷ cs) absent =
    let both = neither (eqb c.id key) (has key (map (λ (d : Count A). d.id) cs)) absent in
    ap (further (eqb c.id key)) (untouched_key key cs both.1) ∙ ap (λ (b : Bool). further b None) both.0

-- ---- places
-- the row at a place
pick : {T : Type 0} (rows : List T) (i : ℕ) → i < length rows → T
pick [] i lt = absurd (omega arith)
pick (r ∷ rs) zero lt = r
pick (r ∷ rs) (suc i) lt = pick rs i (omega arith)

pub past_end : {T A : Type 0} (none : A) (f : T → A) (rows : List T) (i : ℕ) → length rows ≤ i → value_at none f rows i ≡ none
past_end none f [] i le = refl
past_end none f (r ∷ rs) zero le = absurd (omega arith)
past_end none f (r ∷ rs) (suc i) le = past_end none f rs i (omega arith)

rise : {T : Type 0} (key : T → ℕ) (n : ℕ) (rows : List T) (i j : ℕ) (d : T) → InOrderFrom key n rows → i < j → j < length rows → key (get_or rows i d) < key (get_or rows j d)
rise key n [] i j d h lt within = absurd (omega arith)
rise key n (r ∷ rs) i zero d h lt within = absurd (omega arith)
rise key n (r ∷ rs) zero (suc j) d h lt within = omega (arith, at_least key (key r + 1) rs h.1 j d (omega arith))
rise key n (r ∷ rs) (suc i) (suc j) d h lt within = rise key (key r + 1) rs i j d h.1 (omega arith) (omega arith)

-- the place of the quota of an id
record IsAt (quotas : List Quota) (quota : Quota) : Type 0 where
  place : ℕ
  within : place < length quotas
  is : get_or quotas place quota ≡ quota

place_of : (id : ℕ) (quotas : List Quota) (quota : Quota) → row_at (λ r. r.id) id quotas ≡ Some quota → IsAt quotas quota
place_of id [] quota found = absurd (cc found)
place_of id (q ∷ qs) quota found = by_test (eqb q.id id) found (place_of id qs quota)
  where
    by_test : (b : Bool) → (let o : Option Quota = if b then Some q else row_at (λ r. r.id) id qs in o ≡ Some quota) → (row_at (λ r. r.id) id qs ≡ Some quota → IsAt qs quota) → IsAt (q ∷ qs) quota
    by_test true here rest = record { place = 0; within = omega arith; is = cc here }
    by_test false here rest = let more = rest here in record { place = suc more.place; within = omega (arith, more.within); is = more.is }

-- ---- the quotas
module _ (quotas : List Quota) (counts : List (Count Usage)) where
  abbrev one : ℕ → Quota → QuotaDelta
  one place quota = record { quota = quota.id; come = came nothing place counts; gone = went nothing place counts }

  at_place : (place : ℕ) (d : Quota) → place < length quotas → quota_shift quotas counts place ≡ one place (get_or quotas place d) ∷ []
  at_place place d lt = value_here [] (λ (q : Quota). one place q ∷ []) quotas place d lt

  abbrev shifted : ℕ → Usage → Usage → List QuotaDelta
  shifted id come gone = record { quota = id; come = come; gone = gone } ∷ []

  -- what is told of the quota there
  pub told_at : (place : ℕ) (q : Quota) (come gone : Usage) → place < length quotas → q ≡ get_or quotas place q → come ≡ came nothing place counts → gone ≡ went nothing place counts → ◌≡◌ {A = List QuotaDelta} (record { quota = q.id; come = come; gone = gone } ∷ []) (quota_shift quotas counts place)
  told_at place q come gone lt is comes goes =
      ap₂ (λ (a b : Usage). shifted q.id a b) comes goes ∙ ap (λ (r : Quota). one place r ∷ []) is ∙ sym (at_place place q lt)

  pub shifts_rise : (n : ℕ) (places : List ℕ) (m b : ℕ) → InOrderFrom (λ r. r.id) n quotas → InOrderFrom (λ p. p) m places → ((p : ℕ) (d : Quota) → m ≤ p → p < length quotas → b ≤ (get_or quotas p d).id) → InOrderFrom (λ s. s.quota) b (flat_map (quota_shift quotas counts) places)
  shifts_rise n [] m b order h low = tt
  shifts_rise n (p ∷ ps) m b order h low = elim (cases_lt p (length quotas)) [
    | inl lt ↦
        let d = pick quotas p lt in
        let q = get_or quotas p d in
        let rest = shifts_rise n ps (p + 1) (q.id + 1) order h.1 (λ p' d' le within. above p' d' le within lt) in
        subst (λ (l : List QuotaDelta). InOrderFrom (λ (s : QuotaDelta). s.quota) b (l ++ flat_map (quota_shift quotas counts) ps)) (sym (at_place p d lt)) (low p d h.0 lt, rest)
    | inr past ↦
        let rest = shifts_rise n ps (p + 1) b order h.1 (λ p' d' le within. low p' d' (omega (arith, h.0, le)) within) in
        subst (λ (l : List QuotaDelta). InOrderFrom (λ (s : QuotaDelta). s.quota) b (l ++ flat_map (quota_shift quotas counts) ps)) (sym (past_end [] (λ (q : Quota). one p q ∷ []) quotas p past)) rest
  ]
    where
      above : (p' : ℕ) (d' : Quota) → p + 1 ≤ p' → p' < length quotas → (lt : p < length quotas) → (get_or quotas p (pick quotas p lt)).id + 1 ≤ (get_or quotas p' d').id
      above p' d' le within lt =
          let same = ap (λ (q : Quota). q.id) (get_or_default quotas p (pick quotas p lt) d' lt) in
          omega (arith, rise (λ (r : Quota). r.id) n quotas p p' d' order (omega (arith, le)) within, same)

  pub shift_found : (n : ℕ) (places : List ℕ) (place : ℕ) (quota : Quota) → InOrderFrom (λ r. r.id) n quotas → place < length quotas → get_or quotas place quota ≡ quota → quota_delta_at quota.id (flat_map (quota_shift quotas counts) places) ≡ (if has place places then Some (one place quota) else None)
  shift_found n [] place quota order within is = refl
  shift_found n (p ∷ ps) place quota order within is = by_place (cases_lt p (length quotas)) (shift_found n ps place quota order within is)
    where
      goal : List QuotaDelta → Type 0
      goal l = quota_delta_at quota.id (l ++ flat_map (quota_shift quotas counts) ps) ≡ (if eqb p place || has place ps then Some (one place quota) else None)

      here : (lt : p < length quotas) → ((eqb p place ≡ true) × (p ≡ place)) ⊎ ((eqb p place ≡ false) × (p ≢ place)) → quota_delta_at quota.id (flat_map (quota_shift quotas counts) ps) ≡ (if has place ps then Some (one place quota) else None) → goal (one p (get_or quotas p quota) ∷ [])
      here lt (inl same) rest =
          let row : get_or quotas p quota ≡ quota = ap (λ (n : ℕ). get_or quotas n quota) same.1 ∙ is in
          let own : eqb (get_or quotas p quota).id quota.id ≡ true = grind (arith, nat_tests, ap (λ (q : Quota). q.id) row) in
          let first : one p (get_or quotas p quota) ≡ one place quota = ap (one p) row ∙ ap (λ (n : ℕ). one n quota) same.1 in
          rw (own, same.0) (ap (λ (s : QuotaDelta). Some s) first)
      here lt (inr other) rest =
          let apart : eqb (get_or quotas p quota).id quota.id ≡ false = differ (cases_lt p place) in
          rw (apart, other.0) rest
        where
          differ : (p < place) ⊎ (place ≤ p) → eqb (get_or quotas p quota).id quota.id ≡ false
          differ (inl below) = let less = rise (λ (r : Quota). r.id) n quotas p place quota order below within in grind (arith, nat_tests, less, ap (λ (q : Quota). q.id) is)
          differ (inr above) = let less = rise (λ (r : Quota). r.id) n quotas place p quota order (grind (arith, nat_tests, above, other.1)) lt in grind (arith, nat_tests, less, ap (λ (q : Quota). q.id) is)

      by_place : (p < length quotas) ⊎ (length quotas ≤ p) → quota_delta_at quota.id (flat_map (quota_shift quotas counts) ps) ≡ (if has place ps then Some (one place quota) else None) → goal (quota_shift quotas counts p)
      by_place (inl lt) rest = subst goal (sym (at_place p quota lt)) (here lt (eqb_tells p place) rest)
      by_place (inr past) rest =
          let other : eqb p place ≡ false = grind (arith, nat_tests, past, within) in
          subst goal (sym (past_end [] (λ (q : Quota). one p q ∷ []) quotas p past)) (rw other rest)

  -- what is told of a quota is what came and went of its place
  pub told : (n : ℕ) (places : List ℕ) (place : ℕ) (quota : Quota) → InOrderFrom (λ r. r.id) n quotas → place < length quotas → get_or quotas place quota ≡ quota → places ≡ rising (map (λ c. c.id) counts)
      → (come_by (quota_delta_at quota.id (flat_map (quota_shift quotas counts) places)) ≡ came nothing place counts) × (gone_by (quota_delta_at quota.id (flat_map (quota_shift quotas counts) places)) ≡ went nothing place counts)
  told n places place quota order within is all =
      let found = shift_found n places place quota order within is in
      let known : has place places ≡ has place (map (λ c. c.id) counts) = ap (has place) all ∙ has-rising place (map (λ c. c.id) counts) in
      let tells = by_test (has place places) (λ none. untouched_key place counts (sym known ∙ none)) in
      (ap come_by found ∙ tells.0, ap gone_by found ∙ tells.1)
    where
      by_test : (b : Bool) → (b ≡ false → newest place counts ≡ None) → (come_by (if b then Some (one place quota) else None) ≡ came nothing place counts) × (gone_by (if b then Some (one place quota) else None) ≡ went nothing place counts)
      by_test true none = (refl, refl)
      by_test false none = (sym (ap (part_at nothing (λ c. c.come) counts) (none refl)), sym (ap (part_at nothing (λ c. c.gone) counts) (none refl)))

-- ---- the vouchers
module _ (lists : Lists) (uses : List (Count Uses)) where
  abbrev of_voucher : ℕ → VoucherDelta
  of_voucher id = record {
    voucher = id;
    come = (came no_uses id uses).used;
    gone = (went no_uses id uses).used;
    spent_come = (came no_uses id uses).spent;
    spent_gone = (went no_uses id uses).spent;
    stands = is_some (voucher_at id lists);
  }

  pub uses_rise : (n : ℕ) (ids : List ℕ) → InOrderFrom (λ k. k) n ids → InOrderFrom (λ s. s.voucher) n (flat_map (voucher_shift lists uses) ids)
  uses_rise n [] h = tt
  uses_rise n (id ∷ ids) h = (h.0, uses_rise (id + 1) ids h.1)

  pub use_found : (ids : List ℕ) (v : ℕ) → voucher_delta_at v (flat_map (voucher_shift lists uses) ids) ≡ (if has v ids then Some (of_voucher v) else None)
  use_found [] v = refl
  use_found (id ∷ ids) v = by_id (eqb_tells id v) (use_found ids v)
    where
      by_id : ((eqb id v ≡ true) × (id ≡ v)) ⊎ ((eqb id v ≡ false) × (id ≢ v)) → voucher_delta_at v (flat_map (voucher_shift lists uses) ids) ≡ (if has v ids then Some (of_voucher v) else None) → (let o : Option VoucherDelta = if eqb id v then Some (of_voucher id) else voucher_delta_at v (flat_map (voucher_shift lists uses) ids) in o) ≡ (if eqb id v || has v ids then Some (of_voucher v) else None)
      by_id (inl same) rest = rw same.0 (ap (λ (k : ℕ). Some (of_voucher k)) same.1)
      by_id (inr other) rest = rw other.0 rest

-- a voucher that no change puts or drops stands as it did
pub still_stands : (changes : List Change) (lists : Lists) (v : ℕ) → has v (flat_map vouchers_by changes) ≡ false → voucher_at v (after_all changes lists) ≡ voucher_at v lists
still_stands [] lists v absent = refl
still_stands (change ∷ changes) lists v absent =
    let both = neither (has v (vouchers_by change)) (has v (flat_map vouchers_by changes)) (sym (has-append v (vouchers_by change) (flat_map vouchers_by changes)) ∙ absent) in
    still_stands changes (after_change change lists) v both.1 ∙ one change both.0
  where
    one : (change : Change) → has v (vouchers_by change) ≡ false → voucher_at v (after_change change lists) ≡ voucher_at v lists
    one (PutItem row) none = refl
    one (PutVariation row) none = refl
    one (PutQuota row) none = refl
    one (PutVoucher row) none =
        let other : eqb row.id v ≡ false = (neither (eqb row.id v) false none).0 in
        row_at-with_row (λ (r : Voucher). r.id) v row lists.vouchers ∙ ap (λ (b : Bool). let o : Option Voucher = if b then Some row else voucher_at v lists in o) other
    one (PutCart row) none = refl
    one (PutOrder row) none = refl
    one (PutPosition row) none = refl
    one (PutWaiting row) none = refl
    one (DropVoucher id) none =
        let other : eqb id v ≡ false = (neither (eqb id v) false none).0 in
        row_at-without_row (λ (r : Voucher). r.id) v id lists.vouchers ∙ ap (λ (b : Bool). let o : Option Voucher = if b then None else voucher_at v lists in o) other
    one (DropCart id) none = refl
    one (DropWaiting id) none = refl
    one (PutCheckinList row) none = refl
    one (PutCheckin row) none = refl

-- ---- all of it
module _ (log : Log) (at : ℕ) (counts : List (Count Usage)) (uses : List (Count Uses)) (noted : List ℕ) where
  abbrev quotas : List Quota
  quotas = log.base.catalogue.quotas

  pub handed : IsCounted at log counts → AreKept at log uses → AreNoted log.changes noted → AreInOrder (λ r. r.id) log.base.catalogue.quotas → (rows_of log).catalogue ≡ log.base.catalogue
      → (places ids : List ℕ) (deltas : CountDeltas) → places ≡ rising (map (λ c. c.id) counts) → ids ≡ rising (noted ++ map (λ c. c.id) uses)
      → deltas.quotas.items ≡ flat_map (quota_shift log.base.catalogue.quotas counts) places → deltas.vouchers.items ≡ flat_map (voucher_shift (rows_of log) uses) ids → AreCountDeltas log.base (rows_of log) at deltas
  handed counted kept are order same places ids deltas places_are ids_are quotas_are vouchers_are =
      record {
        quotas = λ q stands. quota_is q (place_of q.id quotas q (ap (quota_at q.id) (sym same) ∙ stands));
        vouchers = λ v. use_is v (has v ids) refl;
        spent = λ v. spent_is v (has v ids) refl;
        stands = λ v. stands_is v (has v ids) refl;
        quota_order = rw quotas_are (shifts_rise quotas counts 0 places 0 0 order (rw places_are (rising_in_order (map (λ c. c.id) counts))) (λ p d le within. omega arith));
        voucher_order = rw vouchers_are (uses_rise (rows_of log) uses 0 ids (rw ids_are (rising_in_order (noted ++ map (λ c. c.id) uses))));
      }
    where
      quota_is : (q : Quota) → IsAt quotas q → plus (usage_of (rows_of log) at q) (gone_by (quota_delta_at q.id deltas.quotas.items)) ≡ plus (usage_of log.base at q) (come_by (quota_delta_at q.id deltas.quotas.items))
      quota_is q found =
          let tells = told quotas counts 0 places found.place q order found.within found.is places_are in
          let value = λ (lists : Lists). value_here nothing (usage_of lists at) quotas found.place q found.within ∙ ap (usage_of lists at) found.is in
          rw quotas_are
          (ap (λ (u : Usage). plus (usage_of (rows_of log) at q) u) tells.1
          ∙ ap (λ (u : Usage). plus u (went nothing found.place counts)) (sym (value (rows_of log)))
          ∙ counted found.place
          ∙ ap (λ (u : Usage). plus u (came nothing found.place counts)) (value log.base)
          ∙ ap (λ (u : Usage). plus (usage_of log.base at q) u) (sym tells.0))

      -- of an id that isn't asked nothing came
      absent : (v : ℕ) → has v ids ≡ false → (has v noted ≡ false) × (newest v uses ≡ None)
      absent v none =
          let both = neither (has v noted) (has v (map (λ (c : Count Uses). c.id) uses)) (sym (has-append v noted (map (λ (c : Count Uses). c.id) uses)) ∙ sym (has-rising v (noted ++ map (λ (c : Count Uses). c.id) uses)) ∙ sym (ap (has v) ids_are) ∙ none) in
          (both.0, untouched_key v uses both.1)

      use_is : (v : ℕ) (b : Bool) → has v ids ≡ b → redeemed v (rows_of log) + gone_used (voucher_delta_at v deltas.vouchers.items) ≡ redeemed v log.base + come_used (voucher_delta_at v deltas.vouchers.items)
      use_is v b is =
          let found : voucher_delta_at v deltas.vouchers.items ≡ (if b then Some (of_voucher (rows_of log) uses v) else None) = ap (voucher_delta_at v) vouchers_are ∙ use_found (rows_of log) uses ids v ∙ ap (λ (x : Bool). if x then Some (of_voucher (rows_of log) uses v) else None) is in
          rw found (by_test b is)
        where
          by_test : (b : Bool) → has v ids ≡ b → redeemed v (rows_of log) + gone_used (if b then Some (of_voucher (rows_of log) uses v) else None) ≡ redeemed v log.base + come_used (if b then Some (of_voucher (rows_of log) uses v) else None)
          by_test true is = ap (λ (u : Uses). u.used) (kept v)
          by_test false is =
              let none = (absent v is).1 in
              let came_none : (came no_uses v uses).used ≡ 0 = ap (λ (o : Option ℕ). (part_at no_uses (λ (c : Count Uses). c.come) uses o).used) none in
              let went_none : (went no_uses v uses).used ≡ 0 = ap (λ (o : Option ℕ). (part_at no_uses (λ (c : Count Uses). c.gone) uses o).used) none in
              omega (arith, ap (λ (u : Uses). u.used) (kept v), came_none, went_none)

      spent_is : (v : ℕ) (b : Bool) → has v ids ≡ b → spent v (rows_of log) + gone_spent (voucher_delta_at v deltas.vouchers.items) ≡ spent v log.base + come_spent (voucher_delta_at v deltas.vouchers.items)
      spent_is v b is =
          let found : voucher_delta_at v deltas.vouchers.items ≡ (if b then Some (of_voucher (rows_of log) uses v) else None) = ap (voucher_delta_at v) vouchers_are ∙ use_found (rows_of log) uses ids v ∙ ap (λ (x : Bool). if x then Some (of_voucher (rows_of log) uses v) else None) is in
          rw found (by_test b is)
        where
          by_test : (b : Bool) → has v ids ≡ b → spent v (rows_of log) + gone_spent (if b then Some (of_voucher (rows_of log) uses v) else None) ≡ spent v log.base + come_spent (if b then Some (of_voucher (rows_of log) uses v) else None)
          by_test true is = ap (λ (u : Uses). u.spent) (kept v)
          by_test false is =
              let none = (absent v is).1 in
              let came_none : (came no_uses v uses).spent ≡ 0 = ap (λ (o : Option ℕ). (part_at no_uses (λ (c : Count Uses). c.come) uses o).spent) none in
              let went_none : (went no_uses v uses).spent ≡ 0 = ap (λ (o : Option ℕ). (part_at no_uses (λ (c : Count Uses). c.gone) uses o).spent) none in
              omega (arith, ap (λ (u : Uses). u.spent) (kept v), came_none, went_none)

      stands_is : (v : ℕ) (b : Bool) → has v ids ≡ b → is_some (voucher_at v (rows_of log)) ≡ stands_by (is_some (voucher_at v log.base)) (voucher_delta_at v deltas.vouchers.items)
      stands_is v b is =
          let found : voucher_delta_at v deltas.vouchers.items ≡ (if b then Some (of_voucher (rows_of log) uses v) else None) = ap (voucher_delta_at v) vouchers_are ∙ use_found (rows_of log) uses ids v ∙ ap (λ (x : Bool). if x then Some (of_voucher (rows_of log) uses v) else None) is in
          rw found (by_test b is)
        where
          by_test : (b : Bool) → has v ids ≡ b → is_some (voucher_at v (rows_of log)) ≡ stands_by (is_some (voucher_at v log.base)) (if b then Some (of_voucher (rows_of log) uses v) else None)
          by_test true is = refl
          by_test false is = ap (λ (o : Option Voucher). is_some o) (still_stands log.changes log.base v (are v (absent v is).0))

-- ---- what is noted
noted_split : (changes : List Change) (change : Change) → flat_map vouchers_by (changes ++ change ∷ []) ≡ flat_map vouchers_by changes ++ (vouchers_by change ++ [])
noted_split [] change = refl
noted_split (c ∷ cs) change = ap (λ (l : List ℕ). vouchers_by c ++ l) (noted_split cs change) ∙ sym (append_assoc (vouchers_by c) (flat_map vouchers_by cs) (vouchers_by change ++ []))

both_absent : (v : ℕ) (xs ys : List ℕ) → has v xs ≡ false → has v ys ≡ false → has v (xs ++ ys) ≡ false
both_absent v xs ys a b = has-append v xs ys ∙ rw a b

pub noted_more : (changes : List Change) (noted : List ℕ) (change : Change) (more : List ℕ) → more ≡ noted ++ vouchers_by change → AreNoted changes noted → AreNoted (changes ++ change ∷ []) more
noted_more changes noted change more is are v absent =
    let both = neither (has v noted) (has v (vouchers_by change)) (sym (has-append v noted (vouchers_by change)) ∙ sym (ap (has v) is) ∙ absent) in
    ap (has v) (noted_split changes change)
    ∙ both_absent v (flat_map vouchers_by changes) (vouchers_by change ++ []) (are v both.0) (both_absent v (vouchers_by change) [] both.1 refl)

-- what was noted before stays noted
pub noted_still : (changes : List Change) (noted more both : List ℕ) → both ≡ noted ++ more → AreNoted changes noted → AreNoted changes both
noted_still changes noted more both is are v absent = are v (neither (has v noted) (has v more) (sym (has-append v noted more) ∙ sym (ap (has v) is) ∙ absent)).0

pub noted_front : (changes : List Change) (noted : List ℕ) (n : ℕ) → AreNoted changes noted → AreNoted (take n changes) noted
noted_front changes noted n are v absent = front changes n (are v absent)
  where
    front : (changes : List Change) (n : ℕ) → has v (flat_map vouchers_by changes) ≡ false → has v (flat_map vouchers_by (take n changes)) ≡ false
    front changes zero none = refl
    front [] (suc n) none = refl
    front (c ∷ cs) (suc n) none =
        let both = neither (has v (vouchers_by c)) (has v (flat_map vouchers_by cs)) (sym (has-append v (vouchers_by c) (flat_map vouchers_by cs)) ∙ none) in
        both_absent v (vouchers_by c) (flat_map vouchers_by (take n cs)) both.0 (front cs n both.1)
