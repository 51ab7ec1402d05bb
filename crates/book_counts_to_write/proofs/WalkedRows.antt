-- The counts that are told by what changes shift are those of the definition.
use Rattle.std.proofs.Common.{◌≡◌, ℕ, ◌+◌, ◌-◌, ◌≤◌, Bool, true, false, not, ◌&&◌, eqb, List, [], ◌∷◌, ◌++◌, map, Option, Some, None, is_some, is_none, refl, sym, ap, ap₂, ◌∙◌, subst, arith}
use Rattle.std.specs.List.{AllByRecursion}
use Rattle.std.proofs.lemmas.Bool.{false≢true}
use Rattle.std.specs.Prelude.{flat_map, if◌then◌else◌, option_map}
use Rattle.base_tables.specs.Rising.{rising}
use Rattle.base_tables.specs.Tables.{has, InOrderFrom, AreInOrder, AreKept}
use Rattle.base_tables.proofs.Edits.{row_at-with_row}
use Rattle.base_tables.proofs.RisingLemmas.{has-rising, rising_in_order}
use Rattle.model_catalogue.specs.declared.rows.Quota.{Quota}
use Rattle.model_catalogue.specs.CatalogueLists.{CatalogueLists, quota_at}
use Rattle.model_rows.specs.declared.changes.Change.{Change}
use Rattle.model_rows.specs.declared.changes.Change.TheVariants.{PutQuota}
use Rattle.model_rows.specs.declared.rows.Usage.{Usage}
use Rattle.model_rows.specs.declared.rows.Voucher.{Voucher}
use Rattle.model_rows.specs.declared.rows.NextIds.{NextIds}
use Rattle.model_rows.specs.declared.count_rows.QuotaCount.{QuotaCount}
use Rattle.model_rows.specs.declared.count_rows.VoucherCount.{VoucherCount}
use Rattle.model_rows.specs.Change.{after_change, after_all}
use Rattle.model_rows.specs.CountRows.{CountRows, same_usage, quota_count, voucher_count, exits_after, counts_after}
use Rattle.model_rows.specs.Kept.{IsKept}
use Rattle.model_rows.specs.Lists.{Lists, State, voucher_at}
use Rattle.model_rows.specs.Usage.{usage_of, redeemed, spent}
use Rattle.model_rows.proofs.EachRow.{all_weaker, key-row_at}
use Rattle.model_rows.proofs.Found.{each_found}
use Rattle.book_tally.specs.declared.deltas.QuotaDelta.{QuotaDelta}
use Rattle.book_tally.specs.declared.deltas.VoucherDelta.{VoucherDelta}
use Rattle.book_tally.specs.declared.deltas.CountDeltas.{CountDeltas}
use Rattle.book_tally.specs.CountDeltas.{AreCountDeltas, come_by, gone_by, come_used, gone_used, come_spent, gone_spent, stands_by, quota_delta_at, voucher_delta_at}
use Rattle.book_tally.specs.Amounts.{nothing, plus}
use Rattle.book_tally.proofs.AmountLemmas.{same_usage as same_amounts, alone as none_more}
use Rattle.book_counts_to_write.specs.Due.{due_quotas}
use Rattle.book_counts_to_write.specs.Told.{AreOrdered, Passage, has_count, has_voucher, quota_told, voucher_told, gone_told, told_if, told_unless}
use Rattle.book_counts_to_write.specs.Walked.{quotas_by, quota_with, quota_after, usage_shifted, same_as, told_by_shift, told_at, voucher_by_shift, voucher_told_by, gone_told_by}
use Rattle.book_counts_to_write.proofs.Absent.{absent_both, alone, absent_none}
use Rattle.book_counts_to_write.proofs.Ordered.{ordered_after}
use Rattle.book_counts_to_write.proofs.Picked.{own_id, chosen}
use Rattle.book_counts_to_write.proofs.ToldRows.{had_none, had_some, some_voucher}
use Rattle.book_counts_to_write.proofs.Undue.{used_alike}

-- what is known of every book
pub ordered_book : (n m : ℕ) (lists : Lists) (cat : CatalogueLists) → IsKept n lists → AreKept (λ q. q.id) m cat.quotas → cat ≡ lists.catalogue → AreOrdered lists
ordered_book n m lists cat k q same = record { quotas = subst (λ (l : CatalogueLists). AreInOrder (λ q. q.id) l.quotas) same q.in_order; vouchers = k.vouchers.in_order; carts = k.carts.in_order }

-- a quota that is found stands
pub found_stands : (id : ℕ) (cat : CatalogueLists) (q : Quota) → quota_at id cat ≡ Some q → quota_at q.id cat ≡ Some q
found_stands id cat q found = ap (λ k. quota_at k cat) (key-row_at (λ (r : Quota). r.id) id cat.quotas q found) ∙ found

-- ---- usages, count by count

-- what came, without what went, is what is used afterwards
shifted_is : (u v : Usage) (o : Option QuotaDelta) → plus u (gone_by o) ≡ plus v (come_by o) → usage_shifted v o ≡ u
shifted_is u v o e =
    same_amounts (usage_shifted v o) u
    (omega (arith, ap (λ (w : Usage). w.paid) e))
    (omega (arith, ap (λ (w : Usage). w.pending) e))
    (omega (arith, ap (λ (w : Usage). w.blocked) e))
    (omega (arith, ap (λ (w : Usage). w.carts) e))
    (omega (arith, ap (λ (w : Usage). w.waiting) e))
    (omega (arith, ap (λ (w : Usage). w.exited) e))

same_self : (u : Usage) → same_usage u u ≡ true
same_self u = rw (own_id u.paid, own_id u.pending, own_id u.blocked, own_id u.carts, own_id u.waiting, own_id u.exited) refl

-- ---- the quota of an id after changes

pub quota_after_is : (id : ℕ) (changes : List Change) (lists : Lists) → quota_after id (quota_at id lists.catalogue) changes ≡ quota_at id (after_all changes lists).catalogue
quota_after_is id [] lists = refl
quota_after_is id (c ∷ cs) lists = ap (λ (o : Option Quota). quota_after id o cs) (step c) ∙ quota_after_is id cs (after_change c lists)
  where
    step : (change : Change) → quota_with id change (quota_at id lists.catalogue) ≡ quota_at id (after_change change lists).catalogue
    step (PutQuota row) = sym (row_at-with_row (λ r. r.id) id row lists.catalogue.quotas)
    step _ = refl

-- one that changes don't put stands as it stood
pub quota_stood : (id : ℕ) (changes : List Change) (lists : Lists) → has id (flat_map quotas_by changes) ≡ false → quota_at id (after_all changes lists).catalogue ≡ quota_at id lists.catalogue
quota_stood id changes lists absent = sym (quota_after_is id changes lists) ∙ unput changes absent
  where
    step : (change : Change) (o : Option Quota) → has id (quotas_by change) ≡ false → quota_with id change o ≡ o
    step (PutQuota row) o none = ap (λ b. if b then Some row else o) (alone row.id id none)
    step _ o none = refl

    unput : (cs : List Change) → has id (flat_map quotas_by cs) ≡ false → quota_after id (quota_at id lists.catalogue) cs ≡ quota_at id lists.catalogue
    unput [] none = refl
    unput (c ∷ cs) none =
        let both = absent_both id (quotas_by c) (flat_map quotas_by cs) none in
        ap (λ (o : Option Quota). quota_after id o cs) (step c (quota_at id lists.catalogue) both.0) ∙ unput cs both.1

-- ---- lists

module _ {T : Type 0} (key : T → ℕ) where
  ids_rise : (n : ℕ) (rows : List T) → InOrderFrom key n rows → InOrderFrom (λ n. n) n (map key rows)
  ids_rise n [] h = tt
  ids_rise n (r ∷ rs) h = (h.0, ids_rise (key r + 1) rs h.1)

  by_ids : {U : Type 0} (f : T → List U) (g : ℕ → List U) (rows : List T) → AllByRecursion (λ r. f r ≡ g (key r)) rows → flat_map f rows ≡ flat_map g (map key rows)
  by_ids f g [] all = refl
  by_ids {U} f g (r ∷ rs) all = ap₂ (λ (a b : List U). a ++ b) all.0 (by_ids f g rs all.1)

rises : (ids given : List ℕ) → ids ≡ rising given → AreInOrder (λ n. n) ids
rises ids given is = rw is (rising_in_order given)

-- ---- a walk

module _ (state : State) (changes : List Change) (next : NextIds) (at : ℕ) (past : state.moment ≤ at) (deltas : CountDeltas) (order : AreOrdered state.lists) (are : AreCountDeltas state.lists (after_all changes state.lists) at deltas) where
  abbrev before : Lists
  before = state.lists

  abbrev after : Lists
  after = after_all changes state.lists

  abbrev later : State
  later = record { lists = after; next = next; moment = at }

  abbrev both : Passage
  both = record { before = state; after = later }

  orders : AreOrdered after
  orders = ordered_after changes state.lists order

  -- ---- its quotas

  abbrev quotas : List QuotaDelta
  quotas = deltas.quotas.items

  one_quota : (id : ℕ) (o : Option Quota) → quota_at id after.catalogue ≡ o → told_if (told_by_shift state at quotas) o ≡ told_if (quota_told both) o
  one_quota id None found = refl
  one_quota id (Some q) found =
      let usage : usage_shifted (usage_of before at q) (quota_delta_at q.id quotas) ≡ usage_of after at q = shifted_is (usage_of after at q) (usage_of before at q) (quota_delta_at q.id quotas) (are.quotas q (found_stands id after.catalogue q found)) in
      ap (λ (u : Usage). told_unless (has_count state (record { quota = q.id; usage = u })) (record { quota = q.id; usage = u })) usage

  each_quota : (ids : List ℕ) → flat_map (told_at state changes at quotas) ids ≡ flat_map (λ id. told_if (quota_told both) (quota_at id after.catalogue)) ids
  each_quota [] = refl
  each_quota (id ∷ ids) = ap₂ (λ (a b : List QuotaCount). a ++ b) (one_quota id (quota_at id after.catalogue) refl) (each_quota ids)

  -- a quota that isn't asked is used as before
  unasked : (q : Quota) → quota_at q.id after.catalogue ≡ Some q → has q.id (map (λ s. s.quota) quotas) ≡ false → has q.id (flat_map quotas_by changes) ≡ false → has q.id (due_quotas state.moment at before) ≡ false → quota_told both q ≡ []
  unasked q found unshifted unput undue =
      let stood : quota_at q.id before.catalogue ≡ Some q = sym (quota_stood q.id changes before unput) ∙ found in
      let none = absent_none (λ (s : QuotaDelta). s.quota) q.id quotas unshifted in
      let shift : plus (usage_of after at q) nothing ≡ plus (usage_of before at q) nothing = subst (λ (o : Option QuotaDelta). plus (usage_of after at q) (gone_by o) ≡ plus (usage_of before at q) (come_by o)) none (are.quotas q found) in
      let used : usage_of after at q ≡ usage_of before state.moment q = sym (none_more (usage_of after at q)) ∙ shift ∙ none_more (usage_of before at q) ∙ used_alike state.moment at past before q stood undue order in
      let known : true ≡ has_count state (quota_count later q) =
      had_some state (quota_count later q) before.catalogue refl order.quotas q state.moment (usage_of before state.moment q) true stood refl refl
      (sym (ap (λ u. same_usage u (usage_of before state.moment q)) used ∙ same_self (usage_of before state.moment q))) in
      ap (λ b. told_unless b (quota_count later q)) (sym known)

  pub quotas_walked : (rows : List QuotaCount) (put due ids : List ℕ) → put ≡ rising (flat_map quotas_by changes) → due ≡ rising (due_quotas state.moment at before) → ids ≡ rising (map (λ s. s.quota) quotas ++ put ++ due) → rows ≡ flat_map (told_at state changes at quotas) ids → rows ≡ (counts_after state later).quotas
  quotas_walked rows put due ids put_is due_is ids_are rows_are =
      rows_are ∙ each_quota ids
      ∙ chosen (λ (q : Quota). q.id) (quota_count later) (λ c. not (has_count state c)) after.catalogue.quotas ids (rises ids (map (λ s. s.quota) quotas ++ put ++ due) ids_are) orders.quotas others
    where
      others : (q : Quota) → quota_at q.id after.catalogue ≡ Some q → has q.id ids ≡ false → quota_told both q ≡ []
      others q found absent =
          let all = absent_both q.id (map (λ s. s.quota) quotas ++ put) due (sym (has-rising q.id (map (λ s. s.quota) quotas ++ put ++ due)) ∙ ap (has q.id) (sym ids_are) ∙ absent) in
          let two = absent_both q.id (map (λ s. s.quota) quotas) put all.0 in
          unasked q found two.0
          (sym (has-rising q.id (flat_map quotas_by changes)) ∙ ap (has q.id) (sym put_is) ∙ two.1)
          (sym (has-rising q.id (due_quotas state.moment at before)) ∙ ap (has q.id) (sym due_is) ∙ all.1)

  -- ---- its vouchers

  abbrev vouchers : List VoucherDelta
  vouchers = deltas.vouchers.items

  found_each : AllByRecursion (λ s. voucher_delta_at s.voucher vouchers ≡ Some s) vouchers
  found_each = each_found (λ (s : VoucherDelta). s.voucher) 0 vouchers are.voucher_order

  module _ (s : VoucherDelta) (given : voucher_delta_at s.voucher vouchers ≡ Some s) where
    stands_as_told : is_some (voucher_at s.voucher after) ≡ s.stands
    stands_as_told = are.stands s.voucher ∙ ap (stands_by (is_some (voucher_at s.voucher before))) given

    used : (redeemed s.voucher before + s.come) - s.gone ≡ redeemed s.voucher after
    used =
        let shift : redeemed s.voucher after + s.gone ≡ redeemed s.voucher before + s.come = subst (λ (o : Option VoucherDelta). redeemed s.voucher after + gone_used o ≡ redeemed s.voucher before + come_used o) given (are.vouchers s.voucher) in
        omega (arith, shift)

    given_out : (spent s.voucher before + s.spent_come) - s.spent_gone ≡ spent s.voucher after
    given_out =
        let shift : spent s.voucher after + s.spent_gone ≡ spent s.voucher before + s.spent_come = subst (λ (o : Option VoucherDelta). spent s.voucher after + gone_spent o ≡ spent s.voucher before + come_spent o) given (are.spent s.voucher) in
        omega (arith, shift)

    -- what is told of a voucher of these counts
    abbrev told_of : ℕ → ℕ → ℕ → List VoucherCount
    told_of id n cents = told_unless (has_voucher state (record { voucher = id; redeemed = n; spent = cents })) (record { voucher = id; redeemed = n; spent = cents })

    one_voucher : (o : Option Voucher) → voucher_at s.voucher after ≡ o → voucher_told_by state s ≡ told_if (voucher_told both) o
    one_voucher None found =
        let gone : s.stands ≡ false = sym stands_as_told ∙ ap is_some found in
        ap (λ b. if b then told_unless (has_voucher state (voucher_by_shift state s)) (voucher_by_shift state s) else []) gone
    one_voucher (Some v) found =
        let stays : s.stands ≡ true = sym stands_as_told ∙ ap is_some found in
        let id : s.voucher ≡ v.id = sym (key-row_at (λ (r : Voucher). r.id) s.voucher after.vouchers v found) in
        ap (λ b. if b then told_unless (has_voucher state (voucher_by_shift state s)) (voucher_by_shift state s) else []) stays
        ∙ ap₂ (λ (n cents : ℕ). told_of s.voucher n cents) used given_out
        ∙ ap (λ (k : ℕ). told_of k (redeemed k after) (spent k after)) id

    one_gone : (o : Option Voucher) → voucher_at s.voucher before ≡ o → gone_told_by state s ≡ told_if (gone_told both) o
    one_gone None found = ap (λ (o : Option Voucher). if not s.stands && is_some o then s.voucher ∷ [] else []) found ∙ ap (λ b. if b then s.voucher ∷ [] else []) (and_false (not s.stands))
      where
        and_false : (b : Bool) → (b && false) ≡ false
        and_false true = refl
        and_false false = refl
    one_gone (Some v) found =
        let id : s.voucher ≡ v.id = sym (key-row_at (λ (r : Voucher). r.id) s.voucher before.vouchers v found) in
        ap (λ (o : Option Voucher). if not s.stands && is_some o then s.voucher ∷ [] else []) found
        ∙ ap (λ b. if not b && true then s.voucher ∷ [] else []) (sym stands_as_told)
        ∙ by_row (voucher_at s.voucher after)
        ∙ ap (λ k. if is_none (voucher_at k after) then k ∷ [] else []) id
      where
        by_row : (o : Option Voucher) → (if not (is_some o) && true then s.voucher ∷ [] else []) ≡ (if is_none o then s.voucher ∷ [] else [])
        by_row None = refl
        by_row (Some v) = refl

  -- a voucher that no shift names stands where it stood, is redeemed as often, and as much is spent of it
  module _ (id : ℕ) (absent : has id (map (λ s. s.voucher) vouchers) ≡ false) where
    none : voucher_delta_at id vouchers ≡ None
    none = absent_none (λ (s : VoucherDelta). s.voucher) id vouchers absent

    as_it_stood : is_some (voucher_at id after) ≡ is_some (voucher_at id before)
    as_it_stood = are.stands id ∙ ap (stands_by (is_some (voucher_at id before))) none

    used_as_before : redeemed id after ≡ redeemed id before
    used_as_before =
        let shift : redeemed id after + 0 ≡ redeemed id before + 0 = subst (λ (o : Option VoucherDelta). redeemed id after + gone_used o ≡ redeemed id before + come_used o) none (are.vouchers id) in
        omega (arith, shift)

    spent_as_before : spent id after ≡ spent id before
    spent_as_before =
        let shift : spent id after + 0 ≡ spent id before + 0 = subst (λ (o : Option VoucherDelta). spent id after + gone_spent o ≡ spent id before + come_spent o) none (are.spent id) in
        omega (arith, shift)

  unnamed : (v : Voucher) → voucher_at v.id after ≡ Some v → has v.id (map (λ s. s.voucher) vouchers) ≡ false → voucher_told both v ≡ []
  unnamed v found absent = by_row (voucher_at v.id before) refl
    where
      by_row : (o : Option Voucher) → voucher_at v.id before ≡ o → voucher_told both v ≡ []
      by_row None stood = absurd (false≢true (sym (ap is_some stood) ∙ sym (as_it_stood v.id absent) ∙ ap is_some found))
      by_row (Some old) stood =
          let known : true ≡ has_voucher state (voucher_count later v) =
          some_voucher state (voucher_count later v) order.vouchers old (redeemed v.id before) (spent v.id before) true stood refl refl
          (sym (ap₂ (λ (n cents : ℕ). eqb n (redeemed v.id before) && eqb cents (spent v.id before)) (used_as_before v.id absent) (spent_as_before v.id absent)
          ∙ ap₂ (λ (a b : Bool). a && b) (own_id (redeemed v.id before)) (own_id (spent v.id before)))) in
          ap (λ b. told_unless b (voucher_count later v)) (sym known)

  ungone : (v : Voucher) → voucher_at v.id before ≡ Some v → has v.id (map (λ s. s.voucher) vouchers) ≡ false → gone_told both v ≡ []
  ungone v found absent = by_row (voucher_at v.id after) (as_it_stood v.id absent ∙ ap is_some found)
    where
      by_row : (o : Option Voucher) → is_some o ≡ true → (if is_none o then v.id ∷ [] else []) ≡ []
      by_row None stays = absurd (false≢true stays)
      by_row (Some row) stays = refl

  abbrev named : List ℕ
  named = map (λ s. s.voucher) vouchers

  named_rise : AreInOrder (λ n. n) named
  named_rise = ids_rise (λ (s : VoucherDelta). s.voucher) 0 vouchers are.voucher_order

  pub vouchers_walked : flat_map (voucher_told_by state) vouchers ≡ (counts_after state later).vouchers
  vouchers_walked =
      by_ids (λ (s : VoucherDelta). s.voucher) (voucher_told_by state) (λ id. told_if (voucher_told both) (voucher_at id after)) vouchers
      (all_weaker (λ s. voucher_delta_at s.voucher vouchers ≡ Some s) (λ s. voucher_told_by state s ≡ told_if (voucher_told both) (voucher_at s.voucher after)) (λ s given. one_voucher s given (voucher_at s.voucher after) refl) vouchers found_each)
      ∙ chosen (λ (v : Voucher). v.id) (voucher_count later) (λ c. not (has_voucher state c)) after.vouchers named named_rise orders.vouchers unnamed

  pub gone_walked : flat_map (gone_told_by state) vouchers ≡ (counts_after state later).gone
  gone_walked =
      by_ids (λ (s : VoucherDelta). s.voucher) (gone_told_by state) (λ id. told_if (gone_told both) (voucher_at id before)) vouchers
      (all_weaker (λ s. voucher_delta_at s.voucher vouchers ≡ Some s) (λ s. gone_told_by state s ≡ told_if (gone_told both) (voucher_at s.voucher before)) (λ s given. one_gone s given (voucher_at s.voucher before) refl) vouchers found_each)
      ∙ chosen (λ (v : Voucher). v.id) (λ v. v.id) (λ id. is_none (voucher_at id after)) before.vouchers named named_rise order.vouchers ungone

-- the four lists together
pub counts_are : (before after : State) (rows : CountRows) (quotas asked exits : List QuotaCount) (vouchers : List VoucherCount) (gone : List ℕ) → rows.quotas ≡ quotas → rows.exits ≡ exits
    → rows.vouchers ≡ vouchers → rows.gone ≡ gone → quotas ≡ (counts_after before after).quotas → asked ≡ quotas → exits ≡ exits_after before asked → vouchers ≡ (counts_after before after).vouchers
    → gone ≡ (counts_after before after).gone → rows ≡ counts_after before after
counts_are before after rows quotas asked exits vouchers gone rq re rv rg q a e v n =
    let one : rows.quotas ≡ (counts_after before after).quotas = rq ∙ q in
    let two : rows.exits ≡ (counts_after before after).exits = re ∙ e ∙ ap (exits_after before) (a ∙ q) in
    let three : rows.vouchers ≡ (counts_after before after).vouchers = rv ∙ v in
    let four : rows.gone ≡ (counts_after before after).gone = rg ∙ n in
    λ i. record { quotas = one i; exits = two i; vouchers = three i; gone = four i }

-- what is told of a quota, where its usage by the rows before changes and what shifts it are known, and what the book has
module _ (state : State) (order : AreOrdered state.lists) (at : ℕ) (quotas : List QuotaDelta) (q : Quota) where
  known_has : (usage : Usage) (o : Option Quota) → quota_at q.id state.lists.catalogue ≡ o → same_as usage (option_map (usage_of state.lists state.moment) o) ≡ has_count state (record { quota = q.id; usage = usage })
  known_has usage None found = had_none state (record { quota = q.id; usage = usage }) state.lists.catalogue refl order.quotas found
  known_has usage (Some old) found = had_some state (record { quota = q.id; usage = usage }) state.lists.catalogue refl order.quotas old state.moment (usage_of state.lists state.moment old) (same_usage usage (usage_of state.lists state.moment old)) found refl refl refl

  pub told_is : (base usage : Usage) (shift : Option QuotaDelta) (had : Option Usage) → base ≡ usage_of state.lists at q → shift ≡ quota_delta_at q.id quotas → usage ≡ usage_shifted base shift → had ≡ option_map (usage_of state.lists state.moment) (quota_at q.id state.lists.catalogue) → told_unless (same_as usage had) (record { quota = q.id; usage = usage }) ≡ told_by_shift state at quotas q
  told_is base usage shift had base_is shift_is usage_is had_is =
      let count : usage ≡ usage_shifted (usage_of state.lists at q) (quota_delta_at q.id quotas) = usage_is ∙ ap (λ (u : Usage). usage_shifted u shift) base_is ∙ ap (usage_shifted (usage_of state.lists at q)) shift_is in
      ap (λ b. told_unless b (record { quota = q.id; usage = usage })) (ap (same_as usage) had_is ∙ known_has usage (quota_at q.id state.lists.catalogue) refl)
      ∙ ap (λ (u : Usage). told_unless (has_count state (record { quota = q.id; usage = u })) (record { quota = q.id; usage = u })) count
