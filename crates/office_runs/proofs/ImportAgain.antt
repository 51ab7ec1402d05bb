-- Rows that were imported are the same in a next import.
use Rattle.std.proofs.Common.{◌≡◌, ℕ, ◌<◌, ◌≢◌, ◌⊎◌, inl, inr, Bool, true, false, not, eqb, cond, List, [], ◌∷◌, Option, Some, None, Result, Ok, Err, refl, sym, ap, ◌∙◌, subst, arith}
use Rattle.std.specs.Prelude.{find, is_some, nat_lt, if◌then◌else◌}
use Rattle.std.specs.List.{AllByRecursion}
use Rattle.std.specs.Cmp.Lexicographic.{bytes_decides}
use Rattle.std.proofs.lemmas.Bool.Decides.{eqb_tells}
use Rattle.base_tables.specs.Tables.{row_at, with_row}
use Rattle.base_values.specs.Draws.{IsDraw}
use Rattle.base_values.specs.Texts.{same_text}
use Rattle.base_values.specs.declared.draw.Draw.{Draw}
use Rattle.base_values.specs.declared.price_mode.PriceMode.{PriceMode}
use Rattle.base_values.specs.declared.price_mode.PriceMode.TheVariants as modes
use Rattle.model_rows.specs.declared.rows.Voucher.{Voucher}
use Rattle.model_rows.specs.Conditions.{same_id}
use Rattle.model_rows.specs.Lists.{State}
use Rattle.model_rows.proofs.EachRow.{next_absent}
use Rattle.model_invariant.specs.Sound.{IsSound}
use Rattle.model_commands.specs.FitRequests.{IsFitVoucher}
use Rattle.model_commands.specs.declared.vouchers.NewVoucher.{NewVoucher}
use Rattle.model_commands.specs.declared.vouchers.Verdict.{Verdict}
use Rattle.model_commands.specs.declared.vouchers.Verdict.TheVariants as verdicts
use Rattle.model_commands.specs.declared.vouchers.VoucherRefusal.{VoucherRefusal}
use Rattle.decide_vouchers.specs.Codes.{code_of, is_another}
use Rattle.decide_vouchers.specs.Imported.{namesake, same_flag, same_mode, is_as_given, made_verdict, imported_beside, row_imported, rows_imported}
use Rattle.decide_vouchers.specs.Made.{voucher_made}
use Rattle.decide_vouchers.specs.Rows.{voucher_row}
use Rattle.decide_vouchers.proofs.Imports.{of_row, rows_sound}
use Rattle.decide_vouchers.proofs.Made.{made_is, made_id}
use Rattle.decide_vouchers.proofs.Passed.{tested_is}
use Rattle.office_runs.specs.Imports.{is_kept, AreSameAgain}

-- ---- what is found beside a row that is put

module _ {T : Type 0} (key : T → ℕ) (test : T → Bool) (row : T) where
  -- the rows with the one that is put, by where its place is
  abbrev placed : T → List T → (less own : Bool) → List T
  placed r rs less own = if less then r ∷ with_row key row rs else (if own then row ∷ rs else row ∷ r ∷ rs)

  passing : (rest : Option T) → test row ≡ true → cond (test row) (Some row) rest ≡ Some row
  passing rest passes = ap (λ (b : Bool). cond b (Some row) rest) passes

  failing : (r : T) (rest : Option T) → test r ≡ false → cond (test r) (Some r) rest ≡ rest
  failing r rest fails = ap (λ (b : Bool). cond b (Some r) rest) fails

  -- where nothing was found, a row that passes is
  found_put : (rows : List T) → test row ≡ true → find test rows ≡ None → find test (with_row key row rows) ≡ Some row
  found_put [] passes none = passing None passes
  found_put (r ∷ rs) passes none = by_test (test r) refl (found_put rs passes)
    where
      by_place : (less own : Bool) → test r ≡ false → (find test rs ≡ None → find test (with_row key row rs) ≡ Some row) → find test (placed r rs less own) ≡ Some row
      by_place true own fails more = failing r (find test (with_row key row rs)) fails ∙ more (sym (failing r (find test rs) fails) ∙ none)
      by_place false true fails more = passing (find test rs) passes
      by_place false false fails more = passing (find test (r ∷ rs)) passes

      by_test : (t : Bool) → test r ≡ t → (find test rs ≡ None → find test (with_row key row rs) ≡ Some row) → find test (with_row key row (r ∷ rs)) ≡ Some row
      by_test true is more = absurd (cc (ap (λ (b : Bool). cond b (Some r) (find test rs)) (sym is) ∙ none))
      by_test false is more = by_place (nat_lt (key r) (key row)) (eqb (key r) (key row)) is more

  -- a row with a new id that fails changes nothing of what is found
  found_still : (rows : List T) → test row ≡ false → row_at key (key row) rows ≡ None → find test (with_row key row rows) ≡ find test rows
  found_still [] fails new = failing row None fails
  found_still (r ∷ rs) fails new = by_own (eqb (key r) (key row)) refl (found_still rs fails)
    where
      by_place : (less own : Bool) → own ≡ false → find test (with_row key row rs) ≡ find test rs → find test (placed r rs less own) ≡ find test (r ∷ rs)
      by_place true own other more = ap (λ (rest : Option T). cond (test r) (Some r) rest) more
      by_place false true other more = absurd (cc (other))
      by_place false false other more = failing row (find test (r ∷ rs)) fails

      by_own : (own : Bool) → eqb (key r) (key row) ≡ own → (row_at key (key row) rs ≡ None → find test (with_row key row rs) ≡ find test rs) → find test (with_row key row (r ∷ rs)) ≡ find test (r ∷ rs)
      by_own true is more = absurd (cc (ap (λ (b : Bool). cond b (Some r) (row_at key (key row) rs)) (sym is) ∙ new))
      by_own false is more = by_place (nat_lt (key r) (key row)) (eqb (key r) (key row)) is (more (ap (λ (b : Bool). cond b (Some r) (row_at key (key row) rs)) (sym is) ∙ new))

  -- what is found is one of the rows
  found_is : (P : T → Type 0) (rows : List T) (found : T) → AllByRecursion P rows → find test rows ≡ Some found → P found
  found_is P [] found all is = absurd (cc (is))
  found_is P (r ∷ rs) found all is = by_test (test r) refl is (found_is P rs found all.1)
    where
      the_row : (a b : T) → (let one : Option T = Some a in one ≡ Some b) → a ≡ b
      the_row a b e = cc

      by_test : (t : Bool) → test r ≡ t → find test (r ∷ rs) ≡ Some found → (find test rs ≡ Some found → P found) → P found
      by_test true is e more = subst P (the_row r found (ap (λ (b : Bool). cond b (Some r) (find test rs)) (sym is) ∙ e)) all.0
      by_test false is e more = more (sym (failing r (find test rs) is) ∙ e)

-- ---- a voucher that is as its row says

same_number : (n : ℕ) → eqb n n ≡ true
same_number n = by_cases (eqb_tells n n)
  where
    by_cases : ((eqb n n ≡ true) × (n ≡ n)) ⊎ ((eqb n n ≡ false) × (n ≢ n)) → eqb n n ≡ true
    by_cases (inl t) = t.0
    by_cases (inr t) = absurd (t.1 refl)

same_ids : (id : Option ℕ) → same_id id id ≡ true
same_ids None = refl
same_ids (Some id) = same_number id

same_flags : (flag : Bool) → same_flag flag flag ≡ true
same_flags true = refl
same_flags false = refl

same_modes : (mode : PriceMode) → same_mode mode mode ≡ true
same_modes modes.None = refl
same_modes modes.Set = refl
same_modes modes.Subtract = refl
same_modes modes.Percent = refl

same_texts : (text : List ℕ) → same_text text text ≡ true
same_texts text = (bytes_decides text text).1 refl

made_as_given : (new : NewVoucher) (draw : Draw) (id : ℕ) → is_as_given new (voucher_row new draw id) ≡ true
made_as_given new draw id = rw (same_number new.max_usages, same_ids new.valid_until, same_flags new.block_quota, same_flags new.allow_ignore_quota, same_modes new.price_mode, same_ids new.value, same_ids new.item, same_ids new.variation, same_ids new.quota, same_texts new.tag, same_texts new.comment) refl

-- ---- a row of which a voucher stands

-- the voucher of a row's code is as the row says
record IsGood (new : NewVoucher) (vouchers : List Voucher) : Type 0 where
  code : List ℕ
  row : Voucher
  has_code : new.code ≡ Some code
  stands : find (λ v. same_text v.code code) vouchers ≡ Some row
  as_given : is_as_given new row ≡ true

not_less : (n : ℕ) → n < n → ⊥
not_less n less = omega (arith, less)

-- no voucher has a code that isn't another's, where the row's id is new
no_other : (code : List ℕ) (id next : ℕ) (vouchers : List Voucher) (found : Option Voucher) → AllByRecursion (λ v. v.id < next) vouchers → id ≡ next → find (λ v. same_text v.code code) vouchers ≡ found → is_another id found ≡ false → found ≡ None
no_other code id next vouchers None below own is other = refl
no_other code id next vouchers (Some v) below own is other = by_id (eqb_tells v.id id)
  where
    by_id : ((eqb v.id id ≡ true) × (v.id ≡ id)) ⊎ ((eqb v.id id ≡ false) × (v.id ≢ id)) → Some v ≡ None
    by_id (inl t) =
        let less : v.id < next = found_is (λ (v : Voucher). v.id) (λ v. same_text v.code code) v (λ v. v.id < next) vouchers v below is in
        absurd (not_less next (subst (λ (n : ℕ). n < next) (t.1 ∙ own) less))
    by_id (inr t) = absurd (cc (ap not (sym t.0) ∙ other))

-- no voucher has the code of one that is made
no_namesake : (new : NewVoucher) (draw : Draw) (state after : State) (row : Voucher) → IsSound state → voucher_made new draw state ≡ Ok (after, row) → find (λ v. same_text v.code row.code) state.lists.vouchers ≡ None
no_namesake new draw state after row sound h =
    let m = made_is new draw state after row h in
    no_other row.code row.id state.next.voucher state.lists.vouchers (find (λ v. same_text v.code row.code) state.lists.vouchers) sound.ids.vouchers.below (made_id new draw state after row m) refl (tested_is new.code row state.lists m.passed).code

-- a voucher that stands still does, whatever else is added
still_found : (code : List ℕ) (found : Voucher) (new : NewVoucher) (draw : Draw) (state after : State) (row : Voucher) → IsSound state → find (λ v. same_text v.code code) state.lists.vouchers ≡ Some found → voucher_made new draw state ≡ Ok (after, row) → find (λ v. same_text v.code code) after.lists.vouchers ≡ Some found
still_found code found new draw state after row sound is h =
    let m = made_is new draw state after row h in
    let absent = next_absent (λ (v : Voucher). v.id) state.next.voucher state.lists.vouchers sound.ids.vouchers.below in
    let new_id = ap (λ (id : ℕ). row_at (λ (v : Voucher). v.id) id state.lists.vouchers) (made_id new draw state after row m) ∙ absent in
    ap (λ (s : State). find (λ v. same_text v.code code) s.lists.vouchers) (sym m.is_after)
    ∙ by_code (same_text row.code code) refl new_id
  where
    by_code : (same : Bool) → same_text row.code code ≡ same → row_at (λ (v : Voucher). v.id) row.id state.lists.vouchers ≡ None → find (λ v. same_text v.code code) (with_row (λ v. v.id) row state.lists.vouchers) ≡ Some found
    by_code true same new_id =
        let none = subst (λ (c : List ℕ). find (λ v. same_text v.code c) state.lists.vouchers ≡ None) ((bytes_decides row.code code).0 same) (no_namesake new draw state after row sound h) in
        absurd (cc (sym none ∙ is))
    by_code false other new_id = found_still (λ (v : Voucher). v.id) (λ v. same_text v.code code) row state.lists.vouchers other new_id ∙ is

good_still : (good new : NewVoucher) (draw : Draw) (state : State) → IsSound state → IsGood good state.lists.vouchers → IsGood good (row_imported new draw state).0.lists.vouchers
good_still good new draw state sound is = of_row new draw state (λ (m : State × Verdict). IsGood good m.0.lists.vouchers) (λ verdict none. is) (λ after row h. record {
  code = is.code;
  row = is.row;
  has_code = is.has_code;
  stands = still_found is.code is.row new draw state after row sound is.stands h;
  as_given = is.as_given;
})

goods_still : (good : NewVoucher) (rows : List NewVoucher) (draw : Draw) (state : State) → AllByRecursion IsFitVoucher rows → IsDraw draw → IsSound state → IsGood good state.lists.vouchers → IsGood good (rows_imported rows draw state).0.lists.vouchers
goods_still good [] draw state fit sixteen sound is = is
goods_still good (new ∷ rows) draw state fit sixteen sound is =
    let next = (row_imported new draw state).0 in
    goods_still good rows draw next fit.1 sixteen (rows_sound (new ∷ []) draw state (fit.0, tt) sixteen sound) (good_still good new draw state sound is)

-- ---- a row that was added, or is the same

module _ (new : NewVoucher) (draw : Draw) (state : State) (sound : IsSound state) (code : List ℕ) (has_code : new.code ≡ Some code) where
  beside_none : (r : Result (State × Voucher) VoucherRefusal) → voucher_made new draw state ≡ r → is_kept (made_verdict state r).1 ≡ true → IsGood new (made_verdict state r).0.lists.vouchers
  beside_none (Err refusal) h kept = absurd (cc (kept))
  beside_none (Ok (after, row)) h kept =
      let m = made_is new draw state after row h in
      let own : code ≡ row.code = row_code row m.is_row in
      let none = no_namesake new draw state after row sound h in
      let put = found_put (λ (v : Voucher). v.id) (λ v. same_text v.code row.code) row state.lists.vouchers (same_texts row.code) none in
      record {
        code = row.code;
        row = row;
        has_code = has_code ∙ ap (λ (c : List ℕ). Some c) own;
        stands = ap (λ (s : State). find (λ v. same_text v.code row.code) s.lists.vouchers) (sym m.is_after) ∙ put;
        as_given = ap (is_as_given new) (sym m.is_row) ∙ made_as_given new draw state.next.voucher;
      }
    where
      row_code : (row : Voucher) → voucher_row new draw state.next.voucher ≡ row → code ≡ row.code
      row_code row is = ap (λ (given : Option (List ℕ)). code_of given draw state.next.voucher) (sym has_code) ∙ ap (λ (v : Voucher). v.code) is

  beside : (found : Option Voucher) → namesake (Some code) state.lists ≡ found → is_kept (imported_beside found new draw state).1 ≡ true → IsGood new (imported_beside found new draw state).0.lists.vouchers
  beside None is kept = beside_none (voucher_made new draw state) refl kept
  beside (Some row) is kept = record { code = code; row = row; has_code = has_code; stands = is; as_given = by_likeness (is_as_given new row) kept }
    where
      by_likeness : (same : Bool) → is_kept (if same then verdicts.Same else verdicts.Other) ≡ true → same ≡ true
      by_likeness true kept = refl
      by_likeness false kept = absurd (cc (kept))

  kept_good : is_kept (row_imported new draw state).1 ≡ true → IsGood new (row_imported new draw state).0.lists.vouchers
  kept_good = beside (namesake new.code state.lists) (ap (λ (given : Option (List ℕ)). namesake given state.lists) (sym has_code))

-- ---- all rows

-- a good row is the same
good_same : (new : NewVoucher) (draw : Draw) (state : State) → IsGood new state.lists.vouchers → (row_imported new draw state).1 ≡ verdicts.Same
good_same new draw state good =
    let found = ap (λ (given : Option (List ℕ)). namesake given state.lists) good.has_code ∙ good.stands in
    ap (λ (found : Option Voucher). (imported_beside found new draw state).1) found ∙ ap (λ (same : Bool). if same then verdicts.Same else verdicts.Other) good.as_given

module _ (before : List NewVoucher) (other : Draw) (later : State) (fit_before : AllByRecursion IsFitVoucher before) (sixteen_later : IsDraw other) (sound_later : IsSound later) where
  -- a row whose voucher stands after the import
  again : (new : NewVoucher) (vouchers : List Voucher) → later.lists.vouchers ≡ vouchers → IsGood new vouchers → (row_imported new other (rows_imported before other later).0).1 ≡ verdicts.Same
  again new vouchers stays good =
      let here = subst (IsGood new) (sym stays) good in
      good_same new other (rows_imported before other later).0 (goods_still new before other later fit_before sixteen_later sound_later here)

  has_some : (code : Option (List ℕ)) → is_some code ≡ true → (given : List ℕ) × (code ≡ Some given)
  has_some None e = absurd (cc (e))
  has_some (Some given) e = (given, refl)

  rows_again : (rows : List NewVoucher) (draw : Draw) (state : State) → AllByRecursion IsFitVoucher rows → IsDraw draw → IsSound state → later.lists.vouchers ≡ (rows_imported rows draw state).0.lists.vouchers → AreSameAgain later other before rows (rows_imported rows draw state).1
  rows_again [] draw state fit sixteen sound stays = tt
  rows_again (new ∷ rows) draw state fit sixteen sound stays =
      let next = (row_imported new draw state).0 in
      let sound_next = rows_sound (new ∷ []) draw state (fit.0, tt) sixteen sound in (
        λ coded kept.
            let given = has_some new.code coded in
            again new (rows_imported rows draw next).0.lists.vouchers stays (goods_still new rows draw next fit.1 sixteen sound_next (kept_good new draw state sound given.0 given.1 kept)),
        rows_again rows draw next fit.1 sixteen sound_next stays,
      )

pub same_again : (vouchers before : List NewVoucher) (draw other : Draw) (state later : State) → AllByRecursion IsFitVoucher vouchers → IsDraw draw → IsSound state
    → AllByRecursion IsFitVoucher before → IsDraw other → IsSound later → later.lists.vouchers ≡ (rows_imported vouchers draw state).0.lists.vouchers
    → AreSameAgain later other before vouchers (rows_imported vouchers draw state).1
same_again vouchers before draw other state later fit sixteen sound fit_before sixteen_later sound_later stays = rows_again before other later fit_before sixteen_later sound_later vouchers draw state fit sixteen sound stays
