-- The first voucher of a code is the one of the least id.
use Rattle.std.proofs.Common.{◌≡◌, ℕ, ◌+◌, ◌<◌, ◌≤◌, ◌≢◌, ◌⊎◌, inl, inr, Bool, true, false, cond, ◌&&◌, eqb, leb, List, [], ◌∷◌, length, get_or, Option, None, Some, refl, sym, ap, ◌∙◌, subst, arith}
use Rattle.std.specs.Prelude.{find, option_map, is_none, min, if◌then◌else◌}
use Rattle.std.proofs.lemmas.Option.{none-some}
use Rattle.std.proofs.lemmas.Bool.Decides.{nat_tests, leb_tells, eqb_tells}
use Rattle.base_tables.specs.Tables.{row_at, InOrderFrom, AreInOrder}
use Rattle.base_values.specs.Texts.{same_text}
use Rattle.base_tables.proofs.Edits.{row_at_above}
use Rattle.model_rows.specs.declared.rows.Voucher.{Voucher}
use Rattle.model_rows.specs.declared.changes.Change.{Change}
use Rattle.model_rows.specs.declared.changes.Change.TheVariants.{PutItem, PutVariation, PutQuota, PutVoucher, PutCart, PutOrder, PutPosition, PutWaiting, DropVoucher, DropCart, DropWaiting, PutCheckinList, PutCheckin}
use Rattle.model_rows.specs.Lists.{voucher_at}
use Rattle.model_rows.specs.Named.{voucher_of}
use Rattle.model_rows.proofs.EachRow.{key-row_at}
use Rattle.model_rows.proofs.Found.{row_at_found}
use Rattle.draft_overlay.specs.Logs.{Log, rows_of}
use Rattle.book_log.specs.Places.{touches, last_place}
use Rattle.draft_overlay.specs.Coded.{passes_if, IsLeast, lesser, IsBelow, HasCode, IsPutBelow, IsUnchanged, is_place, put_if}
use Rattle.book_log.specs.Puts.{voucher_put}
use Rattle.book_log.proofs.LastPlaces.{last_within, last_passes, some_is}
use Rattle.book_log.proofs.RowSteps.{voucher_kept, voucher_touched}

-- the voucher whose last change is the one at this place
abbrev pub IsPutAt : ℕ → List ℕ → Log → ℕ → Type 0
IsPutAt place code log id = HasCode code log id × (last_place (touches 3 id) log.changes ≡ Some place)

-- two least ones are the same
pub least_same : (P : ℕ → Type 0) (a b : Option ℕ) → IsLeast P a → IsLeast P b → a ≡ b
least_same P None None x y = refl
least_same P None (Some b) x y = absurd (x b y.0)
least_same P (Some a) None x y = absurd (y a x.0)
least_same P (Some a) (Some b) x y =
    let same : a ≡ b = omega (arith, x.1 b y.0, y.1 a x.0) in
    ap (λ n. Some n) same

-- the least of those for which the one or the other holds
pub lesser_least : (P Q R : ℕ → Type 0) → ((id : ℕ) → P id → R id) → ((id : ℕ) → Q id → R id) → ((id : ℕ) → R id → P id ⊎ Q id) → (a b : Option ℕ) → IsLeast P a → IsLeast Q b → IsLeast R (lesser a b)
lesser_least P Q R p q r None None x y = λ id h. by_one id (r id h)
  where
    by_one : (id : ℕ) → P id ⊎ Q id → ⊥
    by_one id (inl t) = x id t
    by_one id (inr t) = y id t
lesser_least P Q R p q r None (Some b) x y = (q b y.0, λ id h. by_one id (r id h))
  where
    by_one : (id : ℕ) → P id ⊎ Q id → b ≤ id
    by_one id (inl t) = absurd (x id t)
    by_one id (inr t) = y.1 id t
lesser_least P Q R p q r (Some a) None x y = (p a x.0, λ id h. by_one id (r id h))
  where
    by_one : (id : ℕ) → P id ⊎ Q id → a ≤ id
    by_one id (inl t) = x.1 id t
    by_one id (inr t) = absurd (y id t)
lesser_least P Q R p q r (Some a) (Some b) x y = (holds (leb_tells a b), λ id h. by_one id (r id h))
  where
    holds : ((leb a b ≡ true) × (a ≤ b)) ⊎ ((leb a b ≡ false) × (b < a)) → R (min a b)
    holds (inl t) =
        let is : a ≡ min a b = omega (arith, t.1) in
        subst R is (p a x.0)
    holds (inr t) =
        let is : b ≡ min a b = omega (arith, t.1) in
        subst R is (q b y.0)

    by_one : (id : ℕ) → P id ⊎ Q id → min a b ≤ id
    by_one id (inl t) = omega (arith, x.1 id t)
    by_one id (inr t) = omega (arith, y.1 id t)

-- the same, of what holds for the same numbers
pub least_as : (P Q : ℕ → Type 0) → ((id : ℕ) → P id → Q id) → ((id : ℕ) → Q id → P id) → (a : Option ℕ) → IsLeast P a → IsLeast Q a
least_as P Q p q None x = λ id h. x id (q id h)
least_as P Q p q (Some a) x = (p a x.0, λ id h. x.1 id (q id h))

module _ {T : Type 0} (key : T → ℕ) (passes : T → Bool) where
  -- the first row that passes has the least id of them
  pub first_least : (n : ℕ) (rows : List T) → InOrderFrom key n rows → IsLeast (λ id. passes_if passes (row_at key id rows) ≡ true) (option_map key (find passes rows))
  first_least n [] h = λ id e. absurd (cc)
  first_least n (r ∷ rs) h = by_test (passes r) refl (first_least (key r + 1) rs h.1)
    where
      above : (id : ℕ) → id < key r → passes_if passes (row_at key id (r ∷ rs)) ≡ true → ⊥
      above id lt e = absurd (cc (sym e ∙ ap (passes_if passes) (row_at_above key (key r) id (r ∷ rs) lt (omega arith, h.1))))

      own : passes_if passes (row_at key (key r) (r ∷ rs)) ≡ passes r
      own =
          let found : row_at key (key r) (r ∷ rs) ≡ Some r = grind (arith, nat_tests) in
          ap (passes_if passes) found

      from_here : (id : ℕ) → passes_if passes (row_at key id (r ∷ rs)) ≡ true → key r ≤ id
      from_here id e = by_order (leb_tells (key r) id)
        where
          by_order : ((leb (key r) id ≡ true) × (key r ≤ id)) ⊎ ((leb (key r) id ≡ false) × (id < key r)) → key r ≤ id
          by_order (inl t) = t.1
          by_order (inr t) = absurd (above id t.1 e)

      by_test : (b : Bool) → passes r ≡ b → IsLeast (λ id. passes_if passes (row_at key id rs) ≡ true) (option_map key (find passes rs)) → IsLeast (λ id. passes_if passes (row_at key id (r ∷ rs)) ≡ true) (option_map key (cond b (Some r) (find passes rs)))
      by_test true is more = (own ∙ is, from_here)
      by_test false is more = least_as (λ id. passes_if passes (row_at key id rs) ≡ true) (λ id. passes_if passes (row_at key id (r ∷ rs)) ≡ true) there back (option_map key (find passes rs)) more
        where
          there : (id : ℕ) → passes_if passes (row_at key id rs) ≡ true → passes_if passes (row_at key id (r ∷ rs)) ≡ true
          there id e = by_id (eqb_tells (key r) id)
            where
              by_id : ((eqb (key r) id ≡ true) × (key r ≡ id)) ⊎ ((eqb (key r) id ≡ false) × (key r ≢ id)) → passes_if passes (row_at key id (r ∷ rs)) ≡ true
              by_id (inl t) = absurd (cc (sym e ∙ ap (passes_if passes) (row_at_above key (key r + 1) id rs (omega (arith, t.1)) h.1)))
              by_id (inr t) = ap (λ c. passes_if passes (cond c (Some r) (row_at key id rs))) t.0 ∙ e

          back : (id : ℕ) → passes_if passes (row_at key id (r ∷ rs)) ≡ true → passes_if passes (row_at key id rs) ≡ true
          back id e = by_id (eqb_tells (key r) id)
            where
              by_id : ((eqb (key r) id ≡ true) × (key r ≡ id)) ⊎ ((eqb (key r) id ≡ false) × (key r ≢ id)) → passes_if passes (row_at key id rs) ≡ true
              by_id (inl t) = absurd (cc (sym is ∙ sym (ap (λ c. passes_if passes (cond c (Some r) (row_at key id rs))) t.0) ∙ e))
              by_id (inr t) = sym (ap (λ c. passes_if passes (cond c (Some r) (row_at key id rs))) t.0) ∙ e

  -- so it is the row of that id
  pub first_some : (rows : List T) (id : ℕ) → AreInOrder key rows → IsLeast (λ x. passes_if passes (row_at key x rows) ≡ true) (Some id) → find passes rows ≡ row_at key id rows
  first_some rows id order is = by_found (find passes rows) refl
    where
      same : option_map key (find passes rows) ≡ Some id
      same = least_same (λ x. passes_if passes (row_at key x rows) ≡ true) (option_map key (find passes rows)) (Some id) (first_least 0 rows order) is

      by_found : (found : Option T) → find passes rows ≡ found → find passes rows ≡ row_at key id rows
      by_found None e = absurd (none-some id (sym (ap (option_map key) e) ∙ same))
      by_found (Some row) e =
          let own : key row ≡ id = some_is (key row) id (sym (ap (option_map key) e) ∙ same) in
          e ∙ sym (row_at_found key passes 0 rows row order e) ∙ ap (λ n. row_at key n rows) own

  pub first_none : (rows : List T) → AreInOrder key rows → IsLeast (λ x. passes_if passes (row_at key x rows) ≡ true) None → find passes rows ≡ None
  first_none rows order is = by_found (find passes rows) refl
    where
      same : option_map key (find passes rows) ≡ None
      same = least_same (λ x. passes_if passes (row_at key x rows) ≡ true) (option_map key (find passes rows)) None (first_least 0 rows order) is

      by_found : (found : Option T) → find passes rows ≡ found → find passes rows ≡ None
      by_found None e = e
      by_found (Some row) e = absurd (none-some (key row) (sym same ∙ ap (option_map key) e))

both_first : (a b : Bool) → (a && b) ≡ true → a ≡ true
both_first true b e = refl
both_first false b e = absurd (cc)

both_second : (a b : Bool) → (a && b) ≡ true → b ≡ true
both_second true b e = e
both_second false b e = absurd (cc)

is_none_true : (o : Option ℕ) → is_none o ≡ true → o ≡ None
is_none_true None e = refl
is_none_true (Some n) e = absurd (cc)

is_place_true : (place : ℕ) (o : Option ℕ) → is_place place o ≡ true → o ≡ Some place
is_place_true place None e = absurd (cc)
is_place_true place (Some p) e = by_order (eqb_tells p place)
  where
    by_order : ((eqb p place ≡ true) × (p ≡ place)) ⊎ ((eqb p place ≡ false) × (p ≢ place)) → Some p ≡ Some place
    by_order (inl t) = ap (λ n. Some n) t.1
    by_order (inr t) = absurd (cc (sym t.0 ∙ e))

place_is : (place : ℕ) → eqb place place ≡ true
place_is place = grind (arith, nat_tests)

module _ (code : List ℕ) (log : Log) where
  abbrev same : Voucher → Bool
  same v = same_text v.code code

  abbrev alone : Voucher → Bool
  alone v = same_text v.code code && is_none (last_place (touches 3 v.id) log.changes)

  -- a voucher that no change touches has the code where it has it in the book
  in_book : (id : ℕ) → IsUnchanged code log id → passes_if same (voucher_at id log.base) ≡ true
  in_book id is = ap (passes_if same) (sym (voucher_kept id log.changes log.base is.1)) ∙ is.0

  here : (id : ℕ) → passes_if same (voucher_at id log.base) ≡ true → last_place (touches 3 id) log.changes ≡ None → IsUnchanged code log id
  here id e none = (ap (passes_if same) (voucher_kept id log.changes log.base none) ∙ e, none)

  pub none_unchanged : AreInOrder (λ r. r.id) log.base.vouchers → voucher_of code log.base ≡ None → IsLeast (IsUnchanged code log) None
  none_unchanged order none id is =
      subst (λ o. IsLeast (λ x. passes_if same (voucher_at x log.base) ≡ true) (option_map (λ (v : Voucher). v.id) o)) none (first_least (λ (v : Voucher). v.id) same 0 log.base.vouchers order) id (in_book id is)

  pub some_unchanged : (v : Voucher) → AreInOrder (λ r. r.id) log.base.vouchers → voucher_of code log.base ≡ Some v → is_none (last_place (touches 3 v.id) log.changes) ≡ true → IsLeast (IsUnchanged code log) (Some v.id)
  some_unchanged v order found none =
      let least = subst (λ o. IsLeast (λ x. passes_if same (voucher_at x log.base) ≡ true) (option_map (λ (w : Voucher). w.id) o)) found (first_least (λ (w : Voucher). w.id) same 0 log.base.vouchers order) in (
        here v.id least.0 (is_none_true (last_place (touches 3 v.id) log.changes) none),
        λ id is. least.1 id (in_book id is),
      )

  pub unchanged_first : AreInOrder (λ r. r.id) log.base.vouchers → IsLeast (IsUnchanged code log) (option_map (λ (v : Voucher). v.id) (find alone log.base.vouchers))
  unchanged_first order = least_as (λ id. passes_if alone (voucher_at id log.base) ≡ true) (IsUnchanged code log) there back (option_map (λ (v : Voucher). v.id) (find alone log.base.vouchers)) (first_least (λ (v : Voucher). v.id) alone 0 log.base.vouchers order)
    where
      there : (id : ℕ) → passes_if alone (voucher_at id log.base) ≡ true → IsUnchanged code log id
      there id e = by_found (voucher_at id log.base) refl e
        where
          by_found : (found : Option Voucher) → voucher_at id log.base ≡ found → passes_if alone found ≡ true → IsUnchanged code log id
          by_found None is e = absurd (cc)
          by_found (Some v) is e =
              let own : v.id ≡ id = key-row_at (λ (r : Voucher). r.id) id log.base.vouchers v is in
              let none : last_place (touches 3 v.id) log.changes ≡ None = is_none_true (last_place (touches 3 v.id) log.changes) (both_second (same v) (is_none (last_place (touches 3 v.id) log.changes)) e) in
              here id (ap (passes_if same) is ∙ both_first (same v) (is_none (last_place (touches 3 v.id) log.changes)) e) (ap (λ n. last_place (touches 3 n) log.changes) (sym own) ∙ none)

      back : (id : ℕ) → IsUnchanged code log id → passes_if alone (voucher_at id log.base) ≡ true
      back id is = by_found (voucher_at id log.base) refl (in_book id is)
        where
          by_found : (found : Option Voucher) → voucher_at id log.base ≡ found → passes_if same found ≡ true → passes_if alone (voucher_at id log.base) ≡ true
          by_found None e f = absurd (cc)
          by_found (Some v) e f =
              let own : v.id ≡ id = key-row_at (λ (r : Voucher). r.id) id log.base.vouchers v e in
              let none : is_none (last_place (touches 3 v.id) log.changes) ≡ true = ap (λ n. is_none (last_place (touches 3 n) log.changes)) own ∙ ap is_none is.1 in
              ap (passes_if alone) e ∙ ap (λ b. b && is_none (last_place (touches 3 v.id) log.changes)) f ∙ none

  -- a change that puts no voucher is the last one of none that stands
  none_put : (place : ℕ) (d : Change) → voucher_put (get_or log.changes place d) ≡ None → (id : ℕ) → IsPutAt place code log id → ⊥
  none_put place d none id is = cc (sym is.0 ∙ ap (passes_if same) (voucher_touched id log.changes log.base d place is.1 ∙ none))

  -- the change at a place puts the voucher of which it is the last change
  pub put_is : (place : ℕ) (d : Change) → IsLeast (IsPutAt place code log) (put_if code place log (get_or log.changes place d))
  put_is place d = by_change (get_or log.changes place d) refl
    where
      by_change : (change : Change) → get_or log.changes place d ≡ change → IsLeast (IsPutAt place code log) (put_if code place log change)
      by_change (PutVoucher row) e = by_test (same row && is_place place (last_place (touches 3 row.id) log.changes)) refl
        where
          own : (id : ℕ) → last_place (touches 3 id) log.changes ≡ Some place → row.id ≡ id
          own id last =
              let touched : touches 3 id (PutVoucher row) ≡ true = ap (touches 3 id) (sym e) ∙ last_passes (touches 3 id) log.changes place d last in
              grind (arith, nat_tests, touched)

          stands : (id : ℕ) → last_place (touches 3 id) log.changes ≡ Some place → voucher_at id (rows_of log) ≡ Some row
          stands id last = voucher_touched id log.changes log.base d place last ∙ ap voucher_put e

          by_test : (b : Bool) → (same row && is_place place (last_place (touches 3 row.id) log.changes)) ≡ b → IsLeast (IsPutAt place code log) (if b then Some row.id else None)
          by_test true t =
              let last : last_place (touches 3 row.id) log.changes ≡ Some place = is_place_true place (last_place (touches 3 row.id) log.changes) (both_second (same row) (is_place place (last_place (touches 3 row.id) log.changes)) t) in (
                (ap (passes_if same) (stands row.id last) ∙ both_first (same row) (is_place place (last_place (touches 3 row.id) log.changes)) t, last),
                λ id is. omega (arith, own id is.1),
              )
          by_test false t = λ id is.
              let here : is_place place (last_place (touches 3 row.id) log.changes) ≡ true = ap (λ n. is_place place (last_place (touches 3 n) log.changes)) (own id is.1) ∙ ap (is_place place) is.1 ∙ place_is place in
              let coded : same row ≡ true = sym (ap (passes_if same) (stands id is.1)) ∙ is.0 in
              absurd (cc (sym t ∙ ap (λ b. b && is_place place (last_place (touches 3 row.id) log.changes)) coded ∙ here))
      by_change (PutItem row) e = none_put place d (ap voucher_put e)
      by_change (PutVariation row) e = none_put place d (ap voucher_put e)
      by_change (PutQuota row) e = none_put place d (ap voucher_put e)
      by_change (PutCart row) e = none_put place d (ap voucher_put e)
      by_change (PutOrder row) e = none_put place d (ap voucher_put e)
      by_change (PutPosition row) e = none_put place d (ap voucher_put e)
      by_change (PutWaiting row) e = none_put place d (ap voucher_put e)
      by_change (DropVoucher gone) e = none_put place d (ap voucher_put e)
      by_change (DropCart gone) e = none_put place d (ap voucher_put e)
      by_change (DropWaiting gone) e = none_put place d (ap voucher_put e)
      by_change (PutCheckinList row) e = none_put place d (ap voucher_put e)
      by_change (PutCheckin row) e = none_put place d (ap voucher_put e)

  -- the least of all that have the code
  pub code_least : (unchanged put : Option ℕ) → IsLeast (IsUnchanged code log) unchanged → IsLeast (IsPutBelow (length log.changes) code log) put → IsLeast (HasCode code log) (lesser unchanged put)
  code_least unchanged put a b = lesser_least (IsUnchanged code log) (IsPutBelow (length log.changes) code log) (HasCode code log) (λ id is. is.0) (λ id is. is.0) by_last unchanged put a b
    where
      by_last : (id : ℕ) → HasCode code log id → IsUnchanged code log id ⊎ IsPutBelow (length log.changes) code log id
      by_last id has = by_place (last_place (touches 3 id) log.changes) refl
        where
          by_place : (o : Option ℕ) → last_place (touches 3 id) log.changes ≡ o → IsUnchanged code log id ⊎ IsPutBelow (length log.changes) code log id
          by_place None e = inl (has, e)
          by_place (Some p) e = inr (has, subst (λ o. IsBelow (length log.changes) o) (sym e) (last_within (touches 3 id) log.changes p e))
