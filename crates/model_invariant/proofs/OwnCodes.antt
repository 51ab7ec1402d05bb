-- Codes that the shop makes end in their vouchers' ids.
use Rattle.std.proofs.Common.{◌≡◌, ℕ, ◌^◌, ◌<◌, Bool, true, false, not, ◌||◌, List, [], ◌∷◌, nat_eq, refl, sym, ◌∙◌, subst, arith}
use Rattle.std.specs.List.{ends_with, AllByRecursion}
use Rattle.std.specs.Cmp.Lexicographic.{bytes_decides}
use Rattle.base_tables.specs.Tables.{AreInOrder, with_row, without_row}
use Rattle.base_values.specs.Texts.{same_text}
use Rattle.model_rows.specs.declared.rows.Voucher.{Voucher}
use Rattle.model_rows.specs.Lists.{Lists}
use Rattle.model_rows.specs.Asked.{is_taken}
use Rattle.model_invariant.specs.Reserved.{is_reserved}
use Rattle.model_invariant.specs.OwnCodes.{code_ending, has_own_code, HaveCodes}
use Rattle.model_rows.proofs.EachRow.{all-with_row, all-without_row}
use Rattle.model_invariant.proofs.Codes.{unlike_put, unlike_drop}
use Rattle.model_invariant.proofs.Endings.{before_end, ends_is, last_number}

by_form : (reserved ends : Bool) → reserved ≡ false → (not reserved || ends) ≡ true
by_form true ends h = absurd (cc)
by_form false ends h = refl

by_ending : (reserved ends : Bool) → ends ≡ true → (not reserved || ends) ≡ true
by_ending true ends h = h
by_ending false ends h = refl

ends_so : (reserved ends : Bool) → reserved ≡ true → (not reserved || ends) ≡ true → ends ≡ true
ends_so true ends r h = h
ends_so false ends r h = absurd (cc)

-- a code of another form is its voucher's own
pub own_other : (row : Voucher) → is_reserved row.code ≡ false → has_own_code row ≡ true
own_other row h = by_form (is_reserved row.code) (ends_with nat_eq row.code (code_ending row.id)) h

-- and so is one that ends in its id
pub own_ending : (row : Voucher) → ends_with nat_eq row.code (code_ending row.id) ≡ true → has_own_code row ≡ true
own_ending row h = by_ending (is_reserved row.code) (ends_with nat_eq row.code (code_ending row.id)) h

-- a text ends in one id at most
one_id : (text : List ℕ) (a b : ℕ) → a < 2 ^ 64 → b < 2 ^ 64 → ends_with nat_eq text (code_ending a) ≡ true → ends_with nat_eq text (code_ending b) ≡ true → a ≡ b
one_id text a b la lb ends_a ends_b = (last_number (before_end text (code_ending a)) (before_end text (code_ending b)) a b la lb (ends_is text (code_ending a) ends_a ∙ sym (ends_is text (code_ending b) ends_b))).1

-- a reserved code that ends in an id is of no voucher but that one
module _ (code : List ℕ) (id : ℕ) (reserved : is_reserved code ≡ true) (ends : ends_with nat_eq code (code_ending id) ≡ true) (small : id < 2 ^ 64) where
  its_id : (row : Voucher) → row.id < 2 ^ 64 → has_own_code row ≡ true → row.code ≡ code → row.id ≡ id
  its_id row low own same = one_id code row.id id low small
      (ends_so (is_reserved code) (ends_with nat_eq code (code_ending row.id)) reserved (subst (λ (c : List ℕ). (not (is_reserved c) || ends_with nat_eq c (code_ending row.id)) ≡ true) same own))
      ends

  by_code : (row : Voucher) → row.id < id → has_own_code row ≡ true → (same : Bool) → same_text row.code code ≡ same → same ≡ false
  by_code row below own true is =
      let its = its_id row (omega (arith, below, small)) own ((bytes_decides row.code code).0 is) in
      absurd (omega (arith, its, below))
  by_code row below own false is = refl

  -- so none of the vouchers below has it
  pub none_has : (rows : List Voucher) → AllByRecursion (λ v. v.id < id) rows → AllByRecursion (λ v. has_own_code v ≡ true) rows → AllByRecursion (λ v. same_text v.code code ≡ false) rows
  none_has [] below own = tt
  none_has (v ∷ vs) below own = (by_code v below.0 own.0 (same_text v.code code) refl, none_has vs below.1 own.1)

-- no other voucher has this one's code, and one of the form that the shop makes ends in its id
abbrev pub HasItsCode : Voucher → Lists → Type 0
HasItsCode row lists = (is_taken row.id row.code lists ≡ false) × (has_own_code row ≡ true)

-- a voucher that is put, or goes
pub codes_put : (row : Voucher) (lists : Lists) → AreInOrder (λ r. r.id) lists.vouchers → HasItsCode row lists → HaveCodes lists.vouchers → HaveCodes (with_row (λ r. r.id) row lists.vouchers)
codes_put row lists order code h = record {
  unlike = unlike_put row 0 lists.vouchers order code.0 h.unlike;
  own = all-with_row (λ r. r.id) (λ v. has_own_code v ≡ true) row lists.vouchers code.1 h.own;
}

pub codes_drop : (id : ℕ) (rows : List Voucher) → HaveCodes rows → HaveCodes (without_row (λ r. r.id) id rows)
codes_drop id rows h = record { unlike = unlike_drop id rows h.unlike; own = all-without_row (λ r. r.id) (λ v. has_own_code v ≡ true) id rows h.own }
