-- Rows of which no two are alike are those of which each one is the first that is like it.
use Rattle.std.proofs.Common.{◌≡◌, ◌↔◌, ℕ, ◌+◌, ◌<◌, ◌≤◌, Bool, true, false, ◌&&◌, cond, eqb, List, [], ◌∷◌, Option, Some, None, find, filter, refl, sym, ap, ◌∙◌, subst, arith}
use Rattle.std.specs.List.{AllByRecursion}
use Rattle.std.proofs.lemmas.Bool.Decides.{nat_tests}
use Rattle.base_tables.specs.Tables.{InOrderFrom, AreInOrder}
use Rattle.base_values.specs.Texts.{same_text}
use Rattle.model_rows.specs.declared.rows.Voucher.{Voucher}
use Rattle.model_rows.specs.declared.rows.Checkin.{Checkin}
use Rattle.model_rows.specs.Named.{AreUnlike}
use Rattle.model_rows.proofs.EachRow.{all_weaker, all_both}
use Rattle.model_invariant.specs.Checkins.{same_nonce, repeats, AreOnce}
use Rattle.model_invariant.proofs.Apart.{AreApart}
use Rattle.model_invariant.proofs.Changes.{nonce_flip}
use Rattle.model_invariant.proofs.Codes.{same_text_flip}
use Rattle.file_check.specs.Firsts.{has_id, is_first}

module _ {T : Type 0} (key : T → ℕ) (alike : T → T → Bool) (flip : (a b : T) → alike a b ≡ alike b a) where
  -- rows in order from n on have no id below it
  at_least : (n : ℕ) (rows : List T) → InOrderFrom key n rows → AllByRecursion (λ r. n ≤ key r) rows
  at_least n [] h = tt
  at_least n (r ∷ rs) h = (h.0, all_weaker (λ s. key r + 1 ≤ key s) (λ s. n ≤ key s) (λ s le. omega (arith, le, h.0)) rs (at_least (key r + 1) rs h.1))

  -- what isn't like the row in front is found behind it
  behind : (r : T) (rs : List T) (s : T) → alike r s ≡ false → is_first key alike (r ∷ rs) s ≡ is_first key alike rs s
  behind r rs s e = ap (λ (b : Bool). has_id key (key s) (cond b (Some r) (find (λ t. alike t s) rs))) e

  -- where none behind is like a row, it is the first
  none_found : (r : T) (rs : List T) → AllByRecursion (λ s. alike r s ≡ false) rs → find (λ t. alike t r) rs ≡ None
  none_found r [] h = refl
  none_found r (s ∷ rs) h = ap (λ (b : Bool). cond b (Some s) (find (λ t. alike t r) rs)) (flip s r ∙ h.0) ∙ none_found r rs h.1

  same_id : (n : ℕ) → eqb n n ≡ true
  same_id n = grind (arith, nat_tests)

  heads : (r : T) (rs : List T) → AllByRecursion (λ s. alike r s ≡ false) rs → is_first key alike (r ∷ rs) r ≡ true
  heads r rs h = by_self (alike r r)
    where
      by_self : (b : Bool) → has_id key (key r) (cond b (Some r) (find (λ t. alike t r) rs)) ≡ true
      by_self true = same_id (key r)
      by_self false = ap (has_id key (key r)) (none_found r rs h)

  pub firsts : (rows : List T) → AreApart alike rows → AllByRecursion (λ r. is_first key alike rows r ≡ true) rows
  firsts [] h = tt
  firsts (r ∷ rs) h = (
    heads r rs h.0,
    all_weaker (λ s. (alike r s ≡ false) × (is_first key alike rs s ≡ true)) (λ s. is_first key alike (r ∷ rs) s ≡ true) (λ s both. behind r rs s both.0 ∙ both.1) rs
        (all_both (λ s. alike r s ≡ false) (λ s. is_first key alike rs s ≡ true) rs h.0 (firsts rs h.1)),
  )

  -- a row of a higher id isn't like the one in front, where it is the first that is like it
  unlike_front : (r : T) (rs : List T) (s : T) → key r < key s → is_first key alike (r ∷ rs) s ≡ true → alike r s ≡ false
  unlike_front r rs s lt e = by_test (alike r s) e
    where
      by_test : (b : Bool) → has_id key (key s) (cond b (Some r) (find (λ t. alike t s) rs)) ≡ true → b ≡ false
      by_test true same = absurd (let same_ids : eqb (key r) (key s) ≡ true = same in grind (arith, nat_tests, same_ids, lt))
      by_test false same = refl

  pub apart : (n : ℕ) (rows : List T) → InOrderFrom key n rows → AllByRecursion (λ r. is_first key alike rows r ≡ true) rows → AreApart alike rows
  apart n [] o h = tt
  apart n (r ∷ rs) o h =
      let above : AllByRecursion (λ s. key r + 1 ≤ key s) rs = at_least (key r + 1) rs o.1 in
      let unlike : AllByRecursion (λ s. (alike r s ≡ false) × (is_first key alike rs s ≡ true)) rs =
      all_weaker (λ s. (key r + 1 ≤ key s) × (is_first key alike (r ∷ rs) s ≡ true)) (λ s. (alike r s ≡ false) × (is_first key alike rs s ≡ true))
      (λ s both. let e : alike r s ≡ false = unlike_front r rs s (omega (arith, both.0)) both.1 in (e, sym (behind r rs s e) ∙ both.1)) rs
      (all_both (λ s. key r + 1 ≤ key s) (λ s. is_first key alike (r ∷ rs) s ≡ true) rs above h.1) in (
        all_weaker (λ s. (alike r s ≡ false) × (is_first key alike rs s ≡ true)) (λ s. alike r s ≡ false) (λ s both. both.0) rs unlike,
        apart (key r + 1) rs o.1 (all_weaker (λ s. (alike r s ≡ false) × (is_first key alike rs s ≡ true)) (λ s. is_first key alike rs s ≡ true) (λ s both. both.1) rs unlike),
      )

-- vouchers
abbrev pub same_code : Voucher → Voucher → Bool
same_code a b = same_text a.code b.code

apart_codes : (rows : List Voucher) → AreUnlike rows → AreApart same_code rows
apart_codes [] h = tt
apart_codes (r ∷ rs) h = (h.0, apart_codes rs h.1)

unlike_codes : (rows : List Voucher) → AreApart same_code rows → AreUnlike rows
unlike_codes [] h = tt
unlike_codes (r ∷ rs) h = (h.0, unlike_codes rs h.1)

pub unlike_firsts : (rows : List Voucher) → AreInOrder (λ r. r.id) rows → AllByRecursion (λ v. is_first (λ w. w.id) same_code rows v ≡ true) rows ↔ AreUnlike rows
unlike_firsts rows o = (
  λ h. unlike_codes rows (apart (λ (v : Voucher). v.id) same_code (λ a b. same_text_flip a.code b.code) 0 rows o h),
  λ h. firsts (λ (v : Voucher). v.id) same_code (λ a b. same_text_flip a.code b.code) rows (apart_codes rows h),
)

-- check-ins
id_flip : (a b : ℕ) → eqb a b ≡ eqb b a
id_flip a b = grind (arith, nat_tests)

repeats_flip : (a b : Checkin) → repeats a b ≡ repeats b a
repeats_flip a b =
    ap (λ (t : Bool). t && (eqb a.position b.position && same_nonce a.nonce b.nonce)) (id_flip a.list b.list)
    ∙ ap (λ (t : Bool). eqb b.list a.list && (t && same_nonce a.nonce b.nonce)) (id_flip a.position b.position)
    ∙ ap (λ (t : Bool). eqb b.list a.list && (eqb b.position a.position && t)) (nonce_flip a.nonce b.nonce)

apart_nonces : (rows : List Checkin) → AreOnce rows → AreApart repeats rows
apart_nonces [] h = tt
apart_nonces (r ∷ rs) h = (h.0, apart_nonces rs h.1)

once_nonces : (rows : List Checkin) → AreApart repeats rows → AreOnce rows
once_nonces [] h = tt
once_nonces (r ∷ rs) h = (h.0, once_nonces rs h.1)

pub once_firsts : (rows : List Checkin) → AreInOrder (λ r. r.id) rows → AllByRecursion (λ c. is_first (λ d. d.id) repeats rows c ≡ true) rows ↔ AreOnce rows
once_firsts rows o = (
  λ h. once_nonces rows (apart (λ (c : Checkin). c.id) repeats repeats_flip 0 rows o h),
  λ h. firsts (λ (c : Checkin). c.id) repeats repeats_flip rows (apart_nonces rows h),
)

-- a search among those that another test lets through finds what a search among all does
find_among : {T : Type 0} (test among : T → Bool) → ((row : T) → test row ≡ true → among row ≡ true) → (rows : List T) → find test (filter among rows) ≡ find test rows
find_among {T} test among all [] = refl
find_among {T} test among all (r ∷ rs) = by_tests (test r) refl (among r) refl (find_among test among all rs)
  where
    by_tests : (t : Bool) → test r ≡ t → (a : Bool) → among r ≡ a → find test (filter among rs) ≡ find test rs → find test (filter among (r ∷ rs)) ≡ find test (r ∷ rs)
    by_tests true et true ea more = rw ea (rw et refl)
    by_tests true et false ea more = absurd (cc (all r et, ea))
    by_tests false et true ea more = rw ea (rw et more)
    by_tests false et false ea more = rw ea (rw et more)

-- what repeats a check-in is of its position by its list
of_both : (a b c : Bool) → (a && (b && c)) ≡ true → (a && b) ≡ true
of_both true true c e = refl
of_both true false c e = e
of_both false b c e = e

pub first_of_position : (row : Checkin) (rows : List Checkin) → is_first (λ c. c.id) repeats (filter (λ c. eqb c.list row.list && eqb c.position row.position) rows) row ≡ is_first (λ c. c.id) repeats rows row
first_of_position row rows = ap (has_id (λ (c : Checkin). c.id) row.id) (find_among (λ c. repeats c row) (λ c. eqb c.list row.list && eqb c.position row.position) (λ c e. of_both (eqb c.list row.list) (eqb c.position row.position) (same_nonce c.nonce row.nonce) e) rows)
