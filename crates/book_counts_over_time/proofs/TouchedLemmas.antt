-- Shifting those quotas alone that a change touches.
use Rattle.std.proofs.Common.{◌≡◌, ◌≢◌, ℕ, zero, suc, ◌+◌, ◌<◌, ◌⊎◌, inl, inr, Bool, true, false, cond, eqb, List, [], ◌∷◌, length, get_or, set, take, map, Option, Some, None, refl, sym, ap, ◌∙◌, arith}
use Rattle.std.specs.Prelude.{◌||◌, if◌then◌else◌, filter}
use Rattle.std.specs.List.{AllByRecursion}
use Rattle.std.proofs.lemmas.Bool.Decides.{nat_tests, eqb_tells}
use Rattle.base_tables.specs.Tables.{has, row_at, InOrderFrom, AreInOrder, IsPlace, IsGap}
use Rattle.base_tables.proofs.Edits.{row_at_above}
use Rattle.base_tables.proofs.Places.{at_least, row_at_gap, order_weaker}
use Rattle.model_rows.proofs.Found.{each_found}
use Rattle.model_catalogue.specs.declared.rows.Quota.{Quota}
use Rattle.model_rows.specs.declared.rows.Usage.{Usage}
use Rattle.model_rows.specs.declared.rows.Voucher.{Voucher}
use Rattle.model_rows.specs.Conditions.{hits, hits_by, hits_by_product}
use Rattle.model_rows.proofs.Time.{eqb_flip}
use Rattle.book_counts_over_time.specs.UsageUpdates.{map_beside, only}

module _ {X Y : Type 0} where
  -- one shift after another
  pub beside_beside : (f g h : X → Y → Y) (xs : List X) (ys : List Y) → ((x : X) (y : Y) → g x (f x y) ≡ h x y) → map_beside g xs (map_beside f xs ys) ≡ map_beside h xs ys
  beside_beside f g h [] ys e = refl
  beside_beside f g h (x ∷ xs) [] e = refl
  beside_beside f g h (x ∷ xs) (y ∷ ys) e = λ i. e x y i ∷ beside_beside f g h xs ys e i

  -- shifts that are alike where rows are as told
  pub beside_like : (P : X → Type 0) (f g : X → Y → Y) (xs : List X) (ys : List Y) → ((x : X) (y : Y) → P x → f x y ≡ g x y) → AllByRecursion P xs → map_beside f xs ys ≡ map_beside g xs ys
  beside_like P f g [] ys e h = refl
  beside_like P f g (x ∷ xs) [] e h = refl
  beside_like P f g (x ∷ xs) (y ∷ ys) e h = λ i. e x y h.0 i ∷ beside_like P f g xs ys e h.1 i

  -- a shift that leaves all as it is
  pub beside_same : (f : X → Y → Y) (xs : List X) (ys : List Y) → length ys ≡ length xs → ((x : X) (y : Y) → f x y ≡ y) → map_beside f xs ys ≡ ys
  beside_same f [] ys len e = refl
  beside_same f (x ∷ xs) [] len e = absurd (omega (arith, len))
  beside_same f (x ∷ xs) (y ∷ ys) len e = λ i. e x y i ∷ beside_same f xs ys (omega (arith, len)) e i

-- the one of an id
module _ {X Y : Type 0} (key : X → ℕ) (f : X → Y → Y) (id : ℕ) where
  abbrev at_id : X → Y → Y
  at_id x y = if eqb (key x) id then f x y else y

  pub beside_none : (xs : List X) (ys : List Y) → length ys ≡ length xs → row_at key id xs ≡ None → map_beside at_id xs ys ≡ ys
  beside_none [] ys len e = refl
  beside_none (x ∷ xs) [] len e = absurd (omega (arith, len))
  beside_none (x ∷ xs) (y ∷ ys) len e = by_id (eqb (key x) id) refl (beside_none xs ys (omega (arith, len)))
    where
      by_id : (b : Bool) → eqb (key x) id ≡ b → (row_at key id xs ≡ None → map_beside at_id xs ys ≡ ys) → map_beside at_id (x ∷ xs) (y ∷ ys) ≡ y ∷ ys
      by_id true t more = absurd (cc (sym (ap (λ b. if b then Some x else row_at key id xs) t) ∙ e))
      by_id false t more =
          let rest : row_at key id xs ≡ None = sym (ap (λ b. if b then Some x else row_at key id xs) t) ∙ e in
          let own : at_id x y ≡ y = ap (λ b. if b then f x y else y) t in
          λ i. own i ∷ more rest i

  pub beside_one : (n : ℕ) (xs : List X) (ys : List Y) (i : ℕ) (d : X) (e : Y) → InOrderFrom key n xs → IsPlace key xs id i → length ys ≡ length xs → set ys i (f (get_or xs i d) (get_or ys i e)) ≡ map_beside at_id xs ys
  beside_one n [] ys i d e h p len = absurd (omega (arith, p.in_range))
  beside_one n (x ∷ xs) [] i d e h p len = absurd (omega (arith, len))
  beside_one n (x ∷ xs) (y ∷ ys) zero d e h p len =
      let same : eqb (key x) id ≡ true = grind (arith, nat_tests, p.has_id x) in
      let own : f x y ≡ at_id x y = sym (ap (λ b. if b then f x y else y) same) in
      let rest = beside_none xs ys (omega (arith, len)) (row_at_above key (key x + 1) id xs (omega (arith, p.has_id x)) h.1) in
      λ i. own i ∷ sym rest i
  beside_one n (x ∷ xs) (y ∷ ys) (suc i) d e h p len =
      let q : IsPlace key xs id i = record { in_range = omega (arith, p.in_range); has_id = p.has_id } in
      let above = at_least key (key x + 1) xs h.1 i d q.in_range in
      let differ : eqb (key x) id ≡ false = grind (arith, nat_tests, above, q.has_id d) in
      let own : y ≡ at_id x y = sym (ap (λ b. if b then f x y else y) differ) in
      let rest = beside_one (key x + 1) xs ys i d e h.1 q (omega (arith, len)) in
      λ j. own j ∷ rest j

  pub beside_gap : (xs : List X) (ys : List Y) (i : ℕ) → IsGap key xs id i → length ys ≡ length xs → ys ≡ map_beside at_id xs ys
  beside_gap xs ys i gap len = sym (beside_none xs ys len (row_at_gap key xs id i gap))

-- those of some ids, one after another
has-push : (k : ℕ) (ids : List ℕ) (i d : ℕ) → i < length ids → has k (take (suc i) ids) ≡ (eqb (get_or ids i d) k || has k (take i ids))
has-push k [] i d lt = absurd (omega arith)
has-push k (x ∷ ids) zero d lt = refl
has-push k (x ∷ ids) (suc i) d lt = ap (λ b. eqb x k || b) (has-push k ids i d (omega arith)) ∙ swap (eqb x k) (eqb (get_or ids i d) k) (has k (take i ids))
  where
    swap : (a b c : Bool) → (a || (b || c)) ≡ (b || (a || c))
    swap true true c = refl
    swap true false c = refl
    swap false b c = refl

fresh : (n : ℕ) (ids : List ℕ) (i d : ℕ) → InOrderFrom (λ n. n) n ids → i < length ids → has (get_or ids i d) (take i ids) ≡ false
fresh n [] i d h lt = absurd (omega arith)
fresh n (x ∷ ids) zero d h lt = refl
fresh n (x ∷ ids) (suc i) d h lt =
    let above = at_least (λ n. n) (x + 1) ids h.1 i d (omega arith) in
    let differ : eqb x (get_or ids i d) ≡ false = grind (arith, nat_tests, above) in
    ap (λ b. b || has (get_or ids i d) (take i ids)) differ ∙ fresh (x + 1) ids i d h.1 (omega arith)

pub each_more : (f : Quota → Usage → Usage) (quotas : List Quota) (old now more : List Usage) (ids : List ℕ) (i id : ℕ) → AreInOrder (λ n. n) ids → i < length ids → ((d : ℕ) → get_or ids i d ≡ id) → now ≡ map_beside (only (λ q. has q.id (take i ids)) f) quotas old → more ≡ map_beside (only (λ q. eqb q.id id) f) quotas now → more ≡ map_beside (only (λ q. has q.id (take (i + 1) ids)) f) quotas old
each_more f quotas old now more ids i id order lt at now_is more_is =
    more_is ∙ ap (map_beside (only (λ q. eqb q.id id) f) quotas) now_is
    ∙ beside_beside (only (λ q. has q.id (take i ids)) f) (only (λ q. eqb q.id id) f) (only (λ q. has q.id (take (i + 1) ids)) f) quotas old each
  where
    both : (q : Quota) (u : Usage) (a b : Bool) → (a ≡ true → b ≡ false) → (if a then f q (if b then f q u else u) else (if b then f q u else u)) ≡ (if a || b then f q u else u)
    both q u true true h = absurd (cc (h refl))
    both q u true false h = refl
    both q u false b h = refl

    flip : (q : Quota) → eqb (get_or ids i 0) q.id ≡ eqb q.id id
    flip q = grind (arith, nat_tests, at 0)

    new : (q : Quota) → eqb q.id id ≡ true → has q.id (take i ids) ≡ false
    new q e =
        let same : q.id ≡ get_or ids i 0 = grind (arith, nat_tests, e, at 0) in
        ap (λ x. has x (take i ids)) same ∙ fresh 0 ids i 0 order lt

    each : (q : Quota) (u : Usage) → only (λ q. eqb q.id id) f q (only (λ q. has q.id (take i ids)) f q u) ≡ only (λ q. has q.id (take (i + 1) ids)) f q u
    each q u =
        both q u (eqb q.id id) (has q.id (take i ids)) (new q)
        ∙ ap (λ b. if b || has q.id (take i ids) then f q u else u) (sym (flip q))
        ∙ ap (λ b. if b then f q u else u) (sym (has-push q.id ids i 0 lt))
        ∙ ap (λ n. if has q.id (take n ids) then f q u else u) next
      where
        next : suc i ≡ i + 1
        next = omega arith

pub each_taken : (f : Quota → Usage → Usage) (quotas : List Quota) (old : List Usage) (ids taken : List ℕ) → taken ≡ ids → map_beside (only (λ q. has q.id taken) f) quotas old ≡ map_beside (only (λ q. has q.id ids) f) quotas old
each_taken f quotas old ids taken is = ap (λ (l : List ℕ). map_beside (only (λ q. has q.id l) f) quotas old) is

-- the quotas that pass, by their ids
ids_rise : (test : Quota → Bool) (n : ℕ) (quotas : List Quota) → InOrderFrom (λ (q : Quota). q.id) n quotas → InOrderFrom (λ n. n) n (map (λ (q : Quota). q.id) (filter test quotas))
ids_rise test n [] h = tt
ids_rise test n (q ∷ qs) h = by_test (test q) (ids_rise test (q.id + 1) qs h.1)
  where
    by_test : (b : Bool) → InOrderFrom (λ n. n) (q.id + 1) (map (λ (q : Quota). q.id) (filter test qs)) → InOrderFrom (λ n. n) n (map (λ (q : Quota). q.id) (cond b (q ∷ filter test qs) (filter test qs)))
    by_test true more = (h.0, more)
    by_test false more = order_weaker (λ n. n) (q.id + 1) n (map (λ (q : Quota). q.id) (filter test qs)) (omega (arith, h.0)) more

pub ids_in_order : (test : Quota → Bool) (quotas : List Quota) (ids : List ℕ) → ids ≡ map (λ (q : Quota). q.id) (filter test quotas) → AreInOrder (λ (q : Quota). q.id) quotas → AreInOrder (λ n. n) ids
ids_in_order test quotas ids is order = rw is (ids_rise test 0 quotas order)

abbrev passes_if : (Quota → Bool) → Option Quota → Bool
passes_if test None = false
passes_if test (Some q) = test q

has-listed : (test : Quota → Bool) (i n : ℕ) (quotas : List Quota) → InOrderFrom (λ (q : Quota). q.id) n quotas → has i (map (λ (q : Quota). q.id) (filter test quotas)) ≡ passes_if test (row_at (λ r. r.id) i quotas)
has-listed test i n [] h = refl
has-listed test i n (q ∷ qs) h = by_test (test q) refl (eqb_tells q.id i) (has-listed test i (q.id + 1) qs h.1)
  where
    above : q.id ≡ i → passes_if test (row_at (λ r. r.id) i qs) ≡ false
    above e = ap (passes_if test) (row_at_above (λ (r : Quota). r.id) (q.id + 1) i qs (omega (arith, e)) h.1)

    by_test : (b : Bool) → test q ≡ b → ((eqb q.id i ≡ true) × (q.id ≡ i)) ⊎ ((eqb q.id i ≡ false) × (q.id ≢ i)) → has i (map (λ (q : Quota). q.id) (filter test qs)) ≡ passes_if test (row_at (λ r. r.id) i qs) → has i (map (λ (q : Quota). q.id) (cond b (q ∷ filter test qs) (filter test qs))) ≡ passes_if test (if eqb q.id i then Some q else row_at (λ r. r.id) i qs)
    by_test true is (inl e) more = rw e.0 (sym is)
    by_test true is (inr e) more = rw e.0 more
    by_test false is (inl e) more = rw e.0 (more ∙ above e.1 ∙ sym is)
    by_test false is (inr e) more = rw e.0 more

-- shifting the quotas of the ids shifts those that pass
pub listed_is : (f : Quota → Usage → Usage) (test : Quota → Bool) (quotas : List Quota) (old : List Usage) (ids : List ℕ) → ids ≡ map (λ (q : Quota). q.id) (filter test quotas) → AreInOrder (λ (q : Quota). q.id) quotas → map_beside (only (λ q. has q.id ids) f) quotas old ≡ map_beside (only test f) quotas old
listed_is f test quotas old ids is order =
    each_taken f quotas old (map (λ (q : Quota). q.id) (filter test quotas)) ids is
    ∙ beside_like (λ q. row_at (λ r. r.id) q.id quotas ≡ Some q) (only (λ q. has q.id (map (λ (q : Quota). q.id) (filter test quotas))) f) (only test f) quotas old
    (λ q u found. ap (λ b. if b then f q u else u) (has-listed test q.id 0 quotas order ∙ ap (passes_if test) found))
    (each_found (λ r. r.id) 0 quotas order)

-- shifts that are alike
pub beside_alike : {X Y : Type 0} (f g : X → Y → Y) (xs : List X) (ys : List Y) → ((x : X) (y : Y) → f x y ≡ g x y) → map_beside f xs ys ≡ map_beside g xs ys
beside_alike f g [] ys e = refl
beside_alike f g (x ∷ xs) [] e = refl
beside_alike f g (x ∷ xs) (y ∷ ys) e = λ i. e x y i ∷ beside_alike f g xs ys e i

pub hit_named : (f : Quota → Usage → Usage) (voucher : Voucher) (id : ℕ) → voucher.quota ≡ Some id → (quotas : List Quota) (us : List Usage) → map_beside (only (λ q. eqb q.id id) f) quotas us ≡ map_beside (only (λ q. hits q voucher) f) quotas us
hit_named f voucher id is quotas us = beside_alike (only (λ q. eqb q.id id) f) (only (λ q. hits q voucher) f) quotas us (λ q u. ap (λ b. if b then f q u else u) (eqb_flip q.id id ∙ sym (ap (λ o. hits_by q o voucher) is)))

pub hit_target : (f : Quota → Usage → Usage) (voucher : Voucher) → voucher.quota ≡ None → (quotas : List Quota) (us : List Usage) → map_beside (only (λ q. hits_by_product q voucher.item voucher.variation) f) quotas us ≡ map_beside (only (λ q. hits q voucher) f) quotas us
hit_target f voucher is quotas us = beside_alike (only (λ q. hits_by_product q voucher.item voucher.variation) f) (only (λ q. hits q voucher) f) quotas us (λ q u. ap (λ b. if b then f q u else u) (sym (ap (λ o. hits_by q o voucher) is)))
