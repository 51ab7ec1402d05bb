-- Check-ins of which no two have one key have no nonce twice.
use Rattle.std.proofs.Common.{◌≡◌, ℕ, suc, ◌+◌, ◌<◌, ◌≤◌, Bool, true, false, ◌&&◌, eqb, List, [], ◌∷◌, length, Option, Some, None, refl, sym, ap, ◌∙◌, subst, arith}
use Rattle.std.specs.Prelude.{◌||◌, ◌==◌}
use Rattle.std.specs.List.{AllByRecursion, filter_map}
use Rattle.std.specs.Cmp.Lexicographic.{bytes_decides}
use Rattle.std.proofs.lemmas.Bool.Decides.{nat_tests}
use Rattle.base_tables.specs.Tables.{has, with_row, InOrderFrom, AreInOrder}
use Rattle.base_tables.specs.Rising.{with_ids, rising}
use Rattle.base_values.specs.Texts.{same_text}
use Rattle.base_tables.proofs.Places.{with_row_in_order}
use Rattle.model_rows.specs.declared.rows.Checkin.{Checkin}
use Rattle.model_rows.proofs.EachRow.{all_weaker, all_of, neither_first, neither_second}
use Rattle.model_invariant.specs.Checkins.{same_nonce, repeats, AreOnce}
use Rattle.file_check.specs.Keys.{key_of, nonce_key}

-- none is there twice
abbrev Distinct : List ℕ → Type 0
Distinct [] = Unit {0}
Distinct (k ∷ ks) = (has k ks ≡ false) × Distinct ks

has-put : (k id : ℕ) (ids : List ℕ) → has k (with_row (λ n. n) id ids) ≡ (eqb id k || has k ids)
has-put k id [] = refl
has-put k id (x ∷ xs) = grind (arith, nat_tests, has-put k id xs)

-- an id that is put adds one at most, and none where it is there
length-put : (id : ℕ) (ids : List ℕ) → length (with_row (λ n. n) id ids) ≤ length ids + 1
length-put id [] = omega arith
length-put id (x ∷ xs) = grind (arith, nat_tests, length-put id xs)

absent_below : (id n : ℕ) (ids : List ℕ) → id < n → InOrderFrom (λ k. k) n ids → has id ids ≡ false
absent_below id n [] lt h = refl
absent_below id n (x ∷ xs) lt h = grind (arith, nat_tests, h.0, absent_below id (x + 1) xs (omega (arith, h.0)) h.1)

stays : (id n : ℕ) (ids : List ℕ) → InOrderFrom (λ k. k) n ids → has id ids ≡ true → length (with_row (λ k. k) id ids) ≡ length ids
stays id n [] h e = absurd (cc (e))
stays id n (x ∷ xs) h e = grind (arith, nat_tests, e, stays id (x + 1) xs h.1, absent_below id (x + 1) xs, h.1)

few : (given ids : List ℕ) → length (with_ids given ids) ≤ length given + length ids
few [] ids = omega arith
few (id ∷ more) ids = omega (arith, few more (with_row (λ n. n) id ids), length-put id ids)

new_one : (id : ℕ) (ids : List ℕ) → AreInOrder (λ n. n) ids → length ids < length (with_row (λ n. n) id ids) → has id ids ≡ false
new_one id ids h lt = by_test (has id ids) refl
  where
    by_test : (b : Bool) → has id ids ≡ b → has id ids ≡ false
    by_test true e = absurd (omega (arith, stays id 0 ids h e, lt))
    by_test false e = e

none_of : (id : ℕ) (more ids : List ℕ) → AllByRecursion (λ k. has k (with_row (λ n. n) id ids) ≡ false) more → has id more ≡ false
none_of id [] ids h = refl
none_of id (k ∷ ks) ids h = grind (arith, nat_tests, h.0, has-put k id ids, none_of id ks ids h.1)

-- where all of them add one, none is there twice, and none was there
distinct : (given ids : List ℕ) → AreInOrder (λ n. n) ids → length (with_ids given ids) ≡ length given + length ids → Distinct given × AllByRecursion (λ k. has k ids ≡ false) given
distinct [] ids h e = (tt, tt)
distinct (id ∷ more) ids h e =
    let put = with_row (λ (n : ℕ). n) id ids in
    let grows : length ids < length put = omega (arith, few more put, e) in
    let behind : Distinct more × AllByRecursion (λ k. has k put ≡ false) more = distinct more put (with_row_in_order (λ n. n) 0 id ids (omega arith) h) (omega (arith, few more put, length-put id ids, e, grows)) in (
      (none_of id more ids behind.1, behind.0),
      (new_one id ids h grows, all_weaker (λ k. has k put ≡ false) (λ k. has k ids ≡ false) (λ k e. neither_second (eqb id k) (has k ids) (sym (has-put k id ids) ∙ e)) more behind.1),
    )

-- two check-ins of one list, position and nonce have one key
same_key : (l m p q : ℕ) (a b : Option (List ℕ)) (k : ℕ) → (eqb l m && (eqb p q && same_nonce a b)) ≡ true → key_of l p a ≡ Some k → key_of m q b ≡ Some k
same_key l m p q None b k e h = absurd (cc (h))
same_key l m p q (Some a) None k e h = absurd (grind (arith, nat_tests, e))
same_key l m p q (Some a) (Some b) k e h =
    let lists : l ≡ m = grind (arith, nat_tests, e) in
    let positions : p ≡ q = grind (arith, nat_tests, e) in
    let test : same_text a b ≡ true = grind (arith, nat_tests, e) in
    let nonces : a ≡ b = (bytes_decides a b).0 test in
    ap (λ (n : ℕ). key_of n q (Some b)) (sym lists) ∙ ap (λ (n : ℕ). key_of l n (Some b)) (sym positions) ∙ ap (λ (n : List ℕ). key_of l p (Some n)) (sym nonces) ∙ h

-- a check-in without nonce repeats none
repeats_none : (c d : Checkin) → nonce_key c ≡ None → repeats c d ≡ false
repeats_none c d e = by_nonce c.nonce e
  where
    by_nonce : (n : Option (List ℕ)) → key_of c.list c.position n ≡ None → (eqb c.list d.list && (eqb c.position d.position && same_nonce n d.nonce)) ≡ false
    by_nonce None e = grind (arith, nat_tests)
    by_nonce (Some n) e = absurd (cc (e))

-- one whose key no later one has repeats none of these
repeats_later : (c : Checkin) (k : ℕ) → nonce_key c ≡ Some k → (rows : List Checkin) → has k (filter_map nonce_key rows) ≡ false → AllByRecursion (λ d. repeats c d ≡ false) rows
repeats_later c k e [] h = tt
repeats_later c k e (d ∷ ds) h = by_key (nonce_key d) refl h (repeats_later c k e ds)
  where
    by_repeat : (b : Bool) → repeats c d ≡ b → (repeats c d ≡ true → ⊥) → repeats c d ≡ false
    by_repeat true r wrong = absurd (wrong r)
    by_repeat false r wrong = r

    by_key : (o : Option ℕ) → nonce_key d ≡ o → has k (filter_map nonce_key (d ∷ ds)) ≡ false → (has k (filter_map nonce_key ds) ≡ false → AllByRecursion (λ x. repeats c x ≡ false) ds) → AllByRecursion (λ x. repeats c x ≡ false) (d ∷ ds)
    by_key None is absent more =
        let rest : has k (filter_map nonce_key ds) ≡ false = rw is at absent in
        (by_repeat (repeats c d) refl (λ r. cc (same_key c.list d.list c.position d.position c.nonce d.nonce k r e, is)), more rest)
    by_key (Some m) is absent more =
        let both : (eqb m k || has k (filter_map nonce_key ds)) ≡ false = rw is at absent in
        let other : eqb m k ≡ false = neither_first (eqb m k) (has k (filter_map nonce_key ds)) both in
        let wrong : repeats c d ≡ true → ⊥ = λ r. let same : m ≡ k = cc (same_key c.list d.list c.position d.position c.nonce d.nonce k r e, is) in grind (arith, nat_tests, other, same) in
        (by_repeat (repeats c d) refl wrong, more (neither_second (eqb m k) (has k (filter_map nonce_key ds)) both))

once : (rows : List Checkin) → Distinct (filter_map nonce_key rows) → AreOnce rows
once [] h = tt
once (c ∷ cs) h = by_key (nonce_key c) refl h (once cs)
  where
    by_key : (o : Option ℕ) → nonce_key c ≡ o → Distinct (filter_map nonce_key (c ∷ cs)) → (Distinct (filter_map nonce_key cs) → AreOnce cs) → AreOnce (c ∷ cs)
    by_key None is all more =
        let rest : Distinct (filter_map nonce_key cs) = rw is at all in
        (all_of (λ d. repeats c d ≡ false) (λ d. repeats_none c d is) cs, more rest)
    by_key (Some k) is all more =
        let both : (has k (filter_map nonce_key cs) ≡ false) × Distinct (filter_map nonce_key cs) = rw is at all in
        (repeats_later c k is cs both.0, more both.1)

pub once_by_keys : (rows : List Checkin) (keys : List ℕ) (own : Bool) → keys ≡ filter_map nonce_key rows → own ≡ (length (rising keys) == length keys) → own ≡ true → AreOnce rows
once_by_keys rows keys own are is yes_own =
    let test : (length (rising keys) == length keys) ≡ true = sym is ∙ yes_own in
    let count : length (rising keys) ≡ length keys = grind (arith, nat_tests, test) in
    let all : Distinct keys = (distinct keys [] tt (omega (arith, count))).0 in
    once rows (subst Distinct are all)
