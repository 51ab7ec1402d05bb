-- What holds of each row, and stays so where a row is put or goes.
use Rattle.std.proofs.Common.{◌≡◌, ℕ, suc, ◌+◌, ◌<◌, ◌≤◌, ◌≢◌, ◌⊎◌, inl, inr, Bool, true, false, ◌||◌, cond, eqb, leb, List, [], ◌∷◌, Some, None, refl, sym, ap, ◌∙◌, subst, arith}
use Rattle.std.specs.List.{AllByRecursion, list_any}
use Rattle.std.proofs.lemmas.Bool.Decides.{nat_tests, leb_tells, eqb_tells}
use Rattle.base_tables.specs.Tables.{row_at, with_row, without_row}

-- neither of two
pub neither_first : (a b : Bool) → (a || b) ≡ false → a ≡ false
neither_first true b e = e
neither_first false b e = refl

pub neither_second : (a b : Bool) → (a || b) ≡ false → b ≡ false
neither_second true b e = absurd (cc)
neither_second false b e = e

module _ {T : Type 0} where
  pub all_weaker : (P Q : T → Type 0) → ((row : T) → P row → Q row) → (rows : List T) → AllByRecursion P rows → AllByRecursion Q rows
  all_weaker P Q f [] h = tt
  all_weaker P Q f (r ∷ rs) h = (f r h.0, all_weaker P Q f rs h.1)

  pub all_of : (P : T → Type 0) → ((row : T) → P row) → (rows : List T) → AllByRecursion P rows
  all_of P f [] = tt
  all_of P f (r ∷ rs) = (f r, all_of P f rs)

  pub all_both : (P Q : T → Type 0) (rows : List T) → AllByRecursion P rows → AllByRecursion Q rows → AllByRecursion (λ row. P row × Q row) rows
  all_both P Q [] p q = tt
  all_both P Q (r ∷ rs) p q = ((p.0, q.0), all_both P Q rs p.1 q.1)

  -- no row passes, so each of them may be taken as one that doesn't
  pub all_unless : (test : T → Bool) (P Q : T → Type 0) → ((row : T) → test row ≡ false → P row → Q row) → (rows : List T) → list_any test rows ≡ false → AllByRecursion P rows → AllByRecursion Q rows
  all_unless test P Q f [] e h = tt
  all_unless test P Q f (r ∷ rs) e h = (f r (neither_first (test r) (list_any test rs) e) h.0, all_unless test P Q f rs (neither_second (test r) (list_any test rs) e) h.1)

module _ {T : Type 0} (key : T → ℕ) where
  -- a row is put after the first one, in its place, or before it
  pub with_row_cases : (P : List T → Type 0) (row r : T) (rs : List T) → (key r < key row → P (r ∷ with_row key row rs)) → (key r ≡ key row → P (row ∷ rs)) → (key row < key r → P (row ∷ r ∷ rs)) → P (with_row key row (r ∷ rs))
  with_row_cases P row r rs after here before = by_order (leb_tells (suc (key r)) (key row)) (eqb_tells (key r) (key row))
    where
      by_order : (t : ((leb (suc (key r)) (key row) ≡ true) × (suc (key r) ≤ key row)) ⊎ ((leb (suc (key r)) (key row) ≡ false) × (key row < suc (key r)))) (e : ((eqb (key r) (key row) ≡ true) × (key r ≡ key row)) ⊎ ((eqb (key r) (key row) ≡ false) × (key r ≢ key row))) → P (with_row key row (r ∷ rs))
      by_order (inl t) e = rw t.0 (after (omega (arith, t.1)))
      by_order (inr t) (inl e) = rw (t.0, e.0) (here e.1)
      by_order (inr t) (inr e) = rw (t.0, e.0) (before (omega (arith, t.1, e.1)))

  -- the first row goes, or stays
  pub without_row_cases : (P : List T → Type 0) (id : ℕ) (r : T) (rs : List T) → P (without_row key id rs) → P (r ∷ without_row key id rs) → P (without_row key id (r ∷ rs))
  without_row_cases P id r rs gone stays = by_id (eqb (key r) id) refl
    where
      by_id : (b : Bool) → eqb (key r) id ≡ b → P (without_row key id (r ∷ rs))
      by_id true e = rw e gone
      by_id false e = rw e stays

  module _ (P : T → Type 0) where
    pub all-with_row : (row : T) (rows : List T) → P row → AllByRecursion P rows → AllByRecursion P (with_row key row rows)
    all-with_row row [] p h = (p, tt)
    all-with_row row (r ∷ rs) p h =
        let more = all-with_row row rs p h.1 in
        with_row_cases (AllByRecursion P) row r rs (λ lt. (h.0, more)) (λ e. (p, h.1)) (λ lt. (p, h))

    pub all-without_row : (id : ℕ) (rows : List T) → AllByRecursion P rows → AllByRecursion P (without_row key id rows)
    all-without_row id [] h = tt
    all-without_row id (r ∷ rs) h =
        let more = all-without_row id rs h.1 in
        without_row_cases (AllByRecursion P) id r rs more (h.0, more)

  -- a row that is found is one of them
  pub all-row_at : (P : T → Type 0) (id : ℕ) (rows : List T) (row : T) → row_at key id rows ≡ Some row → AllByRecursion P rows → P row
  all-row_at P id [] row e h = absurd (cc)
  all-row_at P id (r ∷ rs) row e h = by_id (eqb (key r) id) e (λ found. all-row_at P id rs row found h.1)
    where
      by_id : (b : Bool) → cond b (Some r) (row_at key id rs) ≡ Some row → (row_at key id rs ≡ Some row → P row) → P row
      by_id true found more =
          let same : r ≡ row = cc in
          subst P same h.0
      by_id false found more = more found

  -- and has the id
  pub key-row_at : (id : ℕ) (rows : List T) (row : T) → row_at key id rows ≡ Some row → key row ≡ id
  key-row_at id [] row e = absurd (cc)
  key-row_at id (r ∷ rs) row e = by_id (eqb_tells (key r) id) (λ found. key-row_at id rs row found)
    where
      by_id : ((eqb (key r) id ≡ true) × (key r ≡ id)) ⊎ ((eqb (key r) id ≡ false) × (key r ≢ id)) → (row_at key id rs ≡ Some row → key row ≡ id) → key row ≡ id
      by_id (inl t) more =
          let found : cond true (Some r) (row_at key id rs) ≡ Some row = ap (λ b. cond b (Some r) (row_at key id rs)) (sym t.0) ∙ e in
          let same : r ≡ row = cc in
          sym (ap key same) ∙ t.1
      by_id (inr t) more =
          let found : cond false (Some r) (row_at key id rs) ≡ Some row = ap (λ b. cond b (Some r) (row_at key id rs)) (sym t.0) ∙ e in
          more found

  -- what is found has an id below the next
  pub found_below : (id next : ℕ) (rows : List T) (row : T) → row_at key id rows ≡ Some row → AllByRecursion (λ r. key r < next) rows → id < next
  found_below id next rows row e h = omega (arith, all-row_at (λ r. key r < next) id rows row e h, key-row_at id rows row e)

  -- and the next id isn't found
  pub next_absent : (next : ℕ) (rows : List T) → AllByRecursion (λ r. key r < next) rows → row_at key next rows ≡ None
  next_absent next [] h = refl
  next_absent next (r ∷ rs) h = grind (arith, nat_tests, h.0, next_absent next rs h.1)
