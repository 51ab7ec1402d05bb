-- Ids that aren't among others, and what that tells of their rows.
use Rattle.std.proofs.Common.{◌≡◌, ◌≢◌, ℕ, ◌⊎◌, inl, inr, Bool, true, false, cond, eqb, List, [], ◌∷◌, ◌++◌, map, filter, Option, Some, None, refl, sym, ap, ◌∙◌, subst}
use Rattle.std.specs.Prelude.{◌||◌, if◌then◌else◌, flat_map}
use Rattle.std.proofs.lemmas.Bool.{false≢true}
use Rattle.std.proofs.lemmas.Bool.Decides.{eqb_tells}
use Rattle.base_tables.specs.Tables.{has, row_at}
use Rattle.base_tables.proofs.Appended.{has-append, neither}

pub absent_both : (k : ℕ) (xs ys : List ℕ) → has k (xs ++ ys) ≡ false → (has k xs ≡ false) × (has k ys ≡ false)
absent_both k xs ys absent = neither (has k xs) (has k ys) (sym (has-append k xs ys) ∙ absent)

-- a row that passes is listed
listed : {T : Type 0} (key : T → ℕ) (test : T → Bool) (id : ℕ) (row : T) (rows : List T) → row_at key id rows ≡ Some row → test row ≡ true → has id (map key (filter test rows)) ≡ true
listed key test id row [] found passes = absurd (cc found)
listed {T} key test id row (r ∷ rs) found passes = by_id (eqb (key r) id) refl found (test r) refl (λ later. listed key test id row rs later passes)
  where
    some : (a b : T) → Some a ≡ Some b → a ≡ b
    some a b e = cc e

    by_id : (b : Bool) → eqb (key r) id ≡ b → (let o : Option T = if b then Some r else row_at key id rs in o ≡ Some row) → (t : Bool) → test r ≡ t → (row_at key id rs ≡ Some row → has id (map key (filter test rs)) ≡ true) → has id (map key (cond t (r ∷ filter test rs) (filter test rs))) ≡ true
    by_id true own found true passed more = ap (λ b. b || has id (map key (filter test rs))) own
    by_id true own found false passed more = absurd (false≢true (sym passed ∙ ap test (some r row found) ∙ passes))
    by_id false own found true passed more = ap (λ b. b || has id (map key (filter test rs))) own ∙ more found
    by_id false own found false passed more = more found

pub absent_fails : {T : Type 0} (key : T → ℕ) (test : T → Bool) (id : ℕ) (row : T) (rows : List T) → row_at key id rows ≡ Some row → has id (map key (filter test rows)) ≡ false → test row ≡ false
absent_fails key test id row rows found absent = by_test (test row) refl
  where
    by_test : (b : Bool) → test row ≡ b → test row ≡ false
    by_test true is = absurd (false≢true (sym absent ∙ listed key test id row rows found is))
    by_test false is = is

pub alone : (k id : ℕ) → has id (k ∷ []) ≡ false → eqb k id ≡ false
alone k id absent = (neither (eqb k id) false absent).0

-- what none of these reaches isn't reached by one of them
pub one_absent : (k one : ℕ) (reach : ℕ → List ℕ) (ids : List ℕ) → has k (flat_map reach ids) ≡ false → has one ids ≡ true → has k (reach one) ≡ false
one_absent k one reach [] absent within = absurd (false≢true within)
one_absent k one reach (id ∷ ids) absent within = by_id (eqb_tells id one) (absent_both k (reach id) (flat_map reach ids) absent) (one_absent k one reach ids)
  where
    by_id : ((eqb id one ≡ true) × (id ≡ one)) ⊎ ((eqb id one ≡ false) × (id ≢ one)) → (has k (reach id) ≡ false) × (has k (flat_map reach ids) ≡ false) → (has k (flat_map reach ids) ≡ false → has one ids ≡ true → has k (reach one) ≡ false) → has k (reach one) ≡ false
    by_id (inl e) both more = subst (λ n. has k (reach n) ≡ false) e.1 both.0
    by_id (inr e) both more = more both.1 (sym (ap (λ b. b || has one ids) e.0) ∙ within)

-- an id that no row has isn't found
pub absent_none : {T : Type 0} (key : T → ℕ) (id : ℕ) (rows : List T) → has id (map key rows) ≡ false → row_at key id rows ≡ None
absent_none key id [] absent = refl
absent_none key id (r ∷ rs) absent =
    let both = neither (eqb (key r) id) (has id (map key rs)) absent in
    rw both.0 (absent_none key id rs both.1)
