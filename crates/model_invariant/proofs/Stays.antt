-- What a look-up finds stays as it is found where a row is put.
use Rattle.std.proofs.Common.{◌≡◌, ℕ, ◌≢◌, ◌⊎◌, inl, inr, Bool, true, false, ◌&&◌, eqb, cond, List, [], ◌∷◌, Option, Some, None, refl, sym, ap, ◌∙◌, subst}
use Rattle.std.specs.List.{list_all}
use Rattle.std.proofs.lemmas.Bool.Decides.{eqb_tells}
use Rattle.base_tables.specs.Tables.{row_at, with_row}
use Rattle.base_tables.proofs.Edits.{row_at-with_row}

module _ {T : Type 0} (key : T → ℕ) (test : Option T → Bool) (row : T) (rows : List T) where
  -- what passes a test still does, where a row that is put passes it if the one in its place did
  pub passes_still : (test (row_at key (key row) rows) ≡ true → test (Some row) ≡ true) → (id : ℕ) → test (row_at key id rows) ≡ true → test (row_at key id (with_row key row rows)) ≡ true
  passes_still as_before id h = ap test (row_at-with_row key id row rows) ∙ by_id (eqb_tells (key row) id)
    where
      by_id : ((eqb (key row) id ≡ true) × (key row ≡ id)) ⊎ ((eqb (key row) id ≡ false) × (key row ≢ id)) → test (cond (eqb (key row) id) (Some row) (row_at key id rows)) ≡ true
      by_id (inl same) = rw same.0 (as_before (subst (λ (n : ℕ). test (row_at key n rows) ≡ true) (sym same.1) h))
      by_id (inr other) = rw other.0 h

  -- nothing passes where no row stands
  pub none_before : row_at key (key row) rows ≡ None → test None ≡ false → test (row_at key (key row) rows) ≡ true → test (Some row) ≡ true
  none_before absent fails is =
      let never : false ≡ true = sym fails ∙ (ap test (sym absent) ∙ is) in
      absurd (cc (never))

both_first : (a b : Bool) → (a && b) ≡ true → a ≡ true
both_first true b h = refl
both_first false b h = absurd (cc (h))

both_second : (a b : Bool) → (a && b) ≡ true → b ≡ true
both_second true b h = h
both_second false b h = absurd (cc (h))

both_of : (a b : Bool) → a ≡ true → b ≡ true → (a && b) ≡ true
both_of true b h more = more
both_of false b h more = absurd (cc (h))

-- what all of them pass they pass still
pub all_pass_still : (before after : ℕ → Bool) → ((id : ℕ) → before id ≡ true → after id ≡ true) → (ids : List ℕ) → list_all before ids ≡ true → list_all after ids ≡ true
all_pass_still before after stays [] h = refl
all_pass_still before after stays (id ∷ ids) h =
    both_of (after id) (list_all after ids) (stays id (both_first (before id) (list_all before ids) h)) (all_pass_still before after stays ids (both_second (before id) (list_all before ids) h))

-- the first of them passes, and so do the others
pub first_passes : (test : ℕ → Bool) (id : ℕ) (ids : List ℕ) → list_all test (id ∷ ids) ≡ true → test id ≡ true
first_passes test id ids h = both_first (test id) (list_all test ids) h

pub others_pass : (test : ℕ → Bool) (id : ℕ) (ids : List ℕ) → list_all test (id ∷ ids) ≡ true → list_all test ids ≡ true
others_pass test id ids h = both_second (test id) (list_all test ids) h
