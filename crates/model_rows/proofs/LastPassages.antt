-- The last check-in of a position, after a new one.
use Rattle.std.proofs.Common.{◌≡◌, ℕ, Bool, true, false, not, cond, eqb, List, [], ◌∷◌, filter, Option, Some, None, refl, sym, ap, ◌∙◌, arith}
use Rattle.std.specs.Prelude.{if◌then◌else◌}
use Rattle.std.proofs.lemmas.Bool.Decides.{nat_tests}
use Rattle.base_tables.specs.Tables.{row_at, with_row}
use Rattle.model_rows.specs.declared.rows.Checkin.{Checkin}
use Rattle.model_rows.specs.declared.passages.Passage.{Passage}
use Rattle.model_rows.specs.Passages.{is_exit, passage, is_later, later, last_after, is_exit_if, is_at, last_at, is_out}
use Rattle.model_rows.proofs.EachRow.{with_row_cases}

-- what is later than one that isn't earlier than another is later than that one
not_before : (a b l : Passage) → is_later a l ≡ true → is_later b l ≡ false → is_later b a ≡ false
not_before a b l e f = grind (arith, nat_tests, e, f)

-- of two with different ids one is later
one_later : (a b : Passage) → eqb a.id b.id ≡ false → is_later b a ≡ not (is_later a b)
one_later a b e = grind (arith, nat_tests, e)

-- the later of three doesn't mind the order of two with different ids
pub later_swap : (o : Option Passage) (a b : Passage) → eqb a.id b.id ≡ false → later (Some (later o a)) b ≡ later (Some (later o b)) a
unfolding later
later_swap None a b e = by_test (is_later a b) (is_later b a) (one_later a b e)
  where
    by_test : (x y : Bool) → y ≡ not x → (if y then b else a) ≡ (if x then a else b)
    by_test true true h = absurd (cc (h))
    by_test true false h = refl
    by_test false true h = refl
    by_test false false h = absurd (cc (h))
later_swap (Some l) a b e = by_tests (is_later a l) (is_later b l) refl refl
  where
    by_both : (x y : Bool) → y ≡ not x → (if y then b else a) ≡ (if x then a else b)
    by_both true true h = absurd (cc (h))
    by_both true false h = refl
    by_both false true h = refl
    by_both false false h = absurd (cc (h))

    by_tests : (x y : Bool) → is_later a l ≡ x → is_later b l ≡ y → (let first : Passage = if x then a else l in if is_later b first then b else first) ≡ (let first : Passage = if y then b else l in if is_later a first then a else first)
    by_tests true true f g = by_both (is_later a b) (is_later b a) (one_later a b e)
    by_tests true false f g = ap (λ (t : Bool). if t then b else a) (not_before a b l f g) ∙ sym (ap (λ (t : Bool). if t then a else l) f)
    by_tests false true f g = ap (λ (t : Bool). if t then b else l) g ∙ sym (ap (λ (t : Bool). if t then a else b) (not_before b a l g f))
    by_tests false false f g = ap (λ (t : Bool). if t then b else l) g ∙ sym (ap (λ (t : Bool). if t then a else l) f)

module _ (position : ℕ) (row : Checkin) where
  -- of a list that has no check-in of the row's id, with the first one gone
  absent_rest : (c : Checkin) (cs : List Checkin) → row_at (λ r. r.id) row.id (c ∷ cs) ≡ None → (eqb c.id row.id ≡ false) × (row_at (λ r. r.id) row.id cs ≡ None)
  absent_rest c cs h = by_id (eqb c.id row.id) refl h
    where
      by_id : (b : Bool) → eqb c.id row.id ≡ b → cond b (Some c) (row_at (λ r. r.id) row.id cs) ≡ None → (eqb c.id row.id ≡ false) × (row_at (λ r. r.id) row.id cs ≡ None)
      by_id true e h = absurd (cc (h))
      by_id false e h = (e, h)

  -- a check-in may as well come last
  put_before : (o : Option Passage) (cs : List Checkin) → row_at (λ r. r.id) row.id cs ≡ None → last_after (Some (later o (passage row))) (filter (is_at position) cs) ≡ Some (later (last_after o (filter (is_at position) cs)) (passage row))
  put_before o [] h = refl
  put_before o (c ∷ cs) h = by_test (is_at position c) (λ first left. put_before first cs left)
    where
      both : (eqb c.id row.id ≡ false) × (row_at (λ r. r.id) row.id cs ≡ None)
      both = absent_rest c cs h

      flip : eqb c.id row.id ≡ false → eqb row.id c.id ≡ false
      flip e = grind (arith, nat_tests, e)

      by_test : (b : Bool)
          → ((first : Option Passage) → row_at (λ r. r.id) row.id cs ≡ None → last_after (Some (later first (passage row))) (filter (is_at position) cs) ≡ Some (later (last_after first (filter (is_at position) cs)) (passage row)))
          → last_after (Some (later o (passage row))) (cond b (c ∷ filter (is_at position) cs) (filter (is_at position) cs)) ≡ Some (later (last_after o (cond b (c ∷ filter (is_at position) cs) (filter (is_at position) cs))) (passage row))
      by_test true more = ap (λ (p : Passage). last_after (Some p) (filter (is_at position) cs)) (later_swap o (passage row) (passage c) (flip both.0)) ∙ more (Some (later o (passage c))) both.1
      by_test false more = more o both.1

  -- wherever it is put
  put_anywhere : (o : Option Passage) (cs : List Checkin) → row_at (λ r. r.id) row.id cs ≡ None → last_after o (filter (is_at position) (with_row (λ r. r.id) row cs)) ≡ (if is_at position row then Some (later (last_after o (filter (is_at position) cs)) (passage row)) else last_after o (filter (is_at position) cs))
  put_anywhere o [] h = by_test (is_at position row)
    where
      by_test : (b : Bool) → last_after o (cond b (row ∷ []) []) ≡ (if b then Some (later o (passage row)) else o)
      by_test true = refl
      by_test false = refl
  put_anywhere o (c ∷ cs) h =
      with_row_cases (λ r. r.id) (λ rows. last_after o (filter (is_at position) rows) ≡ (if is_at position row then Some (later (last_after o (filter (is_at position) (c ∷ cs))) (passage row)) else last_after o (filter (is_at position) (c ∷ cs)))) row c cs
      (λ lt. behind (is_at position c) (λ first left. put_anywhere first cs left))
      (λ same. absurd (never same both.0))
      (λ lt. before (is_at position row))
    where
      both : (eqb c.id row.id ≡ false) × (row_at (λ r. r.id) row.id cs ≡ None)
      both = absent_rest c cs h

      never : c.id ≡ row.id → eqb c.id row.id ≡ false → ⊥
      never same e = grind (arith, nat_tests, same, e)

      behind : (b : Bool)
          → ((first : Option Passage) → row_at (λ r. r.id) row.id cs ≡ None → last_after first (filter (is_at position) (with_row (λ r. r.id) row cs)) ≡ (if is_at position row then Some (later (last_after first (filter (is_at position) cs)) (passage row)) else last_after first (filter (is_at position) cs)))
          → last_after o (cond b (c ∷ filter (is_at position) (with_row (λ r. r.id) row cs)) (filter (is_at position) (with_row (λ r. r.id) row cs))) ≡ (if is_at position row then Some (later (last_after o (cond b (c ∷ filter (is_at position) cs) (filter (is_at position) cs))) (passage row)) else last_after o (cond b (c ∷ filter (is_at position) cs) (filter (is_at position) cs)))
      behind true more = more (Some (later o (passage c))) both.1
      behind false more = more o both.1

      before : (b : Bool) → last_after o (cond b (row ∷ filter (is_at position) (c ∷ cs)) (filter (is_at position) (c ∷ cs))) ≡ (if b then Some (later (last_after o (filter (is_at position) (c ∷ cs))) (passage row)) else last_after o (filter (is_at position) (c ∷ cs)))
      before true = put_before o (c ∷ cs) h
      before false = refl

  -- the last check-in of a position after a new check-in
  pub last_put : (cs : List Checkin) → row_at (λ r. r.id) row.id cs ≡ None → last_at position (with_row (λ r. r.id) row cs) ≡ (if is_at position row then Some (later (last_at position cs) (passage row)) else last_at position cs)
  last_put cs h = put_anywhere None cs h

  -- another position is out as it was
  pub other_out : (cs : List Checkin) → row_at (λ r. r.id) row.id cs ≡ None → is_at position row ≡ false → is_out position (with_row (λ r. r.id) row cs) ≡ is_out position cs
  unfolding is_out
  other_out cs h other = ap (λ (last : Option Passage). is_exit_if last) (last_put cs h ∙ ap (λ (b : Bool). if b then Some (later (last_at position cs) (passage row)) else last_at position cs) other)

  -- an exit brings nobody in, and an entry lets nobody out
  by_exit : (last : Option Passage) → is_exit row.kind ≡ true → is_exit_if last ≡ true → is_exit_if (Some (later last (passage row))) ≡ true
  unfolding later
  by_exit None exit out = exit
  by_exit (Some l) exit out = by_test (is_later (passage row) l)
    where
      by_test : (b : Bool) → is_exit_if (Some (if b then passage row else l)) ≡ true
      by_test true = exit
      by_test false = out

  by_entry : (last : Option Passage) → is_exit row.kind ≡ false → is_exit_if last ≡ false → is_exit_if (Some (later last (passage row))) ≡ false
  unfolding later
  by_entry None entry inside = entry
  by_entry (Some l) entry inside = by_test (is_later (passage row) l)
    where
      by_test : (b : Bool) → is_exit_if (Some (if b then passage row else l)) ≡ false
      by_test true = entry
      by_test false = inside

  pub exit_keeps_out : (cs : List Checkin) → row_at (λ r. r.id) row.id cs ≡ None → is_exit row.kind ≡ true → is_out position cs ≡ true → is_out position (with_row (λ r. r.id) row cs) ≡ true
  unfolding is_out
  exit_keeps_out cs h exit out = by_own (is_at position row) (last_put cs h)
    where
      by_own : (b : Bool) → last_at position (with_row (λ r. r.id) row cs) ≡ (if b then Some (later (last_at position cs) (passage row)) else last_at position cs) → is_exit_if (last_at position (with_row (λ r. r.id) row cs)) ≡ true
      by_own true is = ap (λ (l : Option Passage). is_exit_if l) is ∙ by_exit (last_at position cs) exit out
      by_own false is = ap (λ (l : Option Passage). is_exit_if l) is ∙ out

  pub entry_keeps_in : (cs : List Checkin) → row_at (λ r. r.id) row.id cs ≡ None → is_exit row.kind ≡ false → is_out position cs ≡ false → is_out position (with_row (λ r. r.id) row cs) ≡ false
  unfolding is_out
  entry_keeps_in cs h entry inside = by_own (is_at position row) (last_put cs h)
    where
      by_own : (b : Bool) → last_at position (with_row (λ r. r.id) row cs) ≡ (if b then Some (later (last_at position cs) (passage row)) else last_at position cs) → is_exit_if (last_at position (with_row (λ r. r.id) row cs)) ≡ false
      by_own true is = ap (λ (l : Option Passage). is_exit_if l) is ∙ by_entry (last_at position cs) entry inside
      by_own false is = ap (λ (l : Option Passage). is_exit_if l) is ∙ inside
