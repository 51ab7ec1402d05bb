-- What an index of quotas tells, and what it has to be told of a quota that is put.
use Rattle.std.proofs.Common.{◌≡◌, ◌≢◌, ℕ, ◌+◌, ◌<◌, ◌⊎◌, inl, inr, Bool, true, false, cond, ◌&&◌, eqb, List, [], ◌∷◌, length, Option, Some, None, refl, sym, ap, ◌∙◌, arith}
use Rattle.std.specs.Prelude.{◌||◌, not, filter, map, if◌then◌else◌}
use Rattle.std.specs.List.{list_any}
use Rattle.std.proofs.lemmas.Bool.Decides.{nat_tests, eqb_tells}
use Rattle.base_tables.specs.Tables.{has, row_at, with_row, InOrderFrom, AreInOrder}
use Rattle.base_tables.proofs.Edits.{row_at-with_row, row_at_above}
use Rattle.base_tables.proofs.Places.{order_weaker}
use Rattle.base_index.specs.Entries.{has_entry, ids_of, with_entries, without_id}
use Rattle.base_index.proofs.Sorted.{same_ids}
use Rattle.base_index.proofs.EntryLemmas.{has_entry-with_entries, has_entry-without_id, has-ids_of, ids_of_rise}
use Rattle.model_catalogue.specs.declared.rows.Quota.{Quota}
use Rattle.model_catalogue.specs.declared.rows.Product.{Product}
use Rattle.model_catalogue.specs.Member.{lists}
use Rattle.book_catalogue.specs.Members.{lists_id, AreMembers, AreRelisted}

-- the index after a quota's members were listed in the place of those that it had
pub listed : (members : Quota → List ℕ) (row : Quota) (quotas : List Quota) (old new : List ℕ) → AreMembers members quotas old → AreRelisted row.id (members row) old new → AreMembers members (with_row (λ r. r.id) row quotas) new
listed members row quotas old new are more id other =
    more id other ∙ ap (λ (b : Bool). if eqb row.id other then has id (members row) else b) (are id other) ∙ by_id (eqb row.id other) ∙ ap (lists_id members id) (sym (row_at-with_row (λ (r : Quota). r.id) other row quotas))
  where
    by_id : (b : Bool) → (if b then has id (members row) else lists_id members id (row_at (λ r. r.id) other quotas)) ≡ lists_id members id (if b then Some row else row_at (λ r. r.id) other quotas)
    by_id true = refl
    by_id false = refl

-- a quota that had no members gets some
pub relisted_new : (quota : ℕ) (ids old new : List ℕ) → quota < 18446744073709551616 → ((id : ℕ) → has_entry id quota old ≡ false) → new ≡ with_entries ids quota old → AreRelisted quota ids old new
relisted_new quota ids old new lt none is id other = ap (has_entry id other) is ∙ has_entry-with_entries ids quota old id other lt ∙ by_id (eqb_tells quota other)
  where
    by_id : ((eqb quota other ≡ true) × (quota ≡ other)) ⊎ ((eqb quota other ≡ false) × (quota ≢ other)) → ((eqb quota other && has id ids) || has_entry id other old) ≡ (if eqb quota other then has id ids else has_entry id other old)
    by_id (inl e) = rw e.0 (ap (λ b. has id ids || b) (ap (λ q. has_entry id q old) (sym e.1) ∙ none id) ∙ or_false (has id ids))
      where
        or_false : (b : Bool) → (b || false) ≡ b
        or_false true = refl
        or_false false = refl
    by_id (inr e) = rw e.0 refl

-- a quota that had others gets these in their place
pub relisted_anew : (quota : ℕ) (ids old left new : List ℕ) → quota < 18446744073709551616 → left ≡ without_id quota old → new ≡ with_entries ids quota left → AreRelisted quota ids old new
relisted_anew quota ids old left new lt gone is id other =
    ap (has_entry id other) is ∙ has_entry-with_entries ids quota left id other lt ∙ ap (λ es. (eqb quota other && has id ids) || has_entry id other es) gone ∙ ap (λ b. (eqb quota other && has id ids) || b) (has_entry-without_id quota old id other) ∙ by_id (eqb quota other) (has id ids)
  where
    by_id : (b c : Bool) → ((b && c) || (not b && has_entry id other old)) ≡ (if b then c else has_entry id other old)
    by_id true true = refl
    by_id true false = refl
    by_id false c = refl

-- the ids of the quotas that pass, rising
abbrev ids_that : (Quota → Bool) → List Quota → List ℕ
ids_that passes quotas = map (λ q. q.id) (filter passes quotas)

ids_rise : (passes : Quota → Bool) (n : ℕ) (quotas : List Quota) → InOrderFrom (λ (q : Quota). q.id) n quotas → InOrderFrom (λ n. n) n (ids_that passes quotas)
ids_rise passes n [] h = tt
ids_rise passes n (q ∷ qs) h = by_test (passes q) (ids_rise passes (q.id + 1) qs h.1)
  where
    by_test : (b : Bool) → InOrderFrom (λ n. n) (q.id + 1) (ids_that passes qs) → InOrderFrom (λ n. n) n (map (λ (q : Quota). q.id) (cond b (q ∷ filter passes qs) (filter passes qs)))
    by_test true more = (h.0, more)
    by_test false more = order_weaker (λ n. n) (q.id + 1) n (ids_that passes qs) (omega (arith, h.0)) more

-- an id is among them where its quota lists what is asked for
has-ids_that : (members : Quota → List ℕ) (k i n : ℕ) (quotas : List Quota) → InOrderFrom (λ (q : Quota). q.id) n quotas → has i (ids_that (λ q. has k (members q)) quotas) ≡ lists_id members k (row_at (λ r. r.id) i quotas)
has-ids_that members k i n [] h = refl
has-ids_that members k i n (q ∷ qs) h = by_test (has k (members q)) refl (eqb_tells q.id i) (has-ids_that members k i (q.id + 1) qs h.1)
  where
    above : q.id ≡ i → lists_id members k (row_at (λ r. r.id) i qs) ≡ false
    above e = ap (lists_id members k) (row_at_above (λ (r : Quota). r.id) (q.id + 1) i qs (omega (arith, e)) h.1)

    by_test : (b : Bool) → has k (members q) ≡ b → ((eqb q.id i ≡ true) × (q.id ≡ i)) ⊎ ((eqb q.id i ≡ false) × (q.id ≢ i))
        → has i (ids_that (λ q. has k (members q)) qs) ≡ lists_id members k (row_at (λ r. r.id) i qs)
        → has i (map (λ (q : Quota). q.id) (cond b (q ∷ filter (λ q. has k (members q)) qs) (filter (λ q. has k (members q)) qs))) ≡ lists_id members k (if eqb q.id i then Some q else row_at (λ r. r.id) i qs)
    by_test true is (inl e) more = rw e.0 (sym is)
    by_test true is (inr e) more = rw e.0 more
    by_test false is (inl e) more = rw e.0 (more ∙ above e.1 ∙ sym is)
    by_test false is (inr e) more = rw e.0 more

-- what the index finds are the quotas that list what is asked for
pub found_are : (members : Quota → List ℕ) (k : ℕ) (quotas : List Quota) (entries : List ℕ) → AreInOrder (λ (q : Quota). q.id) quotas → AreInOrder (λ n. n) entries → AreMembers members quotas entries → ids_of k entries ≡ map (λ q. q.id) (filter (λ q. has k (members q)) quotas)
found_are members k quotas entries order sorted are =
    same_ids (ids_of k entries) (ids_that (λ q. has k (members q)) quotas) (ids_of_rise k entries sorted) (ids_rise (λ q. has k (members q)) 0 quotas order)
    (λ i. has-ids_of k i entries ∙ are k i ∙ sym (has-ids_that members k i 0 quotas order))

-- the same by the product that they are found for
pub found_by_item : (product : Product) (quotas : List Quota) (entries : List ℕ) → AreInOrder (λ (q : Quota). q.id) quotas → AreInOrder (λ n. n) entries → AreMembers (λ q. q.items) quotas entries → product.variation ≡ None → ids_of product.item entries ≡ map (λ q. q.id) (filter (λ q. lists q product product.variation) quotas)
found_by_item product quotas entries order sorted are is =
    found_are (λ q. q.items) product.item quotas entries order sorted are ∙ ap (λ (v : Option ℕ). map (λ (q : Quota). q.id) (filter (λ q. lists q product v) quotas)) (sym is)

pub found_by_variation : (product : Product) (variation : ℕ) (quotas : List Quota) (entries : List ℕ) → AreInOrder (λ (q : Quota). q.id) quotas → AreInOrder (λ n. n) entries → AreMembers (λ q. q.variations) quotas entries → product.variation ≡ Some variation → ids_of variation entries ≡ map (λ q. q.id) (filter (λ q. lists q product product.variation) quotas)
found_by_variation product variation quotas entries order sorted are is =
    found_are (λ q. q.variations) variation quotas entries order sorted are ∙ ap (λ (v : Option ℕ). map (λ (q : Quota). q.id) (filter (λ q. lists q product v) quotas)) (sym is)

-- some are found, where one passes
pub some_found : (passes : Quota → Bool) (quotas : List Quota) → not (eqb (length (map (λ (q : Quota). q.id) (filter passes quotas))) 0) ≡ list_any passes quotas
some_found passes [] = refl
some_found passes (q ∷ qs) = by_test (passes q) (some_found passes qs)
  where
    by_test : (b : Bool) → not (eqb (length (map (λ (q : Quota). q.id) (filter passes qs))) 0) ≡ list_any passes qs → not (eqb (length (map (λ (q : Quota). q.id) (cond b (q ∷ filter passes qs) (filter passes qs)))) 0) ≡ (b || list_any passes qs)
    by_test true more = grind (arith, nat_tests)
    by_test false more = more
