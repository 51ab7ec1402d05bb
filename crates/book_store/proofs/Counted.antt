-- What the walks over some ids count.
use Rattle.std.proofs.Common.{◌≡◌, ℕ, suc, zero, ◌+◌, ◌<◌, ◌≤◌, Bool, true, false, ◌&&◌, List, [], ◌∷◌, Some, length, get_or, take, refl, ap, ◌∙◌, sum_by, count_by, arith}
use Rattle.std.proofs.lemmas.Grind.{common_steps}
use Rattle.std.specs.Prelude.{if◌then◌else◌}
use Rattle.std.proofs.lemmas.List.Sums.{sum_by-cons}
use Rattle.base_tables.specs.Tables.{row_at}
use Rattle.book_indexes.specs.Indexes.{Finds}
use Rattle.book_indexes.proofs.EntryLemmas.{sums_like}
use Rattle.book_store.specs.Walks.{amount_of, one_if}

abbrev one : Bool → ℕ
one b = if b then 1 else 0

-- a walk that is at the end has it all
pub walked : (f : ℕ → ℕ) (ids : List ℕ) (i total : ℕ) → length ids ≤ i → total ≡ sum_by f (take i ids) → total ≡ sum_by f ids
walked f ids i total le is = is ∙ ap (sum_by f) (take_all ids i le)
  where
    take_all : (ids : List ℕ) (i : ℕ) → length ids ≤ i → take i ids ≡ ids
    take_all ids i le = grind (arith, common_steps)

sum_next : (f : ℕ → ℕ) (ids : List ℕ) (i d : ℕ) → i < length ids → sum_by f (take (i + 1) ids) ≡ sum_by f (take i ids) + f (get_or ids i d)
sum_next f [] i d lt = absurd (omega arith)
sum_next f (x ∷ xs) zero d lt = omega (arith, sum_by-cons f x (take 0 xs))
sum_next f (x ∷ xs) (suc i) d lt =
    let next : suc i + 1 ≡ suc (i + 1) = omega arith in
    rw next (omega (arith, sum_next f xs i d (omega arith), sum_by-cons f x (take (i + 1) xs), sum_by-cons f x (take i xs)))

-- one more
pub next_counted : (f : ℕ → ℕ) (ids : List ℕ) (i x n count : ℕ) → i < length ids → ((d : ℕ) → get_or ids i d ≡ x) → n ≡ f x → count ≡ sum_by f (take i ids) → count + n ≡ sum_by f (take (i + 1) ids)
next_counted f ids i x n count lt at is had = omega (arith, sum_next f ids i x lt, ap f (at x), is, had)

first_and : (a b : Bool) → (if a then one b else 0) ≡ one (a && b)
first_and true b = refl
first_and false b = refl

-- those that are found and pass
pub counted : {T : Type 0} (id : T → ℕ) (test pass both : T → Bool) (rows : List T) (ids : List ℕ) → Finds id test rows ids → ((r : T) → (test r && pass r) ≡ both r) → sum_by (λ i. one_if pass (row_at id i rows)) ids ≡ count_by both rows
unfolding one_if
counted id test pass both rows ids finds alike = finds (one_if pass) ∙ sums_like (λ r. if test r then one_if pass (Some r) else 0) (λ r. one (both r)) rows (λ r. first_and (test r) (pass r) ∙ ap one (alike r))

-- what those that are found count, where no other row counts anything
pub added : {T : Type 0} (id : T → ℕ) (test : T → Bool) (amount : T → ℕ) (rows : List T) (ids : List ℕ) → Finds id test rows ids → ((r : T) → (if test r then amount r else 0) ≡ amount r) → sum_by (λ i. amount_of amount (row_at id i rows)) ids ≡ sum_by amount rows
unfolding amount_of
added id test amount rows ids finds alike = finds (amount_of amount) ∙ sums_like (λ r. if test r then amount_of amount (Some r) else 0) amount rows alike

pub and_swap : (a b : Bool) → (a && b) ≡ (b && a)
and_swap true true = refl
and_swap true false = refl
and_swap false true = refl
and_swap false false = refl

pub and_between : (a b c : Bool) → (a && (b && c)) ≡ ((b && a) && c)
and_between true true c = refl
and_between true false c = refl
and_between false true c = refl
and_between false false c = refl
