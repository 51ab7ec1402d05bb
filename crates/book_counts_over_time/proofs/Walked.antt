-- What the walks over some rows add up to.
use Rattle.std.proofs.Common.{◌≡◌, ℕ, zero, suc, ◌+◌, ◌<◌, ◌≤◌, Bool, true, false, ◌&&◌, List, [], ◌∷◌, length, get_or, take, Some, refl, sym, ap, ◌∙◌, add-one, sum_by, count_by, arith}
use Rattle.std.specs.Prelude.{if◌then◌else◌}
use Rattle.std.proofs.lemmas.Grind.{common_steps}
use Rattle.std.proofs.lemmas.List.Sums.{sum_by-cons}
use Rattle.model_catalogue.specs.declared.rows.Quota.{Quota}
use Rattle.model_rows.specs.Lists.{Lists}
use Rattle.model_rows.specs.CameDue.{is_due_cart}
use Rattle.model_rows.specs.Conditions.{names, holds, is_live_cart}
use Rattle.model_catalogue.specs.Member.{is_in}
use Rattle.model_rows.specs.Asked.{held_in}
use Rattle.model_rows.specs.Usage.{cart_counts}
use Rattle.book_store.specs.Walks.{one_if}
use Rattle.book_indexes.proofs.EntryLemmas.{sums_like}

abbrev one : Bool → ℕ
one b = if b then 1 else 0

taken_one : (f : ℕ → ℕ) (ids : List ℕ) (i d : ℕ) → i < length ids → sum_by f (take (suc i) ids) ≡ sum_by f (take i ids) + f (get_or ids i d)
taken_one f [] i d lt = absurd (omega arith)
taken_one f (y ∷ ys) zero d lt = omega (arith, sum_by-cons f y [])
taken_one f (y ∷ ys) (suc i) d lt = omega (arith, taken_one f ys i d (omega arith), sum_by-cons f y (take i ys), sum_by-cons f y (take (suc i) ys))

-- one more
pub walk_more : (f : ℕ → ℕ) (ids : List ℕ) (i x : ℕ) → i < length ids → ((d : ℕ) → get_or ids i d ≡ x) → sum_by f (take (i + 1) ids) ≡ sum_by f (take i ids) + f x
walk_more f ids i x lt at = rw add-one (omega (arith, ap f (at 0), taken_one f ids i 0 lt))

-- a walk that goes on by one has one more
pub one_walked : (f : ℕ → ℕ) (ids : List ℕ) (i x total more : ℕ) → i < length ids → ((d : ℕ) → get_or ids i d ≡ x) → total ≡ sum_by f (take i ids) → more ≡ f x → total + more ≡ sum_by f (take (i + 1) ids)
one_walked f ids i x total more lt at is more_is = omega (arith, is, more_is, walk_more f ids i x lt at)

get_or_any : (ids : List ℕ) (i d e : ℕ) → i < length ids → get_or ids i d ≡ get_or ids i e
get_or_any [] i d e lt = absurd (omega arith)
get_or_any (x ∷ xs) zero d e lt = refl
get_or_any (x ∷ xs) (suc i) d e lt = get_or_any xs i d e (omega arith)

-- the same, by what is found under the id
pub one_found : {R : Type 0} (find : ℕ → R) (f : R → ℕ) (ids : List ℕ) (i : ℕ) (found : R) (total more : ℕ) → i < length ids → ((d : ℕ) → found ≡ find (get_or ids i d)) → total ≡ sum_by (λ k. f (find k)) (take i ids) → more ≡ f found → total + more ≡ sum_by (λ k. f (find k)) (take (i + 1) ids)
one_found find f ids i found total more lt at is more_is = one_walked (λ k. f (find k)) ids i (get_or ids i 0) total more lt (λ d. get_or_any ids i d 0 lt) is (more_is ∙ ap f (at 0))

pub found_more : {R : Type 0} (find : ℕ → R) (f : R → ℕ) (ids : List ℕ) (i : ℕ) (found : R) → i < length ids → ((d : ℕ) → found ≡ find (get_or ids i d)) → sum_by (λ k. f (find k)) (take (i + 1) ids) ≡ sum_by (λ k. f (find k)) (take i ids) + f found
found_more find f ids i found lt at = walk_more (λ k. f (find k)) ids i (get_or ids i 0) lt (λ d. get_or_any ids i d 0 lt) ∙ ap (λ n. sum_by (λ k. f (find k)) (take i ids) + n) (ap f (sym (at 0)))

pub taken : (f : ℕ → ℕ) (ids : List ℕ) (i : ℕ) → length ids ≤ i → sum_by f (take i ids) ≡ sum_by f ids
taken f ids i le = ap (sum_by f) (take_all ids i le)
  where
    take_all : (ids : List ℕ) (i : ℕ) → length ids ≤ i → take i ids ≡ ids
    take_all ids i le = grind (arith, common_steps)

-- a walk that is at the end has it all
pub walked : (f : ℕ → ℕ) (ids : List ℕ) (i total : ℕ) → length ids ≤ i → total ≡ sum_by f (take i ids) → total ≡ sum_by f ids
walked f ids i total le is = is ∙ taken f ids i le

first_and : (a b : Bool) → (if a then one b else 0) ≡ one (a && b)
first_and true b = refl
first_and false b = refl

third_and : (a b d : Bool) → (if a then one (b && d) else 0) ≡ one ((b && a) && d)
third_and true true d = refl
third_and true false d = refl
third_and false true d = refl
third_and false false d = refl

pub held_in_walk : (at : ℕ) (quota : Quota) (v : ℕ) (lists : Lists) → sum_by (λ c. if names v c.voucher then one_if (λ c. is_live_cart at c && is_in quota c.product) (Some c) else 0) lists.carts ≡ held_in at quota v lists
unfolding one_if
held_in_walk at quota v lists = sums_like (λ c. if names v c.voucher then one_if (λ c. is_live_cart at c && is_in quota c.product) (Some c) else 0) (λ c. one (holds at v c && is_in quota c.product)) lists.carts (λ c. third_and (names v c.voucher) (is_live_cart at c) (is_in quota c.product))

pub lapsed_walk : (from to : ℕ) (quota : Quota) (lists : Lists) → sum_by (λ c. if is_due_cart from to c then one_if (cart_counts lists from quota) (Some c) else 0) lists.carts ≡ count_by (λ c. is_due_cart from to c && cart_counts lists from quota c) lists.carts
unfolding one_if
lapsed_walk from to quota lists = sums_like (λ c. if is_due_cart from to c then one_if (cart_counts lists from quota) (Some c) else 0) (λ c. one (is_due_cart from to c && cart_counts lists from quota c)) lists.carts (λ c. first_and (is_due_cart from to c) (cart_counts lists from quota c))
