-- The values of a list by place.
use Rattle.std.proofs.Common.{◌≡◌, ℕ, zero, suc, ◌+◌, ◌<◌, Bool, List, [], ◌∷◌, ◌++◌, length, take, get_or, count_by, sum_by, refl, sym, ap, ◌∙◌, arith}
use Rattle.std.specs.Prelude.{if◌then◌else◌}
use Rattle.std.proofs.lemmas.List.{take_more}
use Rattle.std.proofs.lemmas.List.Sums.{sum_by-cons}
use Rattle.model_rows.specs.declared.rows.Usage.{Usage}
use Rattle.book_tally.specs.declared.tally.Count.{Count}
use Rattle.book_tally.specs.Amounts.{nothing, plus}
use Rattle.book_tally.specs.Counts.{came, went}
use Rattle.book_tally.proofs.AmountLemmas.{alone}
use Rattle.book_tally.proofs.Newest.{on_same}
use Rattle.draft_counts.specs.Counts.{value_at, IsMore}

-- where rows add up, their values do
pub values_add : {T A : Type 0} (none : A) (add : A → A → A) (f g h k : T → A) (rows : List T) (place : ℕ) → ((r : T) → add (f r) (g r) ≡ add (h r) (k r)) → add (value_at none f rows place) (value_at none g rows place) ≡ add (value_at none h rows place) (value_at none k rows place)
values_add none add f g h k [] place each = refl
values_add none add f g h k (r ∷ rs) zero each = each r
values_add none add f g h k (r ∷ rs) (suc place) each = values_add none add f g h k rs place each

pub value_here : {T A : Type 0} (none : A) (f : T → A) (rows : List T) (i : ℕ) (d : T) → i < length rows → value_at none f rows i ≡ f (get_or rows i d)
value_here none f [] i d lt = absurd (omega arith)
value_here none f (r ∷ rs) zero d lt = refl
value_here none f (r ∷ rs) (suc i) d lt = value_here none f rs i d (omega arith)

-- a value of each value
pub value_of : {T A B : Type 0} (none : A) (of : A → B) (f : T → A) (rows : List T) (place : ℕ) → value_at (of none) (λ r. of (f r)) rows place ≡ of (value_at none f rows place)
value_of none of f [] place = refl
value_of none of f (r ∷ rs) zero = refl
value_of none of f (r ∷ rs) (suc place) = value_of none of f rs place

-- nothing is added
pub none_more : {T : Type 0} (rows : List T) (counts : List (Count Usage)) → IsMore (λ (r : T). nothing) (λ (r : T). nothing) rows counts counts
none_more {T} rows counts = record { comes = λ place. still (came nothing place counts) rows place; goes = λ place. still (went nothing place counts) rows place; on = on_same counts }
  where
    none : (rows : List T) (place : ℕ) → value_at nothing (λ (r : T). nothing) rows place ≡ nothing
    none [] place = refl
    none (r ∷ rs) zero = refl
    none (r ∷ rs) (suc place) = none rs place

    still : (u : Usage) (rows : List T) (place : ℕ) → u ≡ plus u (value_at nothing (λ (r : T). nothing) rows place)
    still u rows place = sym (ap (plus u) (none rows place) ∙ alone u)

-- the same is added, said otherwise
pub more_same : {T : Type 0} (f f' g g' : T → Usage) (rows : List T) (old new : List (Count Usage)) → ((r : T) → f r ≡ f' r) → ((r : T) → g r ≡ g' r) → IsMore f g rows old new → IsMore f' g' rows old new
more_same f f' g g' rows old new same same' is = record {
  comes = λ place. is.comes place ∙ ap (plus (came nothing place old)) (values_same f f' rows place same);
  goes = λ place. is.goes place ∙ ap (plus (went nothing place old)) (values_same g g' rows place same');
  on = is.on;
}
  where
    values_same : {T : Type 0} (f f' : T → Usage) (rows : List T) (place : ℕ) → ((r : T) → f r ≡ f' r) → value_at nothing f rows place ≡ value_at nothing f' rows place
    values_same f f' [] place same = refl
    values_same f f' (r ∷ rs) zero same = same r
    values_same f f' (r ∷ rs) (suc place) same = values_same f f' rs place same

-- one more row of the list is added up, or counted
pub sum_push : {T : Type 0} (f : T → ℕ) (rows : List T) (r : T) → sum_by f (rows ++ r ∷ []) ≡ sum_by f rows + f r
sum_push f [] r = sum_by-cons f r [] ∙ omega arith
sum_push f (s ∷ ss) r = omega (arith, sum_push f ss r, sum_by-cons f s ss, sum_by-cons f s (ss ++ r ∷ []))

pub count_push : {T : Type 0} (f : T → Bool) (rows : List T) (r : T) → count_by f (rows ++ r ∷ []) ≡ count_by f rows + (if f r then 1 else 0)
count_push f rows r = sum_push (λ s. if f s then 1 else 0) rows r

-- one row more on both sides counts the same
pub pushed_count : {S T : Type 0} (f : S → Bool) (g : T → Bool) (news : List S) (rows : List T) (i : ℕ) (new : S) (row : T) → i < length rows → row ≡ get_or rows i row → f new ≡ g row → count_by f news ≡ count_by g (take i rows) → count_by f (news ++ new ∷ []) ≡ count_by g (take (i + 1) rows)
pushed_count f g news rows i new row lt here same before =
    omega (arith, before, count_push f news new, ap {B = ℕ} (λ b. if b then 1 else 0) (same ∙ ap g here), count_push g (take i rows) (get_or rows i row), ap (count_by g) (take_more rows i row lt))
