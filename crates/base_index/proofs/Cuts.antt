-- Entries from one number on and before another.
use Rattle.std.proofs.Common.{◌≡◌, ℕ, zero, suc, ◌+◌, ◌-◌, ◌<◌, ◌≤◌, List, [], ◌∷◌, length, get_or, take, drop, refl, sym, ap, ◌∙◌, arith}
use Rattle.std.specs.Prelude.{filter}
use Rattle.std.proofs.lemmas.Bool.Decides.{nat_tests}
use Rattle.base_tables.specs.Tables.{InOrderFrom, AreInOrder, IsPlace, IsGap}
use Rattle.base_tables.proofs.Places.{at_least}
use Rattle.base_index.specs.Entries.{is_between, IsStart}

rises : (n : ℕ) (es : List ℕ) → InOrderFrom (λ n. n) n es → (i j : ℕ) (d : ℕ) → i ≤ j → j < length es → get_or es i d ≤ get_or es j d
rises n [] h i j d lt in_range = absurd (omega arith)
rises n (e ∷ es) h zero zero d lt in_range = omega arith
rises n (e ∷ es) h (suc i) zero d lt in_range = absurd (omega arith)
rises n (e ∷ es) h zero (suc j) d lt in_range = omega (arith, at_least (λ n. n) (e + 1) es h.1 j d (omega arith))
rises n (e ∷ es) h (suc i) (suc j) d lt in_range = rises (e + 1) es h.1 i j d (omega arith) (omega arith)

pub less : (n : ℕ) (es : List ℕ) → InOrderFrom (λ n. n) n es → (i j : ℕ) (d : ℕ) → i < j → j < length es → get_or es i d < get_or es j d
less n [] h i j d lt in_range = absurd (omega arith)
less n (e ∷ es) h i zero d lt in_range = absurd (omega arith)
less n (e ∷ es) h zero (suc j) d lt in_range = omega (arith, at_least (λ n. n) (e + 1) es h.1 j d (omega arith))
less n (e ∷ es) h (suc i) (suc j) d lt in_range = less (e + 1) es h.1 i j d (omega arith) (omega arith)

pub start_at_place : (es : List ℕ) (e i : ℕ) → AreInOrder (λ n. n) es → IsPlace (λ n. n) es e i → IsStart es e i
start_at_place es e i h p = record {
  in_range = omega (arith, p.in_range);
  smaller_before = λ j d lt. omega (arith, less 0 es h j i d lt p.in_range, p.has_id d);
  not_after = λ j d le lt. omega (arith, rises 0 es h i j d le lt, p.has_id d);
}

pub start_at_gap : (es : List ℕ) (e i : ℕ) → IsGap (λ n. n) es e i → IsStart es e i
start_at_gap es e i p = record {
  in_range = p.in_range;
  smaller_before = λ j d lt. p.smaller_before j d lt;
  not_after = λ j d le lt. omega (arith, p.greater_after j d le lt);
}

-- the next number begins behind the place of a number, and where it would go
pub start_behind_place : (es : List ℕ) (e i : ℕ) → AreInOrder (λ n. n) es → IsPlace (λ n. n) es e i → IsStart es (e + 1) (i + 1)
start_behind_place es e i h p = record {
  in_range = omega (arith, p.in_range);
  smaller_before = λ j d lt. omega (arith, rises 0 es h j i d (omega arith) p.in_range, p.has_id d);
  not_after = λ j d le lt. omega (arith, less 0 es h i j d (omega arith) lt, p.has_id d);
}

pub start_behind_gap : (es : List ℕ) (e i : ℕ) → IsGap (λ n. n) es e i → IsStart es (e + 1) i
start_behind_gap es e i p = record {
  in_range = p.in_range;
  smaller_before = λ j d lt. omega (arith, p.smaller_before j d lt);
  not_after = λ j d le lt. omega (arith, p.greater_after j d le lt);
}

-- what is at a place tells of those behind it
pub above_too : (es : List ℕ) (e i j d : ℕ) → AreInOrder (λ n. n) es → e < get_or es i d → i ≤ j → j < length es → e < get_or es j d
above_too es e i j d h lt le within = omega (arith, rises 0 es h i j d le within)

start_tail : (e x i : ℕ) (es : List ℕ) → IsStart (x ∷ es) e (suc i) → IsStart es e i
start_tail e x i es s = record {
  in_range = omega (arith, s.in_range);
  smaller_before = λ j d lt. s.smaller_before (suc j) d (omega arith);
  not_after = λ j d le lt. s.not_after (suc j) d (omega arith) (omega arith);
}

start_here : (e x : ℕ) (es : List ℕ) → IsStart (x ∷ es) e zero → IsStart es e zero
start_here e x es s = record {
  in_range = omega arith;
  smaller_before = λ j d lt. absurd (omega arith);
  not_after = λ j d le lt. s.not_after (suc j) d (omega arith) (omega arith);
}

none_before : (from to : ℕ) (es : List ℕ) → IsStart es to zero → filter (is_between from to) es ≡ []
none_before from to [] high = refl
none_before from to (e ∷ es) high = grind (arith, nat_tests, high.not_after 0 e (omega arith) (omega arith), none_before from to es (start_here to e es high))

none_cut : (n i : ℕ) → take {A = ℕ} n (drop i []) ≡ []
none_cut zero zero = refl
none_cut zero (suc i) = refl
none_cut (suc n) zero = refl
none_cut (suc n) (suc i) = refl

-- what stands between the two places is what is between the two numbers
pub cut_is : (from to : ℕ) (es : List ℕ) (i j : ℕ) → IsStart es from i → IsStart es to j → take (j - i) (drop i es) ≡ filter (is_between from to) es
cut_is from to [] i j low high = none_cut (j - i) i
cut_is from to (e ∷ es) zero zero low high = sym (none_before from to (e ∷ es) high)
cut_is from to (e ∷ es) zero (suc j) low high =
    let more = cut_is from to es zero j (start_here from e es low) (start_tail to e j es high) in
    let count : suc j - zero ≡ suc (j - zero) = omega arith in
    ap (λ n. take n (e ∷ es)) count ∙ ap (λ l. e ∷ l) more ∙ passes (low.not_after 0 e (omega arith) (omega arith)) (high.smaller_before 0 e (omega arith))
  where
    passes : from ≤ e → e < to → e ∷ filter (is_between from to) es ≡ filter (is_between from to) (e ∷ es)
    passes le lt = grind (arith, nat_tests)
cut_is from to (e ∷ es) (suc i) zero low high = grind (arith, nat_tests, none_before from to (e ∷ es) high)
cut_is from to (e ∷ es) (suc i) (suc j) low high = grind (arith, nat_tests, low.smaller_before 0 e (omega arith), cut_is from to es i j (start_tail from e i es low) (start_tail to e j es high))
