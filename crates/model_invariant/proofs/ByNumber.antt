-- Positions by their numbers.
use Rattle.std.proofs.Common.{◌≡◌, ℕ, ◌+◌, ◌<◌, ◌≤◌, ◌↔◌, Bool, true, false, eqb, List, [], ◌∷◌, length, map, count_by, cond, suc, refl, ap, ◌∙◌, subst, arith, if◌then◌else◌}
use Rattle.std.specs.Prelude.{nat_le}
use Rattle.std.specs.List.{AllByRecursion, insert}
use Rattle.std.proofs.lemmas.Bool.Decides.{nat_tests}
use Rattle.std.proofs.lemmas.List.Sums.{sum_by-cons}
use Rattle.model_rows.specs.declared.rows.OrderPos.{OrderPos}
use Rattle.model_invariant.specs.Positions.{position_placed, place_in, by_positionid, CountFrom}
use Rattle.model_invariant.specs.Shown.{HaveOtherNumbers, AreEachOnce}
use Rattle.model_rows.proofs.EachRow.{all_weaker}
use Rattle.model_invariant.proofs.Apart.{AreApart}

-- a position is placed behind so many
pub placed_at : (p : OrderPos) (qs : List OrderPos) → insert qs (place_in p.positionid qs) p ≡ position_placed p qs
placed_at p [] = refl
placed_at p (q ∷ qs) = by_turn (placed_at p qs) (nat_le p.positionid q.positionid)
  where
    by_turn : insert qs (place_in p.positionid qs) p ≡ position_placed p qs → (b : Bool) → insert (q ∷ qs) (if b then 0 else suc (place_in p.positionid qs)) p ≡ (if b then p ∷ q ∷ qs else q ∷ position_placed p qs)
    by_turn more true = refl
    by_turn more false = ap (λ rest. q ∷ rest) more

-- there are as many
placed_length : (p : OrderPos) (qs : List OrderPos) → length (position_placed p qs) ≡ suc (length qs)
placed_length p [] = refl
placed_length p (q ∷ qs) = by_turn (placed_length p qs) (nat_le p.positionid q.positionid)
  where
    by_turn : length (position_placed p qs) ≡ suc (length qs) → (b : Bool) → length (if b then p ∷ q ∷ qs else q ∷ position_placed p qs) ≡ suc (suc (length qs))
    by_turn more true = refl
    by_turn more false = ap suc more

pub same_length : (ps : List OrderPos) → length (by_positionid ps) ≡ length ps
same_length [] = refl
same_length (p ∷ ps) = placed_length p (by_positionid ps) ∙ ap suc (same_length ps)

-- what holds of all of them holds of each
module _ (P : OrderPos → Type 0) where
  pub all_placed : (p : OrderPos) (qs : List OrderPos) → AllByRecursion P (position_placed p qs) → P p × AllByRecursion P qs
  all_placed p [] h = (h.0, tt)
  all_placed p (q ∷ qs) h = by_turn (all_placed p qs) (nat_le p.positionid q.positionid) h
    where
      by_turn : (AllByRecursion P (position_placed p qs) → P p × AllByRecursion P qs) → (b : Bool) → AllByRecursion P (if b then p ∷ q ∷ qs else q ∷ position_placed p qs) → P p × (P q × AllByRecursion P qs)
      by_turn more true all = (all.0, all.1)
      by_turn more false all =
          let rest = more all.1 in
          (rest.0, (all.0, rest.1))

  pub all_unsorted : (ps : List OrderPos) → AllByRecursion P (by_positionid ps) → AllByRecursion P ps
  all_unsorted [] h = tt
  all_unsorted (p ∷ ps) h =
      let more = all_placed p (by_positionid ps) h in
      (more.0, all_unsorted ps more.1)

-- what is made of them passes a test as often
module _ {T : Type 0} (made : OrderPos → T) (test : T → Bool) where
  abbrev passes : T → ℕ
  passes x = cond (test x) 1 0

  placed_count : (p : OrderPos) (qs : List OrderPos) → count_by test (map made (position_placed p qs)) ≡ passes (made p) + count_by test (map made qs)
  placed_count p [] = sum_by-cons passes (made p) []
  placed_count p (q ∷ qs) = by_turn (placed_count p qs) (nat_le p.positionid q.positionid)
    where
      by_turn : count_by test (map made (position_placed p qs)) ≡ passes (made p) + count_by test (map made qs) → (b : Bool) → count_by test (map made (if b then p ∷ q ∷ qs else q ∷ position_placed p qs)) ≡ passes (made p) + count_by test (made q ∷ map made qs)
      by_turn more true = sum_by-cons passes (made p) (made q ∷ map made qs)
      by_turn more false = omega (arith, more, sum_by-cons passes (made q) (map made (position_placed p qs)), sum_by-cons passes (made q) (map made qs))

  pub sorted_count : (ps : List OrderPos) → count_by test (map made (by_positionid ps)) ≡ count_by test (map made ps)
  sorted_count [] = refl
  sorted_count (p ∷ ps) = omega (arith, placed_count p (by_positionid ps), sorted_count ps, sum_by-cons passes (made p) (map made ps))

-- two of them have one number
abbrev pub same_number : OrderPos → OrderPos → Bool
same_number p q = eqb p.positionid q.positionid

-- of those that count on no two have one number
later_numbers : (k n : ℕ) (ps : List OrderPos) → k < n → CountFrom n ps → AllByRecursion (λ q. eqb k q.positionid ≡ false) ps
later_numbers k n [] lt h = tt
later_numbers k n (p ∷ ps) lt h = (grind (arith, nat_tests, h.0, lt), later_numbers k (n + 1) ps (omega (arith, lt)) h.1)

pub counted_apart : (n : ℕ) (ps : List OrderPos) → CountFrom n ps → AreApart same_number ps
counted_apart n [] h = tt
counted_apart n (p ∷ ps) h = (later_numbers p.positionid (n + 1) ps (omega (arith, h.0)) h.1, counted_apart (n + 1) ps h.1)

-- nor is one beyond their count
pub counted_small : (n : ℕ) (ps : List OrderPos) → CountFrom n ps → AllByRecursion (λ p. p.positionid < n + length ps) ps
counted_small n ps h = below n (n + length ps) ps (omega arith) h
  where
    below : (m top : ℕ) (qs : List OrderPos) → m + length qs ≤ top → CountFrom m qs → AllByRecursion (λ p. p.positionid < top) qs
    below m top [] le c = tt
    below m top (q ∷ qs) le c = (omega (arith, c.0, le), below (m + 1) top qs (omega (arith, le)) c.1)

-- those that are apart in one order are in the other
placed_apart : (p : OrderPos) (qs : List OrderPos) → AreApart same_number (position_placed p qs) → AllByRecursion (λ q. same_number p q ≡ false) qs × AreApart same_number qs
placed_apart p [] h = (tt, tt)
placed_apart p (q ∷ qs) h = by_turn (placed_apart p qs) (nat_le p.positionid q.positionid) h
  where
    by_turn : (AreApart same_number (position_placed p qs) → AllByRecursion (λ r. same_number p r ≡ false) qs × AreApart same_number qs) → (b : Bool) → AreApart same_number (if b then p ∷ q ∷ qs else q ∷ position_placed p qs)
        → ((same_number p q ≡ false) × AllByRecursion (λ r. same_number p r ≡ false) qs) × (AllByRecursion (λ r. same_number q r ≡ false) qs × AreApart same_number qs)
    by_turn more true apart = (apart.0, apart.1)
    by_turn more false apart =
        let first = all_placed (λ r. same_number q r ≡ false) p qs apart.0 in
        let rest = more apart.1 in
        ((grind (arith, nat_tests, first.0), rest.0), (first.1, rest.1))

pub unsorted_apart : (ps : List OrderPos) → AreApart same_number (by_positionid ps) → AreApart same_number ps
unsorted_apart [] h = tt
unsorted_apart (p ∷ ps) h =
    let more = placed_apart p (by_positionid ps) h in
    (all_unsorted (λ q. same_number p q ≡ false) ps more.0, unsorted_apart ps more.1)

-- those that count on are by number already
pub counted_is : (n : ℕ) (ps : List OrderPos) → CountFrom n ps → by_positionid ps ≡ ps
counted_is n [] h = refl
counted_is n (p ∷ ps) h = ap (position_placed p) (counted_is (n + 1) ps h.1) ∙ in_front ps h.1
  where
    in_front : (qs : List OrderPos) → CountFrom (n + 1) qs → position_placed p qs ≡ p ∷ qs
    in_front [] c = refl
    in_front (q ∷ qs) c = by_turn (nat_le p.positionid q.positionid) (grind (arith, nat_tests, h.0, c.0))
      where
        by_turn : (b : Bool) → b ≡ true → (if b then p ∷ q ∷ qs else q ∷ position_placed p qs) ≡ p ∷ q ∷ qs
        by_turn true e = refl
        by_turn false e = absurd (cc)

-- what holds of each holds by number
module _ (P : OrderPos → Type 0) where
  placed_all : (p : OrderPos) (qs : List OrderPos) → P p → AllByRecursion P qs → AllByRecursion P (position_placed p qs)
  placed_all p [] own all = (own, tt)
  placed_all p (q ∷ qs) own all = by_turn (placed_all p qs own all.1) (nat_le p.positionid q.positionid)
    where
      by_turn : AllByRecursion P (position_placed p qs) → (b : Bool) → AllByRecursion P (if b then p ∷ q ∷ qs else q ∷ position_placed p qs)
      by_turn more true = (own, all)
      by_turn more false = (all.0, more)

  all_sorted : (ps : List OrderPos) → AllByRecursion P ps → AllByRecursion P (by_positionid ps)
  all_sorted [] h = tt
  all_sorted (p ∷ ps) h = placed_all p (by_positionid ps) h.0 (all_sorted ps h.1)

-- numbers rise from n on
abbrev RiseFrom : ℕ → List OrderPos → Type 0
RiseFrom n [] = Unit {0}
RiseFrom n (p ∷ ps) = (n ≤ p.positionid) × RiseFrom (p.positionid + 1) ps

-- those of which no two are one rise by number
placed_rises : (n : ℕ) (p : OrderPos) (qs : List OrderPos) → n ≤ p.positionid → RiseFrom n qs → AllByRecursion (λ q. same_number p q ≡ false) qs → RiseFrom n (position_placed p qs)
placed_rises n p [] from rise apart = (from, tt)
placed_rises n p (q ∷ qs) from rise apart = by_turn (λ low. placed_rises (q.positionid + 1) p qs low rise.1 apart.1) (nat_le p.positionid q.positionid) refl
  where
    by_turn : (q.positionid + 1 ≤ p.positionid → RiseFrom (q.positionid + 1) (position_placed p qs)) → (b : Bool) → nat_le p.positionid q.positionid ≡ b → RiseFrom n (if b then p ∷ q ∷ qs else q ∷ position_placed p qs)
    by_turn more true e = (from, (grind (arith, nat_tests, e, apart.0), rise.1))
    by_turn more false e = (rise.0, more (grind (arith, nat_tests, e)))

sorted_rises : (ps : List OrderPos) → AllByRecursion (λ p. 1 ≤ p.positionid) ps → AreApart same_number ps → RiseFrom 1 (by_positionid ps)
sorted_rises [] low apart = tt
sorted_rises (p ∷ ps) low apart = placed_rises 1 p (by_positionid ps) low.0 (sorted_rises ps low.1 apart.1) (all_sorted (λ q. same_number p q ≡ false) ps apart.0)

-- where as many rise as there are numbers, they count on
rise_fits : (n top : ℕ) (ps : List OrderPos) → n ≤ top → RiseFrom n ps → AllByRecursion (λ p. p.positionid < top) ps → n + length ps ≤ top
rise_fits n top [] le rise below = omega (arith, le)
rise_fits n top (p ∷ ps) le rise below = omega (arith, rise.0, rise_fits (p.positionid + 1) top ps (omega (arith, below.0)) rise.1 below.1)

rise_counts : (n top : ℕ) (ps : List OrderPos) → n + length ps ≡ top → RiseFrom n ps → AllByRecursion (λ p. p.positionid < top) ps → CountFrom n ps
rise_counts n top [] is rise below = tt
rise_counts n top (p ∷ ps) is rise below =
    let fits = rise_fits (p.positionid + 1) top ps (omega (arith, below.0)) rise.1 below.1 in
    let first : p.positionid ≡ n = omega (arith, rise.0, fits, is) in
    (first, rise_counts (n + 1) top ps (omega (arith, is)) (subst (λ (k : ℕ). RiseFrom (k + 1) ps) first rise.1) below.1)

counted_low : (n : ℕ) (ps : List OrderPos) → CountFrom n ps → AllByRecursion (λ p. n ≤ p.positionid) ps
counted_low n [] h = tt
counted_low n (p ∷ ps) h = (omega (arith, h.0), all_weaker (λ q. n + 1 ≤ q.positionid) (λ q. n ≤ q.positionid) (λ q le. omega (arith, le)) ps (counted_low (n + 1) ps h.1))

apart_is : (ps : List OrderPos) → AreApart same_number ps ↔ HaveOtherNumbers ps
apart_is [] = (λ h. tt, λ h. tt)
apart_is (p ∷ ps) = (λ h. (h.0, (apart_is ps).0 h.1), λ h. (h.0, (apart_is ps).1 h.1))

-- they count on from 1 by number where their numbers are 1 to their count, each once
pub each_once : (ps : List OrderPos) → CountFrom 1 (by_positionid ps) ↔ AreEachOnce ps
each_once ps = (forth, back)
  where
    both : (qs : List OrderPos) → AllByRecursion (λ p. 1 ≤ p.positionid) qs → AllByRecursion (λ p. p.positionid < 1 + length (by_positionid ps)) qs → AllByRecursion (λ p. (1 ≤ p.positionid) × (p.positionid ≤ length ps)) qs
    both [] low small = tt
    both (q ∷ qs) low small = ((low.0, omega (arith, small.0, same_length ps)), both qs low.1 small.1)

    forth : CountFrom 1 (by_positionid ps) → AreEachOnce ps
    forth counted = record {
      within = both ps (all_unsorted (λ p. 1 ≤ p.positionid) ps (counted_low 1 (by_positionid ps) counted)) (all_unsorted (λ p. p.positionid < 1 + length (by_positionid ps)) ps (counted_small 1 (by_positionid ps) counted));
      apart = (apart_is ps).0 (unsorted_apart ps (counted_apart 1 (by_positionid ps) counted));
    }

    back : AreEachOnce ps → CountFrom 1 (by_positionid ps)
    back each =
        let low = all_weaker (λ p. (1 ≤ p.positionid) × (p.positionid ≤ length ps)) (λ p. 1 ≤ p.positionid) (λ p h. h.0) ps each.within in
        let small = all_weaker (λ p. (1 ≤ p.positionid) × (p.positionid ≤ length ps)) (λ p. p.positionid < 1 + length ps) (λ p h. omega (arith, h.1)) ps each.within in
        rise_counts 1 (1 + length ps) (by_positionid ps) (omega (arith, same_length ps)) (sorted_rises ps low ((apart_is ps).1 each.apart)) (all_sorted (λ p. p.positionid < 1 + length ps) ps small)
