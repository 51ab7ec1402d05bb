-- The last of some check-ins is one of them, and none of them is later.
use Rattle.std.proofs.Common.{◌≡◌, ℕ, suc, ◌⊎◌, inl, inr, Bool, true, false, List, [], ◌∷◌, Option, Some, None, refl, ◌∙◌, subst, arith}
use Rattle.std.specs.Prelude.{Any, if◌then◌else◌}
use Rattle.std.specs.List.{AllByRecursion}
use Rattle.std.proofs.lemmas.Bool.Decides.{nat_tests}
use Rattle.model_rows.specs.declared.rows.Checkin.{Checkin}
use Rattle.model_rows.specs.declared.passages.Passage.{Passage}
use Rattle.model_rows.specs.Passages.{passage, is_later, later, last_after}
use Rattle.decide_door.specs.Last.{last_of, checkins_of, IsLast}

not_after_itself : (p : Passage) → is_later p p ≡ false
not_after_itself p = grind (arith, nat_tests)

not_later : (a b c : Passage) → is_later a b ≡ false → is_later b c ≡ false → is_later a c ≡ false
not_later a b c e f = grind (arith, nat_tests, e, f)

not_before : (a b : Passage) → is_later a b ≡ true → is_later b a ≡ false
not_before a b e = grind (arith, nat_tests, e)

-- the later of two is one of them, and neither is later than it
record IsLaterOf (last other next : Passage) : Type 0 where
  one : (last ≡ next) ⊎ (other ≡ next)
  first : is_later last next ≡ false
  second : is_later other next ≡ false

later_is : (last other : Passage) → IsLaterOf last other (later (Some last) other)
unfolding later
later_is last other = by_test (is_later other last) refl
  where
    by_test : (b : Bool) → is_later other last ≡ b → IsLaterOf last other (if b then other else last)
    by_test true e = record { one = inr refl; first = not_before other last e; second = not_after_itself other }
    by_test false e = record { one = inl refl; first = not_after_itself last; second = e }

any_more : (P : Checkin → Type 0) (c : Checkin) (cs : List Checkin) → Any P cs → Any P (c ∷ cs)
any_more P c cs a = (suc a.0, a.1, omega (arith, a.2), a.3, a.4)

-- the last of some and of one before them is one of them, and none of them is later
record IsAfter (last : Passage) (cs : List Checkin) (found : Option Passage) : Type 0 where
  greatest : Passage
  is : Some greatest ≡ found
  one : (last ≡ greatest) ⊎ Any (λ c. passage c ≡ greatest) cs
  first : is_later last greatest ≡ false
  others : AllByRecursion (λ c. is_later (passage c) greatest ≡ false) cs

after_is : (last : Passage) (cs : List Checkin) → IsAfter last cs (last_after (Some last) cs)
after_is last [] = record { greatest = last; is = refl; one = inl refl; first = not_after_itself last; others = tt }
after_is last (c ∷ cs) = by_next (later (Some last) (passage c)) (later_is last (passage c)) (after_is (later (Some last) (passage c)) cs)
  where
    by_next : (next : Passage) → IsLaterOf last (passage c) next → IsAfter next cs (last_after (Some next) cs) → IsAfter last (c ∷ cs) (last_after (Some next) cs)
    by_next next l a = record {
      greatest = a.greatest;
      is = a.is;
      one = by_one l.one a.one;
      first = not_later last next a.greatest l.first a.first;
      others = (not_later (passage c) next a.greatest l.second a.first, a.others);
    }
      where
        by_one : (last ≡ next) ⊎ (passage c ≡ next) → (next ≡ a.greatest) ⊎ Any (λ d. passage d ≡ a.greatest) cs → (last ≡ a.greatest) ⊎ Any (λ d. passage d ≡ a.greatest) (c ∷ cs)
        by_one (inl e) (inl f) = inl (e ∙ f)
        by_one (inr e) (inl f) = inr (0, c, omega arith, refl, e ∙ f)
        by_one e (inr any) = inr (any_more (λ d. passage d ≡ a.greatest) c cs any)

last_is : (cs : List Checkin) → IsLast (last_after None cs) cs
unfolding later
last_is [] = refl
last_is (c ∷ cs) = by_after (last_after (Some (passage c)) cs) (after_is (passage c) cs)
  where
    by_after : (found : Option Passage) → IsAfter (passage c) cs found → IsLast found (c ∷ cs)
    by_after None a = absurd (cc (a.is))
    by_after (Some last) a =
        let same : a.greatest ≡ last = cc (a.is) in
        subst (λ (p : Passage). IsLast (Some p) (c ∷ cs)) same (by_one a.one, (a.first, a.others))
      where
        by_one : (passage c ≡ a.greatest) ⊎ Any (λ d. passage d ≡ a.greatest) cs → Any (λ d. passage d ≡ a.greatest) (c ∷ cs)
        by_one (inl e) = (0, c, omega arith, refl, e)
        by_one (inr any) = any_more (λ d. passage d ≡ a.greatest) c cs any

pub last_of_is : (list position : ℕ) (checkins : List Checkin) → IsLast (last_of list position checkins) (checkins_of list position checkins)
last_of_is list position checkins = last_is (checkins_of list position checkins)
