-- Two executions under one key are a day apart.
use Rattle.std.proofs.Common.{◌≡◌, ℕ, ◌≤◌, ◌<◌, ◌+◌, true, false, cond, ◌&&◌, not, List, [], ◌∷◌, ◌++◌, refl, sym, ◌∙◌, subst}
use Rattle.std.proofs.lemmas.Bool.{and_parts, or_parts, not-true, lt-ltb, eq-eqb, cases_lt}
use Rattle.std.proofs.lemmas.Slice.Eq.{bytes_eq-Decides}
use Rattle.std.proofs.Common.{◌⊎◌, inl, inr}
use Rattle.std.specs.List.{list_any, AllByRecursion}
use Rattle.office_deliveries.specs.declared.arrival.Arrival.{Arrival}
use Rattle.office_deliveries.specs.Deliveries.{is_write, repeats, Delivery, Opening, First, now, is_repeat, is_first, with_next, firsts_after, firsts}
use Rattle.model_answers.specs.KeptAnswers.{has_key}
use Rattle.office_deliveries.specs.Headline.{HasTheKeyOf, AreADayApart}
use Rattle.office_deliveries.proofs.Repeats.{repeats-from}
use Rattle.office_deliveries.proofs.Stood.{first_of}

-- what isn't repeated is a day old, where the key is the same
old-enough : (a : Arrival) (n : ℕ) (f : First) → repeats a n f.arrival.token f.arrival.key f.at ≡ false → HasTheKeyOf f.arrival a → f.at + 86400 ≤ n
old-enough a n f no_repeat same = by_order (cases_lt n (f.at + 86400))
  where
    by_order : (n < f.at + 86400) ⊎ (f.at + 86400 ≤ n) → f.at + 86400 ≤ n
    by_order (inr late) = late
    by_order (inl soon) =
        let hit = repeats-from a n f.arrival.token f.arrival.key f.at (record {
          keyed = subst (λ (k : List ℕ). has_key k ≡ true) (sym same.key) same.keyed;
          token_is = eq-eqb f.arrival.token a.token (sym same.token);
          key_is = (bytes_eq-Decides f.arrival.key a.key).1 (sym same.key);
          lasting = lt-ltb n (f.at + 86400) soon;
        }) in
        absurd (let both : true ≡ false = sym hit ∙ no_repeat in cc)

all-more : {X : Type 0} (P : X → Type 0) (xs : List X) (x : X) → AllByRecursion P xs → P x → AllByRecursion P (xs ++ x ∷ [])
all-more P [] x all here = (here, tt)
all-more P (y ∷ xs) x (first, all) here = (first, all-more P xs x all here)

apart-more : (fs : List First) (a : Arrival) (n : ℕ) → AreADayApart fs → list_any (λ f. repeats a n f.arrival.token f.arrival.key f.at) fs ≡ false → AreADayApart (fs ++ record { arrival = a; at = n } ∷ [])
apart-more [] a n apart none = (tt, tt)
apart-more (f ∷ fs) a n (here, apart) none =
    let x = or_parts (repeats a n f.arrival.token f.arrival.key f.at) (list_any (λ f. repeats a n f.arrival.token f.arrival.key f.at) fs) none in
    (all-more (λ (g : First). HasTheKeyOf f.arrival g.arrival → f.at + 86400 ≤ g.at) fs (record { arrival = a; at = n }) here (λ same. old-enough a n f x.0 same), apart-more fs a n apart x.1)

apart-next : (p : Opening) (fs : List First) (d : Delivery) → AreADayApart fs → AreADayApart (with_next p fs d)
apart-next p fs d apart = elim (is_first p fs d) as (λ b. is_first p fs d ≡ b → AreADayApart (cond b (fs ++ first_of p fs d.arrival ∷ []) fs)) [
  | true ↦ λ first.
      let x = and_parts (is_write d.arrival.request && not d.unavailable) (not (is_repeat p fs d.arrival)) first in
      let none = or_parts (list_any (λ k. repeats d.arrival (now p fs d.arrival) k.token k.key k.at) p.kept) (list_any (λ f. repeats d.arrival (now p fs d.arrival) f.arrival.token f.arrival.key f.at) fs) (not-true (is_repeat p fs d.arrival) x.1) in
      apart-more fs d.arrival (now p fs d.arrival) apart none.1
  | false ↦ λ first. apart
] refl

apart-after : (p : Opening) (fs : List First) (ds : List Delivery) → AreADayApart fs → AreADayApart (firsts_after p fs ds)
apart-after p fs [] apart = apart
apart-after p fs (d ∷ ds) apart = apart-after p (with_next p fs d) ds (apart-next p fs d apart)

pub day_apart : (p : Opening) (ds : List Delivery) → AreADayApart (firsts p ds)
day_apart p ds = apart-after p [] ds tt
