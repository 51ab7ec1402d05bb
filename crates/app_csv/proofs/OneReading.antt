-- A text has one list of records.
use Rattle.std.proofs.Common.{◌≡◌, ◌∙◌, ℕ, List, [], ◌∷◌, Some, None, refl, sym, ap, ap₂, subst}
use Rattle.std.specs.Prelude.{unwrap_or}
use Rattle.std.proofs.lemmas.Option.{none-some}
use Rattle.csv.specs.Machine.{Read, next_record}
use Rattle.csv.specs.Reading.{Reached}
use Rattle.csv.specs.declared.parser.Config.{Config}
use Rattle.csv.specs.declared.parser.State.{State}

-- where no record is left, none is read
none_left : (cfg : Config) (s s2 : State) (xs ys : List ℕ) (read : Read) → s ≡ s2 → xs ≡ ys → next_record cfg s2 [] [] ys ≡ None → next_record cfg s [] [] xs ≡ Some read → ⊥
none_left cfg s s2 xs ys read state bytes none next =
    none-some read (sym none ∙ (sym (ap₂ (λ (a : State) (b : List ℕ). next_record cfg a [] [] b) state bytes) ∙ next))

-- records that take a text to its end are the same, one by one
pub one_reading : (cfg : Config) (s : State) (xs : List ℕ) (rs qs : List (List (List ℕ))) (s2 t2 : State) (ys zs : List ℕ)
    → Reached cfg s xs rs s2 ys → next_record cfg s2 [] [] ys ≡ None → Reached cfg s xs qs t2 zs → next_record cfg t2 [] [] zs ≡ None → rs ≡ qs
unfolding Reached
one_reading cfg s xs [] [] s2 t2 ys zs h none g also = refl
one_reading cfg s xs [] (q ∷ qs) s2 t2 ys zs h none g also = absurd (none_left cfg s s2 xs ys g.0 h.0 h.1 none g.1)
one_reading cfg s xs (r ∷ rs) [] s2 t2 ys zs h none g also = absurd (none_left cfg s t2 xs zs h.0 g.0 g.1 also h.1)
one_reading cfg s xs (r ∷ rs) (q ∷ qs) s2 t2 ys zs h none g also =
    let same : h.0 ≡ g.0 = ap (λ o. unwrap_or o h.0) (sym h.1 ∙ g.1) in
    let rest : rs ≡ qs = one_reading cfg h.0.1 h.0.2 rs qs s2 t2 ys zs h.3 none (subst (λ (p : Read). Reached cfg p.1 p.2 qs t2 zs) (sym same) g.3) also in
    ap₂ (λ (a : List (List ℕ)) (b : List (List (List ℕ))). a ∷ b) (h.2 ∙ (ap (λ (p : Read). p.0) same ∙ sym g.2)) rest
