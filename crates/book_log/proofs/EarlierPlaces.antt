-- Going back in a log from place to place of one row.
use Rattle.std.proofs.Common.{◌≡◌, ℕ, zero, suc, ◌+◌, ◌-◌, ◌<◌, ◌≤◌, Bool, true, false, ◌&&◌, eqb, List, length, take, get_or, Some, None, Option, inl, inr, refl, sym, ap, ap₂, ◌∙◌, subst, arith}
use Rattle.std.specs.Prelude.{if◌then◌else◌}
use Rattle.std.specs.Option.{IfSome}
use Rattle.std.proofs.lemmas.List.{take_more, length-take-le, get_or-take}
use Rattle.std.proofs.lemmas.Bool.Decides.{eqb_tells}
use mathlib.Core.Bool.{false≢true}
use Rattle.model_rows.specs.declared.changes.Change.{Change}
use Rattle.model_rows.specs.declared.changes.Change.TheVariants.{DropWaiting}
use Rattle.book_log.specs.Places.{table_of, id_of, touches, last_place, place_before}
use Rattle.book_log.proofs.LastPlaces.{last_within, last_passes, last_place-more}

-- how far a place is from there being none
abbrev pub height : Option ℕ → ℕ
height None = 0
height (Some place) = suc place

-- a place of a row, or none, that a longer front of the log has as its last
pub record IsLater (table id : ℕ) (log : List Change) (count : ℕ) (found : Option ℕ) : Type 0 where
  pub front : ℕ
  pub at_least : count ≤ front
  pub within : front ≤ length log
  pub is : found ≡ last_place (touches table id) (take front log)

pub below : (passes : Change → Bool) (log : List Change) (front : ℕ) (found : Option ℕ) → front ≤ length log → found ≡ last_place passes (take front log) → IfSome found (λ place. place < front)
below passes log front None le is = tt
below passes log front (Some place) le is = omega (arith, last_within passes (take front log) place (sym is), length-take-le front log le)

-- nothing between the last place and the end of a front passes
same_front : (passes : Change → Bool) (log : List Change) (count more : ℕ) (found : Option ℕ) → count + more ≤ length log → found ≡ last_place passes (take (count + more) log) → IfSome found (λ place. place < count) → found ≡ last_place passes (take count log)
same_front passes log count zero found le is lt = is ∙ ap (λ n. last_place passes (take n log)) (omega arith)
same_front passes log count (suc more) found le is lt =
    let n = count + more in
    let change = get_or log n (DropWaiting 0) in
    let next : count + suc more ≡ n + 1 = omega arith in
    let one_more =
    is
    ∙ ap (λ m. last_place passes (take m log)) next
    ∙ ap (last_place passes) (take_more log n (DropWaiting 0) (omega (arith, le)))
    ∙ last_place-more passes (take n log) change
    ∙ ap (λ m. if passes change then Some m else last_place passes (take n log)) (length-take-le n log (omega (arith, le))) in
    by_test (passes change) one_more (λ same. same_front passes log count more found (omega (arith, le)) same lt)
  where
    by_test : (b : Bool) → found ≡ (if b then Some (count + more) else last_place passes (take (count + more) log)) → (found ≡ last_place passes (take (count + more) log) → found ≡ last_place passes (take count log)) → found ≡ last_place passes (take count log)
    by_test true same rest = absurd (above (subst (λ o. IfSome o (λ place. place < count)) same lt))
      where
        above : count + more < count → ⊥
        above small = omega (arith, small)
    by_test false same rest = rest same

same_ids : (a b c d : ℕ) → (eqb a b && eqb c d) ≡ true → (a ≡ b) × (c ≡ d)
same_ids a b c d same = elim (eqb_tells a b) [
  | inl e ↦ elim (eqb_tells c d) [
    | inl f ↦ (e.1, f.1)
    | inr f ↦ absurd (false≢true (rw (e.0, f.0) at same))
  ]
  | inr e ↦ absurd (false≢true (rw e.0 at same))
]

module _ (table id : ℕ) (log : List Change) (count : ℕ) where
  -- it is a place of the log
  pub later_within : (place : ℕ) → IsLater table id log count (Some place) → place < length log
  later_within place later = omega (arith, below (touches table id) log later.front (Some place) later.within later.is, later.within)

  -- the place before it is later too, where the place is
  pub later_goes_on : (place : ℕ) (d : Change) → IsLater table id log count (Some place) → count ≤ place → IsLater table id log count (place_before place (get_or log place d) log)
  later_goes_on place d later le =
      let lt : place < later.front = below (touches table id) log later.front (Some place) later.within later.is in
      let passes = last_passes (touches table id) (take later.front log) place d (sym later.is) in
      let change = get_or log place d in
      let here : touches table id change ≡ true = ap (touches table id) (sym (get_or-take later.front log place d lt)) ∙ passes in
      let same = same_ids (table_of change) table (id_of change) id here in
      record {
        front = place;
        at_least = le;
        within = omega (arith, lt, later.within);
        is = ap₂ (λ t k. last_place (touches t k) (take place log)) same.0 same.1;
      }

  -- the place before it is lower
  pub later_lowers : (place : ℕ) (d : Change) → IsLater table id log count (Some place) → height (place_before place (get_or log place d) log) < suc place
  later_lowers place d later =
      let lt : place < later.front = below (touches table id) log later.front (Some place) later.within later.is in
      let change = get_or log place d in
      by_found (place_before place change log) (below (touches (table_of change) (id_of change)) log place (place_before place change log) (omega (arith, lt, later.within)) refl)
    where
      by_found : (o : Option ℕ) → IfSome o (λ p. p < place) → height o < suc place
      by_found None lt = omega arith
      by_found (Some p) lt = omega (arith, lt)

  -- one below the count is the last of the front
  pub later_ends : (found : Option ℕ) → IsLater table id log count found → IfSome found (λ place. place < count) → found ≡ last_place (touches table id) (take count log)
  later_ends found later lt =
      let more = later.front - count in
      let sum : count + more ≡ later.front = omega (arith, later.at_least) in
      same_front (touches table id) log count more found (omega (arith, sum, later.within)) (later.is ∙ ap (λ n. last_place (touches table id) (take n log)) (sym sum)) lt
