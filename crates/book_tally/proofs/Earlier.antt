-- Going back in a journal from place to place of one key.
use Rattle.std.proofs.Common.{◌≡◌, ℕ, zero, suc, ◌+◌, ◌-◌, ◌<◌, ◌≤◌, Bool, true, false, eqb, List, [], ◌∷◌, length, take, get_or, Some, None, Option, ◌⊎◌, inl, inr, refl, sym, ap, ◌∙◌, subst, arith}
use Rattle.std.specs.Prelude.{if◌then◌else◌}
use Rattle.std.specs.Option.{IfSome}
use Rattle.std.proofs.lemmas.Bool.{cases_lt}
use Rattle.std.proofs.lemmas.Bool.Decides.{nat_tests}
use Rattle.std.proofs.lemmas.List.{take_more, take_all, length-take-le, get_or-take}
use Rattle.book_log.specs.Places.{last_place}
use Rattle.book_log.proofs.LastPlaces.{last_within, last_passes, last_place-more}
use Rattle.book_tally.specs.declared.tally.Count.{Count}
use Rattle.book_tally.specs.Counts.{newest, part_at}
use Rattle.book_tally.proofs.Newest.{blank, part_taken}

-- how far a place is from there being none
abbrev pub height : Option ℕ → ℕ
height None = 0
height (Some place) = suc place

-- a place of the key, or none, that a longer front of the journal has as its newest
pub record IsLater {A : Type 0} (key : ℕ) (journal : List (Count A)) (count : ℕ) (found : Option ℕ) : Type 0 where
  pub front : ℕ
  pub at_least : count ≤ front
  pub within : front ≤ length journal
  pub is : found ≡ newest key (take front journal)

module _ {A : Type 0} where
  -- the newest addition to the key there is one to it
  pub key_there : (key : ℕ) (journal : List (Count A)) (i : ℕ) (d : Count A) → newest key journal ≡ Some i → (get_or journal i d).id ≡ key
  key_there key journal i d is =
      let passes : eqb (get_or journal i d).id key ≡ true = last_passes (λ (c : Count A). eqb c.id key) journal i d is in
      grind (arith, nat_tests, passes)

  below : (key : ℕ) (journal : List (Count A)) (front : ℕ) (found : Option ℕ) → front ≤ length journal → found ≡ newest key (take front journal) → IfSome found (λ place. place < front)
  below key journal front None le is = tt
  below key journal front (Some place) le is = omega (arith, last_within (λ (c : Count A). eqb c.id key) (take front journal) place (sym is), length-take-le front journal le)

  -- nothing between the newest place and the end of a front is of the key
  same_front : (d : Count A) (key : ℕ) (journal : List (Count A)) (count more : ℕ) (found : Option ℕ) → count + more ≤ length journal → found ≡ newest key (take (count + more) journal) → IfSome found (λ place. place < count) → found ≡ newest key (take count journal)
  same_front d key journal count zero found le is lt = is ∙ ap (λ n. newest key (take n journal)) (omega arith)
  same_front d key journal count (suc more) found le is lt =
      let n = count + more in
      let c = get_or journal n d in
      let next : count + suc more ≡ n + 1 = omega arith in
      let one_more =
      is
      ∙ ap (λ m. newest key (take m journal)) next
      ∙ ap (newest key) (take_more journal n d (omega (arith, le)))
      ∙ last_place-more (λ (e : Count A). eqb e.id key) (take n journal) c
      ∙ ap (λ m. if eqb c.id key then Some m else newest key (take n journal)) (length-take-le n journal (omega (arith, le))) in
      by_test (eqb c.id key) one_more (λ same. same_front d key journal count more found (omega (arith, le)) same lt)
    where
      by_test : (b : Bool) → found ≡ (if b then Some (count + more) else newest key (take (count + more) journal)) → (found ≡ newest key (take (count + more) journal) → found ≡ newest key (take count journal)) → found ≡ newest key (take count journal)
      by_test true same rest = absurd (above (subst (λ o. IfSome o (λ place. place < count)) same lt))
        where
          above : count + more < count → ⊥
          above small = omega (arith, small)
      by_test false same rest = rest same

  -- where the newest place of a key is below a count, it is the one of the first so many
  pub newest_front : (d : Count A) (key : ℕ) (journal : List (Count A)) (count : ℕ) (found : Option ℕ) → count ≤ length journal → found ≡ newest key journal → IfSome found (λ place. place < count) → found ≡ newest key (take count journal)
  newest_front d key journal count found le is lt =
      let sum : count + (length journal - count) ≡ length journal = omega (arith, le) in
      let all : take (count + (length journal - count)) journal ≡ journal = take_all (count + (length journal - count)) journal (omega (arith, sum)) in
      same_front d key journal count (length journal - count) found (omega (arith, sum)) (is ∙ ap (newest key) (sym all)) lt

  module _ (key : ℕ) (journal : List (Count A)) (count : ℕ) where
    -- the newest place of all is later
    pub later_starts : (found : Option ℕ) → count ≤ length journal → found ≡ newest key journal → IsLater key journal count found
    later_starts found le is = record {
      front = length journal;
      at_least = le;
      within = omega arith;
      is = is ∙ ap (newest key) (sym (take_all (length journal) journal (omega arith)));
    }

    -- it is a place of the journal
    pub later_within : (place : ℕ) → IsLater key journal count (Some place) → place < length journal
    later_within place later = omega (arith, below key journal later.front (Some place) later.within later.is, later.within)

    -- the place before it is later too, where the place is
    pub later_goes_on : (place : ℕ) (d : Count A) → IsLater key journal count (Some place) → count ≤ place → IsLater key journal count (newest (get_or journal place d).id (take place journal))
    later_goes_on place d later le =
        let lt : place < later.front = below key journal later.front (Some place) later.within later.is in
        let own : (get_or journal place d).id ≡ key = ap (λ (c : Count A). c.id) (sym (get_or-take later.front journal place d lt)) ∙ key_there key (take later.front journal) place d (sym later.is) in
        record {
          front = place;
          at_least = le;
          within = omega (arith, lt, later.within);
          is = ap (λ (k : ℕ). newest k (take place journal)) own;
        }

    -- the place before it is lower
    pub later_lowers : (place : ℕ) (d : Count A) → IsLater key journal count (Some place) → height (newest (get_or journal place d).id (take place journal)) < suc place
    later_lowers place d later =
        let lt : place < later.front = below key journal later.front (Some place) later.within later.is in
        by_found (newest (get_or journal place d).id (take place journal)) (below (get_or journal place d).id journal place (newest (get_or journal place d).id (take place journal)) (omega (arith, lt, later.within)) refl)
      where
        by_found : (o : Option ℕ) → IfSome o (λ p. p < place) → height o < suc place
        by_found None lt = omega arith
        by_found (Some p) lt = omega (arith, lt)

    -- one below the count is the newest of the front
    pub later_ends : (d : Count A) (found : Option ℕ) → IsLater key journal count found → IfSome found (λ place. place < count) → found ≡ newest key (take count journal)
    later_ends d found later lt =
        let more = later.front - count in
        let sum : count + more ≡ later.front = omega (arith, later.at_least) in
        same_front d key journal count more found (omega (arith, sum, later.within)) (later.is ∙ ap (λ n. newest key (take n journal)) (sym sum)) lt

  -- a key to which nothing came after a mark has the counts of the mark
  pub same_at_mark : (none : A) (part : Count A → A) (journal : List (Count A)) (mark key : ℕ) → mark ≤ length journal → IfSome (newest key journal) (λ place. place < mark) → part_at none part (take mark journal) (newest key (take mark journal)) ≡ part_at none part journal (newest key journal)
  same_at_mark none part journal mark key le lt =
      ap (part_at none part (take mark journal)) (sym (newest_front (blank none) key journal mark (newest key journal) le refl lt)) ∙ part_taken none part journal mark (newest key journal) lt

  -- the newest addition to a key is one of the first so many, or the next one
  pub newest_split : (key : ℕ) (journal : List (Count A)) (i : ℕ) → IfSome (newest key journal) (λ j. j < i + 1) → (IfSome (newest key journal) (λ j. j < i)) ⊎ (newest key journal ≡ Some i)
  newest_split key journal i lt = by_found (newest key journal) lt
    where
      by_found : (o : Option ℕ) → IfSome o (λ j. j < i + 1) → (IfSome o (λ j. j < i)) ⊎ (o ≡ Some i)
      by_found None lt = inl tt
      by_found (Some j) lt = elim (cases_lt j i) [
        | inl below ↦ inl below
        | inr above ↦ inr (ap (λ (n : ℕ). Some n) (omega (arith, above, lt)))
      ]
