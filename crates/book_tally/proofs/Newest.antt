-- The newest place of a key in a journal, and what stands there, after one more addition and in a front of it.
use Rattle.std.proofs.Common.{◌≡◌, ℕ, zero, suc, ◌+◌, ◌<◌, ◌≤◌, Bool, true, false, eqb, List, [], ◌∷◌, ◌++◌, length, take, get_or, Some, None, Option, refl, sym, ap, ◌∙◌, subst, arith, length-append}
use Rattle.std.specs.Prelude.{if◌then◌else◌, map}
use Rattle.std.specs.Option.{IfSome}
use Rattle.std.proofs.Math.Seq.{get_or-append_seam}
use Rattle.std.proofs.lemmas.Bool.Decides.{nat_tests}
use Rattle.std.proofs.lemmas.List.{get_or_append_left, get_or-take, take-take, take_all}
use Rattle.book_log.specs.Places.{further, last_place}
use Rattle.book_log.proofs.LastPlaces.{last_place-more, last_below}
use Rattle.book_tally.specs.declared.tally.Count.{Count}
use Rattle.book_tally.specs.Counts.{newest, part_at, came, went, GoesOn}

abbrev pub blank : {A : Type 0} → A → Count A
blank none = record { id = 0; come = none; gone = none }

abbrev pub keys_of : {A : Type 0} → List (Count A) → List ℕ
keys_of journal = map (λ c. c.id) journal

module _ {A : Type 0} where
  -- the places of a key among the keys are those in the journal
  pub newest_keys : (key : ℕ) (journal : List (Count A)) → last_place (λ k. eqb k key) (keys_of journal) ≡ newest key journal
  newest_keys key [] = refl
  newest_keys key (c ∷ cs) = ap (further (eqb c.id key)) (newest_keys key cs)

  pub keys-take : (n : ℕ) (journal : List (Count A)) → take n (keys_of journal) ≡ keys_of (take n journal)
  keys-take zero journal = refl
  keys-take (suc n) [] = refl
  keys-take (suc n) (c ∷ cs) = ap (λ (ks : List ℕ). c.id ∷ ks) (keys-take n cs)

  pub keys-get_or : (journal : List (Count A)) (i : ℕ) (d : Count A) → get_or (keys_of journal) i d.id ≡ (get_or journal i d).id
  keys-get_or [] i d = refl
  keys-get_or (c ∷ cs) zero d = refl
  keys-get_or (c ∷ cs) (suc i) d = keys-get_or cs i d

  -- the newest place is one of the journal
  pub newest_within : (key : ℕ) (journal : List (Count A)) → IfSome (newest key journal) (λ place. place < length journal)
  newest_within key journal = last_below (λ (c : Count A). eqb c.id key) journal (newest key journal) refl

  module _ (none : A) (part : Count A → A) (journal : List (Count A)) where
    -- more additions change nothing at earlier places
    pub part_kept : (more : List (Count A)) (place : Option ℕ) → IfSome place (λ p. p < length journal) → part_at none part (journal ++ more) place ≡ part_at none part journal place
    part_kept more None lt = refl
    part_kept more (Some p) lt = ap part (get_or_append_left journal more (blank none) p lt)

    -- nor does it to leave later ones out
    pub part_taken : (count : ℕ) (place : Option ℕ) → IfSome place (λ p. p < count) → part_at none part (take count journal) place ≡ part_at none part journal place
    part_taken count None lt = refl
    part_taken count (Some p) lt = ap part (get_or-take count journal p (blank none) lt)

    pub part_more : (c : Count A) (key : ℕ) → part_at none part (journal ++ c ∷ []) (newest key (journal ++ c ∷ [])) ≡ (if eqb c.id key then part c else part_at none part journal (newest key journal))
    part_more c key = ap (part_at none part (journal ++ c ∷ [])) (last_place-more (λ (e : Count A). eqb e.id key) journal c) ∙ by_key (eqb c.id key)
      where
        by_key : (b : Bool) → part_at none part (journal ++ c ∷ []) (if b then Some (length journal) else newest key journal) ≡ (if b then part c else part_at none part journal (newest key journal))
        by_key true = ap part (get_or-append_seam journal c [] (blank none))
        by_key false = part_kept (c ∷ []) (newest key journal) (newest_within key journal)

    -- an addition adds to its own key
    pub part_added : (add : A → A → A) (c : Count A) (more : A) (key : ℕ) → part c ≡ add (part_at none part journal (newest c.id journal)) more → part_at none part (journal ++ c ∷ []) (newest key (journal ++ c ∷ [])) ≡ (if eqb c.id key then add (part_at none part journal (newest key journal)) more else part_at none part journal (newest key journal))
    part_added add c more key is = part_more c key ∙ by_key (eqb c.id key) refl
      where
        by_key : (b : Bool) → eqb c.id key ≡ b → (if b then part c else part_at none part journal (newest key journal)) ≡ (if b then add (part_at none part journal (newest key journal)) more else part_at none part journal (newest key journal))
        by_key true e =
            let same : c.id ≡ key = grind (arith, nat_tests, e) in
            is ∙ ap (λ (k : ℕ). add (part_at none part journal (newest k journal)) more) same
        by_key false e = refl

  -- ---- journals that go on
  pub on_same : (journal : List (Count A)) → GoesOn journal journal
  on_same journal = take_all (length journal) journal (omega arith)

  pub on_longer : (old new : List (Count A)) → GoesOn old new → length old ≤ length new
  on_longer old new on = omega (arith, ap length on, shorter (length old) new)
    where
      shorter : (n : ℕ) (xs : List (Count A)) → length (take n xs) ≤ length xs
      shorter zero xs = omega arith
      shorter (suc n) [] = omega arith
      shorter (suc n) (x ∷ xs) = omega (arith, shorter n xs)

  -- the front of a journal that goes on is as before
  pub on_front : (old new : List (Count A)) (n : ℕ) → n ≤ length old → GoesOn old new → take n new ≡ take n old
  on_front old new n le on = sym (take-take n (length old) new le) ∙ ap (take n) on

  pub on_both : (a b c : List (Count A)) → GoesOn a b → GoesOn b c → GoesOn a c
  on_both a b c one two = on_front b c (length a) (on_longer a b one) two ∙ one
