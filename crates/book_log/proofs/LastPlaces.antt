-- The last place in a log that touches a row: after one more change, and what stands there.
use Rattle.std.proofs.Common.{◌≡◌, ℕ, suc, ◌<◌, Bool, true, false, List, [], ◌∷◌, ◌++◌, length, get_or, Some, None, Option, refl, sym, ap, ◌∙◌, arith}
use Rattle.std.proofs.lemmas.Option.{none-some}
use Rattle.std.specs.Prelude.{if◌then◌else◌}
use Rattle.std.specs.Option.{IfSome}
use Rattle.model_rows.specs.declared.changes.Change.{Change}
use Rattle.model_rows.specs.Lists.{Lists}
use Rattle.model_rows.specs.Change.{after_change, after_all}
use Rattle.book_log.specs.Places.{further, last_place}

-- two places in a `Some` are the same where these are
pub some_is : (i j : ℕ) → Some i ≡ Some j → i ≡ j
some_is i j same = ap number same
  where
    number : Option ℕ → ℕ
    number None = i
    number (Some place) = place

module _ {T : Type 0} (passes : T → Bool) where
  more_by : (here b : Bool) (n : ℕ) (o : Option ℕ) → further here (if b then Some n else o) ≡ (if b then Some (suc n) else further here o)
  more_by here true n o = refl
  more_by here false n o = refl

  -- one more change is the last place, if it passes
  pub last_place-more : (log : List T) (change : T) → last_place passes (log ++ change ∷ []) ≡ (if passes change then Some (length log) else last_place passes log)
  last_place-more [] change = refl
  last_place-more (c ∷ log) change = ap (further (passes c)) (last_place-more log change) ∙ more_by (passes c) (passes change) (length log) (last_place passes log)

  -- the last place is one of the log
  pub last_within : (log : List T) (i : ℕ) → last_place passes log ≡ Some i → i < length log
  last_within [] i is = absurd (none-some i is)
  last_within (c ∷ log) i is = by_later (last_place passes log) (last_within log) (passes c) is
    where
      by_later : (o : Option ℕ) → ((j : ℕ) → o ≡ Some j → j < length log) → (here : Bool) → further here o ≡ Some i → i < suc (length log)
      by_later (Some j) more here same = omega (arith, more j refl, some_is (suc j) i same)
      by_later None more true same = omega (arith, some_is 0 i same)
      by_later None more false same = absurd (none-some i same)

  -- so it is below the length
  pub last_below : (log : List T) (o : Option ℕ) → o ≡ last_place passes log → IfSome o (λ place. place < length log)
  last_below log None is = tt
  last_below log (Some place) is = last_within log place (sym is)

  -- the change there passes
  pub last_passes : (log : List T) (i : ℕ) (d : T) → last_place passes log ≡ Some i → passes (get_or log i d) ≡ true
  last_passes [] i d is = absurd (none-some i is)
  last_passes (c ∷ log) i d is = by_later (last_place passes log) (λ j. last_passes log j d) (passes c) refl is
    where
      by_later : (o : Option ℕ) → ((j : ℕ) → o ≡ Some j → passes (get_or log j d) ≡ true) → (here : Bool) → passes c ≡ here → further here o ≡ Some i → passes (get_or (c ∷ log) i d) ≡ true
      by_later (Some j) more here test same = ap (λ n. passes (get_or (c ∷ log) n d)) (sym (some_is (suc j) i same)) ∙ more j refl
      by_later None more true test same = ap (λ n. passes (get_or (c ∷ log) n d)) (sym (some_is 0 i same)) ∙ test
      by_later None more false test same = absurd (none-some i same)

-- a row that changes put or drop is as the last of them has it, or as it was before them
module _ {T : Type 0} (at : Lists → Option T) (passes : Change → Bool) (row : Change → Option T) (step : (change : Change) (lists : Lists) → at (after_change change lists) ≡ (if passes change then row change else at lists)) where
  abbrev standing : Option ℕ → List Change → Lists → Change → Option T
  standing (Some i) log lists d = row (get_or log i d)
  standing None log lists d = at lists

  stands : (log : List Change) (lists : Lists) (d : Change) → at (after_all log lists) ≡ standing (last_place passes log) log lists d
  stands [] lists d = refl
  stands (c ∷ log) lists d = stands log (after_change c lists) d ∙ by_later (last_place passes log)
    where
      by_here : (here : Bool) → (if here then row c else at lists) ≡ standing (if here then Some 0 else None) (c ∷ log) lists d
      by_here true = refl
      by_here false = refl

      by_later : (o : Option ℕ) → standing o log (after_change c lists) d ≡ standing (further (passes c) o) (c ∷ log) lists d
      by_later (Some j) = refl
      by_later None = step c lists ∙ by_here (passes c)

  pub as_put : (log : List Change) (lists : Lists) (d : Change) (i : ℕ) → last_place passes log ≡ Some i → at (after_all log lists) ≡ row (get_or log i d)
  as_put log lists d i is = stands log lists d ∙ ap (λ o. standing o log lists d) is

  pub as_before : (log : List Change) (lists : Lists) (d : Change) → last_place passes log ≡ None → at (after_all log lists) ≡ at lists
  as_before log lists d is = stands log lists d ∙ ap (λ o. standing o log lists d) is
