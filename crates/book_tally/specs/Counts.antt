-- Counts by key as a journal of additions: each has its key, with all that had come and gone of it by then.
use Rattle.std.specs.Prelude.{◌≡◌, ℕ, ◌==◌, Bool, List, length, take, Option, Some, None, slice_index_or, if◌then◌else◌}
use Rattle.book_log.specs.Places.{last_place}
use Rattle.book_tally.specs.declared.tally.Count.{Count}

-- the place of the newest addition to the key
abbrev pub newest : {A : Type 0} → ℕ → List (Count A) → Option ℕ
newest key journal = last_place (λ c. c.id == key) journal

-- what stands at a place of the journal; none where there is none
abbrev pub part_at : {A : Type 0} → A → (Count A → A) → List (Count A) → Option ℕ → A
part_at none part journal None = none
part_at none part journal (Some place) = part (slice_index_or journal place (record { id = 0; come = none; gone = none }))

-- how much came of the key
abbrev pub came : {A : Type 0} → A → ℕ → List (Count A) → A
came none key journal = part_at none (λ c. c.come) journal (newest key journal)

-- how much went
abbrev pub went : {A : Type 0} → A → ℕ → List (Count A) → A
went none key journal = part_at none (λ c. c.gone) journal (newest key journal)

-- of each key that passes, so much more is counted in the new journal; of any other one as much as in the old one
abbrev pub CountsMore : {A : Type 0} → (ℕ → List (Count A) → A) → (A → A → A) → (ℕ → Bool) → A → List (Count A) → List (Count A) → Type 0
CountsMore count sum passes more old new = (k : ℕ) → count k new ≡ (if passes k then sum (count k old) more else count k old)

-- the new journal goes on from the old one
abbrev pub GoesOn : {A : Type 0} → List (Count A) → List (Count A) → Type 0
GoesOn old new = take (length old) new ≡ old
