-- Values that are kept beside rows, each at the place of its row.
use Rattle.std.specs.Prelude.{◌≡◌, ℕ, ◌-◌, List, map, length, Vec, vec_capacity}

-- how many more values go in without taking memory
abbrev pub room_left : {X Z : Type 0} → Vec X Z → ℕ
room_left v = vec_capacity v - length v.items

-- beside each row stands what `f` gives for its id
abbrev pub AreBeside : {T U : Type 0} → (T → ℕ) → (ℕ → U) → List T → List U → Type 0
AreBeside key f rows kept = kept ≡ map (λ r. f (key r)) rows

-- whatever stood beside the rows by their ids, now what `step` makes of it does
abbrev pub StepsBeside : {T U Z : Type 0} → (T → ℕ) → ((ℕ → U) → ℕ → U) → List T → Vec U Z → Vec U Z → Type 0
StepsBeside {T} {U} key step rows old new = (f : ℕ → U) → AreBeside key f rows old.items → AreBeside key (step f) rows new.items

-- as many values are kept as before, in as much memory
pub record Stays {X Z : Type 0} (old new : Vec X Z) : Type 0 where
  pub room : vec_capacity new ≡ vec_capacity old
  pub same : length new.items ≡ length old.items
