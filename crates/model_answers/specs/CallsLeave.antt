-- What a call leaves of tables that hold rows and answers and know a house; of most it is said where the store has returned what was written.
use Rattle.std.specs.Prelude.{◌≡◌, ℕ, List, Option}
use Rattle.std.specs.Borrow.{Bor}
use Rattle.model_rows.specs.Change.{Changed, changes_applied}
use Rattle.model_rows.specs.CountRows.{CountRows, counts_after}
use Rattle.model_rows.specs.Lists.{State}
use Rattle.model_answers.specs.declared.kept.Kept.{Kept}
use Rattle.model_answers.specs.House.{House}
use Rattle.model_answers.specs.ShopView.{ShopView, view_committed}

-- this is so of each house that they knew before
abbrev pub OfItsHouse : {T : Type 0} → (T → Type 0) → (T → House → Type 0) → T → T → (House → Type 0) → Type 0
OfItsHouse sure knows old new Holds = sure new → (house : House) → knows old house → Holds house

-- they still know their house
abbrev pub KnowsStill : {T : Type 0} → (T → Type 0) → (T → House → Type 0) → T → T → Type 0
KnowsStill sure knows old new = OfItsHouse sure knows old new (λ house. knows new house)

-- this is so of all rows and answers that they held before
abbrev pub OfItsRows : {T : Type 0} → (T → Type 0) → (T → State → List Kept → Type 0) → T → T → (State → List Kept → Type 0) → Type 0
OfItsRows sure holds old new Holds = sure new → (s : State) (ks : List Kept) → holds old s ks → Holds s ks

-- they still hold their rows and their answers
abbrev pub HoldsStill : {T : Type 0} → (T → Type 0) → (T → State → List Kept → Type 0) → T → T → Type 0
HoldsStill sure holds old new = OfItsRows sure holds old new (λ s ks. holds new s ks)

-- a crash may leave nothing that it couldn't have left before
abbrev pub MayLeaveNoMore : {T : Type 0} → (T → ShopView → Type 0) → T → T → Type 0
MayLeaveNoMore may_leave old new = (left : ShopView) → may_leave new left → may_leave old left

-- this is so of what a commit makes of all rows and answers that the tables hold, where these are the rows' counts after its changes
abbrev pub OfCommitted : {T : Type 0} → (T → State → List Kept → Type 0) → T → Changed → CountRows → ℕ → Option (Bor Kept) → (ShopView → Type 0) → Type 0
OfCommitted holds tables changes counts at kept Holds =
    (s : State) (ks : List Kept) → holds tables s ks → counts ≡ counts_after s (changes_applied changes at s) → Holds (view_committed changes at kept s ks)
