-- What a shop stands for: a box office, and the answers that are kept beside it.
use Rattle.std.specs.Prelude.{◌≡◌, ℕ, List, [], ◌∷◌, ◌++◌, filter, Option, Some, None, IsPermutation, if◌then◌else◌}
use Rattle.std.specs.Borrow.{Bor}
use Rattle.model_rows.specs.Change.{Changed, changes_applied}
use Rattle.model_rows.specs.Lists.{State}
use Rattle.model_answers.specs.declared.kept.Kept.{Kept}
use Rattle.model_answers.specs.KeptAnswers.{has_key, lasts}

-- the rows of the office, and the answers that are kept
pub record ShopView : Type 0 where
  pub state : State
  pub kept : List Kept

-- two shops have the same rows, and the same answers in some order
pub record IsSame (a b : ShopView) : Type 0 where
  pub state : a.state ≡ b.state
  pub kept : IsPermutation a.kept b.kept

-- an answer, which is kept if it is under a key
abbrev pub own_row : Kept → List Kept
own_row k = if has_key k.key then k ∷ [] else []

-- an answer that is lent, or none, as a list
abbrev pub kept_listed : Option (Bor Kept) → List Kept
kept_listed None = []
kept_listed (Some k) = k.now ∷ []

-- what is kept at a moment with these answers added: what is past is gone
abbrev pub with_kept : ℕ → List Kept → List Kept → List Kept
with_kept now ks more = filter (λ k. lasts now k.at) (ks ++ more)

-- what tables hold after a commit of changes at a moment, with an answer to keep
abbrev pub view_committed : Changed → ℕ → Option (Bor Kept) → State → List Kept → ShopView
view_committed changes at kept s ks = record { state = changes_applied changes at s; kept = with_kept at ks (kept_listed kept) }
