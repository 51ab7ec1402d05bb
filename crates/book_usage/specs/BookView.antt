-- What a contract sees of a book: its state, and the weight of the changes that it has room for.
use Rattle.std.specs.Prelude.{ℕ}
use Rattle.model_rows.specs.Lists.{State}

-- a book as contracts see it: its box office, and the weight of the changes that it has room for
pub record BookView : Type 0 where
  pub state : State
  pub room : ℕ
