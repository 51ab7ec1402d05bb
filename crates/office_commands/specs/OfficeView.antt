-- What a contract sees of an office.
use Rattle.std.specs.Prelude.{ℕ, List}
use Rattle.model_rows.specs.Lists.{State}

-- the short names of the organizer and the event, the book, its state, and the weight of the changes that it has room for
pub record OfficeView (B : Type 0) : Type 0 where
  pub organizer : List ℕ
  pub event : List ℕ
  pub book : B
  pub state : State
  pub room : ℕ
