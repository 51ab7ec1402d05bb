-- What tables know beside rows and answers: whose shop they are, each token's number, and the next one.
use Rattle.std.specs.Prelude.{ℕ, List, Option}

-- the short names of the organizer and the event, the number of each known token by its digest, and the number that the next one gets
pub record House : Type 0 where
  pub organizer : List ℕ
  pub event : List ℕ
  pub tokens : List ℕ → Option ℕ
  pub next_token : ℕ
