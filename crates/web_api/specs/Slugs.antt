-- The slugs of a shop.
use Rattle.std.specs.Prelude.{ℕ, List}

-- the short names by which the paths of a shop name its organizer and its event
pub record Slugs : Type 0 where
  pub organizer : List ℕ
  pub event : List ℕ
