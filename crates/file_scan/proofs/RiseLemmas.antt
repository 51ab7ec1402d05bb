-- What numbers that rise are.
use Rattle.std.proofs.Common.{◌≡◌, ℕ, ◌+◌, ◌<◌, ◌≤◌, ◌==◌, false, List, [], ◌∷◌, refl, arith}
use Rattle.std.specs.List.{list_any, AllByRecursion}
use Rattle.std.proofs.lemmas.Bool.Decides.{nat_tests}
use Rattle.file_meaning.specs.Free.{AreApart, AreBelow}
use Rattle.file_scan.specs.Numbers.{RiseTo}

pub ends_above : (n m : ℕ) (xs : List ℕ) → RiseTo n m xs → n ≤ m
ends_above n m [] h = h
ends_above n m (x ∷ xs) h = let more = ends_above (x + 1) m xs h.1 in omega (arith, h.0, more)

below : (n m : ℕ) (xs : List ℕ) → RiseTo n m xs → AllByRecursion (λ x. x < m) xs
below n m [] h = tt
below n m (x ∷ xs) h = let more = ends_above (x + 1) m xs h.1 in (omega (arith, more), below (x + 1) m xs h.1)

-- and above all of them there is room for as many
pub rise_under : (n m k : ℕ) (xs : List ℕ) → n ≤ k → RiseTo n m xs → AllByRecursion (λ x. x < k) xs → RiseTo n k xs
rise_under n m k [] le h all = le
rise_under n m k (x ∷ xs) le h all = let low = all.0 in (h.0, rise_under (x + 1) m k xs (omega (arith, low)) h.1 all.1)

none_below : (x n m : ℕ) (xs : List ℕ) → x < n → RiseTo n m xs → list_any (λ y. x == y) xs ≡ false
none_below x n m [] low h = refl
none_below x n m (y ∷ ys) low h = grind (arith, nat_tests, h.0, none_below x (y + 1) m ys (omega (arith, h.0)) h.1)

apart : (n m : ℕ) (xs : List ℕ) → RiseTo n m xs → AreApart xs
apart n m [] h = tt
apart n m (x ∷ xs) h = (none_below x (x + 1) m xs (omega arith) h.1, apart (x + 1) m xs h.1)

pub rise_below : (m : ℕ) (xs : List ℕ) → RiseTo 0 m xs → AreBelow m xs
rise_below m xs h = record { apart = apart 0 m xs h; below = below 0 m xs h }
