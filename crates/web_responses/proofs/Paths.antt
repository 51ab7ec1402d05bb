-- The pieces of a page's path, however they are grouped.
use Rattle.std.proofs.Common.{◌≡◌, ℕ, List, ◌++◌, refl}
use Rattle.std.proofs.lemmas.List.{append_assoc}

pub pieces_grouped : (a b c d e f g : List ℕ) → a ++ (b ++ (c ++ (d ++ (e ++ (f ++ g))))) ≡ a ++ b ++ c ++ d ++ e ++ f ++ g
pieces_grouped a b c d e f g = simp (append_assoc {A = ℕ}) refl
