-- What a page of a list is.
use Rattle.std.proofs.Common.{◌≡◌, ℕ, ◌-◌, ◌≤◌, List, [], ◌∷◌, map, length, take, drop, refl, ap, ◌∙◌, arith}
use Rattle.std.specs.Prelude.{min}
use Rattle.std.proofs.lemmas.List.{take_min, take_all, length-drop}

-- all that is left, up to its fiftieth row
pub first_fifty : {T : Type 0} (from count : ℕ) (rows : List T) → count ≡ min (length (take (length rows - from) (drop from rows))) 50 → take count (take (length rows - from) (drop from rows)) ≡ take 50 (drop from rows)
first_fifty from count rows e =
    let fits : length (drop from rows) ≤ length rows - from = omega (arith, length-drop from rows) in
    let whole = take_all (length rows - from) (drop from rows) fits in
    let least : count ≡ min (length (drop from rows)) 50 = e ∙ ap (λ xs. min (length xs) 50) whole in
    let same : count ≡ min 50 (length (drop from rows)) = omega (arith, least) in
    ap (λ xs. take count xs) whole ∙ (ap (λ (n : ℕ). take n (drop from rows)) same ∙ take_min 50 (drop from rows))

-- rows that are made into others, and those into others again
pub map_twice : {A B C : Type 0} (f : A → B) (g : B → C) (rows : List A) → map g (map f rows) ≡ map (λ row. g (f row)) rows
map_twice f g [] = refl
map_twice {A} {B} {C} f g (row ∷ rows) = ap (λ (more : List C). g (f row) ∷ more) (map_twice f g rows)
