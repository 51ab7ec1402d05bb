-- The orders of two lists: that they are all, and no others; and what adding them one by one comes to.
use Rattle.std.proofs.Common.{◌≡◌, ◌∙◌, ◌<◌, List, [], ◌∷◌, ◌++◌, All, Contains, ap, append_assoc, arith, inl, inr, length, map, refl, subst, sym}
use Rattle.std.proofs.lemmas.List.{map-append}
use Rattle.std.proofs.lemmas.List.Elements.{All-append, All-cons, All-contains, All-map, All-nil, All-weaker, Contains-append_left, Contains-append_right, Contains-get_or}
use Rattle.tests_callers.specs.Merges.{AddsMerges, AreMerges, IsMerge, behind, merges_of, merges_with}
use Rattle.web_connections.specs.declared.turns.Next.{Next}

-- ---- adding them

behind_behind : (first : List Next) (x : Next) (orders : List (List Next))
    → map (behind first) (map (behind (x ∷ [])) orders) ≡ map (behind (first ++ x ∷ [])) orders
behind_behind first x [] = refl
behind_behind first x (order ∷ orders) =
    let here : first ++ (x ∷ order) ≡ (first ++ x ∷ []) ++ order = sym (append_assoc first (x ∷ []) order) in
    let there = behind_behind first x orders in cc

none_of_other : (one : List Next) → merges_of one [] ≡ one ∷ []
none_of_other [] = refl
none_of_other (x ∷ xs) = refl

at_both : (first xs ys : List Next) (x y : Next) (old mid new : List (List Next))
    → AddsMerges (first ++ x ∷ []) xs (y ∷ ys) old mid → AddsMerges (first ++ y ∷ []) (x ∷ xs) ys mid new
    → AddsMerges first (x ∷ xs) (y ∷ ys) old new
at_both first xs ys x y old mid new m n =
    let ones = map (behind (x ∷ [])) (merges_of xs (y ∷ ys)) in
    let others = map (behind (y ∷ [])) (merges_of (x ∷ xs) ys) in
    let split : map (behind first) (ones ++ others) ≡ map (behind first) ones ++ map (behind first) others = map-append (behind first) ones others in
    let at_ones : map (behind first) ones ≡ map (behind (first ++ x ∷ [])) (merges_of xs (y ∷ ys)) = behind_behind first x (merges_of xs (y ∷ ys)) in
    let at_others : map (behind first) others ≡ map (behind (first ++ y ∷ [])) (merges_of (x ∷ xs) ys) = behind_behind first y (merges_of (x ∷ xs) ys) in
    let grouped : (old ++ map (behind first) ones) ++ map (behind first) others ≡ old ++ (map (behind first) ones ++ map (behind first) others) = append_assoc old _ _ in cc

-- first the orders in which that of the one is next, and then those in which that of the other is
pub merges_after : (first one other xs ys behind_x behind_y : List Next) (x y : Next) (old mid new : List (List Next)) → one ≡ x ∷ xs → other ≡ y ∷ ys
    → behind_x ≡ first ++ x ∷ [] → behind_y ≡ first ++ y ∷ []
    → AddsMerges behind_x xs other old mid → AddsMerges behind_y one ys mid new → AddsMerges first one other old new
merges_after first one other xs ys behind_x behind_y x y old mid new e f u v m n =
    let at_one : AddsMerges (first ++ x ∷ []) xs (y ∷ ys) old mid = m ∙ (rw (u, f) refl) in
    let at_other : AddsMerges (first ++ y ∷ []) (x ∷ xs) ys mid new = n ∙ (rw (v, e) refl) in
    rw (e, f) (at_both first xs ys x y old mid new at_one at_other)

-- ---- each of them is one

all_of_one : (other : List Next) → IsMerge [] other other
all_of_one [] = (refl, refl)
all_of_one (y ∷ ys) = inr (ys, refl, all_of_one ys)

all_of_other : (one : List Next) → IsMerge one [] one
all_of_other [] = (refl, refl)
all_of_other (x ∷ xs) = inl (xs, refl, all_of_other xs)

are_with : (x : Next) (xs : List Next) (rest : List Next → List (List Next)) → ((other : List Next) → All (IsMerge xs other) (rest other))
    → (other : List Next) → All (IsMerge (x ∷ xs) other) (merges_with x xs rest other)
are_with x xs rest are [] = All-cons (IsMerge (x ∷ xs) []) (x ∷ xs) [] (all_of_other (x ∷ xs)) (All-nil (IsMerge (x ∷ xs) []))
are_with x xs rest are (y ∷ ys) =
    let P : List Next → Type 0 = IsMerge (x ∷ xs) (y ∷ ys) in
    let first_x : (order : List Next) → IsMerge xs (y ∷ ys) order → P (x ∷ order) = λ order h. inl (xs, refl, h) in
    let first_y : (order : List Next) → IsMerge (x ∷ xs) ys order → P (y ∷ order) = λ order h. inr (ys, refl, h) in
    let ones = rest (y ∷ ys) in
    let others = merges_with x xs rest ys in
    All-append P (map (behind (x ∷ [])) ones) (map (behind (y ∷ [])) others)
    (All-map P (behind (x ∷ [])) ones (All-weaker (IsMerge xs (y ∷ ys)) (λ order. P (x ∷ order)) first_x ones (are (y ∷ ys))))
    (All-map P (behind (y ∷ [])) others (All-weaker (IsMerge (x ∷ xs) ys) (λ order. P (y ∷ order)) first_y others (are_with x xs rest are ys)))

are_merges : (one other : List Next) → All (IsMerge one other) (merges_of one other)
are_merges [] other = All-cons (IsMerge [] other) other [] (all_of_one other) (All-nil (IsMerge [] other))
are_merges (x ∷ xs) other = are_with x xs (merges_of xs) (are_merges xs) other

-- ---- each one is among them

images : (f : List Next → List Next) (orders : List (List Next)) → All (λ order. Contains (map f orders) (f order)) orders
images f [] = All-nil (λ order. Contains (map f []) (f order))
images f (order ∷ orders) =
    let P : List Next → Type 0 = λ it. Contains (f order ∷ map f orders) (f it) in
    let some : 0 < length (f order ∷ map f orders) = omega arith in
    let further : (it : List Next) → Contains (map f orders) (f it) → P it = λ it h. Contains-append_right (f order ∷ []) (map f orders) (f it) h in
    All-cons P order orders (Contains-get_or (f order ∷ map f orders) 0 (f order) some)
    (All-weaker (λ it. Contains (map f orders) (f it)) P further orders (images f orders))

image : (f : List Next → List Next) (orders : List (List Next)) (order : List Next) → Contains orders order → Contains (map f orders) (f order)
image f orders order h = All-contains (λ it. Contains (map f orders) (f it)) orders order (images f orders) h

-- where the first of the one is next
one_next : (x : Next) (xs other order : List Next) → Contains (merges_of xs other) order → Contains (merges_of (x ∷ xs) other) (x ∷ order)
one_next x xs [] order h =
    let only = subst (λ (all : List (List Next)). Contains all order) (none_of_other xs) h in
    image (behind (x ∷ [])) (xs ∷ []) order only
one_next x xs (y ∷ ys) order h = Contains-append_left _ _ _ (image (behind (x ∷ [])) (merges_of xs (y ∷ ys)) order h)

-- where the first of the other is next
other_next : (one : List Next) (y : Next) (ys order : List Next) → Contains (merges_of one ys) order → Contains (merges_of one (y ∷ ys)) (y ∷ order)
other_next [] y ys order h = image (behind (y ∷ [])) (ys ∷ []) order h
other_next (x ∷ xs) y ys order h = Contains-append_right _ _ _ (image (behind (y ∷ [])) (merges_of (x ∷ xs) ys) order h)

nothing_left : Contains (merges_of [] []) []
nothing_left = let some : 0 < length (merges_of [] []) = omega arith in Contains-get_or (merges_of [] []) 0 [] some

none_among : (one other : List Next) → one ≡ [] → other ≡ [] → Contains (merges_of one other) []
none_among one other e f =
    subst (λ (it : List Next). Contains (merges_of it other) []) (sym e) (subst (λ (it : List Next). Contains (merges_of [] it) []) (sym f) nothing_left)

is_among : (order one other : List Next) → IsMerge one other order → Contains (merges_of one other) order
is_among [] one other h = none_among one other h.0 h.1
is_among (next ∷ order) one other (inl h) =
    subst (λ (it : List Next). Contains (merges_of it other) (next ∷ order)) (sym h.1) (one_next next h.0 other order (is_among order h.0 other h.2))
is_among (next ∷ order) one other (inr h) =
    subst (λ (it : List Next). Contains (merges_of one it) (next ∷ order)) (sym h.1) (other_next one next h.0 order (is_among order one h.0 h.2))

-- ---- all that was added

behind_nothing : (orders : List (List Next)) → map (behind []) orders ≡ orders
behind_nothing [] = refl
behind_nothing (order ∷ orders) = ap (λ it. order ∷ it) (behind_nothing orders)

-- what was added behind nothing, where nothing was, is all of them
are_orders : {V : Type 0} (f : V → List Next) (one other : List Next) (made : List V) (all : List (List Next)) → made ≡ []
    → all ≡ map f made ++ map (behind []) (merges_of one other) → all ≡ merges_of one other
are_orders f one other made all none e =
    let nothing : map f made ≡ [] = ap (map f) none in
    let orders : map (behind []) (merges_of one other) ≡ merges_of one other = behind_nothing (merges_of one other) in cc

pub all_merges : {V : Type 0} (f : V → List Next) (one other : List Next) (made : List V) (all : List (List Next)) → made ≡ []
    → AddsMerges [] one other (map f made) all → AreMerges one other all
all_merges f one other made all none e =
    let here : all ≡ merges_of one other = are_orders f one other made all none e in record {
      only = subst (λ (it : List (List Next)). All (IsMerge one other) it) (sym here) (are_merges one other);
      every = λ order h. subst (λ (it : List (List Next)). Contains it order) (sym here) (is_among order one other h);
    }
