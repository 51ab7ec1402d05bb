-- What one link more tells of the members of rows.
use Rattle.std.proofs.Common.{◌≡◌, ℕ, zero, suc, ◌+◌, ◌<◌, ◌≤◌, ◌==◌, ◌⊎◌, inl, inr, true, false, List, [], ◌∷◌, ◌++◌, length, get_or, set, map, filter, refl, sym, ap, ap₂, ◌∙◌, arith, append-nil}
use Rattle.std.proofs.lemmas.Bool.{cases_lt}
use Rattle.std.proofs.lemmas.Bool.Decides.{nat_tests}
use Rattle.std.proofs.lemmas.List.{map-append}
use Rattle.base_tables.specs.Tables.{InOrderFrom, AreInOrder, IsPlace, IsGap}
use Rattle.file_meaning.specs.Links.{Link}
use Rattle.file_meaning.proofs.Links.{filter_append}
use Rattle.file_rebuild.specs.Members.{members_told}

told_last : (id : ℕ) (before : List Link) (l : Link) → members_told id (before ++ l ∷ []) ≡ members_told id before ++ members_told id (l ∷ [])
told_last id before l = ap (map (λ (k : Link). k.member)) (filter_append (λ (k : Link). k.owner == id) before (l ∷ [])) ∙ map-append (λ (k : Link). k.member) (filter (λ (k : Link). k.owner == id) before) (filter (λ (k : Link). k.owner == id) (l ∷ []))

-- a link of another row tells nothing of this one
told_same : (id : ℕ) (before : List Link) (l : Link) → (l.owner == id) ≡ false → members_told id (before ++ l ∷ []) ≡ members_told id before
told_same id before l e =
    let none : members_told id (l ∷ []) ≡ [] = rw e refl in
    told_last id before l ∙ ap (λ t. members_told id before ++ t) none ∙ append-nil (members_told id before)

-- a link of this one tells its member
told_more : (id : ℕ) (before : List Link) (l : Link) → (l.owner == id) ≡ true → members_told id (before ++ l ∷ []) ≡ members_told id before ++ l.member ∷ []
told_more id before l e =
    let one : members_told id (l ∷ []) ≡ l.member ∷ [] = rw e refl in
    told_last id before l ∙ ap (λ t. members_told id before ++ t) one

at_least : (n : ℕ) (ids : List ℕ) (at d : ℕ) → InOrderFrom (λ n. n) n ids → at < length ids → n ≤ get_or ids at d
at_least n [] at d h lt = absurd (omega (arith, lt))
at_least n (x ∷ xs) zero d h lt = h.0
at_least n (x ∷ xs) (suc at) d h lt = let more = at_least (x + 1) xs at d h.1 (omega (arith, lt)) in omega (arith, h.0, more)

-- rows above the owner
above_same : (n : ℕ) (ids : List ℕ) (before : List Link) (l : Link) → l.owner < n → InOrderFrom (λ n. n) n ids → map (λ id. members_told id before) ids ≡ map (λ id. members_told id (before ++ l ∷ [])) ids
above_same n [] before l lt h = refl
above_same n (x ∷ xs) before l lt h =
    ap₂ ◌∷◌ (sym (told_same x before l (grind (arith, nat_tests, h.0)))) (above_same (x + 1) xs before l (omega (arith, lt, h.0)) h.1)

-- no row has the owner
pub none_same : (ids : List ℕ) (before : List Link) (l : Link) → ((at d : ℕ) → at < length ids → (l.owner == get_or ids at d) ≡ false) → map (λ id. members_told id before) ids ≡ map (λ id. members_told id (before ++ l ∷ [])) ids
none_same [] before l other = refl
none_same (x ∷ xs) before l other =
    ap₂ ◌∷◌ (sym (told_same x before l (other 0 0 (omega arith)))) (none_same xs before l (λ at d lt. other (suc at) d (omega (arith, lt))))

pub gap_same : (ids : List ℕ) (at : ℕ) (before : List Link) (l : Link) → IsGap (λ n. n) ids l.owner at → map (λ id. members_told id before) ids ≡ map (λ id. members_told id (before ++ l ∷ [])) ids
gap_same ids at before l gap =
    none_same ids before l (λ i d lt. by_side i d lt (cases_lt i at))
  where
    by_side : (i d : ℕ) → i < length ids → (i < at) ⊎ (at ≤ i) → (l.owner == get_or ids i d) ≡ false
    by_side i d lt (inl low) = let less = gap.smaller_before i d low in grind (arith, nat_tests)
    by_side i d lt (inr high) = let more = gap.greater_after i d high lt in grind (arith, nat_tests)

-- one row has it
placed : (n : ℕ) (ids : List ℕ) (at : ℕ) (before : List Link) (l : Link) (new : List ℕ) → InOrderFrom (λ n. n) n ids → at < length ids → ((d : ℕ) → get_or ids at d ≡ l.owner) → new ≡ members_told l.owner before ++ l.member ∷ []
    → set (map (λ id. members_told id before) ids) at new ≡ map (λ id. members_told id (before ++ l ∷ [])) ids
placed n [] at before l new h lt has is = absurd (omega (arith, lt))
placed n (x ∷ xs) zero before l new h lt has is =
    let own : x ≡ l.owner = has 0 in
    let test : (l.owner == x) ≡ true = grind (arith, nat_tests) in
    let first : new ≡ members_told x (before ++ l ∷ []) = is ∙ ap (λ id. members_told id before ++ l.member ∷ []) (sym own) ∙ sym (told_more x before l test) in
    ap₂ ◌∷◌ first (above_same (x + 1) xs before l (omega (arith, own)) h.1)
placed n (x ∷ xs) (suc at) before l new h lt has is =
    let more : x + 1 ≤ get_or xs at 0 = at_least (x + 1) xs at 0 h.1 (omega (arith, lt)) in
    let own : get_or xs at 0 ≡ l.owner = has 0 in
    let test : (l.owner == x) ≡ false = grind (arith, nat_tests) in
    ap₂ ◌∷◌ (sym (told_same x before l test)) (placed (x + 1) xs at before l new h.1 (omega (arith, lt)) (λ d. has d) is)

get_told : (ids : List ℕ) (at : ℕ) (before : List Link) (owner : ℕ) (d : List ℕ) → at < length ids → ((d : ℕ) → get_or ids at d ≡ owner) → get_or (map (λ id. members_told id before) ids) at d ≡ members_told owner before
get_told [] at before owner d lt has = absurd (omega (arith, lt))
get_told (x ∷ xs) zero before owner d lt has = ap (λ id. members_told id before) (has 0)
get_told (x ∷ xs) (suc at) before owner d lt has = get_told xs at before owner d (omega (arith, lt)) (λ d. has d)

pub place_told : (ids : List ℕ) (at : ℕ) (before : List Link) (l : Link) (all : List (List ℕ)) (old new : List ℕ) → AreInOrder (λ n. n) ids → IsPlace (λ n. n) ids l.owner at → all ≡ map (λ id. members_told id before) ids
    → old ≡ get_or all at old → new ≡ old ++ l.member ∷ [] → set all at new ≡ map (λ id. members_told id (before ++ l ∷ [])) ids
place_told ids at before l all old new h place is here more =
    let was : old ≡ members_told l.owner before = here ∙ ap (λ a. get_or a at old) is ∙ get_told ids at before l.owner old place.in_range place.has_id in
    ap (λ a. set a at new) is ∙ placed 0 ids at before l new h place.in_range place.has_id (more ∙ ap (λ o. o ++ l.member ∷ []) was)
