-- A list in blocks that stand in order, and what an edit of one of them makes of all.
use Rattle.std.proofs.Common.{◌≡◌, ℕ, zero, suc, ◌+◌, ◌-◌, ◌*◌, ◌<◌, ◌≤◌, List, [], ◌∷◌, ◌++◌, length, get_or, set, take, drop, map, replicate, refl, sym, ap, ◌∙◌, arith, length-append}
use Rattle.std.specs.List.{insert, remove, concat}
use Rattle.std.proofs.lemmas.List.{append-nil, append_assoc, take_more, set-append_left, set-append_right, get_or_append_left, get_or-append-add}
use Rattle.std.proofs.lemmas.List.Edits.{insert-append_left, insert-append_right, remove-append_left, remove-append_right}
use Rattle.std.proofs.lemmas.List.Folds.{concat-append}
use Rattle.base_index.specs.Blocks.{starts_from, start_of, excess}

pub length_starts : (n : ℕ) (bs : List (List ℕ)) → length (starts_from n bs) ≡ length bs
length_starts n [] = refl
length_starts n (b ∷ bs) = ap suc (length_starts (n + length b) bs)

start_from : (n : ℕ) (bs : List (List ℕ)) (b d : ℕ) → b < length bs → get_or (starts_from n bs) b d ≡ n + start_of b bs
start_from n [] b d lt = absurd (omega arith)
start_from n (x ∷ xs) zero d lt = omega arith
start_from n (x ∷ xs) (suc b) d lt = start_from (n + length x) xs b d (omega arith) ∙ omega (arith, length-append x (concat (take b xs)))

-- the start of a block is how many numbers stand before it
pub start_is : (bs : List (List ℕ)) (b d : ℕ) → b < length bs → get_or (starts_from 0 bs) b d ≡ start_of b bs
start_is bs b d lt = start_from 0 bs b d lt ∙ omega arith

-- all numbers are those before a block, in it and behind it
pub whole : (bs : List (List ℕ)) (b : ℕ) → b < length bs → concat bs ≡ concat (take b bs) ++ (get_or bs b [] ++ concat (drop (suc b) bs))
whole [] b lt = absurd (omega arith)
whole (x ∷ xs) zero lt = refl
whole (x ∷ xs) (suc b) lt = ap (λ (l : List ℕ). x ++ l) (whole xs b (omega arith)) ∙ sym (append_assoc x (concat (take b xs)) (get_or xs b [] ++ concat (drop (suc b) xs)))

pub whole_set : (bs : List (List ℕ)) (b : ℕ) (new : List ℕ) → b < length bs → concat (set bs b new) ≡ concat (take b bs) ++ (new ++ concat (drop (suc b) bs))
whole_set [] b new lt = absurd (omega arith)
whole_set (x ∷ xs) zero new lt = refl
whole_set (x ∷ xs) (suc b) new lt = ap (λ (l : List ℕ). x ++ l) (whole_set xs b new (omega arith)) ∙ sym (append_assoc x (concat (take b xs)) (new ++ concat (drop (suc b) xs)))

-- the next block begins where this one ends
pub start_next : (bs : List (List ℕ)) (b : ℕ) → b < length bs → start_of (b + 1) bs ≡ start_of b bs + length (get_or bs b [])
start_next bs b lt =
    let block = get_or bs b [] in
    ap (λ (l : List (List ℕ)). length (concat l)) (take_more bs b [] lt) ∙ ap length (concat-append (take b bs) (block ∷ [])) ∙ length-append (concat (take b bs)) (block ++ []) ∙ ap (λ (l : List ℕ). length (concat (take b bs)) + length l) (append-nil block)

none : (bs : List (List ℕ)) → ((b : ℕ) → get_or bs b [] ≡ []) → concat bs ≡ []
none [] h = refl
none (x ∷ xs) h = ap (λ (l : List ℕ). l ++ concat xs) (h 0) ∙ none xs (λ b. h (suc b))

-- empty blocks at the end
pub all_before : (bs : List (List ℕ)) (k : ℕ) → ((b : ℕ) → k ≤ b → get_or bs b [] ≡ []) → concat (take k bs) ≡ concat bs
all_before [] zero h = refl
all_before [] (suc k) h = refl
all_before (x ∷ xs) zero h = sym (none (x ∷ xs) (λ b. h b (omega arith)))
all_before (x ∷ xs) (suc k) h = ap (λ (l : List ℕ). x ++ l) (all_before xs k (λ b le. h (suc b) (omega arith)))

-- the number at a place of a block
pub item_at : (bs : List (List ℕ)) (b r d : ℕ) → b < length bs → r < length (get_or bs b []) → get_or (concat bs) (start_of b bs + r) d ≡ get_or (get_or bs b []) r d
item_at bs b r d lt within = ap (λ (l : List ℕ). get_or l (start_of b bs + r) d) (whole bs b lt) ∙ get_or-append-add (concat (take b bs)) (get_or bs b [] ++ concat (drop (suc b) bs)) r d ∙ get_or_append_left (get_or bs b []) (concat (drop (suc b) bs)) d r within

-- an edit at a place of a block is one of the whole list
pub set_in : (bs : List (List ℕ)) (b r k x : ℕ) → b < length bs → start_of b bs + r ≡ k → r < length (get_or bs b []) → concat (set bs b (set (get_or bs b []) r x)) ≡ set (concat bs) k x
set_in bs b r k x lt at within =
    let front = concat (take b bs) in
    let block = get_or bs b [] in
    let back = concat (drop (suc b) bs) in
    let here : k - length front ≡ r = omega arith in
    whole_set bs b (set block r x) lt ∙ sym (ap (λ (l : List ℕ). set l k x) (whole bs b lt) ∙ set-append_right front (block ++ back) (length front) k x refl (omega arith) ∙ ap (λ (i : ℕ). front ++ set (block ++ back) i x) here ∙ ap (λ (l : List ℕ). front ++ l) (set-append_left block back r x within))

pub insert_in : (bs : List (List ℕ)) (b r k x : ℕ) → b < length bs → start_of b bs + r ≡ k → r ≤ length (get_or bs b []) → concat (set bs b (insert (get_or bs b []) r x)) ≡ insert (concat bs) k x
insert_in bs b r k x lt at within =
    let front = concat (take b bs) in
    let block = get_or bs b [] in
    let back = concat (drop (suc b) bs) in
    let here : k - length front ≡ r = omega arith in
    whole_set bs b (insert block r x) lt ∙ sym (ap (λ (l : List ℕ). insert l k x) (whole bs b lt) ∙ insert-append_right front (block ++ back) (length front) k x refl (omega arith) ∙ ap (λ (i : ℕ). front ++ insert (block ++ back) i x) here ∙ ap (λ (l : List ℕ). front ++ l) (insert-append_left block back r x within))

pub remove_in : (bs : List (List ℕ)) (b r k : ℕ) → b < length bs → start_of b bs + r ≡ k → r < length (get_or bs b []) → concat (set bs b (remove (get_or bs b []) r)) ≡ remove (concat bs) k
remove_in bs b r k lt at within =
    let front = concat (take b bs) in
    let block = get_or bs b [] in
    let back = concat (drop (suc b) bs) in
    let here : k - length front ≡ r = omega arith in
    whole_set bs b (remove block r) lt ∙ sym (ap (λ (l : List ℕ). remove l k) (whole bs b lt) ∙ remove-append_right front (block ++ back) (length front) k refl (omega arith) ∙ ap (λ (i : ℕ). front ++ remove (block ++ back) i) here ∙ ap (λ (l : List ℕ). front ++ l) (remove-append_left block back r within))

-- how many there are in all
pub count_set : (bs : List (List ℕ)) (b : ℕ) (new : List ℕ) → b < length bs → length (concat (set bs b new)) + length (get_or bs b []) ≡ length (concat bs) + length new
count_set [] b new lt = absurd (omega arith)
count_set (x ∷ xs) zero new lt = omega (arith, length-append new (concat xs), length-append x (concat xs))
count_set (x ∷ xs) (suc b) new lt = omega (arith, count_set xs b new (omega arith), length-append x (concat xs), length-append x (concat (set xs b new)))

pub start_within : (bs : List (List ℕ)) (b : ℕ) → start_of b bs ≤ length (concat bs)
start_within [] zero = omega arith
start_within [] (suc b) = omega arith
start_within (x ∷ xs) zero = omega arith
start_within (x ∷ xs) (suc b) = omega (arith, start_within xs b, length-append x (concat xs), length-append x (concat (take b xs)))

-- by how much blocks are more than half full
pub excess_set : (bs : List (List ℕ)) (b : ℕ) (new : List ℕ) → b < length bs → excess (set bs b new) + (length (get_or bs b []) - 256) ≡ excess bs + (length new - 256)
excess_set [] b new lt = absurd (omega arith)
excess_set (x ∷ xs) zero new lt = omega arith
excess_set (x ∷ xs) (suc b) new lt = omega (arith, excess_set xs b new (omega arith))

pub excess_at : (bs : List (List ℕ)) (b : ℕ) → b < length bs → length (get_or bs b []) - 256 ≤ excess bs
excess_at [] b lt = absurd (omega arith)
excess_at (x ∷ xs) zero lt = omega arith
excess_at (x ∷ xs) (suc b) lt = omega (arith, excess_at xs b (omega arith))

pub few_in : (bs : List (List ℕ)) → length (concat bs) ≤ 256 * length bs + excess bs
few_in [] = omega arith
few_in (x ∷ xs) = omega (arith, few_in xs, length-append x (concat xs))

-- one more before all, and one fewer
raised : (n : ℕ) (bs : List (List ℕ)) → starts_from (n + 1) bs ≡ map (λ s. s + 1) (starts_from n bs)
raised n [] = refl
raised n (b ∷ bs) =
    let same : n + 1 + length b ≡ n + length b + 1 = omega arith in
    rw same (ap (λ l. (n + 1) ∷ l) (raised (n + length b) bs))

lowered : (n : ℕ) (bs : List (List ℕ)) → map (λ s. s - 1) (starts_from (n + 1) bs) ≡ starts_from n bs
lowered n [] = refl
lowered n (b ∷ bs) =
    let same : n + 1 + length b ≡ n + length b + 1 = omega arith in
    let less : n + 1 - 1 ≡ n = omega arith in
    ap (λ k. k ∷ map (λ s. s - 1) (starts_from (n + 1 + length b) bs)) less ∙ ap (λ k. n ∷ map (λ s. s - 1) (starts_from k bs)) same ∙ ap (λ l. n ∷ l) (lowered (n + length b) bs)

pub starts_more : (n : ℕ) (bs : List (List ℕ)) (b : ℕ) (new : List ℕ) → b < length bs → length new ≡ length (get_or bs b []) + 1 → starts_from n (set bs b new) ≡ take (suc b) (starts_from n bs) ++ map (λ s. s + 1) (drop (suc b) (starts_from n bs))
starts_more n [] b new lt count = absurd (omega arith)
starts_more n (x ∷ xs) zero new lt count =
    let same : n + length new ≡ n + length x + 1 = omega arith in
    ap (λ k. n ∷ starts_from k xs) same ∙ ap (λ l. n ∷ l) (raised (n + length x) xs)
starts_more n (x ∷ xs) (suc b) new lt count = ap (λ l. n ∷ l) (starts_more (n + length x) xs b new (omega arith) count)

pub starts_less : (n : ℕ) (bs : List (List ℕ)) (b : ℕ) (new : List ℕ) → b < length bs → length new + 1 ≡ length (get_or bs b []) → starts_from n (set bs b new) ≡ take (suc b) (starts_from n bs) ++ map (λ s. s - 1) (drop (suc b) (starts_from n bs))
starts_less n [] b new lt count = absurd (omega arith)
starts_less n (x ∷ xs) zero new lt count =
    let same : n + length new + 1 ≡ n + length x = omega arith in
    ap (λ l. n ∷ l) (sym (lowered (n + length new) xs)) ∙ ap (λ k. n ∷ map (λ s. s - 1) (starts_from k xs)) same
starts_less n (x ∷ xs) (suc b) new lt count = ap (λ l. n ∷ l) (starts_less (n + length x) xs b new (omega arith) count)

pub starts_same : (n : ℕ) (bs : List (List ℕ)) (b : ℕ) (new : List ℕ) → b < length bs → length new ≡ length (get_or bs b []) → starts_from n (set bs b new) ≡ starts_from n bs
starts_same n [] b new lt count = absurd (omega arith)
starts_same n (x ∷ xs) zero new lt count = ap (λ k. n ∷ starts_from (n + k) xs) count
starts_same n (x ∷ xs) (suc b) new lt count = ap (λ l. n ∷ l) (starts_same (n + length x) xs b new (omega arith) count)

pub take_starts : (k n : ℕ) (bs : List (List ℕ)) → take k (starts_from n bs) ≡ starts_from n (take k bs)
take_starts zero n bs = refl
take_starts (suc k) n [] = refl
take_starts (suc k) n (b ∷ bs) = ap (λ l. n ∷ l) (take_starts k (n + length b) bs)

-- blocks without the last, which is empty
pub without_last : (bs : List (List ℕ)) (k : ℕ) → length bs ≡ suc k → get_or bs k [] ≡ [] → (concat (take k bs) ≡ concat bs) × (excess (take k bs) ≡ excess bs)
without_last [] k count is = absurd (omega arith)
without_last (x ∷ []) zero count is = (sym (ap (λ (l : List ℕ). l ++ []) is), omega (arith, ap length is))
without_last (x ∷ y ∷ ys) zero count is = absurd (omega arith)
without_last (x ∷ xs) (suc k) count is =
    let rest = without_last xs k (omega arith) is in
    (ap (λ (l : List ℕ). x ++ l) rest.0, ap (λ n. (length x - 256) + n) rest.1)

-- two blocks in the place of one
pub split_concat : (cs : List (List ℕ)) (b : ℕ) (lower upper : List ℕ) → b < length cs → lower ++ upper ≡ get_or cs b [] → concat (insert (set cs b lower) (suc b) upper) ≡ concat cs
split_concat [] b lower upper lt is = absurd (omega arith)
split_concat (x ∷ xs) zero lower upper lt is = sym (append_assoc lower upper (concat xs)) ∙ ap (λ (l : List ℕ). l ++ concat xs) is
split_concat (x ∷ xs) (suc b) lower upper lt is = ap (λ (l : List ℕ). x ++ l) (split_concat xs b lower upper (omega arith) is)

pub split_starts : (n : ℕ) (cs : List (List ℕ)) (b : ℕ) (lower upper : List ℕ) → b < length cs → length lower + length upper ≡ length (get_or cs b []) → starts_from n (insert (set cs b lower) (suc b) upper) ≡ insert (starts_from n cs) (suc b) (get_or (starts_from n cs) b 0 + length lower)
split_starts n [] b lower upper lt count = absurd (omega arith)
split_starts n (x ∷ xs) zero lower upper lt count =
    let same : n + length lower + length upper ≡ n + length x = omega arith in
    ap (λ k. n ∷ (n + length lower) ∷ starts_from k xs) same
split_starts n (x ∷ xs) (suc b) lower upper lt count = ap (λ l. n ∷ l) (split_starts (n + length x) xs b lower upper (omega arith) count)

pub split_excess : (cs : List (List ℕ)) (b : ℕ) (lower upper : List ℕ) → b < length cs → excess (insert (set cs b lower) (suc b) upper) + (length (get_or cs b []) - 256) ≡ excess cs + ((length lower - 256) + (length upper - 256))
split_excess [] b lower upper lt = absurd (omega arith)
split_excess (x ∷ xs) zero lower upper lt = omega arith
split_excess (x ∷ xs) (suc b) lower upper lt = omega (arith, split_excess xs b lower upper (omega arith))

-- a block that goes to the end
ends : (n : ℕ) (bs : List (List ℕ)) → starts_from n (bs ++ [] ∷ []) ≡ starts_from n bs ++ (n + length (concat bs)) ∷ []
ends n [] = let same : n ≡ n + 0 = omega arith in ap (λ k. k ∷ []) same
ends n (b ∷ bs) =
    let same : n + length b + length (concat bs) ≡ n + length (b ++ concat bs) = omega (arith, length-append b (concat bs)) in
    ap (λ l. n ∷ l) (ends (n + length b) bs ∙ ap (λ k. starts_from (n + length b) bs ++ k ∷ []) same)

pub dropped_starts : (n : ℕ) (bs : List (List ℕ)) (b : ℕ) → b < length bs → starts_from n (remove bs b ++ [] ∷ []) ≡ remove (starts_from n (set bs b [])) b ++ (n + length (concat (set bs b []))) ∷ []
dropped_starts n [] b lt = absurd (omega arith)
dropped_starts n (x ∷ xs) zero lt =
    let same : n ≡ n + 0 = omega arith in
    ends n xs ∙ ap (λ k. starts_from k xs ++ (n + length (concat xs)) ∷ []) same
dropped_starts n (x ∷ xs) (suc b) lt =
    let rest = concat (set xs b []) in
    let same : n + length x + length rest ≡ n + length (x ++ rest) = omega (arith, length-append x rest) in
    ap (λ l. n ∷ l) (dropped_starts (n + length x) xs b (omega arith) ∙ ap (λ k. remove (starts_from (n + length x) (set xs b [])) b ++ k ∷ []) same)

removed_concat : (bs : List (List ℕ)) (b : ℕ) → b < length bs → concat (remove bs b) ≡ concat (set bs b [])
removed_concat [] b lt = absurd (omega arith)
removed_concat (x ∷ xs) zero lt = refl
removed_concat (x ∷ xs) (suc b) lt = ap (λ (l : List ℕ). x ++ l) (removed_concat xs b (omega arith))

pub dropped_concat : (bs : List (List ℕ)) (b : ℕ) → b < length bs → concat (remove bs b ++ [] ∷ []) ≡ concat (set bs b [])
dropped_concat bs b lt = concat-append (remove bs b) ([] ∷ []) ∙ append-nil (concat (remove bs b)) ∙ removed_concat bs b lt

excess_end : (bs : List (List ℕ)) → excess (bs ++ [] ∷ []) ≡ excess bs
excess_end [] = refl
excess_end (b ∷ bs) = ap (λ n. (length b - 256) + n) (excess_end bs)

pub dropped_excess : (bs : List (List ℕ)) (b : ℕ) → b < length bs → excess (remove bs b ++ [] ∷ []) ≡ excess (set bs b [])
dropped_excess [] b lt = absurd (omega arith)
dropped_excess (x ∷ xs) zero lt = omega (arith, excess_end xs)
dropped_excess (x ∷ xs) (suc b) lt = ap (λ n. (length x - 256) + n) (dropped_excess xs b (omega arith))

-- empty blocks behind the others
empty_starts : (n m : ℕ) → starts_from n (replicate m []) ≡ replicate m n
empty_starts n zero = refl
empty_starts n (suc m) = let same : n + 0 ≡ n = omega arith in ap (λ k. n ∷ starts_from k (replicate m [])) same ∙ ap (λ l. n ∷ l) (empty_starts n m)

pub grown_starts : (n m : ℕ) (bs : List (List ℕ)) → starts_from n (bs ++ replicate m []) ≡ starts_from n bs ++ replicate m (n + length (concat bs))
grown_starts n m [] = let same : n ≡ n + 0 = omega arith in empty_starts n m ∙ ap (replicate m) same
grown_starts n m (b ∷ bs) =
    let same : n + length b + length (concat bs) ≡ n + length (b ++ concat bs) = omega (arith, length-append b (concat bs)) in
    ap (λ l. n ∷ l) (grown_starts (n + length b) m bs ∙ ap (λ k. starts_from (n + length b) bs ++ replicate m k) same)

empty_concat : (m : ℕ) → concat (replicate m []) ≡ []
empty_concat zero = refl
empty_concat (suc m) = empty_concat m

pub grown_concat : (m : ℕ) (bs : List (List ℕ)) → concat (bs ++ replicate m []) ≡ concat bs
grown_concat m bs = concat-append bs (replicate m []) ∙ ap (λ (l : List ℕ). concat bs ++ l) (empty_concat m) ∙ append-nil (concat bs)

empty_excess : (m : ℕ) → excess (replicate m []) ≡ 0
empty_excess zero = refl
empty_excess (suc m) = omega (arith, empty_excess m)

pub grown_excess : (m : ℕ) (bs : List (List ℕ)) → excess (bs ++ replicate m []) ≡ excess bs
grown_excess m [] = empty_excess m
grown_excess m (b ∷ bs) = ap (λ n. (length b - 256) + n) (grown_excess m bs)
