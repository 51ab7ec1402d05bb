-- Blocks with spare ones behind them, after an edit; and where a number is among those that rise in blocks.
use Rattle.std.proofs.Common.{◌≡◌, ◌≢◌, ℕ, zero, suc, ◌+◌, ◌-◌, ◌*◌, ◌<◌, ◌≤◌, ◌⊎◌, inl, inr, List, [], ◌∷◌, ◌++◌, length, get_or, set, take, drop, replicate, Result, Ok, Err, IfOk, IfErr, refl, sym, ap, ◌∙◌, subst, arith, length-append}
use Rattle.std.specs.List.{insert, remove, concat}
use Rattle.std.proofs.lemmas.List.{length-set, length-take, length-drop, length-replicate, get_or-set_same, get_or-set_other, get_or-take, get_or_default, get_or_append_left, get_or-append_right, take-append-drop, nil_from_length}
use Rattle.std.proofs.lemmas.List.Edits.{length-insert, length-remove, get_or-insert_below, get_or-insert_at, get_or-insert_above, get_or-remove_below, get_or-remove_above}
use Rattle.std.proofs.lemmas.Bool.{cases_lt, cases_order}
use Rattle.base_tables.specs.Tables.{InOrderFrom, AreInOrder, IsPlace, IsGap}
use Rattle.base_tables.proofs.Places.{order_weaker}
use Rattle.base_index.specs.Blocks.{start_of, excess, split_at, AreBlocks}
use Rattle.base_index.proofs.Cuts.{less, above_too}
use Rattle.base_index.proofs.BlockLemmas.{whole, start_next, start_within, all_before, item_at, remove_in, excess_set, excess_at, few_in, without_last, split_concat, split_excess, dropped_concat, dropped_excess, grown_excess}

-- where there is a number there is a block
pub some_block : (bs : List (List ℕ)) → 0 < length (concat bs) → 0 < length bs
some_block [] lt = absurd (omega arith)
some_block (x ∷ xs) lt = omega arith

empty_there : (j : ℕ) → get_or {A = List ℕ} ([] ∷ []) j [] ≡ []
empty_there zero = refl
empty_there (suc j) = refl

empties_there : (m j : ℕ) → get_or {A = List ℕ} (replicate m []) j [] ≡ []
empties_there zero j = refl
empties_there (suc m) zero = refl
empties_there (suc m) (suc j) = empties_there m j

empty_taken : (n : ℕ) (bs : List (List ℕ)) (j : ℕ) → get_or bs j [] ≡ [] → get_or (take n bs) j [] ≡ []
empty_taken zero bs j is = refl
empty_taken (suc n) [] j is = refl
empty_taken (suc n) (b ∷ bs) zero is = is
empty_taken (suc n) (b ∷ bs) (suc j) is = empty_taken n bs j is

module _ (bs : List (List ℕ)) (last room : ℕ) (are : AreBlocks bs last room) where
  -- the blocks in use have all
  pub ends_there : start_of (last + 1) bs ≡ length (concat bs)
  ends_there = ap length (all_before bs (last + 1) (λ b le. are.spare b (omega arith)))

  pub few_places : length (concat bs) + room ≤ 4294967296
  few_places = omega (arith, few_in bs, are.room_is, are.few)

  -- an edit of one block
  pub blocks_set : (b left : ℕ) (new : List ℕ) → b < length bs → b ≤ last → (0 < b → 0 < length new) → left + (length new - 256) ≡ room + (length (get_or bs b []) - 256) → AreBlocks (set bs b new) last left
  blocks_set b left new lt le some same =
      record {
        within = omega (arith, are.within, length-set bs b new);
        filled = λ k pos up. by_block k pos up (cases_order k b);
        spare = λ k up. let apart : k ≢ b = omega arith in get_or-set_other bs b k new [] apart ∙ are.spare k up;
        room_is = omega (arith, are.room_is, same, excess_set bs b new lt, length-set bs b new);
        few = omega (arith, are.few, length-set bs b new);
      }
    where
      by_block : (k : ℕ) → 0 < k → k ≤ last → (k ≡ b) ⊎ ((k < b) ⊎ (b < k)) → 0 < length (get_or (set bs b new) k [])
      by_block k pos up (inl is) = omega (arith, ap (λ (i : ℕ). length (get_or (set bs b new) i [])) is, ap length (get_or-set_same bs b new [] lt), some (omega arith))
      by_block k pos up (inr other) =
          let apart : k ≢ b = omega arith in
          omega (arith, ap length (get_or-set_other bs b k new [] apart), are.filled k pos up)

  -- one block more in the place of a spare one
  pub spare_is : (b : ℕ) → b < length bs → length (get_or bs b []) ≡ 512 → (last + 1 < length bs) × (get_or bs (length bs - 1) [] ≡ [])
  spare_is b lt full =
      let more : last + 1 < length bs = omega (arith, are.room_is, excess_at bs b lt) in
      (more, are.spare (length bs - 1) (omega arith))

  pub split_count : (b : ℕ) → b ≤ last → last + 1 < length bs → length (split_at b (take (length bs - 1) bs)) ≡ length bs
  split_count b le more =
      let cs = take (length bs - 1) bs in
      let lower = take 256 (get_or cs b []) in
      let upper = drop 256 (get_or cs b []) in
      omega (arith, length-insert (set cs b lower) (b + 1) upper (omega (arith, length-set cs b lower, length-take (length bs - 1) bs)), length-set cs b lower, length-take (length bs - 1) bs)

  pub split_rows : (b : ℕ) → b ≤ last → last + 1 < length bs → concat (split_at b (take (length bs - 1) bs)) ≡ concat bs
  split_rows b le more =
      let cs = take (length bs - 1) bs in
      let block = get_or cs b [] in
      let next : b + 1 ≡ suc b = omega arith in
      let lt : b < length cs = omega (arith, length-take (length bs - 1) bs) in
      ap (λ (k : ℕ). concat (insert (set cs b (take 256 block)) k (drop 256 block))) next ∙ split_concat cs b (take 256 block) (drop 256 block) lt (take-append-drop 256 block) ∙ (without_last bs (length bs - 1) (omega arith) (are.spare (length bs - 1) (omega arith))).0

  -- what stands in both halves, and in the blocks before and behind them
  module _ (b : ℕ) (le : b ≤ last) (more : last + 1 < length bs) (full : length (get_or bs b []) ≡ 512) where
    was_full : length (get_or (take (length bs - 1) bs) b []) ≡ 512
    was_full = ap length (get_or-take (length bs - 1) bs b [] (omega arith)) ∙ full

    pub at_lower : length (get_or (split_at b (take (length bs - 1) bs)) b []) ≡ 256
    at_lower =
        let cs = take (length bs - 1) bs in
        let block = get_or cs b [] in
        let lt : b < length cs = omega (arith, length-take (length bs - 1) bs) in
        let is : get_or (split_at b cs) b [] ≡ take 256 block = get_or-insert_below (set cs b (take 256 block)) (b + 1) (drop 256 block) [] b (omega arith) (omega (arith, length-set cs b (take 256 block))) ∙ get_or-set_same cs b (take 256 block) [] lt in
        omega (arith, ap length is, length-take 256 block, was_full)

    pub at_upper : length (get_or (split_at b (take (length bs - 1) bs)) (b + 1) []) ≡ 256
    at_upper =
        let cs = take (length bs - 1) bs in
        let block = get_or cs b [] in
        let lt : b < length cs = omega (arith, length-take (length bs - 1) bs) in
        let is : get_or (split_at b cs) (b + 1) [] ≡ drop 256 block = get_or-insert_at (set cs b (take 256 block)) (b + 1) (drop 256 block) [] (omega (arith, length-set cs b (take 256 block))) in
        omega (arith, ap length is, length-drop 256 block, was_full)

    before : (k : ℕ) → k < b → get_or (split_at b (take (length bs - 1) bs)) k [] ≡ get_or bs k []
    before k less =
        let cs = take (length bs - 1) bs in
        let block = get_or cs b [] in
        let lt : b < length cs = omega (arith, length-take (length bs - 1) bs) in
        let apart : k ≢ b = omega arith in
        get_or-insert_below (set cs b (take 256 block)) (b + 1) (drop 256 block) [] k (omega arith) (omega (arith, length-set cs b (take 256 block))) ∙ get_or-set_other cs b k (take 256 block) [] apart ∙ get_or-take (length bs - 1) bs k [] (omega arith)

    behind : (j : ℕ) → b < j → get_or (split_at b (take (length bs - 1) bs)) (j + 1) [] ≡ get_or (take (length bs - 1) bs) j []
    behind j up =
        let cs = take (length bs - 1) bs in
        let block = get_or cs b [] in
        let lt : b < length cs = omega (arith, length-take (length bs - 1) bs) in
        let apart : j ≢ b = omega arith in
        get_or-insert_above (set cs b (take 256 block)) (b + 1) (drop 256 block) [] j (omega arith) (omega (arith, length-set cs b (take 256 block))) ∙ get_or-set_other cs b j (take 256 block) [] apart

    pub blocks_split : AreBlocks (split_at b (take (length bs - 1) bs)) (last + 1) room
    blocks_split =
        let cs = take (length bs - 1) bs in
        let block = get_or cs b [] in
        let lt : b < length cs = omega (arith, length-take (length bs - 1) bs) in
        let next : b + 1 ≡ suc b = omega arith in
        let count = split_count b le more in
        let parted = split_excess cs b (take 256 block) (drop 256 block) lt in
        let same : excess (split_at b cs) ≡ excess (insert (set cs b (take 256 block)) (suc b) (drop 256 block)) = ap (λ (k : ℕ). excess (insert (set cs b (take 256 block)) k (drop 256 block))) next in
        let all : excess cs ≡ excess bs = (without_last bs (length bs - 1) (omega arith) (are.spare (length bs - 1) (omega arith))).1 in
        record {
          within = omega arith;
          filled = λ k pos up. by_block k pos up (cases_order k b);
          spare = λ k up.
              let back : k - 1 + 1 ≡ k = omega arith in
              ap (λ (i : ℕ). get_or (split_at b cs) i []) (sym back) ∙ behind (k - 1) (omega arith) ∙ empty_taken (length bs - 1) bs (k - 1) (are.spare (k - 1) (omega arith));
          room_is = omega (arith, are.room_is, parted, same, all, was_full, length-take 256 block, length-drop 256 block);
          few = omega (arith, are.few);
        }
      where
        by_next : (k : ℕ) → b < k → k ≤ last + 1 → (k ≡ b + 1) ⊎ ((k < b + 1) ⊎ (b + 1 < k)) → 0 < length (get_or (split_at b (take (length bs - 1) bs)) k [])
        by_next k up within (inl is) = omega (arith, ap (λ (i : ℕ). length (get_or (split_at b (take (length bs - 1) bs)) i [])) is, at_upper)
        by_next k up within (inr (inl few)) = absurd (omega arith)
        by_next k up within (inr (inr far)) =
            let back : k - 1 + 1 ≡ k = omega arith in
            omega (arith, ap (λ (i : ℕ). length (get_or (split_at b (take (length bs - 1) bs)) i [])) back, ap length (behind (k - 1) (omega arith)), ap length (get_or-take (length bs - 1) bs (k - 1) [] (omega arith)), are.filled (k - 1) (omega arith) (omega arith))

        by_block : (k : ℕ) → 0 < k → k ≤ last + 1 → (k ≡ b) ⊎ ((k < b) ⊎ (b < k)) → 0 < length (get_or (split_at b (take (length bs - 1) bs)) k [])
        by_block k pos up (inl is) = omega (arith, ap (λ (i : ℕ). length (get_or (split_at b (take (length bs - 1) bs)) i [])) is, at_lower)
        by_block k pos up (inr (inl less)) = omega (arith, ap length (before k less), are.filled k pos (omega arith))
        by_block k pos up (inr (inr more)) = by_next k more up (cases_order k (b + 1))

    start_lower : start_of b (split_at b (take (length bs - 1) bs)) ≡ start_of b bs
    start_lower =
        let cs = take (length bs - 1) bs in
        let block = get_or cs b [] in
        let lt : b < length cs = omega (arith, length-take (length bs - 1) bs) in
        let first : take b (split_at b cs) ≡ take b bs = starts_alike cs b (take 256 block) (drop 256 block) lt ∙ taken_twice (length bs - 1) b bs (omega arith) in
        ap (λ (l : List (List ℕ)). length (concat l)) first
      where
        starts_alike : (cs : List (List ℕ)) (b : ℕ) (l u : List ℕ) → b < length cs → take b (insert (set cs b l) (b + 1) u) ≡ take b cs
        starts_alike cs b l u lt = let next : b + 1 ≡ suc b = omega arith in ap (λ (k : ℕ). take b (insert (set cs b l) k u)) next ∙ alike cs b l u lt
          where
            alike : (cs : List (List ℕ)) (b : ℕ) (l u : List ℕ) → b < length cs → take b (insert (set cs b l) (suc b) u) ≡ take b cs
            alike [] b l u lt = absurd (omega arith)
            alike (x ∷ xs) zero l u lt = refl
            alike (x ∷ xs) (suc b) l u lt = ap (λ t. x ∷ t) (alike xs b l u (omega arith))

        taken_twice : (n m : ℕ) (xs : List (List ℕ)) → m ≤ n → take m (take n xs) ≡ take m xs
        taken_twice n zero xs le = refl
        taken_twice zero (suc m) xs le = absurd (omega arith)
        taken_twice (suc n) (suc m) [] le = refl
        taken_twice (suc n) (suc m) (x ∷ xs) le = ap (λ t. x ∷ t) (taken_twice n m xs (omega arith))

    -- where a spot of the block is then
    pub half_told : (r k hb hr : ℕ) → start_of b bs + r ≡ k → r ≤ 512 → (r ≤ 256 → (hb ≡ b) × (hr ≡ r)) → (256 < r → (hb ≡ b + 1) × (hr + 256 ≡ r)) → (hb ≤ last + 1) × (hb < length (split_at b (take (length bs - 1) bs))) × (start_of hb (split_at b (take (length bs - 1) bs)) + hr ≡ k) × (hr ≤ 256) × (length (get_or (split_at b (take (length bs - 1) bs)) hb []) ≡ 256)
    half_told r k hb hr at within low high = by_half (cases_lt 256 r)
      where
        by_half : (256 < r) ⊎ (r ≤ 256) → (hb ≤ last + 1) × (hb < length (split_at b (take (length bs - 1) bs))) × (start_of hb (split_at b (take (length bs - 1) bs)) + hr ≡ k) × (hr ≤ 256) × (length (get_or (split_at b (take (length bs - 1) bs)) hb []) ≡ 256)
        by_half (inr few) =
            let is = low few in
            let new = split_at b (take (length bs - 1) bs) in
            let start : start_of hb new ≡ start_of b new = ap (λ (i : ℕ). start_of i new) is.0 in
            let there : length (get_or new hb []) ≡ length (get_or new b []) = ap (λ (i : ℕ). length (get_or new i [])) is.0 in
            let count = split_count b le more in
            (omega arith, omega arith, omega (arith, start, start_lower, is.1), omega arith, there ∙ at_lower)
        by_half (inl many) =
            let is = high many in
            let new = split_at b (take (length bs - 1) bs) in
            let count = split_count b le more in
            let start : start_of hb new ≡ start_of (b + 1) new = ap (λ (i : ℕ). start_of i new) is.0 in
            let next = start_next new b (omega arith) in
            let there : length (get_or new hb []) ≡ length (get_or new (b + 1) []) = ap (λ (i : ℕ). length (get_or new i [])) is.0 in
            (omega arith, omega arith, omega (arith, start, start_lower, at_lower, is.1), omega arith, there ∙ at_upper)

  -- one block less, which is spare then
  pub blocks_drop : (b : ℕ) → 0 < b → b ≤ last → b < length bs → length (get_or bs b []) ≡ 1 → AreBlocks (remove bs b ++ [] ∷ []) (last - 1) (room + 256)
  blocks_drop b pos le lt single =
      let fewer = length-remove bs b lt in
      let count : length (remove bs b ++ [] ∷ []) ≡ length bs = omega (arith, length-append (remove bs b) ([] ∷ [])) in
      record {
        within = omega (arith, are.within);
        filled = λ k some up. by_place k some up (cases_lt k b);
        spare = λ k up. by_end k up (cases_lt k (length (remove bs b)));
        room_is = omega (arith, are.room_is, are.within, dropped_excess bs b lt, excess_set bs b [] lt);
        few = omega (arith, are.few);
      }
    where
      by_place : (k : ℕ) → 0 < k → k ≤ last - 1 → (k < b) ⊎ (b ≤ k) → 0 < length (get_or (remove bs b ++ [] ∷ []) k [])
      by_place k some up (inl less) = omega (arith, ap length (get_or_append_left (remove bs b) ([] ∷ []) [] k (omega (arith, length-remove bs b lt, are.within))), ap length (get_or-remove_below bs b [] k less lt), are.filled k some (omega arith))
      by_place k some up (inr more) = omega (arith, ap length (get_or_append_left (remove bs b) ([] ∷ []) [] k (omega (arith, length-remove bs b lt, are.within))), ap length (get_or-remove_above bs b [] k more lt), are.filled (k + 1) (omega arith) (omega arith))

      by_end : (k : ℕ) → last - 1 < k → (k < length (remove bs b)) ⊎ (length (remove bs b) ≤ k) → get_or (remove bs b ++ [] ∷ []) k [] ≡ []
      by_end k up (inl inside) = get_or_append_left (remove bs b) ([] ∷ []) [] k inside ∙ get_or-remove_above bs b [] k (omega arith) lt ∙ are.spare (k + 1) (omega arith)
      by_end k up (inr past) = get_or-append_right (remove bs b) ([] ∷ []) (length (remove bs b)) k [] refl past ∙ empty_there (k - length (remove bs b))

  pub drop_rows : (b r k : ℕ) → b < length bs → length (get_or bs b []) ≡ 1 → start_of b bs + r ≡ k → r < length (get_or bs b []) → concat (remove bs b ++ [] ∷ []) ≡ remove (concat bs) k
  drop_rows b r k lt single at within =
      let none : remove (get_or bs b []) r ≡ [] = nil_from_length (remove (get_or bs b []) r) (omega (arith, length-remove (get_or bs b []) r within)) in
      dropped_concat bs b lt ∙ ap (λ (l : List ℕ). concat (set bs b l)) (sym none) ∙ remove_in bs b r k lt at within

  -- more spare blocks
  pub blocks_grow : (m spare : ℕ) → m ≡ spare + (1 - length bs) → 512 * (length bs + m) ≤ 4294967296 → AreBlocks (bs ++ replicate m []) last (room + 256 * spare)
  blocks_grow m spare is few =
      let count : length (bs ++ replicate m []) ≡ length bs + m = length-append bs (replicate m []) ∙ ap (λ (n : ℕ). length bs + n) (length-replicate m []) in
      record {
        within = omega (arith, are.within);
        filled = λ k some up. omega (arith, are.within, ap length (get_or_append_left bs (replicate m []) [] k (omega (arith, are.within))), are.filled k some up);
        spare = λ k up. by_end k up (cases_lt k (length bs));
        room_is = omega (arith, are.room_is, are.within, grown_excess m bs);
        few = omega (arith, few);
      }
    where
      by_end : (k : ℕ) → last < k → (k < length bs) ⊎ (length bs ≤ k) → get_or (bs ++ replicate m []) k [] ≡ []
      by_end k up (inl inside) = get_or_append_left bs (replicate m []) [] k inside ∙ are.spare k up
      by_end k up (inr past) = get_or-append_right bs (replicate m []) (length bs) k [] refl past ∙ empties_there m (k - length bs)

  -- where a number is among those that rise
  pub place_whole : (b p e : ℕ) → b < length bs → start_of b bs ≤ p → IsPlace (λ n. n) (get_or bs b []) e (p - start_of b bs) → IsPlace (λ n. n) (concat bs) e p
  place_whole b p e lt from found =
      let r = p - start_of b bs in
      let there : start_of b bs + (p - start_of b bs) ≡ p = omega arith in
      record {
        in_range = omega (arith, found.in_range, start_next bs b lt, start_within bs (b + 1));
        has_id = λ d. ap (λ (i : ℕ). get_or (concat bs) i d) (sym there) ∙ item_at bs b (p - start_of b bs) d lt found.in_range ∙ found.has_id d;
      }

  pub gap_whole : (b p e : ℕ) → AreInOrder (λ n. n) (concat bs) → last < length bs → b ≤ last → (0 < b → get_or (get_or bs b []) 0 0 ≤ e) → (b < last → e < get_or (get_or bs (b + 1) []) 0 0) → start_of b bs ≤ p → IsGap (λ n. n) (get_or bs b []) e (p - start_of b bs) → IsGap (λ n. n) (concat bs) e p
  gap_whole b p e order lt_last le first next from gap =
      let lt : b < length bs = omega arith in
      record {
        in_range = omega (arith, gap.in_range, start_next bs b lt, start_within bs (b + 1));
        smaller_before = λ j d up. by_start j d up (cases_lt j (start_of b bs));
        greater_after = λ j d up within. by_next j d up within (cases_lt j (start_of (b + 1) bs));
      }
    where
      in_block : (j d : ℕ) → start_of b bs ≤ j → j < start_of (b + 1) bs → (j - start_of b bs < length (get_or bs b [])) × (get_or (concat bs) j d ≡ get_or (get_or bs b []) (j - start_of b bs) d)
      in_block j d up within =
          let lt : b < length bs = omega arith in
          let inside : j - start_of b bs < length (get_or bs b []) = omega (arith, start_next bs b lt) in
          let there : start_of b bs + (j - start_of b bs) ≡ j = omega arith in
          (inside, ap (λ (i : ℕ). get_or (concat bs) i d) (sym there) ∙ item_at bs b (j - start_of b bs) d lt inside)

      at_first : (k d : ℕ) → k < length bs → 0 < length (get_or bs k []) → (start_of k bs < length (concat bs)) × (get_or (concat bs) (start_of k bs) d ≡ get_or (get_or bs k []) 0 0)
      at_first k d lt some =
          let there : start_of k bs + 0 ≡ start_of k bs = omega arith in
          (omega (arith, start_next bs k lt, start_within bs (k + 1)), ap (λ (i : ℕ). get_or (concat bs) i d) (sym there) ∙ item_at bs k 0 d lt some ∙ get_or_default (get_or bs k []) 0 d 0 some)

      by_start : (j d : ℕ) → j < p → (j < start_of b bs) ⊎ (start_of b bs ≤ j) → get_or (concat bs) j d < e
      by_start j d up (inl below) = by_first (cases_lt 0 b)
        where
          by_first : (0 < b) ⊎ (b ≤ 0) → get_or (concat bs) j d < e
          by_first (inl pos) =
              let begins = at_first b d (omega arith) (are.filled b pos le) in
              omega (arith, begins.1, first pos, less 0 (concat bs) order j (start_of b bs) d below begins.0)
          by_first (inr le_zero) =
              let is : b ≡ 0 = omega arith in
              absurd (omega (arith, ap (λ (k : ℕ). start_of k bs) is))
      by_start j d up (inr more) =
          let here = in_block j d more (omega (arith, gap.in_range, start_next bs b (omega arith))) in
          omega (arith, here.1, gap.smaller_before (j - start_of b bs) d (omega arith))

      by_next : (j d : ℕ) → p ≤ j → j < length (concat bs) → (j < start_of (b + 1) bs) ⊎ (start_of (b + 1) bs ≤ j) → e < get_or (concat bs) j d
      by_next j d up within (inl here) =
          let there = in_block j d (omega arith) here in
          omega (arith, there.1, gap.greater_after (j - start_of b bs) d (omega arith) there.0)
      by_next j d up within (inr behind) = by_last (cases_lt b last)
        where
          by_last : (b < last) ⊎ (last ≤ b) → e < get_or (concat bs) j d
          by_last (inl more) =
              let begins = at_first (b + 1) d (omega arith) (are.filled (b + 1) (omega arith) (omega arith)) in
              above_too (concat bs) e (start_of (b + 1) bs) j d order (omega (arith, begins.1, next more)) behind within
          by_last (inr ended) =
              let is : b ≡ last = omega arith in
              absurd (omega (arith, ap (λ (k : ℕ). start_of (k + 1) bs) is, ends_there))

right_in : (n : ℕ) (xs ys : List ℕ) → InOrderFrom (λ n. n) n (xs ++ ys) → AreInOrder (λ n. n) ys
right_in n [] ys h = order_weaker (λ n. n) n 0 ys (omega arith) h
right_in n (x ∷ xs) ys h = right_in (x + 1) xs ys h.1

left_in : (n : ℕ) (xs ys : List ℕ) → InOrderFrom (λ n. n) n (xs ++ ys) → InOrderFrom (λ n. n) n xs
left_in n [] ys h = tt
left_in n (x ∷ xs) ys h = (h.0, left_in (x + 1) xs ys h.1)

-- the numbers of each block rise
pub block_rises : (bs : List (List ℕ)) (b : ℕ) → b < length bs → AreInOrder (λ n. n) (concat bs) → AreInOrder (λ n. n) (get_or bs b [])
block_rises bs b lt order = left_in 0 (get_or bs b []) (concat (drop (suc b) bs)) (right_in 0 (concat (take b bs)) (get_or bs b [] ++ concat (drop (suc b) bs)) (subst (λ (l : List ℕ). AreInOrder (λ n. n) l) (whole bs b lt) order))

-- what is known of a result, from what else is known of it
pub when_ok : (P Q : ℕ → Type 0) (r : Result ℕ ℕ) → ((p : ℕ) → P p → Q p) → IfOk r P → IfOk r Q
when_ok P Q (Ok p) f h = f p h
when_ok P Q (Err e) f h = tt

pub when_err : (P Q : ℕ → Type 0) (r : Result ℕ ℕ) → ((p : ℕ) → P p → Q p) → IfErr r P → IfErr r Q
when_err P Q (Ok p) f h = tt
when_err P Q (Err e) f h = f e h
