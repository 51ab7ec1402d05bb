-- What is kept beside blocks, after an edit of them.
use Rattle.std.proofs.Common.{◌≡◌, ℕ, suc, ◌+◌, ◌-◌, ◌<◌, ◌≤◌, ◌⊎◌, inl, inr, List, [], ◌∷◌, ◌++◌, length, get_or, set, take, drop, map, replicate, refl, sym, ap, ◌∙◌, subst, arith, length-append}
use Rattle.std.specs.List.{insert, remove, concat}
use Rattle.std.proofs.lemmas.List.{length-take, length-drop, length-map, take-append-drop, take_at, get_or-take, get_or_default, get_or_past}
use Rattle.std.proofs.lemmas.Bool.{cases_lt}
use Rattle.base_tables.specs.Tables.{IsPlace, IsGap}
use Rattle.base_index.specs.Blocks.{starts_from, start_of, IsChain}
use Rattle.base_index.proofs.BlockLemmas.{length_starts, start_is, start_next, start_within, count_set, starts_same, starts_more, starts_less, take_starts, without_last, split_concat, split_starts, dropped_starts, dropped_concat, grown_starts, grown_concat}

-- how long a block is, as others see it
pub read_length : (bs seen : List (List ℕ)) (b : ℕ) (block : List ℕ) → b < length bs → bs ≡ seen → block ≡ get_or bs b block → length block ≡ length (get_or seen b [])
read_length bs seen b block lt same read = ap length (read ∙ get_or_default bs b block [] lt ∙ ap (λ (l : List (List ℕ)). get_or l b []) same)

pub length_lowered : (k : ℕ) (xs : List ℕ) → length (take k xs ++ map (λ s. s - 1) (drop k xs)) ≡ length xs
length_lowered k xs = omega (arith, length-append (take k xs) (map (λ s. s - 1) (drop k xs)), length-map (drop k xs) (λ (s : ℕ). s - 1), length-take k xs, length-drop k xs)

module _ (bs : List (List ℕ)) (starts : List ℕ) (len : ℕ) (are : IsChain bs starts len) where
  pub starts_count : length starts ≡ length bs
  starts_count = ap length are.starts_are ∙ length_starts 0 bs

  pub start_read : (b d : ℕ) → b < length bs → get_or starts b d ≡ start_of b bs
  start_read b d lt = ap (λ l. get_or l b d) are.starts_are ∙ start_is bs b d lt

  pub start_few : (b : ℕ) → b < length bs → start_of b bs + length (get_or bs b []) ≤ 4294967296
  start_few b lt = omega (arith, are.most, are.counted, start_next bs b lt, start_within bs (b + 1))

  pub starts_few : (k : ℕ) → get_or starts k 0 ≤ 4294967296
  starts_few k = by_place (cases_lt k (length bs))
    where
      by_place : (k < length bs) ⊎ (length bs ≤ k) → get_or starts k 0 ≤ 4294967296
      by_place (inl lt) = omega (arith, start_read k 0 lt, start_few k lt)
      by_place (inr le) = omega (arith, get_or_past starts k 0 (omega (arith, starts_count)))

  pub chain_set : (b : ℕ) (block new : List ℕ) → b < length bs → block ≡ get_or bs b block → length new ≡ length block → IsChain (set bs b new) starts len
  chain_set b block new lt read same =
      let here : block ≡ get_or bs b [] = read ∙ get_or_default bs b block [] lt in
      let count = count_set bs b new lt in
      record {
        starts_are = are.starts_are ∙ sym (starts_same 0 bs b new lt (same ∙ ap length here));
        counted = omega (arith, are.counted, count, same, ap length here);
        most = are.most;
      }

  pub chain_insert : (b : ℕ) (block new news : List ℕ) → b < length bs → block ≡ get_or bs b block → length new ≡ length block + 1 → news ≡ take (b + 1) starts ++ map (λ s. s + 1) (drop (b + 1) starts) → len < 4294967296 → IsChain (set bs b new) news (len + 1)
  chain_insert b block new news lt read more made few =
      let here : block ≡ get_or bs b [] = read ∙ get_or_default bs b block [] lt in
      let next : b + 1 ≡ suc b = omega arith in
      let count = count_set bs b new lt in
      record {
        starts_are = made ∙ ap (λ k. take k starts ++ map (λ s. s + 1) (drop k starts)) next ∙ ap (λ l. take (suc b) l ++ map (λ s. s + 1) (drop (suc b) l)) are.starts_are ∙ sym (starts_more 0 bs b new lt (omega (arith, more, ap length here)));
        counted = omega (arith, are.counted, count, more, ap length here);
        most = omega arith;
      }

  pub chain_remove : (b : ℕ) (block new news : List ℕ) (less : ℕ) → b < length bs → block ≡ get_or bs b block → length new + 1 ≡ length block → news ≡ take (b + 1) starts ++ map (λ s. s - 1) (drop (b + 1) starts) → less ≡ len - 1 → IsChain (set bs b new) news less
  chain_remove b block new news less lt read fewer made is =
      let here : block ≡ get_or bs b [] = read ∙ get_or_default bs b block [] lt in
      let next : b + 1 ≡ suc b = omega arith in
      let count = count_set bs b new lt in
      record {
        starts_are = made ∙ ap (λ k. take k starts ++ map (λ s. s - 1) (drop k starts)) next ∙ ap (λ l. take (suc b) l ++ map (λ s. s - 1) (drop (suc b) l)) are.starts_are ∙ sym (starts_less 0 bs b new lt (omega (arith, fewer, ap length here)));
        counted = omega (arith, are.counted, count, fewer, ap length here);
        most = omega (arith, are.most);
      }

  pub chain_drop : (b : ℕ) (one news : List ℕ) (less : ℕ) → b < length bs → length (get_or bs b []) ≡ 1 → one ≡ take (b + 1) starts ++ map (λ s. s - 1) (drop (b + 1) starts) → less ≡ len - 1 → news ≡ remove one b ++ less ∷ [] → IsChain (remove bs b ++ [] ∷ []) news less
  chain_drop b one news less lt single lowered is made =
      let next : b + 1 ≡ suc b = omega arith in
      let count = count_set bs b [] lt in
      let was : one ≡ starts_from 0 (set bs b []) = lowered ∙ ap (λ k. take k starts ++ map (λ s. s - 1) (drop k starts)) next ∙ ap (λ l. take (suc b) l ++ map (λ s. s - 1) (drop (suc b) l)) are.starts_are ∙ sym (starts_less 0 bs b [] lt (omega (arith, single))) in
      let left : less ≡ 0 + length (concat (set bs b [])) = omega (arith, are.counted, count, single) in
      record {
        starts_are = made ∙ ap (λ l. remove l b ++ less ∷ []) was ∙ ap (λ k. remove (starts_from 0 (set bs b [])) b ++ k ∷ []) left ∙ sym (dropped_starts 0 bs b lt);
        counted = omega (arith, left, ap length (dropped_concat bs b lt));
        most = omega (arith, are.most);
      }

  pub chain_grow : (m : ℕ) (new : List (List ℕ)) (news : List ℕ) → new ≡ bs ++ replicate m [] → news ≡ starts ++ replicate m len → IsChain new news len
  chain_grow m new news grown made =
      let total : len ≡ 0 + length (concat bs) = omega (arith, are.counted) in
      record {
        starts_are = made ∙ ap (λ l. l ++ replicate m len) are.starts_are ∙ ap (λ k. starts_from 0 bs ++ replicate m k) total ∙ sym (grown_starts 0 m bs) ∙ ap (starts_from 0) (sym grown);
        counted = are.counted ∙ ap length (sym (ap concat grown ∙ grown_concat m bs));
        most = are.most;
      }

  pub place_told : (b start at entry : ℕ) (block : List ℕ) → b < length bs → start ≡ get_or starts b start → block ≡ get_or bs b block → IsPlace (λ n. n) block entry at → (start_of b bs ≤ start + at) × IsPlace (λ n. n) (get_or bs b []) entry (start + at - start_of b bs)
  place_told b start at entry block lt read there found =
      let from : start ≡ start_of b bs = read ∙ start_read b start lt in
      let back : start + at - start_of b bs ≡ at = omega arith in
      let here : block ≡ get_or bs b [] = there ∙ get_or_default bs b block [] lt in
      (omega arith, rw back (subst (λ (l : List ℕ). IsPlace (λ n. n) l entry at) here found))

  pub gap_told : (b start at entry : ℕ) (block : List ℕ) → b < length bs → start ≡ get_or starts b start → block ≡ get_or bs b block → IsGap (λ n. n) block entry at → (start_of b bs ≤ start + at) × IsGap (λ n. n) (get_or bs b []) entry (start + at - start_of b bs)
  gap_told b start at entry block lt read there found =
      let from : start ≡ start_of b bs = read ∙ start_read b start lt in
      let back : start + at - start_of b bs ≡ at = omega arith in
      let here : block ≡ get_or bs b [] = there ∙ get_or_default bs b block [] lt in
      (omega arith, rw back (subst (λ (l : List ℕ). IsGap (λ n. n) l entry at) here found))

  -- where a place is, by the starts
  pub spot_told : (last place b start : ℕ) → last < length bs → place ≤ start_of (last + 1) bs → b ≤ last → (0 < b → get_or starts b 0 ≤ place) → (b < last → place < get_or starts (b + 1) 0) → start ≡ get_or starts b start → (start ≡ start_of b bs) × (start ≤ place) × (place - start ≤ length (get_or bs b [])) × (place < start_of (last + 1) bs → place - start < length (get_or bs b []))
  spot_told last place b start lt within le from before read =
      let is : start ≡ start_of b bs = read ∙ start_read b start (omega arith) in
      let next = start_next bs b (omega arith) in
      let begins : start_of b bs ≤ place = by_first (cases_lt 0 b) in
      by_last is next begins (cases_lt b last)
    where
      by_first : (0 < b) ⊎ (b ≤ 0) → start_of b bs ≤ place
      by_first (inl some) = omega (arith, from some, start_read b 0 (omega arith))
      by_first (inr first) =
          let zeroth : b ≡ 0 = omega arith in
          omega (arith, ap (λ k. start_of k bs) zeroth)

      by_last : start ≡ start_of b bs → start_of (b + 1) bs ≡ start_of b bs + length (get_or bs b []) → start_of b bs ≤ place → (b < last) ⊎ (last ≤ b) → (start ≡ start_of b bs) × (start ≤ place) × (place - start ≤ length (get_or bs b [])) × (place < start_of (last + 1) bs → place - start < length (get_or bs b []))
      by_last is next begins (inl less) =
          let behind = start_read (b + 1) 0 (omega arith) in
          let up = before less in
          (is, omega arith, omega arith, λ at. omega arith)
      by_last is next begins (inr more) =
          let same : last ≡ b = omega arith in
          let end : start_of (last + 1) bs ≡ start_of (b + 1) bs = ap (λ k. start_of (k + 1) bs) same in
          (is, omega arith, omega arith, λ at. omega arith)

  pub some_at : (b : ℕ) → b < length bs → 0 < length (get_or bs b []) → 1 ≤ len
  some_at b lt some = omega (arith, are.counted, start_next bs b lt, start_within bs (b + 1))

  pub some_in : (b : ℕ) (block : List ℕ) → b < length bs → block ≡ get_or bs b block → 0 < length block → 1 ≤ len
  some_in b block lt read some = some_at b lt (omega (arith, ap length (read ∙ get_or_default bs b block [] lt)))

  -- a full block in two halves, the upper one in what was the last block
  module _ (b : ℕ) (cs : List (List ℕ)) (z : List ℕ) (ss : List ℕ) (y : ℕ) (taken : bs ≡ cs ++ z ∷ []) (taken_too : starts ≡ ss ++ y ∷ []) (within : b + 1 < length bs) where
    pub cut_counts : (length bs ≡ length cs + 1) × (length ss ≡ length cs)
    cut_counts = (omega (arith, ap length taken, length-append cs (z ∷ [])), omega (arith, ap length taken, length-append cs (z ∷ []), ap length taken_too, length-append ss (y ∷ []), starts_count))

    cut_blocks : take (length cs) bs ≡ cs
    cut_blocks = ap (take (length cs)) taken ∙ take_at cs (z ∷ []) (length cs) refl

    cut_starts : ss ≡ starts_from 0 cs
    cut_starts = sym (ap (take (length ss)) taken_too ∙ take_at ss (y ∷ []) (length ss) refl) ∙ ap (λ k. take k starts) cut_counts.1 ∙ ap (take (length cs)) are.starts_are ∙ take_starts (length cs) 0 bs ∙ ap (starts_from 0) cut_blocks

    pub cut_few : (start : ℕ) → start ≡ get_or ss b start → start ≤ 4294967296
    cut_few start read =
        let counts = cut_counts in
        let is : start ≡ start_of b cs = read ∙ ap (λ l. get_or l b start) cut_starts ∙ start_is cs b start (omega arith) in
        let all : length (concat cs) ≤ length (concat bs) = omega (arith, ap (λ (l : List (List ℕ)). length (concat l)) cut_blocks, start_within bs (length cs)) in
        omega (arith, start_within cs b, are.counted, are.most)

    pub chain_split : (block lower upper : List ℕ) (start : ℕ) (new : List (List ℕ)) (news : List ℕ) → length (get_or bs b []) ≡ 512 → get_or bs (length bs - 1) [] ≡ [] → block ≡ get_or cs b block → lower ≡ take 256 block → upper ≡ drop 256 block → start ≡ get_or ss b start → new ≡ insert (set cs b lower) (b + 1) upper → news ≡ insert ss (b + 1) (start + 256) → IsChain new news len
    chain_split block lower upper start new news full spare read kept moved from made made_too =
        let counts = cut_counts in
        let next : b + 1 ≡ suc b = omega arith in
        let last : length bs - 1 ≡ length cs = omega arith in
        let lt : b < length cs = omega arith in
        let here : block ≡ get_or cs b [] = read ∙ get_or_default cs b block [] lt in
        let was : get_or cs b [] ≡ get_or bs b [] = ap (λ (l : List (List ℕ)). get_or l b []) (sym cut_blocks) ∙ get_or-take (length cs) bs b [] lt in
        let long : length block ≡ 512 = ap length (here ∙ was) ∙ full in
        let half : length lower ≡ 256 = omega (arith, ap length kept, length-take 256 block) in
        let rest : length upper ≡ 256 = omega (arith, ap length moved, length-drop 256 block) in
        let both : lower ++ upper ≡ get_or cs b [] = ap (λ (l : List ℕ). l ++ upper) kept ∙ ap (λ (l : List ℕ). take 256 block ++ l) moved ∙ take-append-drop 256 block ∙ here in
        let count : length (get_or cs b []) ≡ 512 = ap length was ∙ full in
        let empty : get_or bs (length cs) [] ≡ [] = ap (λ k. get_or bs k []) (sym last) ∙ spare in
        let begins : start ≡ get_or (starts_from 0 cs) b 0 = from ∙ get_or_default ss b start 0 (omega arith) ∙ ap (λ l. get_or l b 0) cut_starts in
        let more : start + 256 ≡ get_or (starts_from 0 cs) b 0 + length lower = omega arith in
        let is : new ≡ insert (set cs b lower) (suc b) upper = made ∙ ap (λ k. insert (set cs b lower) k upper) next in
        let same : concat new ≡ concat bs = ap concat is ∙ split_concat cs b lower upper lt both ∙ ap concat (sym cut_blocks) ∙ (without_last bs (length cs) (omega arith) empty).0 in
        record {
          starts_are = made_too ∙ ap (λ k. insert ss k (start + 256)) next ∙ ap (λ l. insert l (suc b) (start + 256)) cut_starts ∙ ap (insert (starts_from 0 cs) (suc b)) more ∙ sym (split_starts 0 cs b lower upper lt (omega arith)) ∙ ap (starts_from 0) (sym is);
          counted = are.counted ∙ ap length (sym same);
          most = are.most;
        }
