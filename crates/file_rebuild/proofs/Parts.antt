-- Of which links the members of rows are told, and when of all.
use Rattle.std.proofs.Common.{◌≡◌, ◌↔◌, ℕ, zero, suc, ◌+◌, ◌<◌, ◌==◌, Bool, true, false, cond, not, List, [], ◌∷◌, ◌++◌, length, get_or, map, filter, flat_map, refl, sym, ap, ap₂, subst, ◌∙◌, arith, append-nil, append_assoc, ◌⊎◌, inl, inr}
use Rattle.std.specs.List.{All, AllByRecursion}
use Rattle.std.specs.List.Sorted.{IsPermutation, IsStrictlyIncreasing}
use Rattle.std.proofs.lemmas.Bool.Decides.{nat_tests}
use Rattle.std.proofs.lemmas.List.{map-append, length-append, length-map}
use Rattle.std.proofs.lemmas.List.Elements.{All-nil, All-cons, All-head}
use Rattle.std.proofs.lemmas.List.Sorted.{IsPermutation-refl, IsPermutation-sym, IsPermutation-trans, IsPermutation-cons, IsPermutation-map, IsPermutation-middle, IsPermutation-append, IsPermutation-append_left, IsPermutation-append_right, IsPermutation-append_comm, length_permutation, All-permutation, Contains-permutation}
use Rattle.sqlite_trees.proofs.ListLemmas.{IsPermutation-filter}
use Rattle.base_tables.specs.Rising.{with_ids, rising}
use Rattle.base_tables.specs.Tables.{with_row, InOrderFrom, AreInOrder}
use Rattle.base_tables.proofs.RisingLemmas.{is_rising}
use Rattle.file_meaning.specs.Links.{Link, links, all_links}
use Rattle.file_meaning.proofs.Links.{filter_append}
use Rattle.file_meaning.proofs.Order.{put_in, put_stays}
use Rattle.file_rebuild.specs.Members.{members_told, members_of, links_to, links_of}

module _ {X : Type 0} where
  exchange : (a m b e : List X) → IsPermutation ((a ++ m) ++ (b ++ e)) ((a ++ b) ++ (m ++ e))
  exchange a m b e =
      let left : (a ++ m) ++ (b ++ e) ≡ a ++ ((m ++ b) ++ e) = append_assoc a m (b ++ e) ∙ ap (λ l. a ++ l) (sym (append_assoc m b e)) in
      let right : a ++ ((b ++ m) ++ e) ≡ (a ++ b) ++ (m ++ e) = ap (λ l. a ++ l) (append_assoc b m e) ∙ sym (append_assoc a b (m ++ e)) in
      let middle : IsPermutation (a ++ ((m ++ b) ++ e)) (a ++ ((b ++ m) ++ e)) = IsPermutation-append_right a ((m ++ b) ++ e) ((b ++ m) ++ e) (IsPermutation-append_left e (m ++ b) (b ++ m) (IsPermutation-append_comm m b)) in
      subst (λ l. IsPermutation l ((a ++ b) ++ (m ++ e))) (sym left) (subst (λ l. IsPermutation (a ++ ((m ++ b) ++ e)) l) right middle)

  -- what passes, and then what doesn't
  parted : (p : X → Bool) (xs : List X) → IsPermutation xs (filter p xs ++ filter (λ x. not (p x)) xs)
  parted p [] = IsPermutation-refl []
  parted p (x ∷ xs) =
      let rest = IsPermutation-cons x xs (filter p xs ++ filter (λ y. not (p y)) xs) (parted p xs) in
      elim (p x) as (λ b. IsPermutation (x ∷ xs) (cond b (x ∷ filter p xs) (filter p xs) ++ cond (not b) (x ∷ filter (λ y. not (p y)) xs) (filter (λ y. not (p y)) xs))) [
        | true ↦ rest
        | false ↦ IsPermutation-trans (x ∷ xs) (x ∷ (filter p xs ++ filter (λ y. not (p y)) xs)) (filter p xs ++ x ∷ filter (λ y. not (p y)) xs) rest
            (IsPermutation-sym (filter p xs ++ x ∷ filter (λ y. not (p y)) xs) (x ∷ (filter p xs ++ filter (λ y. not (p y)) xs)) (IsPermutation-middle (filter p xs) x (filter (λ y. not (p y)) xs)))
      ]

-- an id that is put, and the one that it takes the place of
put_more : (id : ℕ) (ids : List ℕ) → AreInOrder (λ n. n) ids → IsPermutation (id ∷ ids) (with_row (λ n. n) id ids ++ filter (λ x. not (not (x == id))) ids)
put_more id ids h =
    let rest = filter (λ x. not (not (x == id))) ids in
    IsPermutation-trans (id ∷ ids) (id ∷ (filter (λ x. not (x == id)) ids ++ rest)) (with_row (λ n. n) id ids ++ rest) (IsPermutation-cons id ids (filter (λ x. not (x == id)) ids ++ rest) (parted (λ x. not (x == id)) ids))
    (IsPermutation-append_left rest (id ∷ filter (λ x. not (x == id)) ids) (with_row (λ n. n) id ids) (put_in (λ n. n) 0 id ids h))

-- ids in rising order, each once, are some of the ids
rising_part : (given ids : List ℕ) → AreInOrder (λ n. n) ids → (more : List ℕ) × IsPermutation (given ++ ids) (with_ids given ids ++ more)
rising_part [] ids h = ([], subst (IsPermutation ids) (sym (append-nil ids)) (IsPermutation-refl ids))
rising_part (id ∷ given) ids h =
    let same = filter (λ x. not (not (x == id))) ids in
    let put = with_row (λ n. n) id ids in
    let rest = rising_part given put (put_stays (λ n. n) id ids h) in
    let one : IsPermutation (id ∷ (given ++ ids)) (given ++ id ∷ ids) = IsPermutation-sym (given ++ id ∷ ids) (id ∷ (given ++ ids)) (IsPermutation-middle given id ids) in
    let two : IsPermutation (given ++ id ∷ ids) (given ++ (put ++ same)) = IsPermutation-append_right given (id ∷ ids) (put ++ same) (put_more id ids h) in
    let three : IsPermutation ((given ++ put) ++ same) ((with_ids given put ++ rest.0) ++ same) = IsPermutation-append_left same (given ++ put) (with_ids given put ++ rest.0) rest.1 in
    let four : IsPermutation (given ++ (put ++ same)) (with_ids given put ++ (rest.0 ++ same)) =
    subst (λ l. IsPermutation l (with_ids given put ++ (rest.0 ++ same))) (append_assoc given put same) (subst (IsPermutation ((given ++ put) ++ same)) (append_assoc (with_ids given put) rest.0 same) three) in
    (rest.0 ++ same, IsPermutation-trans (id ∷ (given ++ ids)) (given ++ id ∷ ids) (with_ids given put ++ (rest.0 ++ same)) one (IsPermutation-trans (given ++ id ∷ ids) (given ++ (put ++ same)) (with_ids given put ++ (rest.0 ++ same)) two four))

-- the links of an owner are those to what is told of it
own_links : (id : ℕ) (ls : List Link) → filter (λ l. l.owner == id) ls ≡ links_to (members_told id ls) id
own_links id [] = refl
own_links id (l ∷ ls) =
    elim (l.owner == id) as (λ b. (l.owner == id) ≡ b → cond b (l ∷ filter (λ k. k.owner == id) ls) (filter (λ k. k.owner == id) ls) ≡ links_to (map (λ (k : Link). k.member) (cond b (l ∷ filter (λ k. k.owner == id) ls) (filter (λ k. k.owner == id) ls))) id) [
      | true ↦ λ e.
          let is : l.owner ≡ id = grind (arith, nat_tests) in
          let first : l ≡ record { owner = id; member = l.member } = λ i. record { owner = is i; member = l.member } in
          ap₂ ◌∷◌ first (own_links id ls)
      | false ↦ λ e. own_links id ls
    ] refl

-- without one owner's links the same is told of another
others_told : (id other : ℕ) (ls : List Link) → (other == id) ≡ false → members_told other (filter (λ l. not (l.owner == id)) ls) ≡ members_told other ls
others_told id other [] e = refl
others_told id other (l ∷ ls) e =
    let ih = others_told id other ls e in
    elim (l.owner == id) as (λ b. (l.owner == id) ≡ b → members_told other (cond (not b) (l ∷ filter (λ k. not (k.owner == id)) ls) (filter (λ k. not (k.owner == id)) ls)) ≡ members_told other (l ∷ ls)) [
      | true ↦ λ f. let no : (l.owner == other) ≡ false = grind (arith, nat_tests) in rw no ih
      | false ↦ λ f. elim (l.owner == other) as (λ b. map (λ (k : Link). k.member) (cond b (l ∷ filter (λ k. k.owner == other) (filter (λ k. not (k.owner == id)) ls)) (filter (λ k. k.owner == other) (filter (λ k. not (k.owner == id)) ls)))
          ≡ map (λ (k : Link). k.member) (cond b (l ∷ filter (λ k. k.owner == other) ls) (filter (λ k. k.owner == other) ls))) [
            | true ↦ ap (λ t. l.member ∷ t) ih
            | false ↦ ih
          ]
    ] refl

others_links : (id n : ℕ) (ids : List ℕ) (ls : List Link) → id < n → InOrderFrom (λ n. n) n ids → links_of ids (filter (λ l. not (l.owner == id)) ls) ≡ links_of ids ls
others_links id n [] ls lt h = refl
others_links id n (x ∷ xs) ls lt h =
    ap₂ ◌++◌ (ap (λ t. links_to (rising t) x) (others_told id x ls (grind (arith, nat_tests, h.0)))) (others_links id (x + 1) xs ls (omega (arith, lt, h.0)) h.1)

-- the links that tell members are some of the links
pub links_part : (n : ℕ) (ids : List ℕ) (ls : List Link) → InOrderFrom (λ n. n) n ids → (more : List Link) × IsPermutation ls (links_of ids ls ++ more)
links_part n [] ls h = (ls, IsPermutation-refl ls)
links_part n (id ∷ ids) ls h =
    let others = filter (λ (l : Link). not (l.owner == id)) ls in
    let rest = links_part (id + 1) ids others h.1 in
    let mine = rising_part (members_told id ls) [] tt in
    let all : IsPermutation (members_told id ls) (members_of id ls ++ mine.0) = subst (λ l. IsPermutation l (members_of id ls ++ mine.0)) (append-nil (members_told id ls)) mine.1 in
    let own : IsPermutation (filter (λ (l : Link). l.owner == id) ls) (links_to (members_of id ls) id ++ links_to mine.0 id) =
    subst (λ l. IsPermutation l (links_to (members_of id ls) id ++ links_to mine.0 id)) (sym (own_links id ls))
    (subst (IsPermutation (links_to (members_told id ls) id)) (map-append (λ m. record { owner = id; member = m }) (members_of id ls) mine.0) (IsPermutation-map (λ m. record { owner = id; member = m }) (members_told id ls) (members_of id ls ++ mine.0) all)) in
    let them : IsPermutation others (links_of ids ls ++ rest.0) = subst (λ l. IsPermutation others (l ++ rest.0)) (others_links id (id + 1) ids ls (omega arith) h.1) rest.1 in
    let both : IsPermutation (filter (λ (l : Link). l.owner == id) ls ++ others) ((links_to (members_of id ls) id ++ links_to mine.0 id) ++ (links_of ids ls ++ rest.0)) =
    IsPermutation-append (filter (λ (l : Link). l.owner == id) ls) (links_to (members_of id ls) id ++ links_to mine.0 id) others (links_of ids ls ++ rest.0) own them in (
      links_to mine.0 id ++ rest.0,
      IsPermutation-trans ls (filter (λ (l : Link). l.owner == id) ls ++ others) ((links_to (members_of id ls) id ++ links_of ids ls) ++ (links_to mine.0 id ++ rest.0)) (parted (λ (l : Link). l.owner == id) ls)
          (IsPermutation-trans (filter (λ (l : Link). l.owner == id) ls ++ others) ((links_to (members_of id ls) id ++ links_to mine.0 id) ++ (links_of ids ls ++ rest.0)) ((links_to (members_of id ls) id ++ links_of ids ls) ++ (links_to mine.0 id ++ rest.0)) both
          (exchange (links_to (members_of id ls) id) (links_to mine.0 id) (links_of ids ls) rest.0)),
    )

none_left : {X : Type 0} (xs more ys : List X) → IsPermutation xs (ys ++ more) → length ys ≡ length xs → IsPermutation xs ys
none_left xs [] ys same e = subst (IsPermutation xs) (append-nil ys) same
none_left xs (m ∷ more) ys same e = absurd (let l = length_permutation xs (ys ++ m ∷ more) same in let k = length-append ys (m ∷ more) in omega (arith, l, k, e))

counted_links : (ids : List ℕ) (ls : List Link) → length (links_of ids ls) ≡ length (flat_map (λ m. m) (map (λ id. members_of id ls) ids))
counted_links [] ls = refl
counted_links (id ∷ ids) ls =
    length-append (links_to (members_of id ls) id) (links_of ids ls) ∙ ap₂ ◌+◌ (length-map (members_of id ls) (λ m. record { owner = id; member = m })) (counted_links ids ls)
    ∙ sym (length-append (members_of id ls) (flat_map (λ m. m) (map (λ i. members_of i ls) ids)))

-- they are all of them where there are as many
pub all_told : (ids : List ℕ) (ls : List Link) → AreInOrder (λ n. n) ids → (length (flat_map (λ m. m) (map (λ id. members_of id ls) ids)) ≡ length ls) ↔ IsPermutation ls (links_of ids ls)
all_told ids ls h =
    let part = links_part 0 ids ls h in
    (λ e. none_left ls part.0 (links_of ids ls) part.1 (counted_links ids ls ∙ e), λ same. sym (counted_links ids ls) ∙ length_permutation ls (links_of ids ls) same)

-- ---- the members that an office has are told

strictly : (n : ℕ) (ys : List ℕ) → InOrderFrom (λ n. n) n ys → IsStrictlyIncreasing ys
strictly n [] h k lt = absurd (omega (arith, lt))
strictly n (x ∷ []) h k lt = absurd (omega (arith, lt))
strictly n (x ∷ y ∷ ys) h zero lt = omega (arith, h.1.0)
strictly n (x ∷ y ∷ ys) h (suc k) lt =
    let next : suc k + 1 ≡ suc (k + 1) = omega arith in
    subst (λ m. get_or (y ∷ ys) k 0 < get_or (x ∷ y ∷ ys) m 0) (sym next) (strictly (x + 1) (y ∷ ys) h.1 k (omega (arith, lt)))

rising_same : (xs ys : List ℕ) → IsPermutation xs ys → AreInOrder (λ n. n) ys → rising xs ≡ ys
rising_same xs ys same h = sym (is_rising xs ys (strictly 0 ys h) (λ k. Contains-permutation xs ys k same) (λ k. Contains-permutation ys xs k (IsPermutation-sym xs ys same)))

told_append : (id : ℕ) (ks ls : List Link) → members_told id (ks ++ ls) ≡ members_told id ks ++ members_told id ls
told_append id ks ls = ap (map (λ (k : Link). k.member)) (filter_append (λ (k : Link). k.owner == id) ks ls) ∙ map-append (λ (k : Link). k.member) (filter (λ (k : Link). k.owner == id) ks) (filter (λ (k : Link). k.owner == id) ls)

told_own : (id : ℕ) (ms : List ℕ) → members_told id (links_to ms id) ≡ ms
told_own id [] = refl
told_own id (m ∷ ms) = let test : (id == id) ≡ true = grind (arith, nat_tests) in rw test (ap (λ t. m ∷ t) (told_own id ms))

told_none : (id other : ℕ) (ms : List ℕ) → (other == id) ≡ false → members_told id (links_to ms other) ≡ []
told_none id other [] e = refl
told_none id other (m ∷ ms) e = rw e (told_none id other ms e)

-- one or none
abbrev pub IsFew : List ℕ → Type 0
IsFew ms = (ms ≡ []) ⊎ ((m : ℕ) × (ms ≡ m ∷ []))

same_few : (ms xs : List ℕ) → IsFew ms → IsPermutation xs ms → xs ≡ ms
same_few ms xs (inl none) same = nothing xs (sym (length_permutation xs [] (subst (IsPermutation xs) none same))) ∙ sym none
  where
    nothing : (xs : List ℕ) → length xs ≡ 0 → xs ≡ []
    nothing [] e = refl
    nothing (x ∷ xs) e = absurd (omega (arith, e))
same_few ms xs (inr one) same =
    let this = subst (IsPermutation xs) one.1 same in
    single xs (sym (length_permutation xs (one.0 ∷ []) this)) (All-permutation (λ n. n ≡ one.0) (one.0 ∷ []) xs (IsPermutation-sym xs (one.0 ∷ []) this) (All-cons (λ n. n ≡ one.0) one.0 [] refl (All-nil (λ n. n ≡ one.0)))) ∙ sym one.1
  where
    single : (xs : List ℕ) → length xs ≡ 1 → All (λ n. n ≡ one.0) xs → xs ≡ one.0 ∷ []
    single [] e h = absurd (omega (arith, e))
    single (x ∷ []) e h = ap (λ n. n ∷ []) (All-head (λ n. n ≡ one.0) x [] h)
    single (x ∷ y ∷ xs) e h = absurd (omega (arith, e))

module _ {T : Type 0} (key : T → ℕ) (members : T → List ℕ) where
  told_above : (id n : ℕ) (rows : List T) → id < n → InOrderFrom key n rows → members_told id (all_links key members rows) ≡ []
  told_above id n [] lt h = refl
  told_above id n (r ∷ rows) lt h =
      told_append id (links key members r) (all_links key members rows) ∙ ap₂ ◌++◌ (told_none id (key r) (members r) (grind (arith, nat_tests, h.0))) (told_above id (key r + 1) rows (omega (arith, lt, h.0)) h.1)

  told_below : (row : T) (n : ℕ) (rows : List T) (ls : List Link) → key row < n → InOrderFrom key n rows → map (λ r. members_told (key r) (links key members row ++ ls)) rows ≡ map (λ r. members_told (key r) ls) rows
  told_below row n [] ls lt h = refl
  told_below row n (r ∷ rows) ls lt h =
      ap₂ ◌∷◌ (told_append (key r) (links key members row) ls ∙ ap (λ t. t ++ members_told (key r) ls) (told_none (key r) (key row) (members row) (grind (arith, nat_tests, h.0)))) (told_below row (key r + 1) rows ls (omega (arith, lt, h.0)) h.1)

  told_each : (n : ℕ) (rows : List T) → InOrderFrom key n rows → map (λ r. members_told (key r) (all_links key members rows)) rows ≡ map members rows
  told_each n [] h = refl
  told_each n (r ∷ rows) h =
      let first : members_told (key r) (all_links key members (r ∷ rows)) ≡ members r =
      told_append (key r) (links key members r) (all_links key members rows) ∙ ap₂ ◌++◌ (told_own (key r) (members r)) (told_above (key r) (key r + 1) rows (omega arith) h.1) ∙ append-nil (members r) in
      ap₂ ◌∷◌ first (told_below r (key r + 1) rows (all_links key members rows) (omega arith) h.1 ∙ told_each (key r + 1) rows h.1)

  each_told : (rows : List T) (all ls : List Link) → map (λ r. members_told (key r) all) rows ≡ map members rows → AllByRecursion (λ r. AreInOrder (λ n. n) (members r)) rows → IsPermutation ls all → map (λ r. members_of (key r) ls) rows ≡ map members rows
  each_told [] all ls e rise same = refl
  each_told (r ∷ rows) all ls e rise same =
      let first : members_told (key r) all ≡ members r = cc in
      let more : map (λ s. members_told (key s) all) rows ≡ map members rows = cc in
      let mine : IsPermutation (members_told (key r) ls) (members_told (key r) all) = IsPermutation-map (λ (l : Link). l.member) _ _ (IsPermutation-filter (λ (l : Link). l.owner == key r) ls all same) in
      ap₂ ◌∷◌ (rising_same (members_told (key r) ls) (members r) (subst (IsPermutation (members_told (key r) ls)) first mine) rise.0) (each_told rows all ls more rise.1 same)

  each_few : (rows : List T) (all ls : List Link) → map (λ r. members_told (key r) all) rows ≡ map members rows → ((r : T) → IsFew (members r)) → IsPermutation ls all → map (λ r. members_told (key r) ls) rows ≡ map members rows
  each_few [] all ls e alone same = refl
  each_few (r ∷ rows) all ls e alone same =
      let first : members_told (key r) all ≡ members r = cc in
      let more : map (λ s. members_told (key s) all) rows ≡ map members rows = cc in
      let mine : IsPermutation (members_told (key r) ls) (members_told (key r) all) = IsPermutation-map (λ (l : Link). l.member) _ _ (IsPermutation-filter (λ (l : Link). l.owner == key r) ls all same) in
      ap₂ ◌∷◌ (same_few (members r) (members_told (key r) ls) (alone r) (subst (IsPermutation (members_told (key r) ls)) first mine)) (each_few rows all ls more alone same)

  -- links of rows that have a member each, or none, tell it and nothing else
  pub few_back : (rows : List T) (ls : List Link) → AreInOrder key rows → ((r : T) → IsFew (members r)) → IsPermutation ls (all_links key members rows) → map (λ r. members_told (key r) ls) rows ≡ map members rows
  few_back rows ls h alone same = each_few rows (all_links key members rows) ls (told_each 0 rows h) alone same

  -- links of rows in order tell their members
  pub members_back : (rows : List T) (ls : List Link) → AreInOrder key rows → AllByRecursion (λ r. AreInOrder (λ n. n) (members r)) rows → IsPermutation ls (all_links key members rows) → map (λ r. members_of (key r) ls) rows ≡ map members rows
  members_back rows ls h rise same = each_told rows (all_links key members rows) ls (told_each 0 rows h) rise same
