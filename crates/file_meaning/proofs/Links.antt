-- The links of rows: what a row that is put makes of them, and that they tell the members.
use Rattle.std.proofs.Common.{◌≡◌, ℕ, ◌+◌, ◌==◌, Bool, true, false, cond, not, List, [], ◌∷◌, ◌++◌, map, filter, refl, ap, ap₂, subst, ◌∙◌, arith, append-nil}
use Rattle.std.specs.List.{AllByRecursion}
use Rattle.std.specs.List.Sorted.{IsPermutation}
use Rattle.std.proofs.lemmas.List.Sorted.{IsPermutation-trans, IsPermutation-map, IsPermutation-append_right}
use Rattle.sqlite_trees.proofs.ListLemmas.{IsPermutation-filter, IsPermutation-flat_map}
use Rattle.base_tables.specs.Tables.{with_row, without_row, AreInOrder}
use Rattle.file_meaning.specs.Links.{Link, links, all_links, links_but}
use Rattle.base_tables.proofs.Places.{order_weaker}
use Rattle.file_meaning.proofs.Order.{put_in, only_first, first_gone, same_order}

pub filter_append : {A : Type 0} (p : A → Bool) (xs ys : List A) → filter p (xs ++ ys) ≡ filter p xs ++ filter p ys
filter_append p [] ys = refl
filter_append p (x ∷ xs) ys = elim (p x) as (λ b. cond b (x ∷ filter p (xs ++ ys)) (filter p (xs ++ ys)) ≡ cond b (x ∷ filter p xs) (filter p xs) ++ filter p ys) [
  | true ↦ ap (λ l. x ∷ l) (filter_append p xs ys)
  | false ↦ filter_append p xs ys
]

-- the links of one owner pass a test of owners all or not at all
owned : (p : Link → Bool) (b : Bool) (owner : ℕ) → ((id : ℕ) → p (record { owner = owner; member = id }) ≡ b) → (ids : List ℕ)
    → filter p (map (λ id. record { owner = owner; member = id }) ids) ≡ cond b (map (λ id. record { owner = owner; member = id }) ids) []
owned p true owner tells [] = refl
owned p false owner tells [] = refl
owned p true owner tells (id ∷ ids) = rw (tells id, owned p true owner tells ids)
owned p false owner tells (id ∷ ids) = rw (tells id, owned p false owner tells ids)

module _ {T : Type 0} (key : T → ℕ) (members : T → List ℕ) where
  but_links : (owner : ℕ) (rows : List T) → links_but owner (all_links key members rows) ≡ all_links key members (without_row key owner rows)
  but_links owner [] = refl
  but_links owner (r ∷ rows) =
      filter_append (λ l. not (l.owner == owner)) (links key members r) (all_links key members rows)
      ∙ ap (λ l. l ++ links_but owner (all_links key members rows)) (owned (λ l. not (l.owner == owner)) (not (key r == owner)) (key r) (λ id. refl) (members r))
      ∙ ap (λ l. cond (not (key r == owner)) (links key members r) [] ++ l) (but_links owner rows)
      ∙ elim (not (key r == owner)) as (λ b. cond b (links key members r) [] ++ all_links key members (without_row key owner rows) ≡ all_links key members (cond b (r ∷ without_row key owner rows) (without_row key owner rows))) [
        | true ↦ refl
        | false ↦ refl
      ]

  -- a row that goes takes its links along
  pub links_dropped : (owner : ℕ) (rows : List T) (ls : List Link) → IsPermutation ls (all_links key members rows) → IsPermutation (links_but owner ls) (all_links key members (without_row key owner rows))
  links_dropped owner rows ls same = subst (IsPermutation (links_but owner ls)) (but_links owner rows) (IsPermutation-filter (λ (l : Link). not (l.owner == owner)) ls (all_links key members rows) same)

  -- one that is put where none of its id stood has its links beside all others
  pub links_added : (row : T) (rows : List T) (ls : List Link) → AreInOrder key rows → without_row key (key row) rows ≡ rows → IsPermutation ls (all_links key members rows)
      → IsPermutation (links key members row ++ ls) (all_links key members (with_row key row rows))
  links_added row rows ls h none same =
      IsPermutation-trans _ _ _ (IsPermutation-append_right (links key members row) _ _ same)
      (IsPermutation-flat_map (links key members) (row ∷ rows) (with_row key row rows) (subst (λ l. IsPermutation (row ∷ l) (with_row key row rows)) none (put_in key 0 row rows h)))

  -- a row that is put has its links in the place of those that it had
  pub links_put : (row : T) (rows : List T) (ls : List Link) → AreInOrder key rows → IsPermutation ls (all_links key members rows)
      → IsPermutation (links key members row ++ links_but (key row) ls) (all_links key members (with_row key row rows))
  links_put row rows ls h same =
      IsPermutation-trans _ _ _ (IsPermutation-append_right (links key members row) _ _ (links_dropped (key row) rows ls same))
      (IsPermutation-flat_map (links key members) (row ∷ without_row key (key row) rows) (with_row key row rows) (put_in key 0 row rows h))

  only_owner : (owner : ℕ) (rows : List T) → filter (λ l. l.owner == owner) (all_links key members rows) ≡ all_links key members (filter (λ r. key r == owner) rows)
  only_owner owner [] = refl
  only_owner owner (r ∷ rows) =
      filter_append (λ l. l.owner == owner) (links key members r) (all_links key members rows)
      ∙ ap (λ l. l ++ filter (λ k. k.owner == owner) (all_links key members rows)) (owned (λ l. l.owner == owner) (key r == owner) (key r) (λ id. refl) (members r))
      ∙ ap (λ l. cond (key r == owner) (links key members r) [] ++ l) (only_owner owner rows)
      ∙ elim (key r == owner) as (λ b. cond b (links key members r) [] ++ all_links key members (filter (λ k. key k == owner) rows) ≡ all_links key members (cond b (r ∷ filter (λ k. key k == owner) rows) (filter (λ k. key k == owner) rows))) [
        | true ↦ refl
        | false ↦ refl
      ]

  members_back : (owner : ℕ) (ids : List ℕ) → map (λ (l : Link). l.member) (map (λ id. record { owner = owner; member = id }) ids) ≡ ids
  members_back owner [] = refl
  members_back owner (id ∷ ids) = ap (λ l. id ∷ l) (members_back owner ids)

  -- the members of the first row, where its links are told
  first_members : (x y : T) (xs ys : List T) → key x ≡ key y → AreInOrder key (x ∷ xs) → AreInOrder key (y ∷ ys) → AreInOrder (λ n. n) (members x) → AreInOrder (λ n. n) (members y)
      → IsPermutation (all_links key members (x ∷ xs)) (all_links key members (y ∷ ys)) → members x ≡ members y
  first_members x y xs ys is h k rises more same =
      let cut = IsPermutation-filter (λ (l : Link). l.owner == key x) (all_links key members (x ∷ xs)) (all_links key members (y ∷ ys)) same in
      let left : filter (λ (l : Link). l.owner == key x) (all_links key members (x ∷ xs)) ≡ links key members x =
      only_owner (key x) (x ∷ xs) ∙ ap (all_links key members) (only_first key 0 x xs h) ∙ append-nil (links key members x) in
      let right : filter (λ (l : Link). l.owner == key x) (all_links key members (y ∷ ys)) ≡ links key members y =
      ap (λ n. filter (λ (l : Link). l.owner == n) (all_links key members (y ∷ ys))) is ∙ only_owner (key y) (y ∷ ys) ∙ ap (all_links key members) (only_first key 0 y ys k) ∙ append-nil (links key members y) in
      let both : IsPermutation (links key members x) (links key members y) = subst (λ l. IsPermutation l (links key members y)) left (subst (IsPermutation (filter (λ (l : Link). l.owner == key x) (all_links key members (x ∷ xs)))) right cut) in
      let ids = IsPermutation-map (λ (l : Link). l.member) _ _ both in
      same_order (λ n. n) (members x) (members y) rises more
      (subst (λ l. IsPermutation l (members y)) (members_back (key x) (members x)) (subst (IsPermutation (map (λ (l : Link). l.member) (links key members x))) (members_back (key y) (members y)) ids))

  -- links in some order and the rows' ids tell the members of each row
  pub links_tell : (xs ys : List T) → map key xs ≡ map key ys → AreInOrder key xs → AreInOrder key ys → AllByRecursion (λ r. AreInOrder (λ n. n) (members r)) xs → AllByRecursion (λ r. AreInOrder (λ n. n) (members r)) ys
      → IsPermutation (all_links key members xs) (all_links key members ys) → map members xs ≡ map members ys
  links_tell [] [] ids h k rises more same = refl
  links_tell [] (y ∷ ys) ids h k rises more same = absurd cc
  links_tell (x ∷ xs) [] ids h k rises more same = absurd cc
  links_tell (x ∷ xs) (y ∷ ys) ids h k rises more same =
      let is : key x ≡ key y = cc in
      let rest : map key xs ≡ map key ys = cc in
      let first = first_members x y xs ys is h k rises.0 more.0 same in
      let cut = IsPermutation-filter (λ (l : Link). not (l.owner == key x)) (all_links key members (x ∷ xs)) (all_links key members (y ∷ ys)) same in
      let left : links_but (key x) (all_links key members (x ∷ xs)) ≡ all_links key members xs = but_links (key x) (x ∷ xs) ∙ ap (all_links key members) (first_gone key 0 x xs h) in
      let right : links_but (key x) (all_links key members (y ∷ ys)) ≡ all_links key members ys =
      ap (λ n. links_but n (all_links key members (y ∷ ys))) is ∙ but_links (key y) (y ∷ ys) ∙ ap (all_links key members) (first_gone key 0 y ys k) in
      let less : IsPermutation (all_links key members xs) (all_links key members ys) = subst (λ l. IsPermutation l (all_links key members ys)) left (subst (IsPermutation (links_but (key x) (all_links key members (x ∷ xs)))) right cut) in
      ap₂ ◌∷◌ first (links_tell xs ys rest (order_weaker key (key x + 1) 0 xs (omega arith) h.1) (order_weaker key (key y + 1) 0 ys (omega arith) k.1) rises.1 more.1 less)
