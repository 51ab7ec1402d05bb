-- A DELETE by any test: from the rows of the tree to the values of the table.
use Rattle.std.proofs.Common.{◌≡◌, ℕ, ℤ, pos, ◌==◌, Bool, true, false, cond, not, ◌||◌, List, [], ◌∷◌, map, filter, Ok, refl, sym, ap, subst, ◌∙◌, arith}
use Rattle.std.specs.List.{list_any, AllByRecursion}
use Rattle.std.specs.List.Sorted.{IsPermutation}
use Rattle.std.specs.Ordering.{is_eq}
use Rattle.std.proofs.lemmas.Bool.Decides.{nat_tests}
use Rattle.std.proofs.lemmas.List.Sorted.{IsPermutation-map, list_any-IsPermutation}
use Rattle.sqlite_value.specs.declared.value.Value.TheVariants.{Int}
use Rattle.sqlite_value.specs.Order.{Row, value_cmp}
use Rattle.sqlite_value.proofs.OrderLemmas.{value_cmp-Int}
use Rattle.sqlite_trees.specs.Tree.{rowid, has_rowid}
use Rattle.sqlite_trees.proofs.ListLemmas.{along_permutation, pull_back, IsPermutation-filter}
use Rattle.sqlite_schema.specs.declared.schema.Table.{Table}
use Rattle.sqlite_schema.specs.declared.command.Command.TheVariants.{Delete}
use Rattle.sqlite_sql.specs.Term.{Term, col}
use Rattle.sqlite_rules.specs.Calls.{ids_of}
use Rattle.sqlite_rules.specs.Edit.{id_in}
use Rattle.sqlite.specs.Effect.{Database}
use Rattle.sqlite.specs.Listing.{understood}
use Rattle.sqlite.specs.State.{State, Executes}
use Rattle.sqlite.proofs.Callers.{IsPlain, command_of}
use Rattle.file_schema.specs.Tables.{schema}
use Rattle.file_schema.specs.Parts.{HoldParts, row_shown, with_rows}
use Rattle.file_schema.specs.Shapes.{over, plainly}
use Rattle.file_schema.proofs.Answered.{passes, answered}
use Rattle.file_schema.specs.Plain.{IsPlainTable}
use Rattle.file_schema.proofs.Generic.{deletes}
use Rattle.file_schema.proofs.Owner.{same_number}
use Rattle.file_schema.proofs.Keyed.{without_each}
use Rattle.file_schema.proofs.Parts.{others_from, after_write}
use Rattle.file_rows.specs.Tables.{Tables, parts, Holds}
use Rattle.file_rows.specs.Changes.{IsInside, ChangesFit}
use Rattle.file_writes.specs.Removed.{AreApart}

neither : (a b : Bool) → (a || b) ≡ false → (a ≡ false) × (b ≡ false)
neither true b e = absurd cc
neither false b e = (refl, e)

nor : (a b : Bool) → a ≡ false → b ≡ false → (a || b) ≡ false
nor a b e f = rw (e, f)

turned : (a b c : Bool) → (a || (b || c)) ≡ (b || (a || c))
turned true true c = refl
turned true false c = refl
turned false true c = refl
turned false false c = refl

other_way : (a b : ℕ) → (a == b) ≡ false → (b == a) ≡ false
other_way a b e = grind (arith, nat_tests)

self_same : (n : ℕ) (b : Bool) → ((n == n) || b) ≡ true
self_same n b = let e : (n == n) ≡ true = grind (arith, nat_tests) in rw e

pub twice : (b : Bool) → not (not b) ≡ b
twice true = refl
twice false = refl

has_number : (r : Row) (a b : ℕ) → rowid r ≡ Int (pos a) → has_rowid (pos b) r ≡ (a == b)
has_number r a b e = ap (λ v. is_eq (value_cmp v (Int (pos b)))) e ∙ ap is_eq (value_cmp-Int (pos a) (pos b)) ∙ same_number a b

none_of_some : {A : Type 0} (p q : A → Bool) (xs : List A) → list_any p xs ≡ false → list_any p (filter q xs) ≡ false
none_of_some p q [] e = refl
none_of_some {A} p q (x ∷ xs) e =
    let halves = neither (p x) (list_any p xs) e in
    elim (q x) as (λ b. list_any p (cond b (x ∷ filter q xs) (filter q xs)) ≡ false) [
      | true ↦ nor (p x) (list_any p (filter q xs)) halves.0 (none_of_some p q xs halves.1)
      | false ↦ none_of_some p q xs halves.1
    ]

module _ {A : Type 0} (number : A → ℕ) where
  abbrev named : A → A → Bool
  named x y = number x == number y

  abbrev Alike : List A → List A → Type 0
  Alike xs ys = ((p : A → Bool) → list_any p xs ≡ list_any p ys) × (AreApart number xs → AreApart number ys)

  alike_turned : (x y : A) (xs : List A) → Alike (x ∷ y ∷ xs) (y ∷ x ∷ xs)
  alike_turned x y xs = (
    λ p. turned (p x) (p y) (list_any p xs),
    λ a. let first = neither (named x y) (list_any (named x) xs) a.0 in
        (nor (named y x) (list_any (named y) xs) (other_way (number x) (number y) first.0) a.1.0, (first.1, a.1.1)),
  )

  apart_along : (xs ys : List A) → IsPermutation xs ys → AreApart number xs → AreApart number ys
  apart_along xs ys h =
      (along_permutation Alike (λ xs. (λ p. refl, λ a. a)) (λ x xs ys h. (λ p. ap (λ b. p x || b) (h.0 p), λ a. (sym (h.0 (named x)) ∙ a.0, h.1 a.1))) alike_turned
      (λ xs ys zs g h. (λ p. g.0 p ∙ h.0 p, λ a. h.1 (g.1 a))) xs ys h).1

  module _ (gone : A → Bool) where
    abbrev Tells : List A → A → Type 0
    Tells picked w = list_any (named w) picked ≡ gone w

    lifted : (x : A) (picked ys : List A) → list_any (named x) ys ≡ false → AllByRecursion (Tells picked) ys → AllByRecursion (Tells (cond (gone x) (x ∷ picked) picked)) ys
    lifted x picked [] none all = tt
    lifted x picked (w ∷ ys) none all =
        let halves = neither (named x w) (list_any (named x) ys) none in
        let other : named w x ≡ false = other_way (number x) (number w) halves.0 in
        let head : list_any (named w) (cond (gone x) (x ∷ picked) picked) ≡ gone w =
        elim (gone x) as (λ b. list_any (named w) (cond b (x ∷ picked) picked) ≡ gone w) [
          | true ↦ ap (λ b. b || list_any (named w) picked) other ∙ all.0
          | false ↦ all.0
        ] in
        (head, lifted x picked ys halves.1 all.1)

    -- among rows with numbers apart, a row has the number of one that goes just if it goes
    tells : (rows : List A) → AreApart number rows → AllByRecursion (Tells (filter gone rows)) rows
    tells [] a = tt
    tells (x ∷ xs) a =
        let head : list_any (named x) (cond (gone x) (x ∷ filter gone xs) (filter gone xs)) ≡ gone x =
        elim (gone x) as (λ b. list_any (named x) (cond b (x ∷ filter gone xs) (filter gone xs)) ≡ b) [
          | true ↦ self_same (number x) (list_any (named x) (filter gone xs))
          | false ↦ none_of_some (named x) gone xs a.0
        ] in
        (head, lifted x (filter gone xs) xs a.0 (tells xs a.1))

  module _ (row : A → Row) (numbered : (a : A) → rowid (row a) ≡ Int (pos (number a))) (show : Row → Row) (same : (r : Row) → rowid (show r) ≡ rowid r)
      (test : Row → Bool) (gone : A → Bool) (passes_as : (r : Row) (w : A) → show r ≡ row w → test r ≡ gone w) where
    abbrev ids_in : List Row → List ℤ
    ids_in tree = ids_of (map (λ (r : Row). rowid r ∷ []) (filter test tree))

    number_of : (r : Row) (w : A) → show r ≡ row w → rowid r ≡ Int (pos (number w))
    number_of r w e = sym (same r) ∙ ap rowid e ∙ numbered w

    -- a row has one of the numbers that were found just if its number is that of a row that goes
    same_ids : (r : Row) (w : A) → show r ≡ row w → (tree : List Row) (rows : List A) → map show tree ≡ map row rows
        → list_any (λ id. has_rowid id r) (ids_in tree) ≡ list_any (named w) (filter gone rows)
    same_ids r w e [] [] all = refl
    same_ids r w e [] (v ∷ rows) all = absurd cc
    same_ids r w e (s ∷ tree) [] all = absurd cc
    same_ids r w e (s ∷ tree) (v ∷ rows) all =
        let here : show s ≡ row v = cc in
        let more : map show tree ≡ map row rows = cc in
        let rest = same_ids r w e tree rows more in
        let first : has_rowid (id_in (rowid s)) r ≡ named w v = ap (λ x. has_rowid (id_in x) r) (number_of s v here) ∙ has_number r (number w) (number v) (number_of r w e) in
        let found : Bool → List ℤ = λ b. ids_of (map (λ (r : Row). rowid r ∷ []) (cond b (s ∷ filter test tree) (filter test tree))) in
        let step : list_any (λ id. has_rowid id r) (found (gone v)) ≡ list_any (named w) (cond (gone v) (v ∷ filter gone rows) (filter gone rows)) =
        elim (gone v) as (λ b. list_any (λ id. has_rowid id r) (found b) ≡ list_any (named w) (cond b (v ∷ filter gone rows) (filter gone rows))) [
          | true ↦ ap (λ b. b || list_any (λ id. has_rowid id r) (ids_in tree)) first ∙ ap (λ b. named w v || b) rest
          | false ↦ rest
        ] in
        ap (λ b. list_any (λ id. has_rowid id r) (found b)) (passes_as s v here) ∙ step

    stays : (ids : List ℤ) (picked : List A) → ((r : Row) (w : A) → show r ≡ row w → list_any (λ id. has_rowid id r) ids ≡ list_any (named w) picked)
        → (tree : List Row) (rows : List A) → map show tree ≡ map row rows → AllByRecursion (λ w. list_any (named w) picked ≡ gone w) rows
        → map show (filter (λ r. not (list_any (λ id. has_rowid id r) ids)) tree) ≡ map row (filter (λ w. not (gone w)) rows)
    stays ids picked like [] [] all told = refl
    stays ids picked like [] (w ∷ rows) all told = absurd cc
    stays ids picked like (r ∷ tree) [] all told = absurd cc
    stays ids picked like (r ∷ tree) (w ∷ rows) all told =
        let here : show r ≡ row w = cc in
        let more : map show tree ≡ map row rows = cc in
        let rest = stays ids picked like tree rows more told.1 in
        let is : not (list_any (λ id. has_rowid id r) ids) ≡ not (gone w) = ap not (like r w here ∙ told.0) in
        let left = filter (λ r. not (list_any (λ id. has_rowid id r) ids)) tree in
        let stay = filter (λ (w : A). not (gone w)) rows in
        let step : map show (cond (not (gone w)) (r ∷ left) left) ≡ map row (cond (not (gone w)) (w ∷ stay) stay) =
        elim (not (gone w)) as (λ b. map show (cond b (r ∷ left) left) ≡ map row (cond b (w ∷ stay) stay)) [
          | true ↦ ap (λ (x : Row). x ∷ map show left) here ∙ ap (λ (l : List Row). row w ∷ l) rest
          | false ↦ rest
        ] in
        ap (λ b. map show (cond b (r ∷ left) left)) is ∙ step

    -- what a DELETE by these numbers leaves
    forgotten : (tree : List Row) (rows : List A) → map show tree ≡ map row rows → AreApart number rows → (ids : List Row)
        → IsPermutation (map (λ (r : Row). rowid r ∷ []) (filter test tree)) ids
        → map show (filter (λ r. not (list_any (λ id. has_rowid id r) (ids_of ids))) tree) ≡ map row (filter (λ w. not (gone w)) rows)
    forgotten tree rows all apart ids found =
        let moved : IsPermutation (ids_in tree) (ids_of ids) = IsPermutation-map (λ (r : Row). id_in (rowid r)) _ ids found in
        stays (ids_of ids) (filter gone rows) (λ r w e. sym (list_any-IsPermutation (λ id. has_rowid id r) (ids_in tree) (ids_of ids) moved) ∙ same_ids r w e tree rows all) tree rows all (tells gone rows apart)

    -- of a table whose values are known up to order
    pub left_rows : (tree next : List Row) (xs : List A) → IsPermutation (map row xs) (map show tree) → AreApart number xs → (ids : List Row)
        → IsPermutation (map (λ (r : Row). rowid r ∷ []) (filter test tree)) ids → next ≡ filter (λ r. not (list_any (λ id. has_rowid id r) (ids_of ids))) tree
        → IsPermutation (map row (filter (λ w. not (gone w)) xs)) (map show next)
    left_rows tree next xs holds apart ids found left =
        let back = pull_back row (map row xs) (map show tree) holds xs refl in
        let stay = filter (λ (w : A). not (gone w)) in
        let rest = forgotten tree back.0 back.2 (apart_along xs back.0 back.1 apart) ids found in
        let moved : IsPermutation (map row (stay xs)) (map row (stay back.0)) = IsPermutation-map row _ _ (IsPermutation-filter (λ w. not (gone w)) xs back.0 back.1) in
        subst (IsPermutation (map row (stay xs))) (sym rest ∙ ap (map show) (sym left)) moved

module _ (at : ℕ) (table : Table) (is : IsPlainTable schema at table) (sql : List ℕ) (plain : IsPlain (understood schema sql)) (old new : State) (inside : IsInside old) (limit : new.step_limit ≡ old.step_limit)
    {A : Type 0} (row : A → Row) (number : A → ℕ) (numbered : (a : A) → rowid (row a) ≡ Int (pos (number a))) (field : Tables → List A)
    (held_at : (t : Tables) → Holds old.now.trees t → IsPermutation (map row (field t)) (map (row_shown schema table.tree) (old.now.trees table.tree)))
    (trees : (t : Tables) → map (λ t. t.tree) schema.tables ≡ map (λ p. p.tree) (parts t)) where
  -- DELETE .. WHERE tests: the rows that don't pass stay
  pub removes_where : (tests : List Term) (params : Row) (gone : A → Bool) → ((r : Row) (w : A) → row_shown schema table.tree r ≡ row w → passes tests params r ≡ gone w)
      → command_of (understood schema sql) ≡ Delete at (plainly (over table.tree tests (col 1 0 ∷ []) [])) → (count : ℕ) → Executes sql params old new (Ok count)
      → (change : Tables → Tables) → ((t : Tables) → parts (change t) ≡ with_rows table.tree (λ _. map row (filter (λ w. not (gone w)) (field t))) (parts t)) → ChangesFit (λ t. AreApart number (field t)) change old new
  removes_where tests params gone passes_as command count h change same =
      let did = deletes schema at table is sql plain params old new inside.known inside.inside limit (plainly (over table.tree tests (col 1 0 ∷ []) [])) command count h in
      let db : Database = record { schema = schema; trees = old.now.trees } in
      let tree = old.now.trees table.tree in
      let next = new.now.trees in
      let show = row_shown schema table.tree in
      let found : IsPermutation (map (λ (r : Row). rowid r ∷ []) (filter (passes tests params) tree)) did.0 = answered db table.tree tests (col 1 0 ∷ []) [] params did.0 did.1 in
      let left : next table.tree ≡ filter (λ r. not (list_any (λ id. has_rowid id r) (ids_of did.0))) tree = did.2.applied.rows ∙ without_each tree (ids_of did.0) in
      record {
        known = did.2.known;
        inside = did.2.shows.mode;
        committed = did.2.shows.committed_is;
        listed = λ _. did.2.listed;
        holds = λ t apart held.
            let part = left_rows number row numbered show (λ r. refl) (passes tests params) gone passes_as tree (next table.tree) (field t) (held_at t held) apart did.0 found left in
            subst (HoldParts schema next) (sym (same t))
            (after_write schema table.tree (λ _. map row (filter (λ w. not (gone w)) (field t))) old.now.trees next (λ rows _. part) (parts t) (others_from table.tree old.now.trees next schema.tables (parts t) (trees t) did.2.applied.tables) held);
      }
