-- The parts after a write of one table.
use Rattle.std.proofs.Common.{◌≡◌, ◌≢◌, ℕ, ℤ, pos, List, [], ◌∷◌, map, filter, not, true, false, cond, ◌==◌, refl, sym, ap, subst, ◌∙◌, All, arith}
use Rattle.std.specs.List.{AllByRecursion}
use Rattle.std.specs.List.Sorted.{IsPermutation}
use Rattle.std.specs.Ordering.{is_eq, int_cmp}
use Rattle.std.proofs.lemmas.Bool.{eqb-true, eq-eqb}
use Rattle.std.proofs.lemmas.Int.{ints}
use Rattle.std.proofs.lemmas.List.Elements.{All-nil, All-cons, All-head, All-tail}
use Rattle.std.proofs.lemmas.List.Sorted.{IsPermutation-trans, IsPermutation-map, IsPermutation-cons, All-permutation}
use Rattle.sqlite_value.specs.declared.value.Value.TheVariants.{Int}
use Rattle.sqlite_value.specs.Order.{Row, column}
use Rattle.sqlite_value.proofs.OrderLemmas.{value_cmp-Int}
use Rattle.sqlite_trees.specs.Tree.{Trees, rowid, has_rowid}
use Rattle.sqlite_trees.specs.View.{is_int}
use Rattle.sqlite_trees.proofs.ListLemmas.{IsPermutation-filter}
use Rattle.sqlite_schema.specs.declared.schema.Table.{Table}
use Rattle.sqlite_schema.specs.declared.schema.Schema.{Schema}
use Rattle.file_schema.specs.Parts.{Part, row_shown, HoldsPart, HoldParts, with_rows, without}
use Rattle.file_schema.proofs.Writes.{AreNumbered}

abbrev pub Others : ℕ → Trees → Trees → List Part → Type 0
Others tree db next = AllByRecursion (λ p. p.tree ≢ tree → next p.tree ≡ db p.tree)

pub others_from : (tree : ℕ) (db next : Trees) (tables : List Table) (ps : List Part) → map (λ t. t.tree) tables ≡ map (λ p. p.tree) ps
    → AllByRecursion (λ (t : Table). t.tree ≢ tree → next t.tree ≡ db t.tree) tables → Others tree db next ps
others_from tree db next [] [] same all = tt
others_from tree db next [] (p ∷ ps) same all = absurd cc
others_from tree db next (t ∷ tables) [] same all = absurd cc
others_from tree db next (t ∷ tables) (p ∷ ps) same all =
    let here : t.tree ≡ p.tree = cc in
    let more : map (λ t. t.tree) tables ≡ map (λ p. p.tree) ps = cc in
    (subst (λ n. n ≢ tree → next n ≡ db n) here all.0, others_from tree db next tables ps more all.1)

apart : (a b : ℕ) → (a == b) ≡ false → a ≢ b
apart a b e same = let other = eq-eqb a b same in absurd cc

module _ (schema : Schema) (tree : ℕ) (change : List Row → List Row) (db next : Trees)
    (new : (rows : List Row) → IsPermutation rows (map (row_shown schema tree) (db tree)) → IsPermutation (change rows) (map (row_shown schema tree) (next tree))) where
  changed : (p : Part) → p.tree ≡ tree → HoldsPart schema db p → HoldsPart schema next (record p { rows = change p.rows })
  changed p here holds =
      subst (λ n. IsPermutation (change p.rows) (map (row_shown schema n) (next n))) (sym here) (new p.rows (subst (λ n. IsPermutation p.rows (map (row_shown schema n) (db n))) here holds))

  pub after_write : (ps : List Part) → Others tree db next ps → HoldParts schema db ps → HoldParts schema next (with_rows tree change ps)
  after_write [] others all = tt
  after_write (p ∷ ps) others all =
      let rest = after_write ps others.1 all.1 in
      let first : HoldsPart schema next (cond (p.tree == tree) (record p { rows = change p.rows }) p) =
      elim (p.tree == tree) as (λ b. (p.tree == tree) ≡ b → HoldsPart schema next (cond b (record p { rows = change p.rows }) p)) [
        | true ↦ λ e. changed p (eqb-true _ _ e) all.0
        | false ↦ λ e. subst (λ l. IsPermutation p.rows (map (row_shown schema p.tree) l)) (sym (others.0 (apart _ _ e))) all.0
      ] refl in
      (first, rest)

-- ---- one part

pub row_added : (f : Row → Row) (stored row : Row) (tree next rows : List Row) → f stored ≡ row → IsPermutation (stored ∷ tree) next → IsPermutation rows (map f tree) → IsPermutation (row ∷ rows) (map f next)
row_added f stored row tree next rows shows moved holds =
    IsPermutation-trans (row ∷ rows) (map f (stored ∷ tree)) (map f next) (subst (λ r. IsPermutation (r ∷ rows) (f stored ∷ map f tree)) shows (IsPermutation-cons (f stored) rows (map f tree) holds)) (IsPermutation-map f (stored ∷ tree) next moved)

filter_map : (f : Row → Row) (id : ℤ) → ((r : Row) → rowid (f r) ≡ rowid r) → (rows : List Row) → without id (map f rows) ≡ map f (without id rows)
filter_map f id same [] = refl
filter_map f id same (r ∷ rows) =
    let here : has_rowid id (f r) ≡ has_rowid id r = ap (λ v. is_eq (Rattle.sqlite_value.specs.Order.value_cmp v (Int id))) (same r) in
    let rest = filter_map f id same rows in
    let done : cond (not (has_rowid id r)) (f r ∷ without id (map f rows)) (without id (map f rows)) ≡ map f (cond (not (has_rowid id r)) (r ∷ without id rows) (without id rows)) =
    elim (has_rowid id r) as (λ b. cond (not b) (f r ∷ without id (map f rows)) (without id (map f rows)) ≡ map f (cond (not b) (r ∷ without id rows) (without id rows))) [
      | true ↦ rest
      | false ↦ ap (λ l. f r ∷ l) rest
    ] in ap (λ b. cond (not b) (f r ∷ without id (map f rows)) (without id (map f rows))) here ∙ done

pub row_removed : (f : Row → Row) (id : ℤ) → ((r : Row) → rowid (f r) ≡ rowid r) → (tree next rows : List Row) → next ≡ without id tree → IsPermutation rows (map f tree) → IsPermutation (without id rows) (map f next)
row_removed f id same tree next rows is holds =
    subst (IsPermutation (without id rows)) (filter_map f id same tree ∙ ap (map f) (sym is)) (IsPermutation-filter (λ r. not (has_rowid id r)) rows (map f tree) holds)

pub row_put : (f : Row → Row) (id : ℤ) → ((r : Row) → rowid (f r) ≡ rowid r) → (stored row : Row) (tree next rows : List Row) → f stored ≡ row → IsPermutation (stored ∷ without id tree) next → IsPermutation rows (map f tree)
    → IsPermutation (row ∷ without id rows) (map f next)
row_put f id same stored row tree next rows shows moved holds = row_added f stored row (without id tree) next (without id rows) shows moved (row_removed f id same tree (without id tree) rows refl holds)

pub numbered_tree : (f : Row → Row) → ((r : Row) → rowid (f r) ≡ rowid r) → (tree rows : List Row) → All (λ r. is_int (rowid r) ≡ true) rows → IsPermutation rows (map f tree) → AreNumbered tree
numbered_tree f same tree rows all holds = unmapped tree (All-permutation (λ (r : Row). is_int (rowid r) ≡ true) rows (map f tree) holds all)
  where
    unmapped : (tree : List Row) → All (λ (r : Row). is_int (rowid r) ≡ true) (map f tree) → AreNumbered tree
    unmapped [] h = All-nil (λ r. is_int (rowid r) ≡ true)
    unmapped (r ∷ rest) h =
        All-cons (λ r. is_int (rowid r) ≡ true) r rest (sym (ap is_int (same r)) ∙ All-head (λ (r : Row). is_int (rowid r) ≡ true) (f r) (map f rest) h) (unmapped rest (All-tail (λ (r : Row). is_int (rowid r) ≡ true) (f r) (map f rest) h))

-- ---- the rows as values of a type

module _ {A : Type 0} (row : A → Row) (id_of : A → ℕ) (keyed : (a : A) → rowid (row a) ≡ Int (pos (id_of a))) where
  pub all_numbered : (xs : List A) → All (λ (r : Row). is_int (rowid r) ≡ true) (map row xs)
  all_numbered [] = All-nil (λ (r : Row). is_int (rowid r) ≡ true)
  all_numbered (a ∷ xs) = All-cons (λ (r : Row). is_int (rowid r) ≡ true) (row a) (map row xs) (ap is_int (keyed a)) (all_numbered xs)

  same_id : (a : A) (id : ℕ) → has_rowid (pos id) (row a) ≡ (id_of a == id)
  same_id a id = ap (λ v. is_eq (Rattle.sqlite_value.specs.Order.value_cmp v (Int (pos id)))) (keyed a) ∙ ap is_eq (value_cmp-Int (pos (id_of a)) (pos id)) ∙ same_pos (id_of a) id
    where
      same_pos : (a b : ℕ) → is_eq (int_cmp (pos a) (pos b)) ≡ (a == b)
      same_pos a b = grind (arith, ints)

  pub rows_without : (id : ℕ) (xs : List A) → map row (filter (λ a. not (id_of a == id)) xs) ≡ without (pos id) (map row xs)
  rows_without id [] = refl
  rows_without id (a ∷ xs) =
      let rest = rows_without id xs in
      let step : map row (cond (not (id_of a == id)) (a ∷ filter (λ a. not (id_of a == id)) xs) (filter (λ a. not (id_of a == id)) xs)) ≡ cond (not (id_of a == id)) (row a ∷ without (pos id) (map row xs)) (without (pos id) (map row xs)) =
      elim (id_of a == id) as (λ b. map row (cond (not b) (a ∷ filter (λ a. not (id_of a == id)) xs) (filter (λ a. not (id_of a == id)) xs)) ≡ cond (not b) (row a ∷ without (pos id) (map row xs)) (without (pos id) (map row xs))) [
        | true ↦ rest
        | false ↦ ap (λ l. row a ∷ l) rest
      ] in step ∙ ap (λ b. cond (not b) (row a ∷ without (pos id) (map row xs)) (without (pos id) (map row xs))) (sym (same_id a id))
