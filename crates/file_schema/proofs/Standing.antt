-- What tables show stands where others are made beside them.
use Rattle.std.proofs.Common.{◌≡◌, ◌++◌, ◌==◌, ℕ, List, [], ◌∷◌, map, find, length, drop, Bool, true, false, cond, Some, refl, sym, ap, subst, ◌∙◌}
use Rattle.std.specs.List.{AllByRecursion}
use Rattle.std.specs.List.Sorted.{IsPermutation}
use Rattle.std.proofs.lemmas.Bool.{eq-eqb}
use Rattle.std.proofs.lemmas.List.Sorted.{IsPermutation-refl}
use Rattle.sqlite_value.specs.Order.{Row, column}
use Rattle.sqlite_trees.specs.Tree.{Trees}
use Rattle.sqlite_trees.proofs.ListLemmas.{all_weaker, all-append}
use Rattle.sqlite_schema.specs.declared.schema.Schema.{Schema}
use Rattle.sqlite_schema.specs.declared.schema.Table.{Table}
use Rattle.sqlite_catalog.specs.Change.{KeepsRows}
use Rattle.sqlite.specs.State.{State}
use Rattle.file_schema.specs.Parts.{Part, row_shown, columns_of, HoldsPart, HoldParts}
use Rattle.file_schema.specs.Grown.{Grows}
use Rattle.file_schema.proofs.Grown.{AreEmpty}

-- ---- a table that stands in front is the first of its tree there, and so among all

abbrev is_of : ℕ → Table → Bool
is_of tree t = t.tree == tree

found_more : (tree : ℕ) (xs ys : List Table) (u : Table) → find (is_of tree) xs ≡ Some u → find (is_of tree) (xs ++ ys) ≡ Some u
found_more tree [] ys u is = absurd cc
found_more tree (x ∷ xs) ys u is = elim (is_of tree x) as (λ b. cond b (Some x) (find (is_of tree) xs) ≡ Some u → cond b (Some x) (find (is_of tree) (xs ++ ys)) ≡ Some u) [
  | true ↦ λ e. e
  | false ↦ λ e. found_more tree xs ys u e
] is

abbrev IsAmong : List Table → Table → Type 0
IsAmong xs t = (u : Table) × (find (is_of t.tree) xs ≡ Some u)

among_more : (x : Table) (xs : List Table) (t : Table) → IsAmong xs t → IsAmong (x ∷ xs) t
among_more x xs t (u, is) = elim (is_of t.tree x) as (λ b. (w : Table) × (cond b (Some x) (find (is_of t.tree) xs) ≡ Some w)) [
  | true ↦ (x, refl)
  | false ↦ (u, is)
]

all_among : (xs : List Table) → AllByRecursion (IsAmong xs) xs
all_among [] = tt
all_among (x ∷ xs) = ((x, ap (λ b. cond b (Some x) (find (is_of x.tree) xs)) (eq-eqb x.tree x.tree refl)), all_weaker (IsAmong xs) (IsAmong (x ∷ xs)) (among_more x xs) xs (all_among xs))

-- it shows what it showed
abbrev pub ShowsAlike : Schema → Schema → Table → Type 0
ShowsAlike first next t = (r : Row) → row_shown next t.tree r ≡ row_shown first t.tree r

pub front_alike : (first next : Schema) (more : List Table) → next.tables ≡ first.tables ++ more → AllByRecursion (ShowsAlike first next) first.tables
front_alike first next more is = all_weaker (IsAmong first.tables) (ShowsAlike first next) alike first.tables (all_among first.tables)
  where
    alike : (t : Table) → IsAmong first.tables t → ShowsAlike first next t
    alike t (u, found) r =
        let all : find (is_of t.tree) next.tables ≡ Some u = ap (find (is_of t.tree)) is ∙ found_more t.tree first.tables more u found in
        ap (λ o. column r 0 ∷ columns_of o r) (all ∙ sym found)

-- ---- parts

mapped : (f g : Row → Row) → ((r : Row) → f r ≡ g r) → (rows : List Row) → map f rows ≡ map g rows
mapped f g same [] = refl
mapped f g same (r ∷ rows) = rw (same r, mapped f g same rows)

module _ (first next : Schema) (db after : Trees) where
  parts_stand : (tables : List Table) (ps : List Part) → map (λ t. t.tree) tables ≡ map (λ p. p.tree) ps → KeepsRows tables db after → AllByRecursion (ShowsAlike first next) tables → HoldParts first db ps → HoldParts next after ps
  parts_stand [] [] same kept alike all = tt
  parts_stand [] (p ∷ ps) same kept alike all = absurd cc
  parts_stand (t ∷ tables) [] same kept alike all = absurd cc
  parts_stand (t ∷ tables) (p ∷ ps) same kept alike all =
      let here : t.tree ≡ p.tree = cc in
      let more : map (λ t. t.tree) tables ≡ map (λ p. p.tree) ps = cc in
      let rows : after p.tree ≡ db p.tree = subst (λ n. after n ≡ db n) here kept.0 in
      let shows : (r : Row) → row_shown first p.tree r ≡ row_shown next p.tree r = λ r. sym (subst (λ n. row_shown next n r ≡ row_shown first n r) here (alike.0 r)) in
      let moved : map (row_shown first p.tree) (db p.tree) ≡ map (row_shown next p.tree) (after p.tree) = mapped (row_shown first p.tree) (row_shown next p.tree) shows (db p.tree) ∙ ap (map (row_shown next p.tree)) (sym rows) in
      (subst (IsPermutation p.rows) moved all.0, parts_stand tables ps more kept.1 alike.1 all.1)

  parts_new : (tables : List Table) (ps : List Part) → map (λ t. t.tree) tables ≡ map (λ p. p.tree) ps → AreEmpty after tables → AllByRecursion (λ (p : Part). p.rows ≡ []) ps → HoldParts next after ps
  parts_new [] [] same none all = tt
  parts_new [] (p ∷ ps) same none all = absurd cc
  parts_new (t ∷ tables) [] same none all = absurd cc
  parts_new (t ∷ tables) (p ∷ ps) same none all =
      let here : t.tree ≡ p.tree = cc in
      let more : map (λ t. t.tree) tables ≡ map (λ p. p.tree) ps = cc in
      let rows : after p.tree ≡ [] = subst (λ n. after n ≡ []) here none.0 in
      let both : IsPermutation p.rows (map (row_shown next p.tree) (after p.tree)) = rw (all.0, rows) (IsPermutation-refl []) in
      (both, parts_new tables ps more none.1 all.1)

-- what the first tables hold they hold on, and the new ones hold nothing
pub parts_grown : (first next : Schema) (more : List Table) (old new : State) (ps qs : List Part) → next.tables ≡ first.tables ++ more → map (λ t. t.tree) first.tables ≡ map (λ p. p.tree) ps
    → map (λ t. t.tree) (drop (length first.tables) next.tables) ≡ map (λ p. p.tree) qs → AllByRecursion (λ (p : Part). p.rows ≡ []) qs → Grows first next old new → HoldParts first old.now.trees ps → HoldParts next new.now.trees (ps ++ qs)
parts_grown first next more old new ps qs front stood came none grown held =
    all-append (HoldsPart next new.now.trees) ps qs (parts_stand first next old.now.trees new.now.trees first.tables ps stood grown.kept (front_alike first next more front) held)
    (parts_new first next old.now.trees new.now.trees (drop (length first.tables) next.tables) qs came grown.empty none)
