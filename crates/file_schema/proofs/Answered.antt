-- What a query over one table answers.
use Rattle.std.proofs.Common.{◌≡◌, ℕ, List, [], ◌∷◌, ◌++◌, map, filter, Bool, true, false, cond, None, Option, refl, sym, ap, subst, ◌∙◌}
use Rattle.std.specs.List.{list_all, flat_map}
use Rattle.std.specs.List.Sorted.{IsPermutation}
use Rattle.std.proofs.lemmas.List.Sorted.{IsPermutation-map}
use Rattle.sqlite_value.specs.Order.{Row}
use Rattle.sqlite_value.specs.declared.value.Value.TheVariants.{Null}
use Rattle.sqlite_value.specs.declared.keys.Key.{Key}
use Rattle.sqlite_trees.specs.Tree.{Trees}
use Rattle.sqlite_sql.specs.Term.{Term, holds, eval_all}
use Rattle.sqlite_sql.specs.Query.{IsAnswer, Output, output}
use Rattle.sqlite_sql.specs.Program.{overlay}
use Rattle.sqlite.specs.Effect.{Database, Answers}
use Rattle.file_schema.specs.Shapes.{over, plainly}

-- the row passes the filter
abbrev pub passes : List Term → Row → Row → Bool
passes tests params r = list_all (holds (params ∷ r ∷ [])) tests

same_either : {A : Type 0} (b : Bool) (x : A) → cond b x x ≡ x
same_either true x = refl
same_either false x = refl

no_overlay : (db : Trees) (tree : ℕ) → overlay db [] tree ≡ db tree
no_overlay db tree = rw (same_either {A = Option (List Row)} _ None)

picked : {A B : Type 0} (test : A → Bool) (f : A → B) (rows : List A) → flat_map (λ r. cond (test r) (f r ∷ []) []) rows ≡ map f (filter test rows)
picked test f [] = refl
picked test f (r ∷ rows) = elim (test r) as (λ b. cond b (f r ∷ []) [] ++ flat_map (λ r. cond (test r) (f r ∷ []) []) rows ≡ map f (cond b (r ∷ filter test rows) (filter test rows))) [
  | true ↦ ap (λ l. f r ∷ l) (picked test f rows)
  | false ↦ picked test f rows
]

fused : {A B C D : Type 0} (f : A → B) (g : B → C) (h : C → D) (xs : List A) → map h (map g (map f xs)) ≡ map (λ x. h (g (f x))) xs
fused f g h [] = refl
fused f g h (x ∷ xs) = ap (λ l. h (g (f x)) ∷ l) (fused f g h xs)

pub answered : (db : Database) (tree : ℕ) (tests project : List Term) (order : List (Term × Key)) (params : Row) (rows : List Row) → Answers db (plainly (over tree tests project order)) params rows
    → IsPermutation (map (λ r. eval_all project (params ∷ r ∷ [])) (filter (passes tests params) (db.trees tree))) rows
answered db tree tests project order params rows h =
    let q = over tree tests project order in
    let a : IsAnswer q (overlay db.trees []) params rows = h.answer Null in
    let staged : a.staged ≡ map (λ r. params ∷ r ∷ []) (filter (passes tests params) (db.trees tree)) =
    a.grouped ∙ ap (flat_map (λ r. cond (passes tests params r) ((params ∷ r ∷ []) ∷ []) [])) (no_overlay db.trees tree) ∙ picked (passes tests params) (λ r. params ∷ r ∷ []) (db.trees tree) in
    let kept : a.kept ≡ map (output q) (map (λ r. params ∷ r ∷ []) (filter (passes tests params) (db.trees tree))) = a.distinct ∙ ap (map (output q)) staged in
    let moved : IsPermutation (map (λ (o : Output). o.1) a.kept) (map (λ (o : Output). o.1) a.ordered) = IsPermutation-map (λ (o : Output). o.1) a.kept a.ordered a.same in
    let shown : IsPermutation (map (λ (o : Output). o.1) a.kept) rows = subst (IsPermutation (map (λ (o : Output). o.1) a.kept)) (sym a.shown) moved in
    subst (λ l. IsPermutation l rows) (ap (map (λ (o : Output). o.1)) kept ∙ fused (λ r. params ∷ r ∷ []) (output q) (λ (o : Output). o.1) (filter (passes tests params) (db.trees tree))) shown
