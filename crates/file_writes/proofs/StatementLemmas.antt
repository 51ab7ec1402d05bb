-- What the statements of a table do, of any table.
use Rattle.std.proofs.Common.{◌≡◌, ℕ, pos, cond, true, false, List, [], ◌∷◌, Ok, refl, ap, subst, ◌∙◌, ◌==◌}
use Rattle.sqlite_value.specs.declared.value.Value.TheVariants.{Int}
use Rattle.sqlite_value.specs.Order.{Row}
use Rattle.sqlite_trees.specs.Tree.{rowid}
use Rattle.sqlite_sql.specs.Term.{eval_all}
use Rattle.sqlite.specs.Listing.{understood}
use Rattle.sqlite.specs.State.{State, Executes}
use Rattle.file_schema.specs.Tables.{schema}
use Rattle.file_schema.specs.Parts.{Part, with_rows, without}
use Rattle.file_schema.proofs.Generic.{asked}
use Rattle.file_rows.specs.Tables.{Tables, parts}
use Rattle.file_rows.specs.Changes.{IsInside, Changes}
use Rattle.file_writes.specs.Statements.{AreStatementsOf}
use Rattle.file_writes.proofs.Rows.{adds_row, puts_row, misses_row, removes_row}

-- one part is turned twice
turned_twice : (tree : ℕ) (f g : List Row → List Row) (ps : List Part) → with_rows tree f (with_rows tree g ps) ≡ with_rows tree (λ rows. f (g rows)) ps
turned_twice tree f g [] = refl
turned_twice tree f g (p ∷ ps) =
    let rest = turned_twice tree f g ps in
    let first : Part → Part = λ q. cond (q.tree == tree) (record q { rows = f q.rows }) q in
    let here : first (cond (p.tree == tree) (record p { rows = g p.rows }) p) ≡ cond (p.tree == tree) (record p { rows = f (g p.rows) }) p =
    elim (p.tree == tree) as (λ b. (p.tree == tree) ≡ b → first (cond b (record p { rows = g p.rows }) p) ≡ cond b (record p { rows = f (g p.rows) }) p) [
      | true ↦ λ e. rw e
      | false ↦ λ e. rw e
    ] refl in
    rw (here, rest)

module _ {A : Type 0} (row : A → Row) (key : A → ℕ) (with_row : A → Tables → Tables) (without_row : ℕ → Tables → Tables) (insert update remove : List ℕ)
    (are : AreStatementsOf row key with_row without_row insert update remove) (old new : State) (at : IsInside old) (limit : new.step_limit ≡ old.step_limit) where
  pub adds : (w : A) (count : ℕ) → Executes insert (row w) old new (Ok count) → Changes (with_row w) old new
  adds w count h =
      adds_row are.at are.table are.is.plain insert are.inserts.1 old new at limit are.terms are.width (asked (understood schema insert) _ are.inserts.0)
      (row w) _ (are.fills w) (pos (key w)) (are.behind w) (are.stays w) (row w) (are.shows w) (with_row w) (are.adds w) count h

  pub puts : (w : A) (count : ℕ) → count ≡ 1 → Executes update (row w) old new (Ok count) → Changes (λ t. with_row w (without_row (key w) t)) old new
  puts w count one h =
      let begun = are.begins w in
      let ran = subst (λ n. Executes update (row w) old new (Ok n)) one h in
      puts_row are.at are.table are.is.plain update are.updates.1 old new at limit are.rows are.is.numbered (are.is.holds old.now.trees) are.project (asked (understood schema update) _ are.updates.0)
      (key w) begun.0 (row w) (are.behind w) (are.behind w)
      (λ r. subst (λ p. eval_all are.project (p ∷ r ∷ []) ≡ rowid r ∷ rowid r ∷ are.behind w) begun.1 (are.sets w r)) (are.stays w) (are.shows w)
      (subst (λ p. Executes update p old new (Ok 1)) begun.1 ran)
      (λ t. with_row w (without_row (key w) t))
      (λ t. are.adds w (without_row (key w) t) ∙ ap (with_rows are.table.tree (λ rows. row w ∷ rows)) (are.takes (key w) t) ∙ turned_twice are.table.tree (λ rows. row w ∷ rows) (without (pos (key w))) (parts t))

  pub misses : (w : A) (count : ℕ) → count ≡ 0 → Executes update (row w) old new (Ok count) → Changes (without_row (key w)) old new
  misses w count none h =
      let begun = are.begins w in
      let ran = subst (λ n. Executes update (row w) old new (Ok n)) none h in
      misses_row are.at are.table are.is.plain update are.updates.1 old new at limit are.rows are.is.numbered (are.is.holds old.now.trees) are.project (asked (understood schema update) _ are.updates.0)
      (key w) begun.0 (subst (λ p. Executes update p old new (Ok 0)) begun.1 ran) (without_row (key w)) (are.takes (key w))

  pub removes : (id count : ℕ) → Executes remove (Int (pos id) ∷ []) old new (Ok count) → Changes (without_row id) old new
  removes id count h =
      removes_row are.at are.table are.is.plain remove are.removes.1 old new at limit are.rows are.is.numbered (are.is.holds old.now.trees) (asked (understood schema remove) _ are.removes.0) id count h (without_row id) (are.takes id)
