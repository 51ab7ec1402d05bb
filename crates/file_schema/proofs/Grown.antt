-- Tables made one after another, beside those that stand.
use Rattle.std.proofs.Common.{◌≡◌, ◌++◌, List, [], ◌∷◌, length, true, refl, sym, ap, subst, ◌∙◌, drop}
use Rattle.std.specs.List.{AllByRecursion}
use Rattle.std.proofs.lemmas.List.{append-nil, append_assoc}
use Rattle.std.proofs.Math.Seq.{drop-append_seam}
use Rattle.sqlite_trees.specs.Tree.{Trees}
use Rattle.sqlite_trees.proofs.ListLemmas.{all-append}
use Rattle.sqlite_schema.specs.declared.schema.Schema.{Schema}
use Rattle.sqlite_schema.specs.declared.schema.Table.{Table}
use Rattle.sqlite_catalog.specs.Change.{KeepsRows}
use Rattle.sqlite.specs.Effect.{IsDatabase}
use Rattle.sqlite.specs.State.{State}
use Rattle.file_schema.specs.Grown.{IsInsideOver, Grows}

abbrev pub AreEmpty : Trees → List Table → Type 0
AreEmpty db = AllByRecursion (λ t. db t.tree ≡ [])

-- the same, of new tables that are named
pub record GrowsBy (more : List Table) (first next : Schema) (old new : State) : Type 0 where
  pub tables : next.tables ≡ first.tables ++ more
  pub known : new.now.schema ≡ next
  pub inside : new.in_transaction ≡ true
  pub kept : KeepsRows first.tables old.now.trees new.now.trees
  pub empty : AreEmpty new.now.trees more
  pub listed : IsDatabase new.now

kept_same : (db : Trees) (tables : List Table) → KeepsRows tables db db
kept_same db [] = tt
kept_same db (t ∷ tables) = (refl, kept_same db tables)

kept_then : (a b c : Trees) (tables : List Table) → KeepsRows tables a b → KeepsRows tables b c → KeepsRows tables a c
kept_then a b c [] h k = tt
kept_then a b c (t ∷ tables) h k = (k.0 ∙ h.0, kept_then a b c tables h.1 k.1)

kept_empty : (db next : Trees) (tables : List Table) → KeepsRows tables db next → AreEmpty db tables → AreEmpty next tables
kept_empty db next [] same all = tt
kept_empty db next (t ∷ tables) same all = (same.0 ∙ all.0, kept_empty db next tables same.1 all.1)

front : (P : Table → Type 0) (xs ys : List Table) → AllByRecursion P (xs ++ ys) → AllByRecursion P xs
front P [] ys h = tt
front P (x ∷ xs) ys h = (h.0, front P xs ys h.1)

back : (P : Table → Type 0) (xs ys : List Table) → AllByRecursion P (xs ++ ys) → AllByRecursion P ys
back P [] ys h = h
back P (x ∷ xs) ys h = back P xs ys h.1

-- nothing is made
pub grows_none : (first : Schema) (s : State) → IsInsideOver first s → GrowsBy [] first first s s
grows_none first s at = record {
  tables = sym (append-nil first.tables);
  known = at.known;
  inside = at.inside;
  kept = kept_same s.now.trees first.tables;
  empty = tt;
  listed = at.listed;
}

-- and then more
pub grows_then : (few more : List Table) (first mid next : Schema) (old s new : State) → GrowsBy few first mid old s → GrowsBy more mid next s new → GrowsBy (few ++ more) first next old new
grows_then few more first mid next old s new a b =
    let db = s.now.trees in
    let after = new.now.trees in
    let all : KeepsRows (first.tables ++ few) db after = subst (λ l. KeepsRows l db after) a.tables b.kept in
    record {
      tables = b.tables ∙ ap (λ l. l ++ more) a.tables ∙ append_assoc first.tables few more;
      known = b.known;
      inside = b.inside;
      kept = kept_then old.now.trees db after first.tables a.kept (front (λ t. after t.tree ≡ db t.tree) first.tables few all);
      empty = all-append (λ t. after t.tree ≡ []) few more (kept_empty db after few (back (λ t. after t.tree ≡ db t.tree) first.tables few all) a.empty) b.empty;
      listed = b.listed;
    }

pub inside_grown : (more : List Table) (first next : Schema) (old new : State) → GrowsBy more first next old new → IsInsideOver next new
inside_grown more first next old new h = record { known = h.known; inside = h.inside; listed = h.listed }

-- the new tables are those behind the first ones
pub grows : (more : List Table) (first next : Schema) (old new : State) → GrowsBy more first next old new → Grows first next old new
grows more first next old new h = record {
  known = h.known;
  inside = h.inside;
  kept = h.kept;
  empty = subst (AreEmpty new.now.trees) (sym (ap (drop (length first.tables)) h.tables ∙ drop-append_seam first.tables more)) h.empty;
  listed = h.listed;
}
