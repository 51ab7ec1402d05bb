-- What the three writes leave of the rows of a table with an INTEGER PRIMARY KEY.
use Rattle.std.proofs.Common.{◌≡◌, ℤ, List, [], ◌∷◌, filter, not, Bool, true, false, cond, ◌&&◌, ◌||◌, Some, refl, ap, ◌∙◌, arith}
use Rattle.std.specs.List.{list_any}
use Rattle.std.specs.List.Sorted.{IsPermutation}
use Rattle.std.specs.declared.cmp.Ordering.TheVariants.{Less, Equal, Greater}
use Rattle.std.specs.Ordering.{is_eq, match_ordering}
use Rattle.std.proofs.lemmas.List.Sorted.{IsPermutation-refl, IsPermutation-trans, IsPermutation-cons, IsPermutation-swap}
use Rattle.sqlite_value.specs.declared.value.Value.{Value}
use Rattle.sqlite_value.specs.declared.value.Value.TheVariants.{Null, Int, Real, Text, Blob}
use Rattle.sqlite_value.specs.Order.{Row, value_cmp}
use Rattle.sqlite_value.proofs.OrderLemmas.{value_cmp-Null}
use Rattle.sqlite_trees.specs.Tree.{put_row, rowid, has_rowid, without_rowid}
use Rattle.sqlite_sql.specs.Ops.{is_true, binary, from_truth}
use Rattle.sqlite_sql.specs.declared.ops.BinaryOp.TheVariants.{Compare}
use Rattle.sqlite_sql.specs.declared.ops.CompareOp.TheVariants.{Eq}
use Rattle.sqlite.specs.Collation.TheVariants.{Binary}
use Rattle.sqlite_rules.specs.Edit.{is_taken, without_all}
pub use Rattle.file_schema.specs.Parts.{without}

stop : (b : Bool) (rest : Bool) → (b || rest) ≡ false → (b ≡ false) × (rest ≡ false)
stop true rest e = absurd cc
stop false rest e = (refl, e)

-- a row whose rowid is not taken goes in beside the others
pub put_fresh : (new : Row) (rows : List Row) → is_taken rows new ≡ false → IsPermutation (new ∷ rows) (put_row new rows)
put_fresh new [] free = IsPermutation-refl (new ∷ [])
put_fresh new (r ∷ rows) free =
    let parts = stop _ _ free in
    elim (value_cmp (rowid r) (rowid new)) as (λ o. is_eq o ≡ false → IsPermutation (new ∷ r ∷ rows) (match_ordering o (r ∷ put_row new rows) (new ∷ rows) (new ∷ r ∷ rows))) [
      | Less ↦ λ _. IsPermutation-trans (new ∷ r ∷ rows) (r ∷ new ∷ rows) (r ∷ put_row new rows) (IsPermutation-swap (new ∷ r ∷ rows) (r ∷ new ∷ rows) 0 1 (omega arith) (omega arith) refl) (IsPermutation-cons r (new ∷ rows) (put_row new rows) (put_fresh new rows parts.1))
      | Equal ↦ λ same. absurd cc
      | Greater ↦ λ _. IsPermutation-refl (new ∷ r ∷ rows)
    ] parts.0

pub truth_back : (b : Bool) → is_true (from_truth (Some b)) ≡ b
truth_back true = refl
truth_back false = refl

-- `id = ?` is the test for the rowid
pub equals_rowid : (v : Value) (id : ℤ) → is_true (binary (Compare Eq Binary) v (Int id)) ≡ is_eq (value_cmp v (Int id))
unfolding binary
equals_rowid Null id = rw value_cmp-Null
equals_rowid (Int n) id = truth_back _
equals_rowid (Real x) id = truth_back _
equals_rowid (Text t) id = truth_back _
equals_rowid (Blob b) id = truth_back _

-- taking out rowids takes out the rows that have one of them
filter_twice : (p q : Row → Bool) (rows : List Row) → filter p (filter q rows) ≡ filter (λ r. q r && p r) rows
filter_twice p q [] = refl
filter_twice p q (r ∷ rows) = elim (q r) as (λ b. filter p (cond b (r ∷ filter q rows) (filter q rows)) ≡ cond (b && p r) (r ∷ filter (λ r. q r && p r) rows) (filter (λ r. q r && p r) rows)) [
  | true ↦ ap (λ l. cond (p r) (r ∷ l) l) (filter_twice p q rows)
  | false ↦ filter_twice p q rows
]

pub same_filter : {A : Type 0} (p q : A → Bool) → ((a : A) → p a ≡ q a) → (xs : List A) → filter p xs ≡ filter q xs
same_filter p q same [] = refl
same_filter p q same (a ∷ xs) = rw (same a, same_filter p q same xs)

not_or : (a b : Bool) → (not a && not b) ≡ not (a || b)
not_or true b = refl
not_or false b = refl

everything_stays : (rows : List Row) → rows ≡ filter (λ _. true) rows
everything_stays [] = refl
everything_stays (r ∷ rows) = ap (λ l. r ∷ l) (everything_stays rows)

pub without_each : (rows : List Row) (ids : List ℤ) → without_all rows ids ≡ filter (λ r. not (list_any (λ id. has_rowid id r) ids)) rows
without_each rows [] = everything_stays rows
without_each rows (id ∷ ids) =
    without_each (without_rowid id rows) ids ∙ filter_twice (λ r. not (list_any (λ i. has_rowid i r) ids)) (λ r. not (has_rowid id r)) rows
    ∙ same_filter (λ r. not (has_rowid id r) && not (list_any (λ i. has_rowid i r) ids)) (λ r. not (list_any (λ i. has_rowid i r) (id ∷ ids))) (λ r. not_or (has_rowid id r) _) rows
