-- A test of the column behind the number.
use Rattle.std.proofs.Common.{◌≡◌, ℕ, pos, ◌==◌, ◌&&◌, Bool, true, false, [], ◌∷◌, refl, ap, ◌∙◌, arith}
use Rattle.std.specs.Ordering.{is_eq, int_cmp}
use Rattle.std.proofs.lemmas.Int.{ints}
use Rattle.sqlite_value.specs.declared.value.Value.TheVariants.{Int}
use Rattle.sqlite_value.specs.Order.{Row, column}
use Rattle.sqlite_value.proofs.OrderLemmas.{value_cmp-Int}
use Rattle.sqlite_sql.specs.Ops.{is_true, binary}
use Rattle.sqlite_sql.specs.declared.ops.BinaryOp.TheVariants.{Compare}
use Rattle.sqlite_sql.specs.declared.ops.CompareOp.TheVariants.{Eq}
use Rattle.sqlite.specs.Collation.TheVariants.{Binary}
use Rattle.file_schema.specs.Shapes.{by_owner}
use Rattle.file_schema.proofs.Answered.{passes}
use Rattle.file_schema.proofs.Keyed.{equals_rowid}

-- a test that is the last one
pub stays_true : (b : Bool) → (b && true) ≡ b
stays_true true = refl
stays_true false = refl

pub same_number : (a b : ℕ) → is_eq (int_cmp (pos a) (pos b)) ≡ (a == b)
same_number a b = grind (arith, ints)

pub passes_owner : (owner n : ℕ) (r : Row) → column r 1 ≡ Int (pos n) → passes by_owner (Int (pos owner) ∷ []) r ≡ (n == owner)
passes_owner owner n r is =
    stays_true _ ∙ ap (λ v. is_true (binary (Compare Eq Binary) v (Int (pos owner)))) is ∙ equals_rowid (Int (pos n)) (pos owner) ∙ ap is_eq (value_cmp-Int (pos n) (pos owner)) ∙ same_number n owner
