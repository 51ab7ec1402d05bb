-- What was read of the tables of one version, as what the file of a version holds.
use Rattle.std.proofs.Common.{◌≤◌, ◌⊎◌, ℕ, inl, inr, Result, Ok, Err, IfOk, arith}
use Rattle.sqlite_trees.specs.Tree.{Trees}
use Rattle.sqlite.specs.Effect.{Database}
use Rattle.file_schema.specs.declared.error.RowError.{RowError}
use Rattle.file_rows.specs.declared.table_rows.TableRows.{TableRows}
use Rattle.file_reads.specs.Since.{IsSince}
use Rattle.file_reads.specs.Damage.{IsFor}
use Rattle.file_reads.proofs.Causes.{for}
use Rattle.file_reads.proofs.SinceLemmas.{since_before}
use Rattle.file_scan.specs.Causes.{LacksVersion1, LacksVersion2, LacksVersion3, LacksTable, HasVersion1Damage, AreVersion2Damaged, AreVersion3Damaged, HasDamage}
use Rattle.file_scan.specs.Read.{HoldsVersion1, HoldsVersion2, HoldsVersion3, HoldsRows, HasNoVersion2, HasNoVersion3}

-- ---- of the first version

pub is_first : (own : ℕ) → own ≤ 1 → (db : Trees) (rows : TableRows) → HoldsVersion1 db rows → HasNoVersion2 rows × HasNoVersion3 rows → HoldsRows own db rows
is_first own small db rows held none = record {
  first = held;
  version2 = λ late. absurd (omega (arith, small, late));
  version3 = λ late. absurd (omega (arith, small, late));
  no_version2 = λ _. none.0;
  no_version3 = λ _. none.1;
}

pub first_for : (own : ℕ) → 1 ≤ own → (db : Database) (e : RowError) → IsFor (LacksVersion1 db.schema) (IsSince 1 db.schema → HasVersion1Damage db.trees) e → IsFor (LacksTable own db.schema) (IsSince own db.schema → HasDamage own db.trees) e
first_for own from db = for _ _ _ _ (λ lacks. inl lacks) (λ bad known. inl (bad (since_before 1 own from db.schema known)))

-- ---- of the second

pub is_second : (own : ℕ) → 2 ≤ own → own ≤ 2 → (db : Trees) (rows : TableRows) → HoldsVersion1 db rows × HoldsVersion2 db rows.catalogue.releases.items rows.others.exits.items → HasNoVersion3 rows → HoldsRows own db rows
is_second own late small db rows held none = record {
  first = held.0;
  version2 = λ _. held.1;
  version3 = λ later. absurd (omega (arith, small, later));
  no_version2 = λ early. absurd (omega (arith, late, early));
  no_version3 = λ _. none;
}

pub second_for : (own : ℕ) → 2 ≤ own → (db : Database) (e : RowError) → IsFor (LacksVersion1 db.schema ⊎ LacksVersion2 db.schema) (IsSince 2 db.schema → HasVersion1Damage db.trees ⊎ AreVersion2Damaged db.trees) e
    → IsFor (LacksTable own db.schema) (IsSince own db.schema → HasDamage own db.trees) e
second_for own late db =
    for _ _ _ _ (λ lacks. elim lacks [ inl first ↦ inl first | inr version2 ↦ inr (inl (late, version2)) ]) (λ bad known. elim (bad (since_before 2 own late db.schema known)) [ inl first ↦ inl first | inr version2 ↦ inr (inl (late, version2)) ])

-- ---- of the third, and of each behind it

pub is_third : (own : ℕ) → 3 ≤ own → (db : Trees) (r : Result TableRows RowError)
    → IfOk r (λ rows. HoldsVersion1 db rows × (HoldsVersion2 db rows.catalogue.releases.items rows.others.exits.items × HoldsVersion3 db rows.sales.budgets.items rows.others.spents.items rows.sales.discounts.items)) → IfOk r (HoldsRows own db)
is_third own late db (Ok rows) h = record {
  first = h.0;
  version2 = λ _. h.1.0;
  version3 = λ _. h.1.1;
  no_version2 = λ early. absurd (omega (arith, late, early));
  no_version3 = λ early. absurd (omega (arith, late, early));
}
is_third own late db (Err e) h = tt

-- a table of some version lacks, as one that this version has
third_lacks : (own : ℕ) → 3 ≤ own → (first version2 version3 : Type 0) → first ⊎ (version2 ⊎ version3) → first ⊎ (((2 ≤ own) × version2) ⊎ ((3 ≤ own) × version3))
third_lacks own late first version2 version3 (inl h) = inl h
third_lacks own late first version2 version3 (inr (inl h)) = inr (inl (omega (arith, late), h))
third_lacks own late first version2 version3 (inr (inr h)) = inr (inr (late, h))

pub third_for : (own : ℕ) → 3 ≤ own → (db : Database) (e : RowError)
    → IsFor (LacksVersion1 db.schema ⊎ (LacksVersion2 db.schema ⊎ LacksVersion3 db.schema)) (IsSince 3 db.schema → HasVersion1Damage db.trees ⊎ (AreVersion2Damaged db.trees ⊎ AreVersion3Damaged db.trees)) e
    → IsFor (LacksTable own db.schema) (IsSince own db.schema → HasDamage own db.trees) e
third_for own late db = for _ _ _ _ (third_lacks own late _ _ _) (λ bad known. third_lacks own late _ _ _ (bad (since_before 3 own late db.schema known)))
