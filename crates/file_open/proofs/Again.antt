-- A file that is found again.
use Rattle.std.proofs.Common.{◌≡◌, inl, inr, refl, sym, ap, subst, ◌∙◌}
use Rattle.sqlite_trees.specs.Tree.{Trees}
use Rattle.sqlite.specs.Effect.{Database}
use Rattle.sqlite.specs.State.{State as Connected, IsLive, Survives}
use Rattle.model_answers.specs.House.{House}
use Rattle.file_schema.specs.Tables.{schema}
use Rattle.file_schema.proofs.WholeLemmas.{one_schema}
use Rattle.file_tables.specs.Shops.{LeavesHouse}
use Rattle.file_open.specs.Found.{IsFound}

-- what a crash leaves of tables that knew a house is found as tables that are declared as ours
pub found_known : (before fresh : Connected) (house : House) → LeavesHouse before house → IsLive fresh → IsFound before fresh → fresh.now.schema ≡ schema
found_known before fresh house left live found = one_schema fresh.now (record { schema = schema; trees = fresh.now.trees }) (live found.at.is_open).0 (left fresh.now.trees found.may).0 refl

-- where a call leaves only what stood, and the connection was open, a crash in it leaves what was found before, under the same schema
pub found_again : (before fresh tried again : Connected) → ((db : Trees) → fresh.may_leave db → db ≡ fresh.committed.trees) → IsLive fresh → IsLive again → IsFound before fresh → Survives fresh tried (λ _. ⊥) → IsFound tried again
    → IsFound before again × (again.now ≡ fresh.now)
found_again before fresh tried again settled live live_again found crash more =
    let left : fresh.may_leave again.now.trees = elim (crash.crash more.clean again.now.trees more.may) [ inl may ↦ may | inr none ↦ absurd none ] in
    let trees : again.now.trees ≡ fresh.now.trees = settled again.now.trees left ∙ ap (λ (d : Database). d.trees) found.at.committed in
    let known : again.now.schema ≡ fresh.now.schema = one_schema again.now fresh.now (live_again more.at.is_open).0 (live found.at.is_open).0 trees in
    (record { clean = found.clean; may = subst before.may_leave (sym trees) found.may; at = more.at }, λ i. record { schema = known i; trees = trees i })
