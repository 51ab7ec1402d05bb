-- The values of a list by place, and counts that have more of them.
use Rattle.std.specs.Prelude.{◌≡◌, ℕ, zero, suc, List, [], ◌∷◌}
use Rattle.model_rows.specs.declared.rows.Usage.{Usage}
use Rattle.book_tally.specs.declared.amount.Uses.{Uses}
use Rattle.book_tally.specs.declared.tally.Count.{Count}
use Rattle.book_tally.specs.Amounts.{nothing, plus, no_uses, plus_uses}
use Rattle.book_tally.specs.Counts.{came, went, GoesOn}

-- the value of the row at a place, and none where there is none
abbrev pub value_at : {T A : Type 0} → A → (T → A) → List T → ℕ → A
value_at none value [] place = none
value_at none value (row ∷ rows) zero = value row
value_at none value (row ∷ rows) (suc place) = value_at none value rows place

-- the new counts have what comes and what goes at each place of the list, beside the old ones, from which they go on
pub record IsMore {T : Type 0} (come gone : T → Usage) (list : List T) (old new : List (Count Usage)) : Type 0 where
  pub comes : (place : ℕ) → came nothing place new ≡ plus (came nothing place old) (value_at nothing come list place)
  pub goes : (place : ℕ) → went nothing place new ≡ plus (went nothing place old) (value_at nothing gone list place)
  pub on : GoesOn old new

-- the new uses have what comes and what goes of each voucher, beside the old ones, from which they go on
pub record AreMoreUses (come gone : ℕ → Uses) (old new : List (Count Uses)) : Type 0 where
  pub comes : (voucher : ℕ) → came no_uses voucher new ≡ plus_uses (came no_uses voucher old) (come voucher)
  pub goes : (voucher : ℕ) → went no_uses voucher new ≡ plus_uses (went no_uses voucher old) (gone voucher)
  pub on : GoesOn old new
