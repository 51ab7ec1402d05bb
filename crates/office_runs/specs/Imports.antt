-- What a next import finds of the rows of one.
use Rattle.std.specs.Prelude.{◌≡◌, Bool, true, false, is_some, List, ◌∷◌}
use Rattle.std.specs.List.{AllByRecursion}
use Rattle.base_values.specs.Draws.{IsDraw}
use Rattle.base_values.specs.declared.draw.Draw.{Draw}
use Rattle.model_rows.specs.Lists.{State}
use Rattle.model_invariant.specs.Sound.{IsSound}
use Rattle.model_commands.specs.FitRequests.{IsFitVoucher}
use Rattle.model_commands.specs.declared.vouchers.NewVoucher.{NewVoucher}
use Rattle.model_commands.specs.declared.vouchers.Verdict.{Verdict}
use Rattle.model_commands.specs.declared.vouchers.Verdict.TheVariants.{Added, Same}
use Rattle.decide_vouchers.specs.Imported.{row_imported, rows_imported}

-- the row was added, or was the same
abbrev pub is_kept : Verdict → Bool
is_kept (Added row) = true
is_kept Same = true
is_kept _ = false

-- where it has a code, it is the same in an import into a later office, behind these rows
abbrev pub IsSameAgain : State → Draw → List NewVoucher → NewVoucher → Verdict → Type 0
IsSameAgain later draw before new verdict = is_some new.code ≡ true → is_kept verdict ≡ true → (row_imported new draw (rows_imported before draw later).0).1 ≡ Same

-- each row of an import with a code, if it was kept, is the same in an import into a later office, always behind the same rows
abbrev pub AreSameAgain : State → Draw → List NewVoucher → List NewVoucher → List Verdict → Type 0
AreSameAgain later draw before (new ∷ more) (verdict ∷ verdicts) = IsSameAgain later draw before new verdict × AreSameAgain later draw before more verdicts
AreSameAgain later draw before _ _ = Unit {0}

-- an import into a sound box office, of rows within their limits
pub record FitImport : Type 0 where
  pub rows : List NewVoucher
  pub draw : Draw
  pub state : State
  pub fit : AllByRecursion IsFitVoucher rows
  pub sixteen : IsDraw draw
  pub sound : IsSound state

-- the box office after it, and the verdicts on its rows
abbrev pub import_done : FitImport → State × List Verdict
import_done i = rows_imported i.rows i.draw i.state
