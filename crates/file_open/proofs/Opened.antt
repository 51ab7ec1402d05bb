-- A file that was made is opened as it was made.
use Rattle.std.proofs.Common.{◌≡◌, ℕ, List, [], map, refl, sym, ◌∙◌}
use Rattle.sqlite.specs.State.{State as Connected}
use Rattle.file_schema.specs.Tables.{schema}
use Rattle.model_rows.specs.Lists.{State, empty}
use Rattle.model_invariant.proofs.Sound.{sound_empty}
use Rattle.file_rows.specs.declared.rows.ShopRow.{ShopRow}
use Rattle.file_scan.specs.declared.error.OpenError.{OpenError}
use Rattle.file_scan.specs.Rests.{IsAt}
use Rattle.file_scan.specs.Lawful.{IsOfMachine}
use Rattle.file_scan.proofs.FitLemmas.{of_machine}
use Rattle.file_scan.proofs.LimitLemmas.{sound_fits}
use Rattle.file_open.specs.Opened.{IsReason, IsOpened}
use Rattle.file_open.proofs.Least.{clear}
use Rattle.file_open.proofs.Undamaged.{undamaged, same_shop}
use Rattle.file_tables.specs.Made.{first_shop, IsMade}

-- what was just made is opened as it was made
pub made_opens : (old c new : Connected) (organizer event : List ℕ) (head : ShopRow) (next : ℕ) → IsMade (first_shop organizer event) old head next c
    → IsAt c.now c × (c.now.schema ≡ schema) × ((error : OpenError) → IsReason c.now error → IsOfMachine error) × ((shop : ShopRow) (number : ℕ) (z : State) → IsOpened c.now.trees shop number z new → (shop ≡ first_shop organizer event) × (z ≡ empty))
made_opens old c new organizer event head next made =
    let its = made.holds made.is_open in
    let t = its.tables in
    let is = its.typed in
    let fit = sound_fits head t empty [] is.first is.organizer is.event is.token its.stand sound_empty is.rows in (
      record { now = refl; committed = sym its.settled },
      made.known,
      clear c.now made.known (of_machine c.now made.known t its.held fit) (undamaged head t empty [] its.stand c.now.trees its.held is.numbered is.organizer is.event sound_empty),
      λ shop number z o.
          let same = same_shop c.now.trees t o.tables its.held o.held head shop empty z [] (map (λ r. r.kept) o.tables.kept) its.stand o.stand in
          (same.0 ∙ made.head_is, same.1.state),
    )
