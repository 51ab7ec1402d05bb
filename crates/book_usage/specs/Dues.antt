-- What came due between two moments, and the counts that are written then.
use Rattle.std.specs.Prelude.{ℕ, ◌+◌, List, map, filter}
use Rattle.model_rows.specs.CameDue.{is_due_cart, is_due_voucher, came_due, naming_due}
use Rattle.model_rows.specs.Change.{Changed, changes_applied}
use Rattle.model_rows.specs.CountRows.{CountRows, counts_after}
use Rattle.model_rows.specs.Lists.{Lists, State}

-- the cart positions that were live at the one moment and aren't at the other, in order
abbrev pub due_carts : ℕ → ℕ → Lists → List ℕ
due_carts from to lists = map (λ c. c.id) (filter (is_due_cart from to) lists.carts)

-- the vouchers, in order
abbrev pub due_vouchers : ℕ → ℕ → Lists → List ℕ
due_vouchers from to lists = map (λ v. v.id) (filter (is_due_voucher from to) lists.vouchers)

-- the ids of the cart positions that came due between the box office's moment and another
abbrev pub carts_ended_by : ℕ → State → List ℕ
carts_ended_by at state = due_carts state.moment at state.lists

-- the ids of such vouchers
abbrev pub vouchers_ended_by : ℕ → State → List ℕ
vouchers_ended_by at state = due_vouchers state.moment at state.lists

-- the steps so far, with a step for each of these cart positions and vouchers, and a step for each cart position that names one of these
-- vouchers
abbrev pub with_due_steps : State → ℕ → ℕ → ℕ
with_due_steps state at steps = steps + came_due state.moment at state.lists + naming_due state.moment at state.lists

-- the counts that are to be written with changes at a moment
abbrev pub counts_of_changes : Changed → ℕ → State → CountRows
counts_of_changes changes at state = counts_after state (changes_applied changes at state)
