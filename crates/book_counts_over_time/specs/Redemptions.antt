-- Uses of vouchers that come and go, one after another.
use Rattle.std.specs.Prelude.{ℕ, ◌+◌, ◌-◌, min, Bool, true, false, List, [], ◌∷◌, Option, Some, None, if◌then◌else◌}
use Rattle.model_catalogue.specs.declared.rows.Quota.{Quota}
use Rattle.model_rows.specs.declared.rows.OrderPos.{OrderPos}
use Rattle.model_rows.specs.declared.rows.Usage.{Usage}
use Rattle.model_rows.specs.Conditions.{names, is_paid, is_pending}
use Rattle.model_rows.specs.Lists.{Lists}
use Rattle.book_usage.specs.Shares.{status_share, exited_share}
use Rattle.book_counts_over_time.specs.UsageUpdates.{count_moved}

-- a count with one more, or one less
abbrev pub count_after_turn : Bool → ℕ → ℕ
count_after_turn true n = min (n + 1) 18446744073709551615
count_after_turn false n = n - 1

-- counts with one more or one less for the voucher of this name
abbrev pub turn : Bool → Option ℕ → (ℕ → ℕ) → ℕ → ℕ
turn up name spent x = if names x name then count_after_turn up (spent x) else spent x

-- counts with one more or one less for the voucher of each of these names
abbrev pub turn_each : Bool → List (Option ℕ) → (ℕ → ℕ) → ℕ → ℕ
turn_each up [] spent = spent
turn_each up (name ∷ names) spent = turn_each up names (turn up name spent)

-- an order position comes, and one goes
abbrev pub position_shift : Lists → Option OrderPos → Option OrderPos → Quota → Usage → Usage
position_shift lists come gone quota usage = record usage {
  paid = count_moved usage.paid (status_share is_paid lists quota come) (status_share is_paid lists quota gone);
  pending = count_moved usage.pending (status_share is_pending lists quota come) (status_share is_pending lists quota gone);
  exited = count_moved usage.exited (exited_share lists quota come) (exited_share lists quota gone);
}

-- the voucher that it names
abbrev pub name_of : Option OrderPos → Option ℕ
name_of None = None
name_of (Some position) = position.voucher
