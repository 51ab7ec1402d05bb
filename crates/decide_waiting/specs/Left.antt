-- Leaving the waiting list.
use Rattle.std.specs.Prelude.{ℕ, Result, Ok}
use Rattle.std.specs.Option.{ok_or}
use Rattle.base_values.specs.Deciding.{◌>>=◌, ◌>>◌, check}
use Rattle.model_rows.specs.declared.changes.Change.TheVariants.{DropWaiting}
use Rattle.model_rows.specs.Change.{change_applied}
use Rattle.model_rows.specs.Lists.{State, waiting_at}
use Rattle.model_rows.specs.Usage.{has_none}
use Rattle.model_commands.specs.declared.waiting.WaitingRefusal.{WaitingRefusal}
use Rattle.model_commands.specs.declared.waiting.WaitingRefusal.TheVariants.{NoEntry, AlreadySent}

-- the box office without the entry, or the first refusal
unfoldable pub entry_left : ℕ → State → Result State WaitingRefusal
entry_left id state = do
  entry ← ok_or (waiting_at id state.lists) NoEntry
  -- one that has its voucher stays
  check (has_none entry.voucher) AlreadySent
  Ok (change_applied (DropWaiting id) state)
