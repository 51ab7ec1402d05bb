-- An entry whose priority is changed.
use Rattle.std.specs.Prelude.{ℕ, Result, Ok, unwrap_or}
use Rattle.std.specs.Option.{ok_or}
use Rattle.base_values.specs.Deciding.{◌>>=◌, ◌>>◌, check}
use Rattle.model_rows.specs.declared.rows.Waiting.{Waiting}
use Rattle.model_rows.specs.declared.changes.Change.TheVariants.{PutWaiting}
use Rattle.model_rows.specs.Change.{change_applied}
use Rattle.model_rows.specs.Lists.{State, waiting_at}
use Rattle.model_rows.specs.Usage.{has_none}
use Rattle.model_commands.specs.declared.waiting.WaitingPatch.{WaitingPatch}
use Rattle.model_commands.specs.declared.waiting.WaitingRefusal.{WaitingRefusal}
use Rattle.model_commands.specs.declared.waiting.WaitingRefusal.TheVariants.{NoEntry, AlreadySent}

-- with the priority that is given, if one is
abbrev pub changed_entry : WaitingPatch → Waiting → Waiting
changed_entry patch entry = record entry { priority = unwrap_or patch.priority entry.priority }

-- the box office with the changed entry, and the entry, or the first refusal
unfoldable pub entry_changed : ℕ → WaitingPatch → State → Result (State × Waiting) WaitingRefusal
entry_changed id patch state = do
  entry ← ok_or (waiting_at id state.lists) NoEntry
  -- one that has its voucher doesn't wait any more
  check (has_none entry.voucher) AlreadySent
  let row = changed_entry patch entry
  Ok (change_applied (PutWaiting row) state, row)
