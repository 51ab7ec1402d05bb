-- Decisions on the waiting list that weren't refused, as laws speak of them.
use Rattle.std.specs.Prelude.{◌≡◌, ℕ, Ok}
use Rattle.base_values.specs.declared.draw.Draw.{Draw}
use Rattle.model_rows.specs.declared.rows.Waiting.{Waiting}
use Rattle.model_rows.specs.Lists.{State}
use Rattle.model_commands.specs.declared.waiting.NewWaiting.{NewWaiting}
use Rattle.model_commands.specs.declared.waiting.WaitingPatch.{WaitingPatch}
use Rattle.decide_waiting.specs.Changed.{entry_changed}
use Rattle.decide_waiting.specs.Joined.{entry_joined}
use Rattle.decide_waiting.specs.Sending.{voucher_sent}

-- somebody joined: what was asked for, the box office before and after it, and the new entry
pub record EntryJoined : Type 0 where
  pub request : NewWaiting
  pub before : State
  pub after : State
  pub row : Waiting
  pub done : entry_joined request before ≡ Ok (after, row)

-- the entry of an id got another priority: what was asked for, the box office before and after it, and the entry as it is then
pub record EntryChanged : Type 0 where
  pub id : ℕ
  pub patch : WaitingPatch
  pub before : State
  pub after : State
  pub row : Waiting
  pub done : entry_changed id patch before ≡ Ok (after, row)

-- the entry of an id was sent a voucher: the box office before and after it, and the entry as it is then
pub record VoucherSent : Type 0 where
  pub id : ℕ
  pub draw : Draw
  pub before : State
  pub after : State
  pub row : Waiting
  pub done : voucher_sent id draw before ≡ Ok (after, row)
