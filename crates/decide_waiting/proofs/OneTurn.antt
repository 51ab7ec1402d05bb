-- One turn of serving, and those after it.
use Rattle.std.proofs.Common.{◌≡◌, ℕ, true, List, [], ◌∷◌, ◌++◌, Result, Ok, Err, refl, sym, ap, ◌∙◌, subst, append_assoc, append-nil}
use Rattle.std.specs.Prelude.{if◌then◌else◌, false}
use Rattle.base_values.specs.declared.draw.Draw.{Draw}
use Rattle.model_rows.specs.declared.changes.Change.{Change}
use Rattle.model_rows.specs.declared.rows.Waiting.{Waiting}
use Rattle.model_rows.specs.Full.{takes_voucher}
use Rattle.model_rows.specs.Lists.{State}
use Rattle.model_commands.specs.declared.waiting.WaitingRefusal.{WaitingRefusal}
use Rattle.decide_waiting.specs.Sending.{sent_changes, voucher_sent}
use Rattle.decide_waiting.specs.Steps.{CanSend}
use Rattle.decide_waiting.specs.Steps.{state_after, run_with, each_sent, ids_noted, changes_logged, run_after}
use Rattle.decide_waiting.proofs.Trades.{sent_can_send}
use Rattle.decide_waiting.proofs.Sent.{sent_is}

module _ (draw : Draw) where
  by_answer : (ids : List ℕ) (changes : List Change) (more : List ℕ) (state : State) (r : Result (State × Waiting) WaitingRefusal) → run_after (ids_noted r ids) (changes_logged draw state r changes) (each_sent draw more (state_after state r)) ≡ run_after ids changes (run_with draw state r (each_sent draw more (state_after state r)))
  by_answer ids changes more state (Err refusal) = refl
  by_answer ids changes more state (Ok sent) =
      let rest = each_sent draw more sent.0 in
      let one : ids ++ sent.1.id ∷ [] ++ rest.ids ≡ ids ++ (sent.1.id ∷ rest.ids) = append_assoc ids (sent.1.id ∷ []) rest.ids in
      let two : changes ++ sent_changes draw state sent.1 ++ rest.changes ≡ changes ++ (sent_changes draw state sent.1 ++ rest.changes) = append_assoc changes (sent_changes draw state sent.1) rest.changes in
      λ i. record { state = rest.state; ids = one i; changes = two i }

  -- where there is room the next has its turn
  pub turn_joined : (id : ℕ) (ids : List ℕ) (changes : List Change) (more : List ℕ) (state : State) → takes_voucher state ≡ true → run_after (ids_noted (voucher_sent id draw state) ids) (changes_logged draw state (voucher_sent id draw state) changes) (each_sent draw more (state_after state (voucher_sent id draw state))) ≡ run_after ids changes (each_sent draw (id ∷ more) state)
  turn_joined id ids changes more state room = by_answer ids changes more state (voucher_sent id draw state) ∙ ap (λ b. run_after ids changes (if b then run_with draw state (voucher_sent id draw state) (each_sent draw more (state_after state (voucher_sent id draw state))) else record { state = state; ids = []; changes = [] })) (sym room)

  -- and else serving ends
  pub turn_ends : (id : ℕ) (ids : List ℕ) (changes : List Change) (more : List ℕ) (state : State) → takes_voucher state ≡ false → run_after ids changes (each_sent draw (id ∷ more) state) ≡ record { state = state; ids = ids; changes = changes }
  turn_ends id ids changes more state full =
      let one = append-nil ids in
      let two = append-nil changes in
      ap (λ b. run_after ids changes (if b then run_with draw state (voucher_sent id draw state) (each_sent draw more (state_after state (voucher_sent id draw state))) else record { state = state; ids = []; changes = [] })) full ∙ (λ i. record { state = state; ids = one i; changes = two i })

  can_after : (id : ℕ) (state : State) → CanSend state → (r : Result (State × Waiting) WaitingRefusal) → voucher_sent id draw state ≡ r → CanSend (state_after state r)
  can_after id state can (Err refusal) e = can
  can_after id state can (Ok sent) e =
      let s = sent_is id draw state sent.0 sent.1 e in
      subst CanSend s.to.is_after (sent_can_send draw state s.old can)

  pub turn_can_send : (id : ℕ) (state : State) → CanSend state → CanSend (state_after state (voucher_sent id draw state))
  turn_can_send id state can = can_after id state can (voucher_sent id draw state) refl
