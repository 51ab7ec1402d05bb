-- What functions that change a draft ask of it and leave of it, beside what decisions do.
use Rattle.std.specs.Prelude.{◌≡◌, ℕ, true, false, List, [], ◌∷◌, length, Result, Ok, IfOk, OnOk, OnErr}
use Rattle.draft_changes.specs.Decides.{Logs, RefusesBy}
use Rattle.draft_changes.specs.DraftState.{DraftState, now, Extends}
use Rattle.model_invariant.specs.Sound.{IsSound}
use Rattle.model_rows.specs.declared.changes.Change.{Change}
use Rattle.model_rows.specs.declared.changes.Change.TheVariants.{PutOrder}
use Rattle.model_rows.specs.declared.rows.Order.{Order}
use Rattle.model_rows.specs.declared.rows.OrderPos.{OrderPos}
use Rattle.model_rows.specs.declared.rows.OrderRows.{OrderRows}
use Rattle.model_rows.specs.Conditions.{is_in_force}
use Rattle.model_rows.specs.Lists.{State, order_at}
use Rattle.model_rows.specs.Usage.{stands_as}
use Rattle.decide_orders.specs.Created.{order_changes}
use Rattle.decide_orders.specs.Steps.{AreCounted}

-- nothing is changed in the draft yet, and its box office is sound
pub record IsFresh (draft : DraftState) : Type 0 where
  pub fresh : draft.log.changes ≡ []
  pub sound : IsSound (now draft)

-- the draft is fresh, and an order with these positions is its next one: they have the next ids
pub record IsNext (order : Order) (rows : List OrderPos) (draft : DraftState) : Type 0 where
  pub fresh : draft.log.changes ≡ []
  pub sound : IsSound (now draft)
  pub new : order.id ≡ (now draft).next.order
  pub counted : AreCounted (now draft).next.position rows

-- this row of an order comes back to life: it is in force, and the order as it stands isn't
pub record ComesBack (row : Order) (state : State) : Type 0 where
  pub ended : stands_as is_in_force (order_at row.id state.lists) ≡ false
  pub back : is_in_force row.status ≡ true

-- a step of a draft does this to the box office and logs these changes; without memory it may do some of it
pub record ChangesBy {E : Type 0} (rule : State → State) (made : List Change) (old new : DraftState) (result : Result (Unit {0}) E) : Type 0 where
  pub done : OnOk result (now new ≡ rule (now old))
  pub changes : OnOk result (Logs made old new)
  pub extends : Extends old new

-- a step of a draft goes by a rule that may refuse, and logs these changes; a refusal may leave some of it done
pub record PutsBy {E : Type 0} (memory : E) (rule : State → Result State E) (made : List Change) (old new : DraftState) (result : Result (Unit {0}) E) : Type 0 where
  pub done : OnOk result (rule (now old) ≡ Ok (now new))
  pub refused : RefusesBy memory (rule (now old)) result
  pub changes : OnOk result (Logs made old new)
  pub extends : Extends old new

-- a step of a draft does this to all rows of the ids that are due, logs these changes, and answers how many are due; without memory it does
-- nothing
pub record DoesAll {E : Type 0} (rule : State → State) (due : State → List ℕ) (made : State → List Change) (old new : DraftState) (result : Result ℕ E) : Type 0 where
  pub done : OnOk result (now new ≡ rule (now old))
  pub count : IfOk result (λ n. n ≡ length (due (now old)))
  pub extends : Extends old new
  pub same : OnErr result (new ≡ old)
  pub changes : OnOk result (Logs (made (now old)) old new)

-- the changes of an order that is made, which consumes these carts
abbrev pub makes_order : List (List ℕ) → State → OrderRows → List Change
makes_order carts state made = order_changes carts made.order made.positions state.lists

-- the change of an order that is moved
abbrev pub puts_order : OrderRows → List Change
puts_order rows = PutOrder rows.order ∷ []
