-- When a command can be carried out, and that what was made of it is its step.
use Rattle.std.specs.Prelude.{◌≡◌, ◌≤◌, ℕ, List, [], ◌∷◌, Result, Ok}
use Rattle.std.specs.declared.alloc.AllocError.{AllocError}
use Rattle.base_values.specs.declared.draw.Draw.{Draw}
use Rattle.model_rows.specs.declared.changes.Change.{Change}
use Rattle.model_rows.specs.declared.changes.Change.TheVariants.{PutItem, PutVariation, PutQuota}
use Rattle.model_rows.specs.Lists.{Lists, State}
use Rattle.model_rows.specs.Change.{after_all, changes_applied}
use Rattle.model_invariant.specs.Sound.{IsSound}
use Rattle.book_tally.specs.declared.deltas.Drafted.{Drafted}
use Rattle.book_tally.specs.CountDeltas.{AreCountDeltas}
use Rattle.model_commands.specs.declared.requests.Command.{Command}
use Rattle.model_commands.specs.declared.replies.Reply.{Reply}
use Rattle.office_step.specs.Drafts.{DraftState}
use Rattle.office_step.specs.Changes.{changes_of}
use Rattle.office_step.specs.Step.{RefusesWithoutChange, step}

-- a command can begin at a moment that isn't before the office's, over an office that is sound
pub record CanBegin (at : ℕ) (state : State) : Type 0 where
  pub moment : state.moment ≤ at
  pub sound : IsSound state

-- what changes shift of the counts over these lists, at a moment, is handed on with them
abbrev pub HasCountDeltas : ℕ → Lists → Drafted → Type 0
HasCountDeltas at lists drafted = AreCountDeltas lists (after_all drafted.changes.list lists) at drafted.deltas

-- each of these changes is of what is for sale
abbrev pub AreOfCatalogue : List Change → Type 0
AreOfCatalogue [] = Unit {0}
AreOfCatalogue (PutItem row ∷ changes) = AreOfCatalogue changes
AreOfCatalogue (PutVariation row ∷ changes) = AreOfCatalogue changes
AreOfCatalogue (PutQuota row ∷ changes) = AreOfCatalogue changes
AreOfCatalogue (change ∷ changes) = ⊥

-- what is made of a draft over these lists, at a moment, that is closed with a reply: its changes, its next ids, and its shifts
pub record IsClosed (at : ℕ) (lists : Lists) (draft : DraftState) (told : Result Reply AllocError) (made : Drafted × Reply) : Type 0 where
  pub reply : told ≡ Ok made.1
  pub list : made.0.changes.list ≡ draft.log.changes
  pub next : made.0.changes.next ≡ draft.next
  pub deltas : HasCountDeltas at lists made.0

-- What was made of a command, its changes and its reply, is its step in this office, at this moment and with this draw: the
-- changes lead to the office after the step, and the reply is that of the step. The changes are those of the command and no
-- others, in their order. A refusal has no change, and leaves the next ids. What the changes shift of the counts is right.
pub record IsStep (command : Command) (at : ℕ) (draw : Draw) (state : State) (made : Drafted × Reply) : Type 0 where
  pub step : (changes_applied made.0.changes at state, made.1) ≡ step command at draw state
  pub changes : made.0.changes.list ≡ changes_of command draw (record state { moment = at }) made.1
  pub refused : RefusesWithoutChange state (made.0.changes, made.1)
  pub deltas : HasCountDeltas at state.lists made.0

-- what was made is the command's step with whatever draw: the command needs none
abbrev pub IsUndrawnStep : Command → ℕ → State → Drafted × Reply → Type 0
IsUndrawnStep command at state made = (draw : Draw) → IsStep command at draw state made

-- what was made is the command's step at whatever moment, and with whatever draw
abbrev pub IsTimelessStep : Command → State → Drafted × Reply → Type 0
IsTimelessStep command state made = (at : ℕ) → IsUndrawnStep command at state made
