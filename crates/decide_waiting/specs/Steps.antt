-- What the code does one after another, and words for how far it came. The rules say the same at once.
use Rattle.std.specs.Prelude.{ℕ, ◌-◌, Bool, false, ◌&&◌, ◌==◌, List, [], ◌∷◌, Option, Some, None, map, if◌then◌else◌, ◌≡◌, ◌+◌, ◌≤◌, ◌++◌, Result, Ok, Err}
use Rattle.model_catalogue.specs.declared.rows.Product.{Product}
use Rattle.model_catalogue.specs.declared.rows.Quota.{Quota}
use Rattle.model_catalogue.specs.CatalogueLists.{quota_at}
use Rattle.model_catalogue.specs.Member.{is_in}
use Rattle.model_rows.specs.Available.{available_number}
use Rattle.model_rows.specs.Lists.{State}
use Rattle.decide_waiting.specs.Places.{used_unwaited, is_full}
use Rattle.base_values.specs.Moments.{last_moment}
use Rattle.base_tables.specs.Tables.{AreInOrder}
use Rattle.model_rows.specs.declared.rows.Usage.{Usage}
use Rattle.model_rows.specs.Fits.{AllFit}
use Rattle.model_invariant.specs.Ids.{AreNumbered}
use Rattle.decide_waiting.specs.Sending.{place_in, sent_changes, voucher_sent}
use Rattle.base_values.specs.declared.draw.Draw.{Draw}
use Rattle.model_rows.specs.declared.rows.Waiting.{Waiting}
use Rattle.model_rows.specs.declared.changes.Change.{Change}
use Rattle.model_rows.specs.Full.{takes_voucher}
use Rattle.model_commands.specs.declared.waiting.WaitingRefusal.{WaitingRefusal}
use Rattle.draft_changes.specs.DraftState.{DraftState, now}
use Rattle.decide_waiting.specs.Serving.{queue}

-- the quota of an id is full
abbrev pub is_full_by : State → Option Quota → Bool
is_full_by state None = false
is_full_by state (Some quota) = is_full state quota

-- there is a quota of this id, and it is full
abbrev pub is_full_at : State → ℕ → Bool
is_full_at state id = is_full_by state (quota_at id state.lists.catalogue)

-- how many places a quota has left but for those who wait
abbrev pub places_left : State → Quota → Option ℕ
places_left state quota = available_number quota.size (used_unwaited state quota)

-- the places that are left of all quotas
abbrev pub all_places_left : State → List (Option ℕ)
all_places_left state = map (places_left state) state.lists.catalogue.quotas

-- there is a limit, and no place is left below it
abbrev pub has_none_left : Option ℕ → Bool
has_none_left None = false
has_none_left (Some left) = left == 0

-- the least full quota of the product, by the places that are left of each
abbrev pub first_without_place : Product → List (Option ℕ) → List Quota → Option ℕ
first_without_place product [] quotas = None
first_without_place product (left ∷ lefts) [] = None
first_without_place product (left ∷ lefts) (quota ∷ quotas) = if is_in quota product && has_none_left left then Some quota.id else first_without_place product lefts quotas

-- a place is taken for the product, in each of its quotas
abbrev pub one_less : Option ℕ → Option ℕ
one_less None = None
one_less (Some left) = Some (left - 1)

-- what is left of a quota once a place is taken for the product: one less, where the product is in it
abbrev pub after_one : Product → Quota → Option ℕ → Option ℕ
after_one product quota left = if is_in quota product then one_less left else left

-- what is left of each quota once a place is taken for the product
abbrev pub all_after_one : Product → List (Option ℕ) → List Quota → List (Option ℕ)
all_after_one product [] quotas = []
all_after_one product (left ∷ lefts) [] = []
all_after_one product (left ∷ lefts) (quota ∷ quotas) = after_one product quota left ∷ all_after_one product lefts quotas

-- in the quotas of the product an entry less waits, and a place more is blocked
pub record TradesPlace (quota : Quota) (product : Product) (before after : Usage) : Type 0 where
  pub paid : after.paid ≡ before.paid
  pub pending : after.pending ≡ before.pending
  pub blocked : after.blocked ≡ before.blocked + place_in quota product
  pub carts : after.carts ≡ before.carts
  pub waiting : after.waiting + place_in quota product ≡ before.waiting
  pub exited : after.exited ≡ before.exited

-- what sending rests on: part of what is sound
pub record CanSend (state : State) : Type 0 where
  pub moment : state.moment ≤ last_moment
  pub next : 1 ≤ state.next.voucher
  pub vouchers : AreNumbered (λ r. r.id) state.next.voucher state.lists.vouchers
  pub fit : AllFit state.lists
  pub waiting : AreInOrder (λ r. r.id) state.lists.waiting

-- a box office, the ids of those who were sent to, and what was changed for them
pub record Run : Type 0 where
  pub state : State
  pub ids : List ℕ
  pub changes : List Change

-- the box office after a sending, or after a refusal
abbrev pub state_after : State → Result (State × Waiting) WaitingRefusal → State
state_after state (Ok sent) = sent.0
state_after state (Err refusal) = state

-- what comes before the rest: one that was sent to, or nothing
abbrev pub run_with : Draw → State → Result (State × Waiting) WaitingRefusal → Run → Run
run_with draw state (Ok sent) rest = record { state = rest.state; ids = sent.1.id ∷ rest.ids; changes = sent_changes draw state sent.1 ++ rest.changes }
run_with draw state (Err refusal) rest = rest

-- each in turn is sent its voucher in the box office as it then is, or skipped; it ends where the table of vouchers is full
abbrev pub each_sent : Draw → List ℕ → State → Run
each_sent draw [] state = record { state = state; ids = []; changes = [] }
each_sent draw (id ∷ ids) state =
    if takes_voucher state then run_with draw state (voucher_sent id draw state) (each_sent draw ids (state_after state (voucher_sent id draw state)))
    else record { state = state; ids = []; changes = [] }

-- the run through the whole queue, as it is before the first sending
abbrev pub run_in_turn : Draw → State → Run
run_in_turn draw state = each_sent draw (map (λ e. e.id) (queue state.lists)) state

-- the box office after that run, and the ids of those who were sent to
unfoldable pub served_in_turn : Draw → State → State × List ℕ
served_in_turn draw state = ((run_in_turn draw state).state, (run_in_turn draw state).ids)

-- the ids so far, with the one that was sent to
abbrev pub ids_noted : Result (State × Waiting) WaitingRefusal → List ℕ → List ℕ
ids_noted (Ok sent) ids = ids ++ sent.1.id ∷ []
ids_noted (Err refusal) ids = ids

-- the changes so far, with those of a sending
abbrev pub changes_logged : Draw → State → Result (State × Waiting) WaitingRefusal → List Change → List Change
changes_logged draw state (Ok sent) changes = changes ++ sent_changes draw state sent.1
changes_logged draw state (Err refusal) changes = changes

-- ids and changes in front of others
abbrev pub run_after : List ℕ → List Change → Run → Run
run_after ids changes rest = record { state = rest.state; ids = ids ++ rest.ids; changes = changes ++ rest.changes }

-- what a run has come to in a draft
abbrev pub run_so_far : List ℕ → DraftState → Run
run_so_far ids draft = record { state = now draft; ids = ids; changes = draft.log.changes }

-- the run through these ids, over the changes that the draft has
abbrev pub run_from : Draw → List ℕ → DraftState → Run
run_from draw queue draft = run_after [] draft.log.changes (each_sent draw queue (now draft))
