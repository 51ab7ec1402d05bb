-- Serving the waiting list: who is sent a voucher, decided at once, and one after another.
use Rattle.std.specs.Prelude.{ℕ, ◌+◌, Bool, ◌&&◌, ◌||◌, not, List, [], ◌∷◌, ◌++◌, length, map, filter, count_by, if◌then◌else◌}
use Rattle.std.specs.List.{list_all}
use Rattle.std.specs.declared.cmp.Ordering.{Ordering}
use Rattle.std.specs.Ordering.{is_lt, nat_cmp, int_cmp, ordering_then}
use Rattle.base_values.specs.declared.draw.Draw.{Draw}
use Rattle.model_catalogue.specs.declared.rows.Product.{Product}
use Rattle.model_catalogue.specs.declared.rows.Quota.{Quota}
use Rattle.model_catalogue.specs.CatalogueLists.{is_active, is_sold}
use Rattle.model_catalogue.specs.Limits.{takes_rows}
use Rattle.model_catalogue.specs.Member.{is_in}
use Rattle.model_rows.specs.declared.rows.Waiting.{Waiting}
use Rattle.model_rows.specs.declared.changes.Change.{Change}
use Rattle.model_rows.specs.Available.{available}
use Rattle.model_rows.specs.Lists.{Lists, State}
use Rattle.model_rows.specs.Usage.{has_none}
use Rattle.decide_waiting.specs.Places.{used_unwaited}
use Rattle.decide_waiting.specs.Sending.{with_sent, with_its_voucher, sent_changes}

-- THE QUEUE

-- by priority downward, then by the moment it was made, then by id
abbrev pub turn : Waiting → Waiting → Ordering
turn a b = ordering_then (int_cmp b.priority a.priority) (ordering_then (nat_cmp a.created b.created) (nat_cmp a.id b.id))

-- the first has its turn before the second
abbrev pub goes_before : Waiting → Waiting → Bool
goes_before a b = is_lt (turn a b)

-- an entry in its place in a queue
abbrev pub in_place : Waiting → List Waiting → List Waiting
in_place entry [] = entry ∷ []
in_place entry (e ∷ es) = if goes_before entry e then entry ∷ e ∷ es else e ∷ in_place entry es

-- entries put in their turn, whatever their order was
abbrev pub in_turn : List Waiting → List Waiting
in_turn [] = []
in_turn (e ∷ es) = in_place e (in_turn es)

-- the entries without voucher, in their turn
unfoldable pub queue : Lists → List Waiting
queue lists = in_turn (filter (λ e. has_none e.voucher) lists.waiting)

-- AT ONCE

-- how many of these entries are for a product of the quota
abbrev pub served_in : Quota → List Waiting → ℕ
served_in quota entries = count_by (λ e. is_in quota e.product) entries

-- a quota that hasn't the product, or has a place for it beside these entries
abbrev pub has_place : State → List Waiting → Product → Quota → Bool
has_place state before product quota = not (is_in quota product) || available quota.size (used_unwaited state quota + served_in quota before)

-- an entry is sent, where these before it are: its product is active and in a quota, each of its quotas has a place,
-- and the table of vouchers has room
unfoldable pub is_served : State → List Waiting → Waiting → Bool
is_served state before entry =
    is_active entry.product state.lists.catalogue
    && (is_sold entry.product state.lists.catalogue
    && (list_all (has_place state before entry.product) state.lists.catalogue.quotas
    && takes_rows (length before + 1) state.next.voucher state.lists.vouchers))

-- whoever of a queue is sent, where these before them are (the last of them first)
abbrev pub served_after : State → List Waiting → List Waiting → List Waiting
served_after state before [] = []
served_after state before (e ∷ es) = if is_served state before e then e ∷ served_after state (e ∷ before) es else served_after state before es

-- all who are sent, as the box office is before serving
unfoldable pub entries_served : State → List Waiting
entries_served state = served_after state [] (queue state.lists)

-- they get their vouchers in this order
abbrev pub all_sent : Draw → List Waiting → State → State
all_sent draw [] state = state
all_sent draw (e ∷ es) state = all_sent draw es (with_sent draw e state)

-- the box office with all their vouchers, and their ids
unfoldable pub all_served : Draw → State → State × List ℕ
all_served draw state = (all_sent draw (entries_served state) state, map (λ e. e.id) (entries_served state))

-- the changes that lead there: each voucher before the entry that names it
abbrev pub all_changes : Draw → List Waiting → State → List Change
all_changes draw [] state = []
all_changes draw (e ∷ es) state = sent_changes draw state (with_its_voucher state e) ++ all_changes draw es (with_sent draw e state)

-- the changes that lead there, for all who are sent a voucher
unfoldable pub served_changes : Draw → State → List Change
served_changes draw state = all_changes draw (entries_served state) state
