-- The definitions on worked cases.
use Rattle.std.proofs.Common.{◌≡◌, ℕ, Bool, List, [], ◌∷◌, true, false, Some, None, Result, Ok, Err, map, refl}
use Rattle.std.specs.Prelude.{ℤ, pos}
use Rattle.model_catalogue.specs.declared.rows.Item.{Item}
use Rattle.model_catalogue.specs.declared.rows.Quota.{Quota}
use Rattle.model_rows.specs.declared.rows.Checkin.{Checkin}
use Rattle.model_rows.specs.declared.rows.CheckinKind.{CheckinKind}
use Rattle.model_rows.specs.declared.rows.CheckinKind.TheVariants.{Entry, Exit}
use Rattle.model_rows.specs.declared.rows.Status.TheVariants.{Paid}
use Rattle.model_rows.specs.declared.rows.Waiting.{Waiting}
use Rattle.model_rows.specs.Lists.{State, no_rows, first_ids}
use Rattle.model_rows.specs.Passages.{is_out, later}
use Rattle.model_rows.specs.Usage.{usage_of, blocked_by}
use Rattle.model_commands.specs.declared.waiting.NewWaiting.{NewWaiting}
use Rattle.model_commands.specs.declared.waiting.WaitingRefusal.{WaitingRefusal}
use Rattle.model_commands.specs.declared.waiting.WaitingRefusal.TheVariants.{StillAvailable, AlreadyWaiting}
use Rattle.decide_waiting.specs.Joined.{entry_joined}
use Rattle.decide_waiting.specs.Places.{first_closed}
use Rattle.decide_waiting.specs.Serving.{queue, is_served, entries_served}

abbrev item : ℕ → Item
item id = record { id = id; name = []; default_price = 0; active = true; varied = false }

abbrev quota : ℕ → ℕ → ℕ → Quota
quota id size item = record { id = id; name = []; release_after_exit = false; size = Some size; items = item ∷ []; variations = [] }

abbrev waits : ℕ → ℤ → ℕ → Waiting
waits id priority item = record { id = id; email = []; product = record { item = item; variation = None }; priority = priority; created = 100; voucher = None }

abbrev joined_rows : Result (State × Waiting) WaitingRefusal → List Waiting
joined_rows (Ok joined) = joined.0.lists.waiting
joined_rows (Err refusal) = []

abbrev shop : ℕ → ℕ → List Waiting → State
shop one two entries = record {
  lists = record no_rows { catalogue = record { items = item 1 ∷ item 2 ∷ []; variations = []; quotas = quota 1 one 1 ∷ quota 2 two 2 ∷ [] }; waiting = entries };
  next = first_ids;
  moment = 100;
}

-- a greater priority goes first, then a smaller id
by_priority : map (λ (e : Waiting). e.id) (queue (shop 0 1 (waits 1 (pos 0) 1 ∷ waits 2 (pos 5) 2 ∷ waits 3 (pos 0) 2 ∷ [])).lists) ≡ 2 ∷ 1 ∷ 3 ∷ []
unfolding queue
by_priority = refl

-- the quota of the first is full, so the second alone is sent to
second_alone : map (λ (e : Waiting). e.id) (entries_served (shop 0 1 (waits 1 (pos 5) 1 ∷ waits 2 (pos 0) 2 ∷ []))) ≡ 2 ∷ []
unfolding entries_served queue is_served usage_of blocked_by
second_alone = refl

-- one place, two for it: the one of higher priority; the other is passed over
one_place : map (λ (e : Waiting). e.id) (entries_served (shop 1 0 (waits 1 (pos 0) 1 ∷ waits 2 (pos 5) 1 ∷ []))) ≡ 2 ∷ []
unfolding entries_served queue is_served usage_of blocked_by
one_place = refl

abbrev asks : ℕ → NewWaiting
asks item = record { email = []; item = item; variation = None; priority = pos 0 }

-- who waits for a product isn't told that it can be had
twice : entry_joined (asks 1) (shop 1 0 (waits 1 (pos 0) 1 ∷ [])) ≡ Err AlreadyWaiting
unfolding entry_joined
twice = refl

-- one place is left, so nobody has to wait
still_available : entry_joined (asks 1) (shop 1 0 []) ≡ Err StillAvailable
unfolding entry_joined first_closed usage_of blocked_by
still_available = refl

-- no place is left, so one may
sold_out : map (λ (e : Waiting). e.id) (joined_rows (entry_joined (asks 1) (shop 0 1 []))) ≡ 1 ∷ []
unfolding entry_joined first_closed usage_of blocked_by
sold_out = refl

-- one place, of which the only ticket was paid and has gone out, and one who waits for it
abbrev gone_out : Bool → State
gone_out releases = record {
  lists = record no_rows {
    catalogue = record { items = item 1 ∷ []; variations = []; quotas = record (quota 1 1 1) { release_after_exit = releases } ∷ [] };
    orders = record { id = 1; email = None; status = Paid; made_at = 50; expires = 60 } ∷ [];
    positions = record { id = 1; order = 1; positionid = 1; product = record { item = 1; variation = None }; price = 0; voucher = None; secret = []; discount = 0 } ∷ [];
    waiting = waits 1 (pos 0) 1 ∷ [];
    checkins = scan 1 Entry 70 ∷ scan 2 Exit 80 ∷ [];
  };
  next = first_ids;
  moment = 100;
}
  where
    scan : ℕ → CheckinKind → ℕ → Checkin
    scan id kind at = record { id = id; list = 1; position = 1; kind = kind; datetime = at; nonce = None }

-- a quota that releases its places has one for who waits, and one that keeps them has none
place_set_free : map (λ (e : Waiting). e.id) (entries_served (gone_out true)) ≡ 1 ∷ []
unfolding entries_served queue is_served usage_of blocked_by is_out later
place_set_free = refl

place_kept : map (λ (e : Waiting). e.id) (entries_served (gone_out false)) ≡ []
unfolding entries_served queue is_served usage_of blocked_by is_out later
place_kept = refl
