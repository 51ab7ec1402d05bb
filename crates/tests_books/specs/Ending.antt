-- The case of a voucher that ends while a cart position that names it lives.
use Rattle.std.specs.Prelude.{ℕ, ◌+◌, [], ◌∷◌, Some, None, true, false}
use Rattle.base_values.specs.declared.price_mode.PriceMode.TheVariants as modes
use Rattle.model_catalogue.specs.declared.rows.Quota.{Quota}
use Rattle.model_rows.specs.declared.rows.Voucher.{Voucher}
use Rattle.model_rows.specs.declared.rows.CartPos.{CartPos}
use Rattle.model_rows.specs.declared.rows.Usage.{Usage}
use Rattle.model_rows.specs.Lists.{Lists}
use Rattle.model_rows.specs.CameDue.{came_due, naming_due}

-- the most steps that a usage takes at a later moment
abbrev pub most_steps : ℕ → ℕ → Lists → ℕ
most_steps from to lists = 1 + came_due from to lists + naming_due from to lists

-- 2026-05-01T10:00:00Z
abbrev pub start : ℕ
start = 1777629600

-- a quota of five places, for item 1
abbrev pub five_places : Quota
five_places = record { id = 1; name = []; release_after_exit = false; size = Some 5; items = 1 ∷ []; variations = [] }

-- a voucher that blocks two of the places, for ten minutes
abbrev pub ten_minutes : Voucher
ten_minutes = record { id = 1; code = 86 ∷ []; max_usages = 2; valid_until = Some (start + 600); block_quota = true; allow_ignore_quota = false; price_mode = modes.None; value = None; item = None; variation = None; quota = Some 1; tag = []; comment = []; budget = None }

-- a cart position that names the voucher, and is held for half an hour
abbrev pub half_an_hour : CartPos
half_an_hour = record { id = 1; cart_id = []; product = record { item = 1; variation = None }; price = 2300; made_at = start; expires = start + 1800; voucher = Some 1 }

-- the house of this case: one item, its quota, the voucher and the cart position
abbrev pub ending : Lists
ending = record {
  catalogue = record {
    items = record { id = 1; name = []; default_price = 2300; active = true; varied = false } ∷ [];
    variations = [];
    quotas = five_places ∷ [];
  };
  vouchers = ten_minutes ∷ [];
  carts = half_an_hour ∷ [];
  orders = [];
  positions = [];
  waiting = [];
  checkin_lists = [];
  checkins = [];
}

-- a usage in which this many places are blocked, and this many cart positions count
abbrev pub ending_usage : ℕ → ℕ → Usage
ending_usage blocked carts = record { paid = 0; pending = 0; blocked = blocked; carts = carts; waiting = 0; exited = 0 }
