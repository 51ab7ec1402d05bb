-- Which products can be had, but for those who wait.
use Rattle.std.specs.Prelude.{ℕ, ◌+◌, ◌-◌, Bool, ◌&&◌, not, is_none, Option, find, option_map}
use Rattle.model_catalogue.specs.declared.rows.Product.{Product}
use Rattle.model_catalogue.specs.declared.rows.Quota.{Quota}
use Rattle.model_catalogue.specs.CatalogueLists.{is_sold}
use Rattle.model_catalogue.specs.Member.{is_in}
use Rattle.model_rows.specs.declared.rows.Usage.{Usage}
use Rattle.model_rows.specs.Available.{available}
use Rattle.model_rows.specs.Lists.{State}
use Rattle.model_rows.specs.Usage.{usage_of}

-- what is used, without the entries that wait
abbrev pub without_waiting : Usage → ℕ
without_waiting usage = usage.paid - usage.exited + usage.pending + usage.blocked + usage.carts

-- the places of a quota that are used at the box office's moment, without the entries that wait
abbrev pub used_unwaited : State → Quota → ℕ
used_unwaited state quota = without_waiting (usage_of state.lists state.moment quota)

-- no place is left of the quota but for those who wait
abbrev pub is_full : State → Quota → Bool
is_full state quota = not (available quota.size (used_unwaited state quota))

-- a full quota of the product
abbrev pub is_closed : State → Product → Quota → Bool
is_closed state product quota = is_in quota product && is_full state quota

-- the least such quota
unfoldable pub first_closed : State → Product → Option ℕ
first_closed state product = option_map (λ quota. quota.id) (find (is_closed state product) state.lists.catalogue.quotas)

-- the product is in a quota, and none of its quotas is full
abbrev pub is_open : State → Product → Bool
is_open state product = is_sold product state.lists.catalogue && is_none (first_closed state product)
