-- Joining the waiting list.
use Rattle.std.specs.Prelude.{None, Result, Ok}
use Rattle.base_values.specs.Deciding.{◌>>=◌, ◌>>◌, check, refuse_if, map_err}
use Rattle.model_catalogue.specs.declared.rows.Product.{Product}
use Rattle.model_catalogue.specs.declared.refusal.CatalogueRefusal.TheVariants.{Inactive, Full}
use Rattle.model_catalogue.specs.CatalogueLists.{product_of, is_active}
use Rattle.model_rows.specs.declared.rows.Waiting.{Waiting}
use Rattle.model_rows.specs.Full.{takes_waiting}
use Rattle.model_rows.specs.Lists.{State}
use Rattle.model_rows.specs.Numbered.{with_waiting}
use Rattle.model_rows.specs.Waits.{is_waiting}
use Rattle.model_commands.specs.declared.waiting.NewWaiting.{NewWaiting}
use Rattle.model_commands.specs.declared.waiting.WaitingRefusal.{WaitingRefusal}
use Rattle.model_commands.specs.declared.waiting.WaitingRefusal.TheVariants.{Catalogue, StillAvailable, AlreadyWaiting}
use Rattle.decide_waiting.specs.Places.{is_open}

-- the new entry, which waits from now on
abbrev pub waiting_row : NewWaiting → State → Product → Waiting
waiting_row new state product = record { id = state.next.waiting; email = new.email; product = product; priority = new.priority; created = state.moment; voucher = None }

-- the box office with the new entry, and the entry, or the first refusal
unfoldable pub entry_joined : NewWaiting → State → Result (State × Waiting) WaitingRefusal
entry_joined new state = do
  product ← map_err Catalogue (product_of new.item new.variation state.lists.catalogue)
  check (is_active product state.lists.catalogue) (Catalogue Inactive)
  -- an email waits for a product once
  refuse_if (is_waiting new.email product state.lists) AlreadyWaiting
  -- for a product that can be had nobody waits
  refuse_if (is_open state product) StillAvailable
  check (takes_waiting state) (Catalogue Full)
  let row = waiting_row new state product
  Ok (with_waiting row state, row)
