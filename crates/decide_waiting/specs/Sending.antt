-- Sending a voucher to an entry of the waiting list.
use Rattle.std.specs.Prelude.{ℕ, ◌+◌, List, [], ◌∷◌, true, false, Some, None, Result, Ok, if◌then◌else◌, min, codes}
use Rattle.std.specs.Option.{ok_or}
use Rattle.base_values.specs.Deciding.{◌>>=◌, ◌>>◌, check, refuse_some}
use Rattle.base_values.specs.Moments.{last_moment}
use Rattle.base_values.specs.declared.draw.Draw.{Draw}
use Rattle.base_values.specs.declared.price_mode.PriceMode.TheVariants as modes
use Rattle.model_catalogue.specs.declared.rows.Product.{Product}
use Rattle.model_catalogue.specs.declared.rows.Quota.{Quota}
use Rattle.model_catalogue.specs.declared.refusal.CatalogueRefusal.TheVariants.{Inactive, NotSold, Full}
use Rattle.model_catalogue.specs.CatalogueLists.{is_active, is_sold}
use Rattle.model_catalogue.specs.Member.{is_in}
use Rattle.model_rows.specs.declared.rows.Voucher.{Voucher}
use Rattle.model_rows.specs.declared.rows.Waiting.{Waiting}
use Rattle.model_rows.specs.declared.changes.Change.{Change}
use Rattle.model_rows.specs.declared.changes.Change.TheVariants.{PutVoucher, PutWaiting}
use Rattle.model_rows.specs.Change.{change_applied}
use Rattle.model_rows.specs.Full.{takes_voucher}
use Rattle.model_rows.specs.Lists.{State, waiting_at}
use Rattle.model_rows.specs.Numbered.{with_voucher}
use Rattle.model_rows.specs.Usage.{has_none}
use Rattle.model_invariant.specs.MadeCodes.{made_code}
use Rattle.model_commands.specs.declared.waiting.WaitingRefusal.{WaitingRefusal}
use Rattle.model_commands.specs.declared.waiting.WaitingRefusal.TheVariants.{Catalogue, SoldOut, AlreadySent, NoEntry}
use Rattle.decide_waiting.specs.Places.{first_closed}

-- how long a voucher that is sent holds its place: two days
abbrev pub sent_for : ℕ
sent_for = 172800

-- an entry's voucher: one use of its product, which is kept free for it so long
abbrev pub sent_voucher : Draw → State → Product → Voucher
sent_voucher draw state product = record {
  id = state.next.voucher;
  code = made_code draw state.next.voucher;
  max_usages = 1;
  valid_until = Some (min (state.moment + sent_for) last_moment);
  block_quota = true;
  allow_ignore_quota = false;
  price_mode = modes.None;
  value = None;
  item = Some product.item;
  variation = product.variation;
  quota = None;
  tag = codes "waiting-list";
  comment = [];
  budget = None;
}

-- the entry with that voucher
abbrev pub with_its_voucher : State → Waiting → Waiting
with_its_voucher state entry = record entry { voucher = Some state.next.voucher }

-- the box office with the new voucher, and the entry that has it
abbrev pub with_sent : Draw → Waiting → State → State
with_sent draw entry state = change_applied (PutWaiting (with_its_voucher state entry)) (with_voucher (sent_voucher draw state entry.product) state)

-- the voucher is put before the entry that names it
abbrev pub sent_changes : Draw → State → Waiting → List Change
sent_changes draw state row = PutVoucher (sent_voucher draw state row.product) ∷ PutWaiting row ∷ []

-- to an entry that stands
unfoldable pub sent_to : Draw → Waiting → State → Result (State × Waiting) WaitingRefusal
sent_to draw entry state = do
  check (has_none entry.voucher) AlreadySent
  check (is_active entry.product state.lists.catalogue) (Catalogue Inactive)
  check (is_sold entry.product state.lists.catalogue) (Catalogue NotSold)
  refuse_some SoldOut (first_closed state entry.product)
  check (takes_voucher state) (Catalogue Full)
  Ok (with_sent draw entry state, with_its_voucher state entry)

-- the box office with the voucher and the entry that has it, and that entry, or the first refusal
unfoldable pub voucher_sent : ℕ → Draw → State → Result (State × Waiting) WaitingRefusal
voucher_sent id draw state = do
  entry ← ok_or (waiting_at id state.lists) NoEntry
  sent_to draw entry state

-- what one entry for the product takes of the quota
abbrev pub place_in : Quota → Product → ℕ
place_in quota product = if is_in quota product then 1 else 0
