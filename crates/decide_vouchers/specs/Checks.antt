-- The tests of a voucher's row, in the order of their refusals.
use Rattle.std.specs.Prelude.{ℕ, Bool, true, false, ◌||◌, not, nat_le, List, Option, Some, None, Result, Ok}
use Rattle.std.specs.Option.{is_some}
use Rattle.base_values.specs.Deciding.{◌>>◌, check, refuse_if}
use Rattle.base_values.specs.declared.price_mode.PriceMode.{PriceMode}
use Rattle.base_values.specs.declared.price_mode.PriceMode.TheVariants as modes
use Rattle.model_catalogue.specs.declared.rows.Item.{Item}
use Rattle.model_catalogue.specs.declared.refusal.CatalogueRefusal.TheVariants.{NoItem, NoVariation, NoQuota}
use Rattle.model_catalogue.specs.CatalogueLists.{CatalogueLists, item_at}
use Rattle.model_rows.specs.declared.rows.Voucher.{Voucher}
use Rattle.model_rows.specs.Lists.{Lists}
use Rattle.model_invariant.specs.Targets.{item_stands, variation_stands, quota_stands, has_one_target}
use Rattle.model_commands.specs.declared.vouchers.VoucherRefusal.{VoucherRefusal}
use Rattle.model_commands.specs.declared.vouchers.VoucherRefusal.TheVariants.{Catalogue, TooLarge, CodeTaken, BadTarget, CannotBlock, ReservedCode}
use Rattle.decide_vouchers.specs.Codes.{is_reserved_if, has_anothers_code}

-- no more than 100.00 percent are taken off
abbrev pub is_percent : Option ℕ → Bool
is_percent None = true
is_percent (Some value) = nat_le value 10000

-- the value of a percentage has a bound of its own, and that of any other mode hasn't
abbrev pub value_fits : PriceMode → Option ℕ → Bool
value_fits modes.None value = true
value_fits modes.Set value = true
value_fits modes.Subtract value = true
value_fits modes.Percent value = is_percent value

-- an item without variations can be blocked by itself, and any other by one of its variations
abbrev pub item_can_block : Option Item → Option ℕ → Bool
item_can_block None variation = false
item_can_block (Some item) (Some variation) = true
item_can_block (Some item) None = not item.varied

-- an item is named, and can be blocked as it is named
abbrev pub item_named_can_block : CatalogueLists → Option ℕ → Option ℕ → Bool
item_named_can_block lists None variation = false
item_named_can_block lists (Some item) variation = item_can_block (item_at item lists) variation

-- what it names can be blocked: a quota, an item without variations, or an item with a variation
abbrev pub can_block : CatalogueLists → Voucher → Bool
can_block lists row = is_some row.quota || item_named_can_block lists row.item row.variation

-- what the voucher names stands and fits together
unfoldable pub names_test : Voucher → CatalogueLists → Result (Unit {0}) VoucherRefusal
names_test row lists = do
  check (item_stands lists row.item) (Catalogue NoItem)
  check (variation_stands lists row.item row.variation) (Catalogue NoVariation)
  check (quota_stands lists row.quota) (Catalogue NoQuota)
  check (has_one_target row) BadTarget
  check (not row.block_quota || can_block lists row) CannotBlock
  Ok tt

-- the value, the code (which is tested for the reserved form where it is given anew), and what it names
unfoldable pub row_test : Option (List ℕ) → Voucher → Lists → Result (Unit {0}) VoucherRefusal
row_test given row lists = do
  check (value_fits row.price_mode row.value) TooLarge
  refuse_if (is_reserved_if given) ReservedCode
  refuse_if (has_anothers_code row lists) CodeTaken
  names_test row lists.catalogue
