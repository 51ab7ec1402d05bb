-- The rows that requests make of vouchers.
use Rattle.std.specs.Prelude.{ℕ, unwrap_or}
use Rattle.base_values.specs.declared.draw.Draw.{Draw}
use Rattle.model_rows.specs.declared.rows.Voucher.{Voucher}
use Rattle.model_commands.specs.declared.vouchers.NewVoucher.{NewVoucher}
use Rattle.model_commands.specs.declared.vouchers.VoucherPatch.{VoucherPatch}
use Rattle.decide_vouchers.specs.Codes.{code_of}

-- the row of a new voucher
abbrev pub voucher_row : NewVoucher → Draw → ℕ → Voucher
voucher_row new draw id = record {
  id = id;
  code = code_of new.code draw id;
  max_usages = new.max_usages;
  valid_until = new.valid_until;
  block_quota = new.block_quota;
  allow_ignore_quota = new.allow_ignore_quota;
  price_mode = new.price_mode;
  value = new.value;
  item = new.item;
  variation = new.variation;
  quota = new.quota;
  tag = new.tag;
  comment = new.comment;
  budget = new.budget;
}

-- the row of a changed voucher: what isn't given stays
abbrev pub patched_voucher : VoucherPatch → Voucher → Voucher
patched_voucher patch row = record {
  id = row.id;
  code = unwrap_or patch.code row.code;
  max_usages = unwrap_or patch.max_usages row.max_usages;
  valid_until = unwrap_or patch.valid_until row.valid_until;
  block_quota = unwrap_or patch.block_quota row.block_quota;
  allow_ignore_quota = unwrap_or patch.allow_ignore_quota row.allow_ignore_quota;
  price_mode = unwrap_or patch.price_mode row.price_mode;
  value = unwrap_or patch.value row.value;
  item = unwrap_or patch.item row.item;
  variation = unwrap_or patch.variation row.variation;
  quota = unwrap_or patch.quota row.quota;
  tag = unwrap_or patch.tag row.tag;
  comment = unwrap_or patch.comment row.comment;
  budget = unwrap_or patch.budget row.budget;
}
