-- The bodies of vouchers, field by field in the order of their tests.
use Rattle.std.specs.Prelude.{ℕ, false, Option, Result, Ok}
use Rattle.serde_json.specs.Data.{Data}
use Rattle.base_values.specs.Counts.{most_uses}
use Rattle.base_values.specs.declared.price_mode.PriceMode.TheVariants as modes
use Rattle.model_commands.specs.declared.vouchers.NewVoucher.{NewVoucher}
use Rattle.model_commands.specs.declared.vouchers.VoucherPatch.{VoucherPatch}
use Rattle.model_faults.specs.declared.fields.Field.TheVariants as fields
use Rattle.web_fields.specs.declared.error.BodyFault.{BodyFault}
use Rattle.web_fields.specs.Reading.{◌>>=◌}
use Rattle.web_fields.specs.Lacking.{truth_or, whole_or, text_or_empty, price_mode_or, optional_id, optional_text, optional_money, optional_moment}
use Rattle.web_fields.specs.Patched.{patched_truth, patched_whole, patched_text, patched_loose_text, patched_price_mode, patched_id_or_null, patched_money_or_null, patched_moment_or_null}

-- how often a voucher may be used: 1 to 1,000,000 times, once where it isn't said
abbrev pub max_usages : Data → Result ℕ BodyFault
max_usages d = whole_or fields.MaxUsages 1 1 most_uses d

-- a new voucher; without a code the shop makes one, and without a budget it may take off any amount
unfoldable pub voucher_of : Data → Result NewVoucher BodyFault
voucher_of d = do
  code ← optional_text fields.Code d
  usages ← max_usages d
  until ← optional_moment fields.ValidUntil d
  block ← truth_or fields.BlockQuota false d
  ignore ← truth_or fields.AllowIgnoreQuota false d
  mode ← price_mode_or fields.PriceMode modes.None d
  value ← optional_money fields.Value d
  item ← optional_id fields.Item d
  variation ← optional_id fields.Variation d
  quota ← optional_id fields.Quota d
  tag ← text_or_empty fields.Tag d
  comment ← text_or_empty fields.Comment d
  budget ← optional_money fields.Budget d
  Ok (record {
    code = code;
    max_usages = usages;
    valid_until = until;
    block_quota = block;
    allow_ignore_quota = ignore;
    price_mode = mode;
    value = value;
    item = item;
    variation = variation;
    quota = quota;
    tag = tag;
    comment = comment;
    budget = budget;
  })

-- the new number of uses, where it is given
abbrev pub new_max_usages : Data → Result (Option ℕ) BodyFault
new_max_usages d = patched_whole fields.MaxUsages 1 most_uses d

-- a change of a voucher; its code can't be taken away
unfoldable pub voucher_patch_of : Data → Result VoucherPatch BodyFault
voucher_patch_of d = do
  code ← patched_text fields.Code d
  usages ← new_max_usages d
  until ← patched_moment_or_null fields.ValidUntil d
  block ← patched_truth fields.BlockQuota d
  ignore ← patched_truth fields.AllowIgnoreQuota d
  mode ← patched_price_mode fields.PriceMode d
  value ← patched_money_or_null fields.Value d
  item ← patched_id_or_null fields.Item d
  variation ← patched_id_or_null fields.Variation d
  quota ← patched_id_or_null fields.Quota d
  tag ← patched_loose_text fields.Tag d
  comment ← patched_loose_text fields.Comment d
  budget ← patched_money_or_null fields.Budget d
  Ok (record {
    code = code;
    max_usages = usages;
    valid_until = until;
    block_quota = block;
    allow_ignore_quota = ignore;
    price_mode = mode;
    value = value;
    item = item;
    variation = variation;
    quota = quota;
    tag = tag;
    comment = comment;
    budget = budget;
  })
