-- The members of a voucher, part by part.
use Rattle.std.specs.Prelude.{codes}
use Rattle.serde_json.specs.Data.{boolean, string, Members, put}
use Rattle.model_rows.specs.declared.rows.Voucher.{Voucher}
use Rattle.web_json.specs.Values.{count, count_or_null, money_or_null, moment_or_null}
use Rattle.web_json.specs.Rows.{mode_word}

-- members, with those of what a voucher is for
abbrev pub with_target : Voucher → Members → Members
with_target voucher members =
    put (codes "variation") (count_or_null voucher.variation)
    (put (codes "quota") (count_or_null voucher.quota)
    (put (codes "item") (count_or_null voucher.item)
    members))

-- members, with those of a voucher's texts
abbrev pub with_texts : Voucher → Members → Members
with_texts voucher members =
    put (codes "tag") (string voucher.tag)
    (put (codes "comment") (string voucher.comment)
    (put (codes "code") (string voucher.code)
    members))

-- members, with those of what a voucher does with quotas
abbrev pub with_flags : Voucher → Members → Members
with_flags voucher members =
    put (codes "block_quota") (boolean voucher.block_quota)
    (put (codes "allow_ignore_quota") (boolean voucher.allow_ignore_quota)
    members)

-- members, with those of a voucher's limits
abbrev pub with_limits : Voucher → Members → Members
with_limits voucher members =
    put (codes "budget") (money_or_null voucher.budget)
    (put (codes "valid_until") (moment_or_null voucher.valid_until)
    (put (codes "max_usages") (count voucher.max_usages)
    members))

-- members, with those of how a voucher changes a price
abbrev pub with_price : Voucher → Members → Members
with_price voucher members =
    put (codes "value") (money_or_null voucher.value)
    (put (codes "price_mode") (string (mode_word voucher.price_mode))
    members)
