-- What single tests tell of a box office: each of these is part of a rule.
use Rattle.std.specs.Prelude.{Bool, List}
use Rattle.base_values.specs.Texts.{same_text}
use Rattle.model_rows.specs.declared.rows.Checkin.{Checkin}
use Rattle.model_rows.specs.declared.rows.Voucher.{Voucher}
use Rattle.model_rows.specs.Fits.{AllFit}
use Rattle.model_rows.specs.Lists.{Lists}
use Rattle.model_invariant.specs.Checkins.{repeats}
use Rattle.model_invariant.specs.Sent.{AllSent}
use Rattle.model_invariant.specs.Targets.{AllHaveTargets}
use Rattle.model_invariant.specs.Varied.{AllVaried, AllProducts, AllWhole}
use Rattle.file_check.specs.Firsts.{is_first}

-- what vouchers name is well, and so are the products of rows and their vouchers
abbrev pub SellsWell : Lists → Type 0
SellsWell lists = AllHaveTargets lists × AllWhole lists × AllVaried lists × AllProducts lists × AllSent lists × AllFit lists

-- no voucher before it has its code
abbrev pub has_new_code : List Voucher → Voucher → Bool
has_new_code vouchers row = is_first (λ v. v.id) (λ a b. same_text a.code b.code) vouchers row

-- no check-in before it repeats it
abbrev pub is_new : List Checkin → Checkin → Bool
is_new checkins row = is_first (λ c. c.id) repeats checkins row
