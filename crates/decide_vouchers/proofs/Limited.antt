-- The rows of vouchers that are made or changed are within their limits.
use Rattle.std.proofs.Common.{◌≡◌, ℕ, ◌^◌, ◌<◌, ◌≤◌, true, List, nat_le, Option, Some, None, arith}
use Rattle.std.specs.Prelude.{IfSome, unwrap_or}
use Rattle.std.proofs.lemmas.Bool.Decides.{nat_tests}
use Rattle.base_values.specs.Draws.{IsDraw}
use Rattle.base_values.specs.Moments.{IsMoment}
use Rattle.base_values.specs.Money.{IsMoney}
use Rattle.base_values.specs.Counts.{IsUses}
use Rattle.base_values.specs.Percent.{whole}
use Rattle.base_values.specs.Texts.{IsText}
use Rattle.base_values.specs.declared.draw.Draw.{Draw}
use Rattle.base_values.specs.declared.price_mode.PriceMode.{PriceMode}
use Rattle.base_values.specs.declared.price_mode.PriceMode.TheVariants as modes
use Rattle.model_rows.specs.declared.rows.Voucher.{Voucher}
use Rattle.model_invariant.specs.Limits.{IsValue, IsLimitedVoucher}
use Rattle.model_commands.specs.FitRequests.{IsFitVoucher, IsFitVoucherPatch}
use Rattle.model_commands.specs.declared.vouchers.NewVoucher.{NewVoucher}
use Rattle.model_commands.specs.declared.vouchers.VoucherPatch.{VoucherPatch}
use Rattle.decide_vouchers.specs.Checks.{value_fits}
use Rattle.model_invariant.proofs.Given.{given_or}
use Rattle.model_invariant.proofs.MadeCodes.{made_text}
use Rattle.decide_vouchers.specs.Codes.{code_of}
use Rattle.decide_vouchers.specs.Rows.{voucher_row, patched_voucher}

code_text : (given : Option (List ℕ)) (draw : Draw) (id : ℕ) → IsDraw draw → id < 2 ^ 64 → IfSome given IsText → IsText (code_of given draw id)
code_text None draw id sixteen small its = made_text draw id sixteen small
code_text (Some given) draw id sixteen small its = its

percent_fits : (value : ℕ) → nat_le value 10000 ≡ true → value ≤ whole
percent_fits value fits = grind (arith, nat_tests, fits)

-- a value that passed its test is one by its mode
value_limited : (mode : PriceMode) (value : Option ℕ) → value_fits mode value ≡ true → IfSome value IsMoney → IfSome value (IsValue mode)
value_limited mode None fits its = its
value_limited modes.None (Some value) fits its = its
value_limited modes.Set (Some value) fits its = its
value_limited modes.Subtract (Some value) fits its = its
value_limited modes.Percent (Some value) fits its = percent_fits value fits

-- a value by its mode is money
pub value_money : (mode : PriceMode) (value : ℕ) → IsValue mode value → IsMoney value
value_money modes.None value its = its
value_money modes.Set value its = its
value_money modes.Subtract value its = its
value_money modes.Percent value its = omega (arith, its)

money_if : (mode : PriceMode) (value : Option ℕ) → IfSome value (IsValue mode) → IfSome value IsMoney
money_if mode None its = its
money_if mode (Some value) its = value_money mode value its

-- a new voucher's row
pub made_limited : (new : NewVoucher) (draw : Draw) (id : ℕ) → IsDraw draw → id < 2 ^ 64 → IsFitVoucher new → (let row = voucher_row new draw id in value_fits row.price_mode row.value ≡ true) → IsLimitedVoucher (voucher_row new draw id)
made_limited new draw id sixteen small fit fits = record {
  code = code_text new.code draw id sixteen small fit.code;
  uses = fit.uses;
  end = fit.end;
  value = value_limited new.price_mode new.value fits fit.value;
  tag = fit.tag;
  comment = fit.comment;
  budget = fit.budget;
}

-- that of a changed one
pub changed_limited : (patch : VoucherPatch) (old : Voucher) → IsFitVoucherPatch patch → IsLimitedVoucher old → (let row = patched_voucher patch old in value_fits row.price_mode row.value ≡ true) → IsLimitedVoucher (patched_voucher patch old)
changed_limited patch old fit limits fits = record {
  code = given_or IsText patch.code old.code fit.code limits.code;
  uses = given_or IsUses patch.max_usages old.max_usages fit.uses limits.uses;
  end = given_or (λ end. IfSome end IsMoment) patch.valid_until old.valid_until fit.end limits.end;
  value = value_limited (unwrap_or patch.price_mode old.price_mode) (unwrap_or patch.value old.value) fits (given_or (λ value. IfSome value IsMoney) patch.value old.value fit.value (money_if old.price_mode old.value limits.value));
  tag = given_or IsText patch.tag old.tag fit.tag limits.tag;
  comment = given_or IsText patch.comment old.comment fit.comment limits.comment;
  budget = given_or (λ budget. IfSome budget IsMoney) patch.budget old.budget fit.budget limits.budget;
}
