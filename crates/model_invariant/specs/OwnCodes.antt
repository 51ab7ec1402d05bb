-- The codes of vouchers that the shop made.
use Rattle.std.specs.Prelude.{◌≡◌, ℕ, Bool, true, not, ◌||◌, List, ◌++◌, nat_eq, codes}
use Rattle.std.specs.List.{AllByRecursion, ends_with}
use Rattle.std.specs.Fmt.{decimal}
use Rattle.model_rows.specs.declared.rows.Voucher.{Voucher}
use Rattle.model_rows.specs.Named.{AreUnlike}
use Rattle.model_invariant.specs.Reserved.{is_reserved}

-- `z` and the voucher's id in decimals
abbrev pub code_ending : ℕ → List ℕ
code_ending id = codes "z" ++ decimal id

-- a code of the form that the shop makes ends in `z` and its own voucher's id, as the shop makes them; any other code is fine
abbrev pub has_own_code : Voucher → Bool
has_own_code voucher = not (is_reserved voucher.code) || ends_with nat_eq voucher.code (code_ending voucher.id)

-- the codes of vouchers
pub record HaveCodes (vouchers : List Voucher) : Type 0 where
  -- a code tells which voucher it is
  pub unlike : AreUnlike vouchers
  -- a code of the form that the shop makes ends in its own voucher's id
  pub own : AllByRecursion (λ v. has_own_code v ≡ true) vouchers
