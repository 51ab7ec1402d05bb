-- The codes of vouchers that are made or changed are their own.
use Rattle.std.proofs.Common.{◌≡◌, ℕ, Bool, true, false, List, nat_eq, Option, Some, None, refl, sym, ap, ◌∙◌, subst}
use Rattle.std.specs.Prelude.{if◌then◌else◌, unwrap_or}
use Rattle.std.specs.List.{ends_with}
use Rattle.std.specs.Cmp.Lexicographic.{bytes_decides}
use Rattle.base_values.specs.Texts.{same_text}
use Rattle.base_values.specs.declared.draw.Draw.{Draw}
use Rattle.model_rows.specs.declared.rows.Voucher.{Voucher}
use Rattle.model_invariant.specs.OwnCodes.{code_ending, has_own_code}
use Rattle.model_invariant.specs.Reserved.{is_reserved}
use Rattle.model_invariant.proofs.OwnCodes.{own_other, own_ending}
use Rattle.model_invariant.proofs.MadeCodes.{made_ends}
use Rattle.decide_vouchers.specs.Codes.{code_of, is_reserved_if, new_code}

-- the code of a new voucher is its own
pub made_own : (given : Option (List ℕ)) (draw : Draw) (row : Voucher) → row.code ≡ code_of given draw row.id → is_reserved_if given ≡ false → has_own_code row ≡ true
made_own None draw row is h = own_ending row (subst (λ (text : List ℕ). ends_with nat_eq text (code_ending row.id) ≡ true) (sym is) (made_ends draw row.id))
made_own (Some given) draw row is h = own_other row (ap is_reserved is ∙ h)

-- and that of a changed one
module _ (old row : Voucher) (id : row.id ≡ old.id) (own : has_own_code old ≡ true) where
  kept_own : row.code ≡ old.code → has_own_code row ≡ true
  kept_own code = rw (id, code) own

  by_same : (given : List ℕ) (same : Bool) → same_text given old.code ≡ same → row.code ≡ given → is_reserved_if (if same then None else Some given) ≡ false → has_own_code row ≡ true
  by_same given true e is h = kept_own (is ∙ (bytes_decides given old.code).0 e)
  by_same given false e is h = own_other row (ap is_reserved is ∙ h)

  pub changed_own : (given : Option (List ℕ)) → row.code ≡ unwrap_or given old.code → is_reserved_if (new_code given old.code) ≡ false → has_own_code row ≡ true
  changed_own None is h = kept_own is
  changed_own (Some given) is h = by_same given (same_text given old.code) refl is h
