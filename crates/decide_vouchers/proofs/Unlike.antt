-- Where codes are unlike, the voucher of a code is the only one with it.
use Rattle.std.proofs.Common.{◌≡◌, ℕ, Bool, true, false, ◌&&◌, not, eqb, cond, List, [], ◌∷◌, Some, refl, ◌∙◌, subst}
use Rattle.std.specs.Prelude.{◌||◌, find}
use Rattle.std.specs.List.{list_any, AllByRecursion}
use Rattle.std.specs.Cmp.Lexicographic.{bytes_decides}
use Rattle.base_values.specs.Texts.{same_text}
use Rattle.model_rows.specs.declared.rows.Voucher.{Voucher}
use Rattle.model_rows.specs.Named.{AreUnlike}
use Rattle.model_invariant.proofs.Codes.{same_text_flip}
use Rattle.decide_vouchers.specs.Codes.{is_another}

module _ (row : Voucher) where
  abbrev has_code : Voucher → Bool
  has_code v = same_text v.code row.code

  abbrev shares : Voucher → Bool
  shares v = has_code v && not (eqb v.id row.id)

  differs : (same other : Bool) (more : Bool) → same ≡ false → more ≡ false → ((same && other) || more) ≡ false
  differs false other more e h = h
  differs true other more e h = absurd (cc)

  is_own : (same other : Bool) (more : Bool) → other ≡ false → more ≡ false → ((same && other) || more) ≡ false
  is_own same true more e h = absurd (cc)
  is_own true false more e h = h
  is_own false false more e h = h

  -- the others have other codes than a voucher with this one's
  others : (code : List ℕ) (vs : List Voucher) → code ≡ row.code → AllByRecursion (λ w. same_text code w.code ≡ false) vs → list_any shares vs ≡ false
  others code [] e h = refl
  others code (v ∷ vs) e h = differs (has_code v) (not (eqb v.id row.id)) (list_any shares vs) (same_text_flip v.code row.code ∙ subst (λ (c : List ℕ). same_text c v.code ≡ false) e h.0) (others code vs e h.1)

  pub alone : (vs : List Voucher) → AreUnlike vs → is_another row.id (find has_code vs) ≡ false → list_any shares vs ≡ false
  alone [] u h = refl
  alone (v ∷ vs) u h = by_code (has_code v) refl h (alone vs u.1)
    where
      by_code : (b : Bool) → has_code v ≡ b → is_another row.id (cond b (Some v) (find has_code vs)) ≡ false → (is_another row.id (find has_code vs) ≡ false → list_any shares vs ≡ false) → ((has_code v && not (eqb v.id row.id)) || list_any shares vs) ≡ false
      by_code true is h more = is_own (has_code v) (not (eqb v.id row.id)) (list_any shares vs) h (others v.code vs ((bytes_decides v.code row.code).0 is) u.0)
      by_code false is h more = differs (has_code v) (not (eqb v.id row.id)) (list_any shares vs) is (more h)
