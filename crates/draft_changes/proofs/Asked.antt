-- What is known of the book's usage, with one answer more.
use Rattle.std.proofs.Common.{◌≡◌, ◌≢◌, ℕ, Bool, true, false, eqb, List, Some, ◌⊎◌, inl, inr, sym, ap, ◌∙◌, subst, arith}
use Rattle.std.specs.Prelude.{if◌then◌else◌}
use Rattle.std.proofs.lemmas.Bool.Decides.{eqb_tells}
use Rattle.base_tables.specs.Tables.{row_at, with_row}
use Rattle.base_tables.proofs.Edits.{row_at-with_row}
use Rattle.base_tables.proofs.Places.{with_row_in_order}
use Rattle.model_rows.specs.Lists.{Lists}
use Rattle.draft_changes.specs.declared.bases.Base.{Base}
use Rattle.draft_changes.specs.Used.{IsBase, AreBases}

pub known_more : (lists : Lists) (at : ℕ) (bases : List Base) (new : Base) → IsBase lists at lists.catalogue.quotas new.place new → AreBases lists at bases → AreBases lists at (with_row (λ b. b.place) new bases)
known_more lists at bases new is known = record {
  in_order = with_row_in_order (λ (b : Base). b.place) 0 new bases (omega arith) known.in_order;
  are = λ place base found. by_key place base (eqb_tells new.place place) (sym (row_at-with_row (λ b. b.place) place new bases) ∙ found);
}
  where
    by_key : (place : ℕ) (base : Base) → ((eqb new.place place ≡ true) × (new.place ≡ place)) ⊎ ((eqb new.place place ≡ false) × (new.place ≢ place)) → (if eqb new.place place then Some new else row_at (λ b. b.place) place bases) ≡ Some base → IsBase lists at lists.catalogue.quotas place base
    by_key place base (inl e) here =
        let some : Some new ≡ Some base = sym (ap (λ (b : Bool). if b then Some new else row_at (λ b. b.place) place bases) e.0) ∙ here in
        let same : new ≡ base = cc some in
        subst (λ (b : Base). IsBase lists at lists.catalogue.quotas place b) same (subst (λ (p : ℕ). IsBase lists at lists.catalogue.quotas p new) e.1 is)
    by_key place base (inr e) here = known.are place base (sym (ap (λ (b : Bool). if b then Some new else row_at (λ b. b.place) place bases) e.0) ∙ here)
