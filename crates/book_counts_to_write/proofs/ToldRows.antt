-- When an office has a count.
use Rattle.std.proofs.Common.{◌≡◌, ℕ, Bool, false, ◌&&◌, eqb, Option, Some, None, sym, ap, ap₂, ◌∙◌}
use Rattle.std.specs.List.{list_any}
use Rattle.base_tables.specs.Tables.{AreInOrder}
use Rattle.model_catalogue.specs.declared.rows.Quota.{Quota}
use Rattle.model_catalogue.specs.CatalogueLists.{CatalogueLists, quota_at}
use Rattle.model_rows.specs.declared.rows.Usage.{Usage}
use Rattle.model_rows.specs.declared.rows.Voucher.{Voucher}
use Rattle.model_rows.specs.declared.count_rows.QuotaCount.{QuotaCount}
use Rattle.model_rows.specs.declared.count_rows.VoucherCount.{VoucherCount}
use Rattle.model_rows.specs.CountRows.{same_usage, quota_count, quota_counts, voucher_count, same_voucher_count}
use Rattle.model_rows.specs.Lists.{State, voucher_at}
use Rattle.model_rows.specs.Usage.{usage_of, redeemed, spent}
use Rattle.model_rows.proofs.EachRow.{key-row_at}
use Rattle.book_counts_to_write.specs.Told.{has_count, has_exits, has_voucher}
use Rattle.book_counts_to_write.proofs.Picked.{passes_if, one_passes, any_mapped}

-- an office has a count of this quota that passes, where it has the quota, and what uses that passes
module _ (test : Usage → Usage → Bool) (state : State) (count : QuotaCount) (cat : CatalogueLists) (same : cat ≡ state.lists.catalogue) (order : AreInOrder (λ q. q.id) cat.quotas) where
  counted_is : (o : Option Quota) → quota_at count.quota cat ≡ o → list_any (λ c. eqb count.quota c.quota && test count.usage c.usage) (quota_counts state) ≡ passes_if (λ q. test count.usage (usage_of state.lists state.moment q)) o
  counted_is o found =
      any_mapped (λ c. eqb count.quota c.quota && test count.usage c.usage) (quota_count state) state.lists.catalogue.quotas
      ∙ ap (λ (l : CatalogueLists). list_any_in l) (sym same)
      ∙ one_passes (λ (q : Quota). q.id) (λ q. test count.usage (usage_of state.lists state.moment q)) count.quota 0 cat.quotas order
      ∙ ap (passes_if (λ q. test count.usage (usage_of state.lists state.moment q))) found
    where
      list_any_in : CatalogueLists → Bool
      list_any_in l = list_any (λ (q : Quota). eqb count.quota q.id && test count.usage (usage_of state.lists state.moment q)) l.quotas

  passes_none : quota_at count.quota cat ≡ None → false ≡ list_any (λ c. eqb count.quota c.quota && test count.usage c.usage) (quota_counts state)
  passes_none found = sym (counted_is None found)

  passes_some : (q : Quota) (at : ℕ) (usage : Usage) (b : Bool) → quota_at count.quota cat ≡ Some q → at ≡ state.moment → usage ≡ usage_of state.lists at q → b ≡ test count.usage usage → b ≡ list_any (λ c. eqb count.quota c.quota && test count.usage c.usage) (quota_counts state)
  passes_some q at usage b found now used is = is ∙ ap (test count.usage) (used ∙ ap (λ n. usage_of state.lists n q) now) ∙ sym (counted_is (Some q) found)

abbrev as_many_out : Usage → Usage → Bool
as_many_out a b = eqb a.exited b.exited

module _ (state : State) (count : QuotaCount) (cat : CatalogueLists) (same : cat ≡ state.lists.catalogue) (order : AreInOrder (λ q. q.id) cat.quotas) where
  pub had_none : quota_at count.quota cat ≡ None → false ≡ has_count state count
  had_none = passes_none same_usage state count cat same order

  pub had_some : (q : Quota) (at : ℕ) (usage : Usage) (b : Bool) → quota_at count.quota cat ≡ Some q → at ≡ state.moment → usage ≡ usage_of state.lists at q → b ≡ same_usage count.usage usage → b ≡ has_count state count
  had_some = passes_some same_usage state count cat same order

  pub no_exits : quota_at count.quota cat ≡ None → false ≡ has_exits state count
  no_exits = passes_none as_many_out state count cat same order

  pub some_exits : (q : Quota) (at : ℕ) (usage : Usage) (b : Bool) → quota_at count.quota cat ≡ Some q → at ≡ state.moment → usage ≡ usage_of state.lists at q → b ≡ as_many_out count.usage usage → b ≡ has_exits state count
  some_exits = passes_some as_many_out state count cat same order

-- and a count of a voucher, where the voucher of that id stands, is redeemed so often, and so much is spent of it
module _ (state : State) (count : VoucherCount) (order : AreInOrder (λ v. v.id) state.lists.vouchers) where
  abbrev has : ℕ → Bool
  has id = eqb count.redeemed (redeemed id state.lists) && eqb count.spent (spent id state.lists)

  voucher_is : (o : Option Voucher) → voucher_at count.voucher state.lists ≡ o → has_voucher state count ≡ passes_if (λ v. has v.id) o
  voucher_is o found =
      any_mapped (same_voucher_count count) (voucher_count state) state.lists.vouchers
      ∙ one_passes (λ (v : Voucher). v.id) (λ v. has v.id) count.voucher 0 state.lists.vouchers order
      ∙ ap (passes_if (λ v. has v.id)) found

  pub no_voucher : voucher_at count.voucher state.lists ≡ None → false ≡ has_voucher state count
  no_voucher found = sym (voucher_is None found)

  pub some_voucher : (v : Voucher) (n cents : ℕ) (b : Bool) → voucher_at count.voucher state.lists ≡ Some v → n ≡ redeemed count.voucher state.lists → cents ≡ spent count.voucher state.lists → b ≡ (eqb count.redeemed n && eqb count.spent cents) → b ≡ has_voucher state count
  some_voucher v n cents b found used given is =
      is
      ∙ ap₂ (λ (k m : ℕ). eqb count.redeemed k && eqb count.spent m) used given
      ∙ ap has (sym (key-row_at (λ (r : Voucher). r.id) count.voucher state.lists.vouchers v found))
      ∙ sym (voucher_is (Some v) found)
