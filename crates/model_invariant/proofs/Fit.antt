-- What keeps each named voucher one that stands and is for the row's product.
use Rattle.std.proofs.Common.{◌≡◌, ℕ, ◌≢◌, ◌⊎◌, inl, inr, true, false, eqb, cond, List, Option, Some, None, refl, sym, ap, ◌∙◌, subst}
use Rattle.std.specs.List.{AllByRecursion}
use Rattle.std.proofs.lemmas.Bool.Decides.{eqb_tells}
use Rattle.base_tables.specs.Tables.{row_at}
use Rattle.base_tables.proofs.Edits.{row_at-with_row, row_at-without_row}
use Rattle.model_catalogue.specs.declared.rows.Product.{Product}
use Rattle.model_catalogue.specs.declared.rows.Quota.{Quota}
use Rattle.model_catalogue.specs.CatalogueLists.{CatalogueLists, quota_at}
use Rattle.model_catalogue.specs.Member.{is_in}
use Rattle.model_rows.specs.declared.rows.CartPos.{CartPos}
use Rattle.model_rows.specs.declared.rows.OrderPos.{OrderPos}
use Rattle.model_rows.specs.declared.rows.Voucher.{Voucher}
use Rattle.model_rows.specs.declared.changes.Change.TheVariants.{PutQuota, PutVoucher, PutCart, DropVoucher, DropCart}
use Rattle.model_rows.specs.Conditions.{names}
use Rattle.model_rows.specs.Lists.{Lists, voucher_at}
use Rattle.model_rows.specs.Change.{after_change}
use Rattle.model_rows.specs.Fits.{fits_quota, fits_by, fits, fits_if, is_fit, AllFit}
use Rattle.model_rows.specs.Named.{is_used, is_ordered, is_in_cart, is_sent}
use Rattle.model_rows.proofs.Time.{eqb_flip}
use Rattle.model_rows.proofs.EachRow.{all_weaker, all_unless, all-with_row, all-without_row, neither_first, neither_second}

-- what fits in one box office fits in the other
module _ (a b : Lists) where
  pub carts_stay : ((product : Product) (name : Option ℕ) → is_fit a product name ≡ true → is_fit b product name ≡ true) → (rows : List CartPos) → AllByRecursion (λ c. is_fit a c.product c.voucher ≡ true) rows → AllByRecursion (λ c. is_fit b c.product c.voucher ≡ true) rows
  carts_stay stays rows h = all_weaker (λ c. is_fit a c.product c.voucher ≡ true) (λ c. is_fit b c.product c.voucher ≡ true) (λ c e. stays c.product c.voucher e) rows h

  pub positions_stay : ((product : Product) (name : Option ℕ) → is_fit a product name ≡ true → is_fit b product name ≡ true) → (rows : List OrderPos) → AllByRecursion (λ p. is_fit a p.product p.voucher ≡ true) rows → AllByRecursion (λ p. is_fit b p.product p.voucher ≡ true) rows
  positions_stay stays rows h = all_weaker (λ p. is_fit a p.product p.voucher ≡ true) (λ p. is_fit b p.product p.voucher ≡ true) (λ p e. stays p.product p.voucher e) rows h

-- by the quotas alone
module _ (a b : CatalogueLists) (product : Product) where
  fits_by_quotas : ((id : ℕ) → fits_quota (quota_at id a) product ≡ true → fits_quota (quota_at id b) product ≡ true) → (voucher : Voucher) (quota : Option ℕ) → fits_by a voucher product quota ≡ true → fits_by b voucher product quota ≡ true
  fits_by_quotas stays voucher None h = h
  fits_by_quotas stays voucher (Some id) h = stays id h

  fits_if_quotas : ((id : ℕ) → fits_quota (quota_at id a) product ≡ true → fits_quota (quota_at id b) product ≡ true) → (found : Option Voucher) → fits_if a product found ≡ true → fits_if b product found ≡ true
  fits_if_quotas stays None h = h
  fits_if_quotas stays (Some voucher) h = fits_by_quotas stays voucher voucher.quota h

-- the same vouchers and quotas
pub fit_same : (a b : Lists) → a.catalogue.quotas ≡ b.catalogue.quotas → a.vouchers ≡ b.vouchers → (product : Product) (name : Option ℕ) → is_fit a product name ≡ true → is_fit b product name ≡ true
fit_same a b q v product None h = refl
fit_same a b q v product (Some id) h =
    fits_if_quotas a.catalogue b.catalogue product
    (λ id e. subst (λ (rows : List Quota). fits_quota (row_at (λ r. r.id) id rows) product ≡ true) q e)
    (voucher_at id b)
    (subst (λ (rows : List Voucher). fits_if a.catalogue product (row_at (λ r. r.id) id rows) ≡ true) v h)

-- a quota that has what the one in its place had
pub fit_quota : (lists : Lists) (row : Quota) → ((product : Product) → fits_quota (quota_at row.id lists.catalogue) product ≡ true → is_in row product ≡ true) → (product : Product) (name : Option ℕ) → is_fit lists product name ≡ true → is_fit (after_change (PutQuota row) lists) product name ≡ true
fit_quota lists row has product None h = refl
fit_quota lists row has product (Some id) h = fits_if_quotas lists.catalogue (after_change (PutQuota row) lists).catalogue product stays (voucher_at id lists) h
  where
    by_id : (id : ℕ) → ((eqb row.id id ≡ true) × (row.id ≡ id)) ⊎ ((eqb row.id id ≡ false) × (row.id ≢ id)) → fits_quota (quota_at id lists.catalogue) product ≡ true → fits_quota (cond (eqb row.id id) (Some row) (quota_at id lists.catalogue)) product ≡ true
    by_id id (inl same) e = rw same.0 (has product (subst (λ (n : ℕ). fits_quota (quota_at n lists.catalogue) product ≡ true) (sym same.1) e))
    by_id id (inr other) e = rw other.0 e

    stays : (id : ℕ) → fits_quota (quota_at id lists.catalogue) product ≡ true → fits_quota (quota_at id (after_change (PutQuota row) lists).catalogue) product ≡ true
    stays id e = ap (λ (found : Option Quota). fits_quota found product) (row_at-with_row (λ r. r.id) id row lists.catalogue.quotas) ∙ by_id id (eqb_tells row.id id) e

-- a voucher that is for what the one in its place was for
pub fit_voucher : (lists : Lists) (row : Voucher) → ((product : Product) → fits_if lists.catalogue product (voucher_at row.id lists) ≡ true → fits lists.catalogue row product ≡ true) → (product : Product) (name : Option ℕ) → is_fit lists product name ≡ true → is_fit (after_change (PutVoucher row) lists) product name ≡ true
fit_voucher lists row has product None h = refl
fit_voucher lists row has product (Some id) h = ap (fits_if lists.catalogue product) (row_at-with_row (λ r. r.id) id row lists.vouchers) ∙ by_id (eqb_tells row.id id)
  where
    by_id : ((eqb row.id id ≡ true) × (row.id ≡ id)) ⊎ ((eqb row.id id ≡ false) × (row.id ≢ id)) → fits_if lists.catalogue product (cond (eqb row.id id) (Some row) (voucher_at id lists)) ≡ true
    by_id (inl same) = rw same.0 (has product (subst (λ (n : ℕ). fits_if lists.catalogue product (voucher_at n lists) ≡ true) (sym same.1) h))
    by_id (inr other) = rw other.0 h

-- a row that doesn't name the voucher that is put or goes
pub fit_put_other : (lists : Lists) (row : Voucher) (product : Product) (name : Option ℕ) → names row.id name ≡ false → is_fit lists product name ≡ true → is_fit (after_change (PutVoucher row) lists) product name ≡ true
fit_put_other lists row product None n h = refl
fit_put_other lists row product (Some id) n h =
    let other : eqb row.id id ≡ false = eqb_flip row.id id ∙ n in
    ap (fits_if lists.catalogue product) (row_at-with_row (λ r. r.id) id row lists.vouchers ∙ ap (λ b. cond b (Some row) (voucher_at id lists)) other) ∙ h

pub fit_drop_other : (lists : Lists) (gone : ℕ) (product : Product) (name : Option ℕ) → names gone name ≡ false → is_fit lists product name ≡ true → is_fit (after_change (DropVoucher gone) lists) product name ≡ true
fit_drop_other lists gone product None n h = refl
fit_drop_other lists gone product (Some id) n h =
    let other : eqb gone id ≡ false = eqb_flip gone id ∙ n in
    ap (fits_if lists.catalogue product) (row_at-without_row (λ r. r.id) id gone lists.vouchers ∙ ap (λ b. cond b None (voucher_at id lists)) other) ∙ h

-- no row names it
module _ (id : ℕ) (a b : Lists) (unused : is_used id a ≡ false) (stays : (product : Product) (name : Option ℕ) → names id name ≡ false → is_fit a product name ≡ true → is_fit b product name ≡ true) where
  pub carts_unless : AllByRecursion (λ c. is_fit a c.product c.voucher ≡ true) a.carts → AllByRecursion (λ c. is_fit b c.product c.voucher ≡ true) a.carts
  carts_unless h = all_unless (λ c. names id c.voucher) (λ c. is_fit a c.product c.voucher ≡ true) (λ c. is_fit b c.product c.voucher ≡ true) (λ c n e. stays c.product c.voucher n e) a.carts (neither_first (is_in_cart id a) (is_sent id a) (neither_second (is_ordered id a) _ unused)) h

  pub positions_unless : AllByRecursion (λ p. is_fit a p.product p.voucher ≡ true) a.positions → AllByRecursion (λ p. is_fit b p.product p.voucher ≡ true) a.positions
  positions_unless h = all_unless (λ p. names id p.voucher) (λ p. is_fit a p.product p.voucher ≡ true) (λ p. is_fit b p.product p.voucher ≡ true) (λ p n e. stays p.product p.voucher n e) a.positions (neither_first (is_ordered id a) _ unused) h

-- a new cart position that is fit
pub all_fit_cart : (lists : Lists) (row : CartPos) → is_fit lists row.product row.voucher ≡ true → AllFit lists → AllFit (after_change (PutCart row) lists)
all_fit_cart lists row e h =
    let stays = fit_same lists (after_change (PutCart row) lists) refl refl in
    record {
      carts = all-with_row (λ r. r.id) (λ c. is_fit (after_change (PutCart row) lists) c.product c.voucher ≡ true) row lists.carts (stays row.product row.voucher e) (carts_stay lists (after_change (PutCart row) lists) stays lists.carts h.carts);
      positions = positions_stay lists (after_change (PutCart row) lists) stays lists.positions h.positions;
    }

pub all_fit_drop_cart : (lists : Lists) (id : ℕ) → AllFit lists → AllFit (after_change (DropCart id) lists)
all_fit_drop_cart lists id h =
    let stays = fit_same lists (after_change (DropCart id) lists) refl refl in
    record {
      carts = all-without_row (λ r. r.id) (λ c. is_fit (after_change (DropCart id) lists) c.product c.voucher ≡ true) id lists.carts (carts_stay lists (after_change (DropCart id) lists) stays lists.carts h.carts);
      positions = positions_stay lists (after_change (DropCart id) lists) stays lists.positions h.positions;
    }
