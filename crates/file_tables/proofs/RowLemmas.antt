-- Statements on rows, as the meaning of a commit says them.
use Rattle.std.proofs.Common.{◌≡◌, ℕ, ◌==◌, ◌||◌, Bool, true, false, cond, not, List, [], ◌∷◌, ◌++◌, map, filter, Option, Some, None, refl, sym, ap, subst, ◌∙◌}
use Rattle.std.specs.List.{list_any}
use Rattle.std.specs.Prelude.{option_to_list}
use Rattle.std.specs.List.Sorted.{IsPermutation}
use Rattle.std.proofs.lemmas.List.Sorted.{IsPermutation-refl, IsPermutation-sym, IsPermutation-trans, IsPermutation-cons, IsPermutation-map, IsPermutation-middle}
use Rattle.sqlite.specs.State.{State}
use Rattle.sqlite_trees.specs.Tree.{Trees}
use Rattle.base_tables.specs.Tables.{row_at, sum_at}
use Rattle.model_rows.specs.declared.rows.OrderPos.{OrderPos}
use Rattle.model_rows.specs.declared.rows.Voucher.{Voucher}
use Rattle.model_rows.specs.declared.count_rows.VoucherCount.{VoucherCount}
use Rattle.file_rows.specs.declared.rows.VoucherRow.{VoucherRow}
use Rattle.file_rows.specs.Rows.{voucher_row}
use Rattle.file_rows.specs.Tables.{Tables, Holds}
use Rattle.file_rows.specs.Changes.{Changes, ChangesFit, head_of_voucher, with_position, without_position, with_budget, without_budget, without_spent, with_discount, without_discount}
use Rattle.file_writes.specs.Removed.{AreApart}
use Rattle.file_writes.specs.Vouchers as rows
use Rattle.file_meaning.proofs.Carried.{set_one}
use Rattle.file_meaning.specs.Free.{AreApart as AreApartNumbers}
use Rattle.file_meaning.specs.Made.{put_budget, put_voucher, drop_voucher, set_redeemed, has_position, put_discount, put_position}
use Rattle.file_meaning.specs.Rows.{Redeemed, discounts_of}
use Rattle.file_meaning.specs.RowsAfter.{redeemed_of, redeemed_by}
use Rattle.file_tables.proofs.Steps.{changes_as, fits_all, fits_as, then_fits}

-- ---- numbers of rows

same_named : {A : Type 0} (number : A → ℕ) (n : ℕ) (xs : List A) → list_any (λ m. n == m) (map number xs) ≡ list_any (λ y. n == number y) xs
same_named number n [] = refl
same_named number n (x ∷ xs) = ap (λ b. (n == number x) || b) (same_named number n xs)

-- rows whose numbers differ are told from one another
pub apart : {A : Type 0} (number : A → ℕ) (xs : List A) → AreApartNumbers (map number xs) → AreApart number xs
apart number [] h = tt
apart number (x ∷ xs) h = (sym (same_named number (number x) xs) ∙ h.0, apart number xs h.1)

-- ---- vouchers

same_redeemed : (id : ℕ) (xs : List VoucherRow) → rows.redeemed_of id xs ≡ redeemed_of id (map (λ (r : VoucherRow). record { voucher = r.voucher.id; redeemed = r.redeemed }) xs)
same_redeemed id [] = refl
same_redeemed id (r ∷ xs) = elim (r.voucher.id == id) as (λ b. sum_at (λ (r : VoucherRow). r.redeemed) (cond b (Some r) (row_at (λ (r : VoucherRow). r.voucher.id) id xs))
    ≡ redeemed_by (cond b (Some (record { voucher = r.voucher.id; redeemed = r.redeemed })) (row_at (λ (c : Redeemed). c.voucher) id (map (λ (r : VoucherRow). record { voucher = r.voucher.id; redeemed = r.redeemed }) xs)))) [
      | true ↦ refl
      | false ↦ same_redeemed id xs
    ]

-- the voucher that is put keeps the count that stood
pub voucher_put : (w : Voucher) (t : Tables) → rows.put_voucher w t ≡ put_voucher w t
voucher_put w t = ap (λ n. record t { vouchers = record { voucher = head_of_voucher w; redeemed = n } ∷ rows.without_id w.id t.vouchers }) (same_redeemed w.id t.vouchers)

abbrev redeemed_so : VoucherCount → VoucherRow → VoucherRow
redeemed_so c r = record { voucher = r.voucher; redeemed = c.redeemed }

-- the row of the count first, and then the others, or each in its place
set_somewhere : (c : VoucherCount) (xs : List VoucherRow) → IsPermutation (map (set_one c) xs) (map (redeemed_so c) (filter (λ (r : VoucherRow). r.voucher.id == c.voucher) xs) ++ rows.without_id c.voucher xs)
set_somewhere c [] = IsPermutation-refl _
set_somewhere c (r ∷ xs) =
    let others = rows.without_id c.voucher xs in
    let own = map (redeemed_so c) (filter (λ (r : VoucherRow). r.voucher.id == c.voucher) xs) in
    elim (r.voucher.id == c.voucher) as (λ b. IsPermutation (cond b (redeemed_so c r) r ∷ map (set_one c) xs)
    (map (redeemed_so c) (cond b (r ∷ filter (λ (r : VoucherRow). r.voucher.id == c.voucher) xs) (filter (λ (r : VoucherRow). r.voucher.id == c.voucher) xs)) ++ cond (not b) (r ∷ others) others)) [
      | true ↦ IsPermutation-cons (redeemed_so c r) (map (set_one c) xs) (own ++ others) (set_somewhere c xs)
      | false ↦ IsPermutation-trans (r ∷ map (set_one c) xs) (r ∷ (own ++ others)) (own ++ r ∷ others) (IsPermutation-cons r (map (set_one c) xs) (own ++ others) (set_somewhere c xs)) (IsPermutation-sym (own ++ r ∷ others) (r ∷ (own ++ others)) (IsPermutation-middle own r others))
    ]

-- the same vouchers in another order are held too
vouchers_along : (db : Trees) (t : Tables) (xs : List VoucherRow) → IsPermutation xs t.vouchers → Holds db t → Holds db (record t { vouchers = xs })
vouchers_along db t xs same h =
    let here = h.1.1.1.1.1.1 in
    (h.0, (h.1.0, (h.1.1.0, (h.1.1.1.0, (h.1.1.1.1.0, (h.1.1.1.1.1.0, (IsPermutation-trans (map voucher_row xs) (map voucher_row t.vouchers) _ (IsPermutation-map voucher_row xs t.vouchers same) here.0, here.1)))))))

-- a count that is set
pub redeemed_set : (Fits : Tables → Type 0) (c : VoucherCount) (old new : State) → Changes (rows.set_redeemed c) old new → ChangesFit Fits (set_redeemed c) old new
redeemed_set Fits c old new h = record {
  known = h.known;
  inside = h.inside;
  committed = h.committed;
  listed = h.listed;
  holds = λ t fits held. vouchers_along new.now.trees (rows.set_redeemed c t) (map (set_one c) t.vouchers) (set_somewhere c t.vouchers) (h.holds t held);
}

-- ---- budgets

abbrev budget_so : Voucher → Option ℕ → Tables → Tables
budget_so w o t = record t { budgets = map (λ n. record { voucher_id = w.id; budget = n }) (option_to_list o) ++ filter (λ r. not (r.voucher_id == w.id)) t.budgets }

pub budget_put : (w : Voucher) (budget : ℕ) (old new : State) → w.budget ≡ Some budget → Changes (λ t. with_budget (record { voucher_id = w.id; budget = budget }) (without_budget w.id t)) old new → Changes (put_budget w) old new
budget_put w budget old new is h = changes_as (budget_so w (Some budget)) (put_budget w) old new (λ t. ap (λ o. budget_so w o t) (sym is)) h

pub budget_gone : (w : Voucher) (old new : State) → w.budget ≡ None → Changes (without_budget w.id) old new → Changes (put_budget w) old new
budget_gone w old new is h = changes_as (budget_so w None) (put_budget w) old new (λ t. ap (λ o. budget_so w o t) (sym is)) h

pub with_budget_put : (Fits : Tables → Type 0) (w : Voucher) (old mid new : State) → Changes (rows.put_voucher w) old mid → Changes (put_budget w) mid new → ChangesFit Fits (λ t. put_budget w (put_voucher w t)) old new
with_budget_put Fits w old mid new a b =
    then_fits Fits (λ _. Unit {0}) (put_voucher w) (put_budget w) old mid new (λ t fits. tt) (fits_as Fits (rows.put_voucher w) (put_voucher w) old mid (voucher_put w) (fits_all Fits (rows.put_voucher w) old mid a)) (fits_all (λ _. Unit {0}) (put_budget w) mid new b)

-- a voucher goes behind its rows in other tables
pub voucher_dropped : (Fits : Tables → Type 0) (id : ℕ) (s0 s1 s2 s3 : State) → Changes (without_budget id) s0 s1 → Changes (without_spent id) s1 s2 → Changes (rows.without_voucher id) s2 s3 → ChangesFit Fits (drop_voucher id) s0 s3
voucher_dropped Fits id s0 s1 s2 s3 a b c = record {
  known = c.known;
  inside = c.inside;
  committed = c.committed ∙ b.committed ∙ a.committed;
  listed = λ l. c.listed (b.listed (a.listed l));
  holds = λ t fits held. c.holds (without_spent id (without_budget id t)) (b.holds (without_budget id t) (a.holds t held));
}

-- ---- discounts

abbrev pub dropped_if : Bool → ℕ → Tables → Tables
dropped_if stood id t = cond stood (without_discount id t) t

abbrev pub added : OrderPos → Tables → Tables
added w t = record t { discounts = map (λ n. record { position_id = w.id; discount = n }) (discounts_of w) ++ t.discounts }

abbrev discount_so : OrderPos → Bool → Tables → Tables
discount_so w b t = record t { discounts = map (λ n. record { position_id = w.id; discount = n }) (cond b [] (w.discount ∷ [])) ++ t.discounts }

pub discount_added : (w : OrderPos) (old new : State) → (w.discount == 0) ≡ false → Changes (with_discount (record { position_id = w.id; discount = w.discount })) old new → Changes (added w) old new
discount_added w old new is h = changes_as (discount_so w false) (added w) old new (λ t. ap (λ b. discount_so w b t) (sym is)) h

pub discount_dropped : (id : ℕ) (stood : Bool) (old new : State) → stood ≡ true → Changes (without_discount id) old new → Changes (dropped_if stood id) old new
discount_dropped id stood old new is h = changes_as (dropped_if true id) (dropped_if stood id) old new (λ t. ap (λ b. dropped_if b id t) (sym is)) h

same_discount : (w : OrderPos) (stood : Bool) (t : Tables) → added w (dropped_if stood w.id t) ≡ put_discount stood w t
same_discount w true t = refl
same_discount w false t = refl

pub position_put : (Fits : Tables → Type 0) (w : OrderPos) (stood : Bool) (s0 s1 s2 s3 : State) → Changes (λ t. with_position w (without_position w.id t)) s0 s1 → ((t : Tables) → Holds s0.now.trees t → stood ≡ has_position w.id t)
    → Changes (dropped_if stood w.id) s1 s2 → Changes (added w) s2 s3 → ChangesFit Fits (put_position w) s0 s3
position_put Fits w stood s0 s1 s2 s3 a told b c = record {
  known = c.known;
  inside = c.inside;
  committed = c.committed ∙ b.committed ∙ a.committed;
  listed = λ l. c.listed (b.listed (a.listed l));
  holds = λ t fits held.
      let t1 = with_position w (without_position w.id t) in
      let h3 : Holds s3.now.trees (added w (dropped_if stood w.id t1)) = c.holds (dropped_if stood w.id t1) (b.holds t1 (a.holds t held)) in
      subst (λ b. Holds s3.now.trees (put_discount b w t1)) (told t held) (subst (Holds s3.now.trees) (same_discount w stood t1) h3);
}
