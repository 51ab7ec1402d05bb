-- What keeps that the vouchers of waiting entries stand.
use Rattle.std.proofs.Common.{◌≡◌, ℕ, true, false, eqb, cond, List, Option, Some, None, refl, ap, ◌∙◌}
use Rattle.std.specs.Prelude.{is_some}
use Rattle.std.specs.List.{AllByRecursion}
use Rattle.base_tables.specs.Tables.{row_at, with_row, without_row}
use Rattle.base_tables.proofs.Edits.{row_at-without_row}
use Rattle.model_rows.specs.declared.rows.Voucher.{Voucher}
use Rattle.model_rows.specs.declared.rows.Waiting.{Waiting}
use Rattle.model_rows.specs.Conditions.{names}
use Rattle.model_rows.specs.Lists.{Lists}
use Rattle.model_rows.specs.Named.{is_used, is_ordered, is_in_cart, is_sent}
use Rattle.model_invariant.specs.Sent.{voucher_stands}
use Rattle.model_rows.proofs.Time.{eqb_flip}
use Rattle.model_rows.proofs.EachRow.{all_weaker, all_unless, neither_second}
use Rattle.model_invariant.proofs.Stays.{passes_still}

voucher_still : (row : Voucher) (vouchers : List Voucher) (name : Option ℕ) → voucher_stands vouchers name ≡ true → voucher_stands (with_row (λ r. r.id) row vouchers) name ≡ true
voucher_still row vouchers None h = h
voucher_still row vouchers (Some id) h = passes_still (λ (r : Voucher). r.id) is_some row vouchers (λ stood. refl) id h

-- a voucher is put
pub sent_put : (row : Voucher) (vouchers : List Voucher) (rows : List Waiting) → AllByRecursion (λ w. voucher_stands vouchers w.voucher ≡ true) rows → AllByRecursion (λ w. voucher_stands (with_row (λ r. r.id) row vouchers) w.voucher ≡ true) rows
sent_put row vouchers rows h = all_weaker (λ w. voucher_stands vouchers w.voucher ≡ true) (λ w. voucher_stands (with_row (λ r. r.id) row vouchers) w.voucher ≡ true) (λ w e. voucher_still row vouchers w.voucher e) rows h

other_still : (gone : ℕ) (vouchers : List Voucher) (name : Option ℕ) → names gone name ≡ false → voucher_stands vouchers name ≡ true → voucher_stands (without_row (λ r. r.id) gone vouchers) name ≡ true
other_still gone vouchers None n h = h
other_still gone vouchers (Some id) n h =
    let other : eqb gone id ≡ false = eqb_flip gone id ∙ n in
    ap (λ (found : Option Voucher). is_some found) (row_at-without_row (λ r. r.id) id gone vouchers ∙ ap (λ b. cond b None (row_at (λ r. r.id) id vouchers)) other) ∙ h

-- one that nothing names goes
pub sent_drop : (id : ℕ) (lists : Lists) → is_used id lists ≡ false → AllByRecursion (λ w. voucher_stands lists.vouchers w.voucher ≡ true) lists.waiting → AllByRecursion (λ w. voucher_stands (without_row (λ r. r.id) id lists.vouchers) w.voucher ≡ true) lists.waiting
sent_drop id lists unused h = all_unless (λ w. names id w.voucher) (λ w. voucher_stands lists.vouchers w.voucher ≡ true) (λ w. voucher_stands (without_row (λ r. r.id) id lists.vouchers) w.voucher ≡ true) (λ w n e. other_still id lists.vouchers w.voucher n e) lists.waiting (neither_second (is_in_cart id lists) (is_sent id lists) (neither_second (is_ordered id lists) _ unused)) h
