-- Where no voucher that is redeemed is dropped, one that is put where none stands is a new one.
use Rattle.std.proofs.Common.{◌≡◌, ℕ, ◌==◌, true, false, cond, List, [], ◌∷◌, Option, Some, None, refl, sym, ap, subst, ◌∙◌}
use Rattle.std.specs.List.{list_all}
use Rattle.std.proofs.lemmas.Bool.{and_parts, eqb-true}
use Rattle.base_tables.proofs.Edits.{row_at-with_row, row_at-without_row}
use Rattle.model_rows.specs.declared.changes.Change.{Change}
use Rattle.model_rows.specs.declared.changes.Change.TheVariants.{PutItem, PutVariation, PutQuota, PutVoucher, PutCart, PutOrder, PutPosition, PutWaiting, DropVoucher, DropCart, DropWaiting, PutCheckinList, PutCheckin}
use Rattle.model_rows.specs.declared.rows.Voucher.{Voucher}
use Rattle.model_rows.specs.Change.{after_change}
use Rattle.model_rows.specs.Lists.{Lists, State, voucher_at}
use Rattle.model_rows.specs.Usage.{redeemed, spent}
use Rattle.book_usage.proofs.Spent.{unused_unspent}
use Rattle.model_rows.proofs.EachRow.{key-row_at}
use Rattle.book_counts_applied.specs.Settled.{redeemed_at, redeemed_if, spent_at, spent_if, ArePutsNew}
use Rattle.book_counts_applied.specs.Spared.{spares_used}

-- of a voucher that isn't redeemed, or doesn't stand, nothing is kept
unused : (state : State) (id : ℕ) → redeemed id state.lists ≡ 0 → (o : Option Voucher) → voucher_at id state.lists ≡ o → redeemed_if state o ≡ 0
unused state id e None found = refl
unused state id e (Some v) found = ap (λ k. redeemed k state.lists) (key-row_at (λ (r : Voucher). r.id) id state.lists.vouchers v found) ∙ e

unspent : (state : State) (id : ℕ) → redeemed id state.lists ≡ 0 → (o : Option Voucher) → voucher_at id state.lists ≡ o → spent_if state o ≡ 0
unspent state id e None found = refl
unspent state id e (Some v) found = ap (λ k. spent k state.lists) (key-row_at (λ (r : Voucher). r.id) id state.lists.vouchers v found) ∙ unused_unspent id state.lists e

module _ (state : State) (kept : ℕ → ℕ) (none : (id : ℕ) → redeemed id state.lists ≡ 0 → kept id ≡ 0) where
  abbrev AbsentAreUnused : Lists → Type 0
  AbsentAreUnused lists = (id : ℕ) → voucher_at id lists ≡ None → kept id ≡ 0

  after_put : (row : Voucher) (lists : Lists) → AbsentAreUnused lists → AbsentAreUnused (after_change (PutVoucher row) lists)
  after_put row lists absent id gone =
      elim (row.id == id) as (λ b. cond b (Some row) (voucher_at id lists) ≡ None → kept id ≡ 0) [
        | true ↦ λ f. absurd cc
        | false ↦ λ f. absent id f
      ] (sym (row_at-with_row (λ v. v.id) id row lists.vouchers) ∙ gone)

  after_drop : (dropped : ℕ) (lists : Lists) → redeemed dropped state.lists ≡ 0 → AbsentAreUnused lists → AbsentAreUnused (after_change (DropVoucher dropped) lists)
  after_drop dropped lists e absent id gone =
      elim (dropped == id) as (λ b. (dropped == id) ≡ b → cond b None (voucher_at id lists) ≡ None → kept id ≡ 0) [
        | true ↦ λ same f. subst (λ k. kept k ≡ 0) (eqb-true dropped id same) (none dropped e)
        | false ↦ λ same f. absent id f
      ] refl (sym (row_at-without_row (λ v. v.id) id dropped lists.vouchers) ∙ gone)

  puts_new : (changes : List Change) (lists : Lists) → list_all (spares_used state.lists) changes ≡ true → AbsentAreUnused lists → ArePutsNew kept changes lists
  puts_new [] lists spared absent = tt
  puts_new (PutVoucher row ∷ cs) lists spared absent = (absent row.id, puts_new cs (after_change (PutVoucher row) lists) spared (after_put row lists absent))
  puts_new (DropVoucher id ∷ cs) lists spared absent =
      let both = and_parts (redeemed id state.lists == 0) (list_all (spares_used state.lists) cs) spared in
      puts_new cs (after_change (DropVoucher id) lists) both.1 (after_drop id lists (eqb-true (redeemed id state.lists) 0 both.0) absent)
  puts_new (PutItem row ∷ cs) lists spared absent = puts_new cs (after_change (PutItem row) lists) spared absent
  puts_new (PutVariation row ∷ cs) lists spared absent = puts_new cs (after_change (PutVariation row) lists) spared absent
  puts_new (PutQuota row ∷ cs) lists spared absent = puts_new cs (after_change (PutQuota row) lists) spared absent
  puts_new (PutCart row ∷ cs) lists spared absent = puts_new cs (after_change (PutCart row) lists) spared absent
  puts_new (PutOrder row ∷ cs) lists spared absent = puts_new cs (after_change (PutOrder row) lists) spared absent
  puts_new (PutPosition row ∷ cs) lists spared absent = puts_new cs (after_change (PutPosition row) lists) spared absent
  puts_new (PutWaiting row ∷ cs) lists spared absent = puts_new cs (after_change (PutWaiting row) lists) spared absent
  puts_new (DropCart id ∷ cs) lists spared absent = puts_new cs (after_change (DropCart id) lists) spared absent
  puts_new (DropWaiting id ∷ cs) lists spared absent = puts_new cs (after_change (DropWaiting id) lists) spared absent
  puts_new (PutCheckinList row ∷ cs) lists spared absent = puts_new cs (after_change (PutCheckinList row) lists) spared absent
  puts_new (PutCheckin row ∷ cs) lists spared absent = puts_new cs (after_change (PutCheckin row) lists) spared absent

-- of changes of an office that drop no such voucher
pub spared_new : (state : State) (changes : List Change) → list_all (spares_used state.lists) changes ≡ true → ArePutsNew (redeemed_at state) changes state.lists
spared_new state changes spared =
    puts_new state (redeemed_at state) (λ id e. unused state id e (voucher_at id state.lists) refl) changes state.lists spared (λ id gone. ap (redeemed_if state) gone)

pub spared_unspent : (state : State) (changes : List Change) → list_all (spares_used state.lists) changes ≡ true → ArePutsNew (spent_at state) changes state.lists
spared_unspent state changes spared =
    puts_new state (spent_at state) (λ id e. unspent state id e (voucher_at id state.lists) refl) changes state.lists spared (λ id gone. ap (spent_if state) gone)
