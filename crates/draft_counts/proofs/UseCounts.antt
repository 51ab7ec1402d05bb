-- Uses that are counted one after another.
use Rattle.std.proofs.Common.{◌≡◌, ℕ, ◌+◌, ◌<◌, Bool, true, false, ◌&&◌, List, length, take, get_or, count_by, sum_by, refl, sym, ap, ap₂, ◌∙◌, arith}
use Rattle.std.specs.Prelude.{if◌then◌else◌, not}
use Rattle.std.proofs.lemmas.List.{take_more}
use Rattle.model_rows.specs.declared.rows.CartPos.{CartPos}
use Rattle.model_rows.specs.declared.rows.Order.{Order}
use Rattle.model_rows.specs.declared.rows.OrderPos.{OrderPos}
use Rattle.model_rows.specs.declared.changes.Change.{Change}
use Rattle.model_rows.specs.declared.changes.Change.TheVariants.{PutItem, PutVariation, PutQuota, PutVoucher, PutCart, PutOrder, PutPosition, PutWaiting, DropVoucher, DropCart, DropWaiting, PutCheckinList, PutCheckin}
use Rattle.model_rows.specs.Conditions.{names}
use Rattle.model_rows.specs.Lists.{Lists}
use Rattle.draft_overlay.specs.declared.purchases.Purchase.{Purchase}
use Rattle.book_tally.specs.declared.amount.Uses.{Uses}
use Rattle.book_tally.specs.declared.tally.Count.{Count}
use Rattle.book_tally.specs.Amounts.{no_uses, plus_uses}
use Rattle.book_tally.specs.Counts.{came, went, GoesOn}
use Rattle.book_tally.proofs.AmountLemmas.{same_uses, alone_uses}
use Rattle.book_tally.proofs.Newest.{on_same, on_both}
use Rattle.draft_counts.specs.Counts.{AreMoreUses}
use Rattle.draft_counts.specs.Uses.{one_discount, purchase_uses, used_since, use_come, use_gone}
use Rattle.draft_counts.proofs.Values.{count_push, sum_push}

pub no_more_uses : (counts : List (Count Uses)) → AreMoreUses (λ v. no_uses) (λ v. no_uses) counts counts
no_more_uses counts = record { comes = λ v. sym (alone_uses (came no_uses v counts)); goes = λ v. sym (alone_uses (went no_uses v counts)); on = on_same counts }

-- the same uses, said otherwise
pub same_more : (f f' g g' : ℕ → Uses) (old new : List (Count Uses)) → ((v : ℕ) → f v ≡ f' v) → ((v : ℕ) → g v ≡ g' v) → AreMoreUses f g old new → AreMoreUses f' g' old new
same_more f f' g g' old new same same' is = record {
  comes = λ v. is.comes v ∙ ap (plus_uses (came no_uses v old)) (same v);
  goes = λ v. is.goes v ∙ ap (plus_uses (went no_uses v old)) (same' v);
  on = is.on;
}

-- those of an order's purchases, one after another
since_more : (now before : Bool) (n m : ℕ) (u : Uses) (named : Bool) (cents : ℕ) → (if named then plus_uses (plus_uses u (used_since now before n m)) (used_since now before 1 cents) else plus_uses u (used_since now before n m)) ≡ plus_uses u (used_since now before (n + (if named then 1 else 0)) (m + (if named then cents else 0)))
since_more now before n m u named cents = by_turn (now && not before) named
  where
    turn : Bool → ℕ → ℕ → Uses
    turn b k c = record no_uses { used = if b then k else 0; spent = if b then c else 0 }

    by_turn : (b named : Bool) → (if named then plus_uses (plus_uses u (turn b n m)) (turn b 1 cents) else plus_uses u (turn b n m)) ≡ plus_uses u (turn b (n + (if named then 1 else 0)) (m + (if named then cents else 0)))
    by_turn true true = same_uses _ (plus_uses u (turn true (n + 1) (m + cents))) (omega arith) (omega arith) (omega arith)
    by_turn true false = same_uses _ (plus_uses u (turn true (n + 0) (m + 0))) (omega arith) refl (omega arith)
    by_turn false true = same_uses _ (plus_uses u no_uses) (omega arith) (omega arith) (omega arith)
    by_turn false false = refl

-- how many of the first so many name the voucher
abbrev pub naming : List Purchase → ℕ → ℕ → ℕ
naming purchases i v = count_by (λ (p : Purchase). names v p.voucher) (take i purchases)

-- and what they spend of it
abbrev pub spending : List Purchase → ℕ → ℕ → ℕ
spending purchases i v = sum_by (λ (p : Purchase). one_discount v p.voucher p.discount) (take i purchases)

-- an order that is in force as the one before it turns none
pub none_since : (force stood : Bool) (n m : ℕ) → force ≡ stood → no_uses ≡ used_since force stood n m
none_since true true n m same = refl
none_since true false n m same = absurd (cc same)
none_since false true n m same = absurd (cc same)
none_since false false n m same = refl

module _ (force stood : Bool) (purchases : List Purchase) where
  pub names_more : (i : ℕ) (row : Purchase) → i < length purchases → row ≡ get_or purchases i row → (old mid new : List (Count Uses)) → AreMoreUses (λ v. purchase_uses force stood (take i purchases) v) (λ v. purchase_uses stood force (take i purchases) v) old mid
      → ((v : ℕ) → came no_uses v new ≡ (if names v row.voucher then plus_uses (came no_uses v mid) (used_since force stood 1 row.discount) else came no_uses v mid)) → ((v : ℕ) → went no_uses v new ≡ (if names v row.voucher then plus_uses (went no_uses v mid) (used_since stood force 1 row.discount) else went no_uses v mid)) → GoesOn mid new
      → AreMoreUses (λ v. purchase_uses force stood (take (i + 1) purchases) v) (λ v. purchase_uses stood force (take (i + 1) purchases) v) old new
  names_more i row lt here old mid new was comes goes on = record {
    comes = λ v. comes v ∙ step force stood v (came no_uses v old) (came no_uses v mid) (was.comes v);
    goes = λ v. goes v ∙ step stood force v (went no_uses v old) (went no_uses v mid) (was.goes v);
    on = on_both old mid new was.on on;
  }
    where
      one_more : (v : ℕ) → naming purchases i v + (if names v row.voucher then 1 else 0) ≡ naming purchases (i + 1) v
      one_more v =
          ap (λ (p : Purchase). naming purchases i v + (if names v p.voucher then 1 else 0)) here
          ∙ sym (ap (count_by (λ (p : Purchase). names v p.voucher)) (take_more purchases i row lt) ∙ count_push (λ (p : Purchase). names v p.voucher) (take i purchases) (get_or purchases i row))

      cents_more : (v : ℕ) → spending purchases i v + one_discount v row.voucher row.discount ≡ spending purchases (i + 1) v
      cents_more v =
          ap (λ (p : Purchase). spending purchases i v + one_discount v p.voucher p.discount) here
          ∙ sym (ap (sum_by (λ (p : Purchase). one_discount v p.voucher p.discount)) (take_more purchases i row lt) ∙ sum_push (λ (p : Purchase). one_discount v p.voucher p.discount) (take i purchases) (get_or purchases i row))

      step : (a b : Bool) (v : ℕ) (u w : Uses) → w ≡ plus_uses u (purchase_uses a b (take i purchases) v) → (if names v row.voucher then plus_uses w (used_since a b 1 row.discount) else w) ≡ plus_uses u (purchase_uses a b (take (i + 1) purchases) v)
      step a b v u w is =
          ap (λ (x : Uses). if names v row.voucher then plus_uses x (used_since a b 1 row.discount) else x) is
          ∙ since_more a b (naming purchases i v) (spending purchases i v) u (names v row.voucher) row.discount
          ∙ ap₂ (λ (n m : ℕ). plus_uses u (used_since a b n m)) (one_more v) (cents_more v)

module _ (lists : Lists) (at : ℕ) (counts : List (Count Uses)) where
  -- other changes shift no uses
  pub unused : (change : Change) → ((row : CartPos) → change ≡ PutCart row → ⊥) → ((id : ℕ) → change ≡ DropCart id → ⊥) → ((row : OrderPos) → change ≡ PutPosition row → ⊥) → ((row : Order) → change ≡ PutOrder row → ⊥) → AreMoreUses (use_come lists at change) (use_gone lists at change) counts counts
  unused (PutItem row) a b c d = no_more_uses counts
  unused (PutVariation row) a b c d = no_more_uses counts
  unused (PutQuota row) a b c d = no_more_uses counts
  unused (PutVoucher row) a b c d = no_more_uses counts
  unused (PutCart row) a b c d = absurd (a row refl)
  unused (PutOrder row) a b c d = absurd (d row refl)
  unused (PutPosition row) a b c d = absurd (c row refl)
  unused (PutWaiting row) a b c d = no_more_uses counts
  unused (DropVoucher id) a b c d = no_more_uses counts
  unused (DropCart id) a b c d = absurd (b id refl)
  unused (DropWaiting id) a b c d = no_more_uses counts
  unused (PutCheckinList row) a b c d = no_more_uses counts
  unused (PutCheckin row) a b c d = no_more_uses counts
