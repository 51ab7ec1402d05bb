-- What is read of a connection that stays as it is.
use Rattle.std.proofs.Common.{◌≡◌, List, [], ◌∷◌, map, Result, Ok, Err, IfOk, IfErr, OnOk, Option, Some, None, IfSome, subst, sym, arith}
use Rattle.std.specs.List.Sorted.{IsPermutation}
use Rattle.sqlite_value.specs.Order.{Row}
use Rattle.sqlite_trees.specs.declared.store.Store.{Ghosts}
use Rattle.sqlite.specs.Held.{Held, state}
use Rattle.sqlite.specs.State.{State}
use Rattle.sqlite.proofs.StateLemmas.{survives_then}
use Rattle.sqlite.proofs.Callers.{one_permutation}
use Rattle.file_rows.specs.declared.rows.ShopRow.{ShopRow}
use Rattle.file_rows.specs.Rows.{shop_row}
pub use Rattle.file_reads.proofs.Causes.{if_err, on_ok}
pub use Rattle.file_reads.proofs.Loads.{if_ok}
use Rattle.file_scan.specs.Rests.{OnlyReads, StaysOpen}

then : (a b c : State) → StaysOpen a b → StaysOpen b c → StaysOpen a c
then a b c h k = record { was_open = h.was_open; stays = λ db at. k.stays db (h.stays db at) }

-- one reads, and then another
pub reads_then : {S : Type 0} (g : Ghosts S) (old mid new : Held S) → OnlyReads g old mid → OnlyReads g mid new → OnlyReads g old new
reads_then g old mid new a b = record {
  rests = λ clean opened. let later = b.rests clean opened in then (state g old) (state g mid) (state g new) (a.rests (omega (arith, b.crash.clean)) later.was_open) later;
  mode = b.mode;
  crash = survives_then (state g old) (state g mid) (state g new) _ _ (λ _. ⊥) (λ _ db none. none) (λ _ db none. none) a.crash b.crash;
}

pub if_some : {T : Type 0} (o : Option T) (P Q : T → Type 0) → IfSome o P → ((x : T) → P x → Q x) → IfSome o Q
if_some (Some x) P Q h k = k x h
if_some None P Q h k = tt

pub both_ok : {T E : Type 0} (r : Result T E) (P Q R : T → Type 0) → IfOk r P → IfOk r Q → ((x : T) → P x → Q x → R x) → IfOk r R
both_ok (Ok x) P Q R h i k = k x h i
both_ok (Err e) P Q R h i k = tt

pub on_always : {T E : Type 0} (r : Result T E) (P : Type 0) → P → OnOk r P
on_always (Ok x) P p = p
on_always (Err e) P p = tt

pub was_ok : {T E : Type 0} (r : Result T E) (x : T) (P : T → Type 0) → r ≡ Ok x → IfOk r P → P x
was_ok r x P is h = subst (λ s. IfOk s P) is h

pub same_when : {T E : Type 0} (r : Result T E) (x : T) (P : T → Type 0) (Q : Type 0) → IfOk r (λ y. y ≡ x) → OnOk r Q → (Q → P x) → IfOk r P
same_when (Ok y) x P Q is h k = subst P (sym is) (k h)
same_when (Err e) x P Q is h k = tt

pub was_err : {T E : Type 0} (r : Result T E) (e : E) (P : E → Type 0) → r ≡ Err e → IfErr r P → P e
was_err r e P is h = subst (λ s. IfErr s P) is h

pub was_some : {T : Type 0} (o : Option T) (x : T) (P : T → Type 0) → o ≡ Some x → IfSome o P → P x
was_some o x P is h = subst (λ s. IfSome s P) is h

-- the shop's row is the one that is shown
pub one_shown : (shops : List ShopRow) (shop : ShopRow) (rows : List Row) → IsPermutation (map shop_row shops) rows → shops ≡ shop ∷ [] → rows ≡ shop_row shop ∷ []
one_shown shops shop rows h is = one_permutation (shop_row shop) rows (subst (λ l. IsPermutation (map shop_row l) rows) is h)
