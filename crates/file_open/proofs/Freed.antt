-- The number that no row without an id of its own has.
use Rattle.std.proofs.Common.{◌≡◌, ℕ, ◌<◌, ◌≤◌, ◌==◌, Bool, true, false, ◌||◌, List, ◌∷◌, map, refl, sym, ap, ◌∙◌, arith}
use Rattle.std.specs.List.{list_any, AllByRecursion}
use Rattle.std.specs.List.Sorted.{IsPermutation}
use Rattle.std.proofs.lemmas.Bool.Decides.{nat_tests}
use Rattle.std.proofs.lemmas.List.Sorted.{IsPermutation-map, IsPermutation-sym}
use Rattle.sqlite_trees.proofs.ListLemmas.{along_permutation}
use Rattle.file_rows.specs.declared.rows.QuotaItem.{QuotaItem}
use Rattle.file_rows.specs.declared.rows.QuotaVariation.{QuotaVariation}
use Rattle.file_rows.specs.declared.rows.ListItem.{ListItem}
use Rattle.file_rows.specs.declared.rows.KeptRow.{KeptRow}
use Rattle.file_rows.specs.Tables.{Tables}
use Rattle.file_meaning.specs.Free.{AreApart, AreBelow, IsFree}
use Rattle.file_meaning.proofs.Made.{below_later}
use Rattle.file_rows.specs.declared.table_rows.TableRows.{TableRows}
use Rattle.file_scan.specs.Read.{AreTableRows}

neither : (a b : Bool) → (a || b) ≡ false → (a ≡ false) × (b ≡ false)
neither true b e = absurd cc
neither false b e = (refl, e)

nor : (a b : Bool) → a ≡ false → b ≡ false → (a || b) ≡ false
nor a b e f = rw (e, f)

turned : (a b c : Bool) → (a || (b || c)) ≡ (b || (a || c))
turned true true c = refl
turned true false c = refl
turned false true c = refl
turned false false c = refl

other_way : (a b : ℕ) → (a == b) ≡ false → (b == a) ≡ false
other_way a b e = grind (arith, nat_tests)

-- what the order of numbers doesn't change
record Alike (xs ys : List ℕ) : Type 0 where
  any : (p : ℕ → Bool) → list_any p xs ≡ list_any p ys
  apart : AreApart xs → AreApart ys
  below : (n : ℕ) → AllByRecursion (λ x. x < n) xs → AllByRecursion (λ x. x < n) ys

exchanged : (x y : ℕ) (xs : List ℕ) → Alike (x ∷ y ∷ xs) (y ∷ x ∷ xs)
exchanged x y xs = record {
  any = λ p. turned (p x) (p y) (list_any p xs);
  apart = λ a. let first = neither (x == y) (list_any (λ m. x == m) xs) a.0 in (nor (y == x) (list_any (λ m. y == m) xs) (other_way x y first.0) a.1.0, (first.1, a.1.1));
  below = λ n b. (b.1.0, (b.0, b.1.1));
}

alike : (xs ys : List ℕ) → IsPermutation xs ys → Alike xs ys
alike xs ys h =
    along_permutation Alike (λ xs. record { any = λ p. refl; apart = λ a. a; below = λ n b. b })
    (λ x xs ys h. record { any = λ p. ap (λ b. p x || b) (h.any p); apart = λ a. (sym (h.any (λ m. x == m)) ∙ a.0, h.apart a.1); below = λ n b. (b.0, h.below n b.1) }) exchanged
    (λ xs ys zs g h. record { any = λ p. g.any p ∙ h.any p; apart = λ a. h.apart (g.apart a); below = λ n b. h.below n (g.below n b) }) xs ys h

-- numbers of rows that are below one are below a greater one, in whatever order
below_along : {R : Type 0} (number : R → ℕ) (n m : ℕ) (xs ys : List R) → n ≤ m → IsPermutation xs ys → AreBelow n (map number ys) → AreBelow m (map number xs)
below_along number n m xs ys le same h =
    let a = alike (map number ys) (map number xs) (IsPermutation-map number ys xs (IsPermutation-sym xs ys same)) in
    below_later n m (map number xs) (omega (arith, le)) (record { apart = a.apart h.apart; below = a.below n h.below })

-- numbers that are below one in some order are so in any
below_back : {R : Type 0} (number : R → ℕ) (m : ℕ) (xs ys : List R) → IsPermutation xs ys → AreBelow m (map number xs) → AreBelow m (map number ys)
below_back number m xs ys same h = let a = alike (map number xs) (map number ys) (IsPermutation-map number xs ys same) in record { apart = a.apart h.apart; below = a.below m h.below }

-- none below the greatest of four numbers is free, each of which is the least in one table
pub least : (t : Tables) (rows : TableRows) (n a b c d : ℕ) → ((number : ℕ) → a ≤ number → b ≤ number → c ≤ number → d ≤ number → n ≤ number) → AreTableRows t rows
    → ((number : ℕ) → AreBelow number (map (λ r. r.rowid) rows.catalogue.quota_items.items) → a ≤ number) → ((number : ℕ) → AreBelow number (map (λ r. r.rowid) rows.catalogue.quota_variations.items) → b ≤ number)
    → ((number : ℕ) → AreBelow number (map (λ r. r.rowid) rows.doors.list_items.items) → c ≤ number) → ((number : ℕ) → AreBelow number (map (λ r. r.rowid) rows.others.kept.items) → d ≤ number)
    → (number : ℕ) → IsFree number t → n ≤ number
least t rows n a b c d all of ha hb hc hd number h =
    all number
    (ha number (below_back (λ (r : QuotaItem). r.rowid) number t.quota_items rows.catalogue.quota_items.items of.catalogue.quota_items h.quota_items))
    (hb number (below_back (λ (r : QuotaVariation). r.rowid) number t.quota_variations rows.catalogue.quota_variations.items of.catalogue.quota_variations h.quota_variations))
    (hc number (below_back (λ (r : ListItem). r.rowid) number t.list_items rows.doors.list_items.items of.doors.list_items h.list_items))
    (hd number (below_back (λ (r : KeptRow). r.rowid) number t.kept rows.others.kept.items of.others.kept h.kept))

pub free : (t : Tables) (rows : TableRows) (n a b c d : ℕ) → a ≤ n → b ≤ n → c ≤ n → d ≤ n → AreTableRows t rows → AreBelow a (map (λ r. r.rowid) rows.catalogue.quota_items.items) → AreBelow b (map (λ r. r.rowid) rows.catalogue.quota_variations.items)
    → AreBelow c (map (λ r. r.rowid) rows.doors.list_items.items) → AreBelow d (map (λ r. r.rowid) rows.others.kept.items) → IsFree n t
free t rows n a b c d la lb lc ld of ha hb hc hd = record {
  quota_items = below_along (λ (r : QuotaItem). r.rowid) a n t.quota_items rows.catalogue.quota_items.items la of.catalogue.quota_items ha;
  quota_variations = below_along (λ (r : QuotaVariation). r.rowid) b n t.quota_variations rows.catalogue.quota_variations.items lb of.catalogue.quota_variations hb;
  list_items = below_along (λ (r : ListItem). r.rowid) c n t.list_items rows.doors.list_items.items lc of.doors.list_items hc;
  kept = below_along (λ (r : KeptRow). r.rowid) d n t.kept rows.others.kept.items ld of.others.kept hd;
}
