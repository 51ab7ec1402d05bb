-- The lines of an export are the order positions, and rise by order and number there.
use Rattle.std.proofs.Common.{◌≡◌, ◌≢◌, ℕ, suc, pos, ◌+◌, ◌*◌, ◌<◌, ◌≤◌, ◌==◌, Bool, true, false, cond, List, [], ◌∷◌, ◌++◌, map, filter, length, refl, sym, ap, subst, ◌∙◌, arith, append_assoc, slice_index_or, if◌then◌else◌, Less, Equal, Greater, int_cmp}
use Rattle.std.specs.Prelude.{nat_le}
use Rattle.std.specs.List.{AllByRecursion, flat_map}
use Rattle.std.specs.List.Sorted.{IsPermutation, IsSorted}
use Rattle.std.specs.Ordering.{is_lt, ordering_then}
use Rattle.std.proofs.lemmas.Bool.Decides.{nat_tests}
use Rattle.std.proofs.lemmas.Int.{ints}
use Rattle.std.proofs.lemmas.List.Sorted.{IsPermutation-refl, IsPermutation-trans, IsPermutation-cons, IsPermutation-append_left, IsPermutation-append_right, IsPermutation-append_comm, IsPermutation-map, length_permutation}
use Rattle.sqlite_value.specs.Order.{value_cmp}
use Rattle.sqlite_value.proofs.OrderLemmas.{value_cmp-Int}
use Rattle.sqlite_trees.proofs.ListLemmas.{flat_map_same_on, flat_map_none, IsPermutation-same, IsPermutation-filter, IsPermutation-flat_map_each}
use Rattle.sqlite_sql.specs.Query.{Output, output_cmp}
use Rattle.base_tables.specs.Tables.{InOrderFrom, AreInOrder}
use Rattle.base_tables.proofs.Places.{order_weaker}
use Rattle.file_meaning.proofs.Order.{rows_at, at_above}
use Rattle.model_rows.specs.declared.rows.Order.{Order}
use Rattle.model_rows.specs.declared.rows.OrderPos.{OrderPos}
use Rattle.model_rows.specs.Lists.{Lists, positions_of}
use Rattle.model_invariant.specs.Positions.{by_positionid, position_placed, CountFrom, AllHavePositions}
use Rattle.model_invariant.proofs.ByNumber.{same_length}
use Rattle.file_rows.specs.Cells.{number}
use Rattle.model_export.specs.declared.row.ExportRow.{ExportRow}
use Rattle.model_export.specs.Exported.{export_row, rows_exported, rows_of_order}
use Rattle.app_export.specs.Cells.{cells}
use Rattle.app_export.proofs.Asked.{joined}

-- ---- each position has one line

module _ {A B : Type 0} (b : A → Bool) (x : A → B) (f : A → List B) where
  exchanged : (o : A) (rest : List B) (os : List A) → IsPermutation rest (map x (filter b os) ++ flat_map f os) → IsPermutation (f o ++ rest) (map x (filter b os) ++ (f o ++ flat_map f os))
  exchanged o rest os h = IsPermutation-trans _ _ _ (IsPermutation-append_right (f o) _ _ h)
      (rw (← append_assoc (f o), ← append_assoc (map x (filter b os))) (IsPermutation-append_left (flat_map f os) _ _ (IsPermutation-append_comm (f o) (map x (filter b os)))))

  -- one more of those for which the test holds
  more_one : (os : List A) → IsPermutation (flat_map (λ o. cond (b o) (x o ∷ f o) (f o)) os) (map x (filter b os) ++ flat_map f os)
  more_one [] = IsPermutation-refl []
  more_one (o ∷ os) =
      let rest = exchanged o (flat_map (λ o. cond (b o) (x o ∷ f o) (f o)) os) os (more_one os) in
      elim (b o) as (λ c. IsPermutation (cond c (x o ∷ f o) (f o) ++ flat_map (λ o. cond (b o) (x o ∷ f o) (f o)) os) (map x (cond c (o ∷ filter b os) (filter b os)) ++ (f o ++ flat_map f os))) [
        | true ↦ IsPermutation-cons (x o) _ _ rest
        | false ↦ rest
      ]

map_cond : {A B : Type 0} (g : A → B) (c : Bool) (x : A) (xs : List A) → map g (cond c (x ∷ xs) xs) ≡ cond c (g x ∷ map g xs) (map g xs)
map_cond g true x xs = refl
map_cond g false x xs = refl

module _ (lines : Order → OrderPos → ExportRow) (line : OrderPos → ExportRow) (orders : List Order) where
  pub one_each : (ps : List OrderPos) → AllByRecursion (λ p. map (λ o. lines o p) (filter (λ o. o.id == p.order) orders) ≡ line p ∷ []) ps
      → IsPermutation (flat_map (λ o. map (lines o) (filter (λ p. o.id == p.order) ps)) orders) (map line ps)
  one_each [] h = IsPermutation-same _ _ (flat_map_none (λ o. []) (λ o. refl) orders)
  one_each (p ∷ ps) h =
      let some : Order → List ExportRow = λ o. map (lines o) (filter (λ p. o.id == p.order) ps) in
      IsPermutation-trans _ _ _
      (IsPermutation-same _ _ (flat_map_same_on _ (λ o. cond (o.id == p.order) (lines o p ∷ some o) (some o)) (λ o. map_cond (lines o) (o.id == p.order) p (filter (λ p. o.id == p.order) ps)) orders))
      (IsPermutation-trans _ _ _ (more_one (λ o. o.id == p.order) (λ o. lines o p) some orders)
      (subst (λ l. IsPermutation (l ++ flat_map some orders) (line p ∷ map line ps)) (sym h.0) (IsPermutation-cons (line p) _ _ (one_each ps h.1))))

-- ---- whatever the order of the numbers is

placed_same : (p : OrderPos) (qs : List OrderPos) → IsPermutation (position_placed p qs) (p ∷ qs)
placed_same p [] = IsPermutation-refl (p ∷ [])
placed_same p (q ∷ qs) = by_turn (placed_same p qs) (nat_le p.positionid q.positionid)
  where
    by_turn : IsPermutation (position_placed p qs) (p ∷ qs) → (b : Bool) → IsPermutation (if b then p ∷ q ∷ qs else q ∷ position_placed p qs) (p ∷ q ∷ qs)
    by_turn more true = IsPermutation-refl (p ∷ q ∷ qs)
    by_turn more false =
        IsPermutation-trans _ _ _ (IsPermutation-cons q (position_placed p qs) (p ∷ qs) more)
        (IsPermutation-append_left qs (q ∷ p ∷ []) (p ∷ q ∷ []) (IsPermutation-append_comm (q ∷ []) (p ∷ [])))

by_number_same : (ps : List OrderPos) → IsPermutation (by_positionid ps) ps
by_number_same [] = IsPermutation-refl []
by_number_same (p ∷ ps) = IsPermutation-trans _ _ _ (placed_same p (by_positionid ps)) (IsPermutation-cons p (by_positionid ps) ps (by_number_same ps))

pub exported_same : (lists : Lists) → IsPermutation (rows_exported lists) (flat_map (λ o. map (export_row lists o) (positions_of o.id lists)) lists.orders)
exported_same lists =
    IsPermutation-flat_map_each (rows_of_order lists) (λ o. map (export_row lists o) (positions_of o.id lists))
    (λ o. IsPermutation-map (export_row lists o) _ _ (by_number_same (positions_of o.id lists))) lists.orders

-- ---- they rise

abbrev pub key : ExportRow → ℕ
key e = e.order * 512 + e.positionid

abbrev pub IsNear : ExportRow → Type 0
IsNear e = e.positionid < 512

module _ (lists : Lists) where
  block : (o : Order) (n : ℕ) (ps : List OrderPos) (rest : List ExportRow) → CountFrom n ps → n + length ps ≤ 512 → InOrderFrom key ((o.id + 1) * 512) rest
      → InOrderFrom key (o.id * 512 + n) (map (export_row lists o) ps ++ rest)
  block o n [] rest c few r = order_weaker key ((o.id + 1) * 512) (o.id * 512 + n) rest (omega (arith, few)) r
  block o n (p ∷ ps) rest c few r =
      (omega (arith, c.0), subst (λ k. InOrderFrom key k (map (export_row lists o) ps ++ rest)) (omega (arith, c.0)) (block o (n + 1) ps rest c.1 (omega (arith, few)) r))

  blocks : (k : ℕ) (os : List Order) → InOrderFrom (λ o. o.id) k os → AllHavePositions os lists.positions → InOrderFrom key (k * 512) (flat_map (rows_of_order lists) os)
  blocks k [] h all = tt
  blocks k (o ∷ os) h all =
      order_weaker key (o.id * 512 + 1) (k * 512) _ (omega (arith, h.0)) (block o 1 (by_positionid (positions_of o.id lists)) _ all.0.counted (omega (arith, all.0.few, same_length (positions_of o.id lists))) (blocks (o.id + 1) os h.1 all.1))

  pub exported_rise : AreInOrder (λ o. o.id) lists.orders → AllHavePositions lists.orders lists.positions → AreInOrder key (rows_exported lists)
  exported_rise h all = blocks 0 lists.orders h all

  near_block : (o : Order) (n : ℕ) (ps : List OrderPos) (rest : List ExportRow) → CountFrom n ps → n + length ps ≤ 512 → AllByRecursion IsNear rest → AllByRecursion IsNear (map (export_row lists o) ps ++ rest)
  near_block o n [] rest c few r = r
  near_block o n (p ∷ ps) rest c few r = (omega (arith, c.0, few), near_block o (n + 1) ps rest c.1 (omega (arith, few)) r)

  near_blocks : (os : List Order) → AllHavePositions os lists.positions → AllByRecursion IsNear (flat_map (rows_of_order lists) os)
  near_blocks [] all = tt
  near_blocks (o ∷ os) all = near_block o 1 (by_positionid (positions_of o.id lists)) _ all.0.counted (omega (arith, all.0.few, same_length (positions_of o.id lists))) (near_blocks os all.1)

  pub exported_near : AllHavePositions lists.orders lists.positions → AllByRecursion IsNear (rows_exported lists)
  exported_near all = near_blocks lists.orders all

-- ---- what is sorted by both, and has no two of one order and number, rises

abbrev pub sorted_as : ExportRow → Output
sorted_as e = (number e.order ∷ number e.positionid ∷ [], cells e)

equal_number : (a b : ℕ) → int_cmp (pos a) (pos b) ≡ Equal → a ≡ b
equal_number a b h = grind (arith, ints)

greater_number : (a b : ℕ) → int_cmp (pos a) (pos b) ≡ Greater → b < a
greater_number a b h = grind (arith, ints)

pub not_before : (e f : ExportRow) → IsNear e → IsNear f → is_lt (output_cmp joined (sorted_as f) (sorted_as e)) ≡ false → key e ≤ key f
not_before e f near next h =
    let first = value_cmp-Int (pos f.order) (pos e.order) in
    let second = value_cmp-Int (pos f.positionid) (pos e.positionid) in
    let told : is_lt (ordering_then (int_cmp (pos f.order) (pos e.order)) (ordering_then (int_cmp (pos f.positionid) (pos e.positionid)) Equal)) ≡ false = rw (first, second) at h in
    elim (int_cmp (pos f.order) (pos e.order)) as (λ o. int_cmp (pos f.order) (pos e.order) ≡ o → is_lt (ordering_then o (ordering_then (int_cmp (pos f.positionid) (pos e.positionid)) Equal)) ≡ false → key e ≤ key f) [
      | Less ↦ λ is no. absurd (cc)
      | Equal ↦ λ is no.
          elim (int_cmp (pos f.positionid) (pos e.positionid)) as (λ o. int_cmp (pos f.positionid) (pos e.positionid) ≡ o → is_lt (ordering_then o Equal) ≡ false → key e ≤ key f) [
            | Less ↦ λ at nope. absurd (cc)
            | Equal ↦ λ at nope. omega (arith, equal_number f.order e.order is, equal_number f.positionid e.positionid at)
            | Greater ↦ λ at nope. omega (arith, equal_number f.order e.order is, greater_number f.positionid e.positionid at)
          ] refl no
      | Greater ↦ λ is no. omega (arith, greater_number f.order e.order is, near, next)
    ] refl told

abbrev NoTwice : List ExportRow → Type 0
NoTwice es = (id : ℕ) → length (rows_at key id es) ≤ 1

once : (n : ℕ) (es : List ExportRow) → InOrderFrom key n es → NoTwice es
once n [] h id = omega arith
once n (e ∷ es) h id =
    elim (key e == id) as (λ b. (key e == id) ≡ b → length (cond b (e ∷ rows_at key id es) (rows_at key id es)) ≤ 1) [
      | true ↦ λ is. let none = at_above key (key e + 1) id es (grind (arith, nat_tests)) h.1 in omega (arith, ap length none)
      | false ↦ λ is. once (key e + 1) es h.1 id
    ] refl

fewer : (e : ExportRow) (es : List ExportRow) → NoTwice (e ∷ es) → NoTwice es
fewer e es h id =
    let all = h id in
    elim (key e == id) as (λ b. length (cond b (e ∷ rows_at key id es) (rows_at key id es)) ≤ 1 → length (rows_at key id es) ≤ 1) [
      | true ↦ λ two. omega (arith, two)
      | false ↦ λ two. two
    ] all

same_test : (n : ℕ) → (n == n) ≡ true
same_test n = grind (arith, nat_tests)

apart : (e f : ExportRow) (es : List ExportRow) → NoTwice (e ∷ f ∷ es) → key e ≢ key f
apart e f es h is =
    let here : (key f == key e) ≡ true = ap (λ n. key f == n) is ∙ same_test (key f) in
    let two : length (cond (key e == key e) (e ∷ cond (key f == key e) (f ∷ rows_at key (key e) es) (rows_at key (key e) es)) (cond (key f == key e) (f ∷ rows_at key (key e) es) (rows_at key (key e) es))) ≤ 1 = h (key e) in
    absurd (omega (arith, rw (same_test (key e), here) at two))

module _ {X : Type 0} (lt : X → X → Bool) where
  -- IsSortedBy of the list without its first
  sorted_rest : (x : X) (xs : List X) → Rattle.std.specs.List.Sorted.IsSortedBy lt (x ∷ xs) → Rattle.std.specs.List.Sorted.IsSortedBy lt xs
  sorted_rest x xs h k d low high =
      let e : suc k + 1 ≡ suc (k + 1) = omega arith in
      subst (λ n. lt (slice_index_or (x ∷ xs) n d) (slice_index_or xs k d) ≡ false) e (h (suc k) d (omega arith) (omega (arith, high)))

rising_from : (n : ℕ) (e : ExportRow) (es : List ExportRow) → n ≤ key e → IsSorted (output_cmp joined) (map sorted_as (e ∷ es)) → NoTwice (e ∷ es) → AllByRecursion IsNear (e ∷ es) → InOrderFrom key n (e ∷ es)
rising_from n e [] le s two near = (le, tt)
rising_from n e (f ∷ es) le s two near =
    let after = not_before e f near.0 near.1.0 (s 0 (sorted_as e) (omega arith) (omega arith)) in
    (le, rising_from (key e + 1) f es (omega (arith, after, apart e f es two)) (sorted_rest (λ x y. is_lt (output_cmp joined x y)) (sorted_as e) (map sorted_as (f ∷ es)) s) (fewer e (f ∷ es) two) near.1)

pub rises : (es xs : List ExportRow) → IsPermutation xs es → AreInOrder key xs → AllByRecursion IsNear es → IsSorted (output_cmp joined) (map sorted_as es) → AreInOrder key es
rises [] xs same order near s = tt
rises (e ∷ es) xs same order near s =
    rising_from 0 e es (omega arith) s (λ id. omega (arith, once 0 xs order id, length_permutation (rows_at key id xs) (rows_at key id (e ∷ es)) (IsPermutation-filter (λ r. key r == id) xs (e ∷ es) same))) near
