-- Positions are priced one after another, each within what those before it left: rows that no price is given for stay within all budgets.
use Rattle.std.proofs.Common.{◌≡◌, ℕ, ◌+◌, ◌-◌, ◌≤◌, Bool, true, ◌&&◌, List, [], ◌∷◌, ◌++◌, append_assoc, append-nil, length, Option, Some, None, Result, Ok, Err, refl, sym, ap, ◌∙◌, subst, arith}
use Rattle.std.specs.Prelude.{IfSome, is_some, option_map, if◌then◌else◌}
use Rattle.std.specs.List.{AllByRecursion}
use Rattle.std.proofs.lemmas.Bool.Decides.{nat_tests}
use Rattle.base_values.proofs.Decided.{found, gave, gave_below, gave_it, gave_unit}
use Rattle.base_values.proofs.PriceWithin.{takes_off}
use Rattle.base_values.specs.Deciding.{◌>>=◌}
use Rattle.base_values.specs.Price.{price_within}
use Rattle.base_values.specs.Texts.{same_text}
use Rattle.base_values.specs.declared.draw.Draw.{Draw}
use Rattle.model_catalogue.specs.declared.rows.Product.{Product}
use Rattle.base_tables.specs.Tables.{row_at, AreInOrder}
use Rattle.model_rows.specs.declared.rows.OrderPos.{OrderPos}
use Rattle.model_rows.specs.declared.rows.Voucher.{Voucher}
use Rattle.model_rows.specs.Budgets.{covers, is_within, is_within_by, are_within, HasBudget, AllWithinBudget, named_discounts, left_after}
use Rattle.model_rows.specs.Conditions.{names}
use Rattle.model_rows.specs.Lists.{Lists, State, voucher_at}
use Rattle.model_rows.specs.Named.{voucher_of}
use Rattle.model_rows.specs.Usage.{spent}
use Rattle.model_rows.proofs.Budgets.{AreFrugal, covers_it, discounts_append, frugal_within}
use Rattle.model_rows.proofs.EachRow.{all-row_at, key-row_at}
use Rattle.model_rows.proofs.Found.{row_at_found}
use Rattle.model_commands.specs.declared.carts.Asked.{Asked}
use Rattle.model_commands.specs.declared.orders.OrderRefusal.{OrderRefusal}
use Rattle.model_commands.specs.declared.orders.OrderRefusal.TheVariants.{Voucher as OfVoucher}
use Rattle.decide_orders.specs.declared.sold.Sold.{Sold}
use Rattle.decide_orders.specs.Created.{position_row, position_for, after_rows, rows_for}
use Rattle.decide_orders.specs.Sold.{sold_for, sold_at, price_with, discount_of, voucher_asked}
use Rattle.decide_orders.specs.Usable.{usable}
use Rattle.decide_orders.proofs.SoldLemmas.{sold_is}

-- ---- rows behind others

joined_all : (xs ys : List OrderPos) (rest : Result (List OrderPos) OrderRefusal) → after_rows xs (after_rows ys rest) ≡ after_rows (xs ++ ys) rest
joined_all xs ys (Err refusal) = refl
joined_all xs ys (Ok more) = ap (λ (rows : List OrderPos). Ok rows) (sym (append_assoc xs ys more))

module _ (draw : Draw) (state : State) where
  abbrev rows_of : List OrderPos → ℕ → ℕ → List Asked → Result (List OrderPos) OrderRefusal
  rows_of front id number asked = rows_for draw state front id number asked

  -- the rows of more that is asked come behind these, as if they stood in front from the beginning
  pub in_turn : (xs ys : List Asked) (front rows : List OrderPos) (id number : ℕ) → rows_of front id number xs ≡ Ok rows
      → rows_of front id number (xs ++ ys) ≡ after_rows rows (rows_of (front ++ rows) (id + length rows) (number + length rows) ys)
  in_turn [] ys front rows id number h =
      let none : [] ≡ rows = gave_it [] rows h in
      subst (λ (rs : List OrderPos). rows_of front id number ys ≡ after_rows rs (rows_of (front ++ rs) (id + length rs) (number + length rs) ys)) none
      (as_is (rows_of front id number ys) ∙ λ i. after_rows [] (rows_of (sym (append-nil front) i) (same_number id i) (same_number number i) ys))
    where
      same_number : (n : ℕ) → n ≡ n + 0
      same_number n = omega arith

      as_is : (rest : Result (List OrderPos) OrderRefusal) → rest ≡ after_rows [] rest
      as_is (Ok more) = refl
      as_is (Err refusal) = refl
  in_turn (x ∷ xs) ys front rows id number h =
      let (row, first, h1) = gave (position_for draw state front id number x) _ h in
      let (others, rest, h2) = gave (rows_of (front ++ row ∷ []) (id + 1) (number + 1) xs) _ h1 in
      let all : row ∷ others ≡ rows = gave_it (row ∷ others) rows h2 in
      let more = in_turn xs ys (front ++ row ∷ []) others (id + 1) (number + 1) rest in
      subst (λ (rs : List OrderPos). rows_of front id number ((x ∷ xs) ++ ys) ≡ after_rows rs (rows_of (front ++ rs) (id + length rs) (number + length rs) ys)) all
      (begun row first ∙ ap (after_rows (row ∷ [])) more ∙ joined_all (row ∷ []) others _ ∙ λ i. after_rows (row ∷ others) (rows_of (append_assoc front (row ∷ []) others i) (one_on id row others i) (one_on number row others i) ys))
    where
      one_on : (n : ℕ) (row : OrderPos) (others : List OrderPos) → n + 1 + length others ≡ n + length (row ∷ others)
      one_on n row others = omega arith

      begun : (row : OrderPos) → position_for draw state front id number x ≡ Ok row → rows_of front id number ((x ∷ xs) ++ ys) ≡ after_rows (row ∷ []) (rows_of (front ++ row ∷ []) (id + 1) (number + 1) (xs ++ ys))
      begun row first = ap (λ made. made >>= λ r. after_rows (r ∷ []) (rows_of (front ++ r ∷ []) (id + 1) (number + 1) (xs ++ ys))) first

  -- what refuses those in front refuses all
  pub in_turn_refused : (xs ys : List Asked) (front : List OrderPos) (id number : ℕ) (e : OrderRefusal) → rows_of front id number xs ≡ Err e → rows_of front id number (xs ++ ys) ≡ Err e
  in_turn_refused [] ys front id number e h = absurd (cc (h))
  in_turn_refused (x ∷ xs) ys front id number e h = by_first (position_for draw state front id number x) h (λ row. in_turn_refused xs ys (front ++ row ∷ []) (id + 1) (number + 1) e)
    where
      by_first : (made : Result OrderPos OrderRefusal)
          → (made >>= λ r. after_rows (r ∷ []) (rows_of (front ++ r ∷ []) (id + 1) (number + 1) xs)) ≡ Err e
          → ((row : OrderPos) → rows_of (front ++ row ∷ []) (id + 1) (number + 1) xs ≡ Err e → rows_of (front ++ row ∷ []) (id + 1) (number + 1) (xs ++ ys) ≡ Err e)
          → (made >>= λ r. after_rows (r ∷ []) (rows_of (front ++ r ∷ []) (id + 1) (number + 1) (xs ++ ys))) ≡ Err e
      by_first (Err refusal) h more = h
      by_first (Ok row) h more = ap (after_rows (row ∷ [])) (more row (unmade (rows_of (front ++ row ∷ []) (id + 1) (number + 1) xs) h))
        where
          unmade : (rest : Result (List OrderPos) OrderRefusal) → after_rows (row ∷ []) rest ≡ Err e → rest ≡ Err e
          unmade (Ok others) h = absurd (cc (h))
          unmade (Err refusal) h = cc (h)

-- ---- what a row takes off is no more than was left

-- the voucher that is asked for stands
asked_stands : (state : State) (order : AreInOrder (λ r. r.id) state.lists.vouchers) (product : Product) (code : Option (List ℕ)) (voucher : Option Voucher) → voucher_asked code state product ≡ Ok voucher → IfSome voucher (λ w. voucher_at w.id state.lists ≡ Some w)
unfolding voucher_asked
asked_stands state order product None voucher h = subst (λ (o : Option Voucher). IfSome o (λ w. voucher_at w.id state.lists ≡ Some w)) (gave_it None voucher h) tt
asked_stands state order product (Some code) voucher h =
    let (w, is, h1) = found (voucher_of code state.lists) _ _ h in
    let (able, h2) = gave_unit (usable state.lists.catalogue state.moment product w) _ h1 in
    subst (λ (o : Option Voucher). IfSome o (λ x. voucher_at x.id state.lists ≡ Some x)) (gave_it (Some w) voucher h2)
    (row_at_found (λ (r : Voucher). r.id) (λ x. same_text x.code code) 0 state.lists.vouchers w order is)

some_voucher : (a b : Voucher) → (let it : Option Voucher = Some a in it ≡ Some b) → a ≡ b
some_voucher a b h = cc

module _ (draw : Draw) (state : State) (order : AreInOrder (λ r. r.id) state.lists.vouchers) (v : Voucher) (budget : ℕ) (stands : voucher_at v.id state.lists ≡ Some v) (has : v.budget ≡ Some budget) where
  -- the price that is computed takes off no more than is left
  computed_off : (w : Voucher) (front : List OrderPos) (base : ℕ) → w ≡ v → base - price_with state.lists front (Some w) base ≤ budget - (spent v.id state.lists + named_discounts v.id front)
  computed_off w front base same =
      let amount = spent v.id state.lists + named_discounts v.id front in
      let left : left_after state.lists front w ≡ Some (budget - amount) =
      ap (λ (x : Voucher). left_after state.lists front x) same ∙ ap (option_map (λ (b : ℕ). b - amount)) has in
      subst (λ (l : Option ℕ). base - price_within w.price_mode w.value base l ≤ budget - amount) (sym left) (takes_off w.price_mode w.value base (budget - amount))

  off_it : (voucher : Option Voucher) (front : List OrderPos) (base : ℕ) → IfSome voucher (λ w. voucher_at w.id state.lists ≡ Some w) → names v.id (option_map (λ w. w.id) voucher) ≡ true
      → (if is_some (option_map (λ (w : Voucher). w.id) voucher) then base - price_with state.lists front voucher base else 0) ≤ budget - (spent v.id state.lists + named_discounts v.id front)
  off_it None front base its named = absurd (cc (named))
  off_it (Some w) front base its named =
      let id : w.id ≡ v.id = grind (arith, nat_tests, named) in
      let same : w ≡ v = some_voucher w v (sym its ∙ ap (λ (n : ℕ). voucher_at n state.lists) id ∙ stands) in
      computed_off w front base same

  frugal_row : (front : List OrderPos) (id number : ℕ) (asked : Asked) (row : OrderPos) → asked.price ≡ None → position_for draw state front id number asked ≡ Ok row
      → names v.id row.voucher ≡ true → row.discount ≤ budget - (spent v.id state.lists + named_discounts v.id front)
  unfolding position_for
  frugal_row front id number asked row free h =
      let (sold, is, h1) = gave_below OfVoucher (sold_for asked front state) _ h in
      let s = sold_is asked front state sold is in
      let computed : sold_at None s.product s.voucher s.base (price_with state.lists front s.voucher s.base) ≡ sold =
      ap (λ (given : Option ℕ). sold_at given s.product s.voucher s.base (price_with state.lists front s.voucher s.base)) (sym free) ∙ s.is in
      let frugal = off_it s.voucher front s.base (asked_stands state order s.product asked.voucher s.voucher s.may_use) in
      let of_sold = subst (λ (x : Sold). names v.id x.voucher ≡ true → discount_of x ≤ budget - (spent v.id state.lists + named_discounts v.id front)) computed frugal in
      subst (λ (r : OrderPos). names v.id r.voucher ≡ true → r.discount ≤ budget - (spent v.id state.lists + named_discounts v.id front)) (gave_it (position_row draw state.next.order id number sold) row h1) of_sold

  frugal_rows : (asked : List Asked) (front : List OrderPos) (id number : ℕ) (rows : List OrderPos) → AllByRecursion (λ a. a.price ≡ None) asked → rows_for draw state front id number asked ≡ Ok rows
      → AreFrugal v.id budget (spent v.id state.lists) (named_discounts v.id front) rows
  frugal_rows [] front id number rows free h = subst (AreFrugal v.id budget (spent v.id state.lists) (named_discounts v.id front)) (gave_it [] rows h) tt
  frugal_rows (entry ∷ more) front id number rows free h =
      let (row, first, h1) = gave (position_for draw state front id number entry) _ h in
      let (others, rest, h2) = gave (rows_for draw state (front ++ row ∷ []) (id + 1) (number + 1) more) _ h1 in
      let behind = frugal_rows more (front ++ row ∷ []) (id + 1) (number + 1) others free.1 rest in
      let here = subst (λ (n : ℕ). AreFrugal v.id budget (spent v.id state.lists) n others) (discounts_append v.id front (row ∷ [])) behind in
      subst (AreFrugal v.id budget (spent v.id state.lists) (named_discounts v.id front)) (gave_it (row ∷ others) rows h2) (frugal_row front id number entry row free.0 first, here)

-- ---- all of them together stay within each budget

module _ (draw : Draw) (state : State) (order : AreInOrder (λ r. r.id) state.lists.vouchers) (within : AllWithinBudget state.lists)
    (asked : List Asked) (free : AllByRecursion (λ a. a.price ≡ None) asked) (id number : ℕ) (rows : List OrderPos) (are : rows_for draw state [] id number asked ≡ Ok rows)
    (after : Lists) (same : after.vouchers ≡ state.lists.vouchers) (more : (v : ℕ) → spent v after ≤ spent v state.lists + named_discounts v rows) where
  fits : (v : Voucher) → voucher_at v.id state.lists ≡ Some v → covers v.budget (spent v.id after) ≡ true
  fits v stands = by_budget v.budget refl (all-row_at (λ (r : Voucher). r.id) (HasBudget state.lists) v.id state.lists.vouchers v stands within)
    where
      by_budget : (budget : Option ℕ) → v.budget ≡ budget → IfSome budget (λ b. spent v.id state.lists ≤ b) → covers budget (spent v.id after) ≡ true
      by_budget None has before = refl
      by_budget (Some b) has before =
          let frugal = frugal_rows draw state order v b stands has asked [] id number rows free are in
          covers_it (Some b) (spent v.id after) (omega (arith, more v.id, frugal_within v.id b (spent v.id state.lists) 0 rows (omega (arith, before)) frugal))

  one_fits : (name : Option ℕ) → is_within after name ≡ true
  one_fits None = refl
  one_fits (Some id) = ap (λ (vs : List Voucher). is_within_by after (row_at (λ (r : Voucher). r.id) id vs)) same ∙ by_found (voucher_at id state.lists) refl
    where
      by_found : (found : Option Voucher) → voucher_at id state.lists ≡ found → is_within_by after found ≡ true
      by_found None is = refl
      by_found (Some v) is =
          let key = key-row_at (λ (r : Voucher). r.id) id state.lists.vouchers v is in
          fits v (ap (λ (n : ℕ). voucher_at n state.lists) key ∙ is)

  all_fit : (ps : List OrderPos) → are_within after ps ≡ true
  all_fit [] = refl
  all_fit (p ∷ ps) = ap (λ (b : Bool). b && are_within after ps) (one_fits p.voucher) ∙ all_fit ps

  pub asked_fit : are_within after rows ≡ true
  asked_fit = all_fit rows
