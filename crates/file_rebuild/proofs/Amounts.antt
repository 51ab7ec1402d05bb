-- Amounts that stand under the ids of rows: which is told of each, and when of all.
use Rattle.std.proofs.Common.{◌≡◌, ◌↔◌, ◌==◌, ℕ, ◌+◌, Bool, true, false, cond, not, List, [], ◌∷◌, ◌++◌, length, map, filter, flat_map, Option, Some, None, is_some, refl, sym, ap, ap₂, subst, ◌∙◌, inl, inr}
use Rattle.std.specs.List.{All, AllByRecursion, count_by, zip}
use Rattle.std.specs.Prelude.{option_map, option_to_list, unwrap_or}
use Rattle.std.specs.List.Sorted.{IsPermutation}
use Rattle.std.proofs.lemmas.List.{length-append, length-map}
use Rattle.std.proofs.lemmas.List.Elements.{All-from_recursion, recursion_from_All}
use Rattle.std.proofs.lemmas.List.Sorted.{IsPermutation-sym, All-permutation}
use Rattle.std.proofs.lemmas.List.Sums.{sum_by-cons}
use Rattle.base_tables.specs.Rising.{rising}
use Rattle.base_tables.specs.Tables.{row_at, InOrderFrom, AreInOrder}
use Rattle.model_rows.specs.declared.rows.OrderPos.{OrderPos}
use Rattle.model_rows.specs.declared.rows.Voucher.{Voucher}
use Rattle.file_rows.specs.declared.rows.BudgetRow.{BudgetRow}
use Rattle.file_rows.specs.declared.rows.DiscountRow.{DiscountRow}
use Rattle.file_rows.specs.declared.rows.PositionRow.{PositionRow}
use Rattle.file_rows.specs.declared.rows.VoucherRow.{VoucherRow}
use Rattle.file_meaning.specs.Links.{Link, all_links}
use Rattle.file_meaning.specs.Rows.{budgets_of, discounts_of, budget_in, discount_in, voucher_of, position_of}
use Rattle.file_meaning.proofs.Counting.{few}
use Rattle.file_meaning.proofs.Told.{order_of_parts}
use Rattle.file_rebuild.specs.Arranged.{budget_link, discount_link, voucher_with, position_with}
use Rattle.file_rebuild.specs.Members.{members_told, members_of, links_to, links_of, values_of}
use Rattle.file_rebuild.proofs.Parts.{all_told}

-- ---- one owner

-- where owners rise, what is told of one is a value or nothing
told_alone : (id n : ℕ) (ls : List Link) → InOrderFrom (λ (l : Link). l.owner) n ls → option_to_list (budget_in (members_told id ls)) ≡ members_of id ls
told_alone id n ls h =
    elim (few (λ (l : Link). l.owner) n id ls h) [
      | inl none ↦ subst (λ t. option_to_list (budget_in t) ≡ rising t) (sym (ap (map (λ (l : Link). l.member)) none)) refl
      | inr one ↦ subst (λ t. option_to_list (budget_in t) ≡ rising t) (sym (ap (map (λ (l : Link). l.member)) one.1)) refl
    ]

values_are : (ids : List ℕ) (ls : List Link) → AreInOrder (λ (l : Link). l.owner) ls → values_of ids ls ≡ links_of ids ls
values_are [] ls h = refl
values_are (id ∷ ids) ls h = ap₂ ◌++◌ (ap (λ ms. links_to ms id) (told_alone id 0 ls h)) (values_are ids ls h)

one_or_none : (o : Option ℕ) → cond (is_some o) 1 0 ≡ length (option_to_list o)
one_or_none None = refl
one_or_none (Some n) = refl

-- as many have a value as are told one
counted : (ids : List ℕ) (ls : List Link) → AreInOrder (λ (l : Link). l.owner) ls → count_by is_some (map (λ id. budget_in (members_told id ls)) ids) ≡ length (flat_map (λ m. m) (map (λ id. members_of id ls) ids))
counted [] ls h = refl
counted (id ∷ ids) ls h =
    sum_by-cons (λ (o : Option ℕ). cond (is_some o) 1 0) (budget_in (members_told id ls)) (map (λ id. budget_in (members_told id ls)) ids)
    ∙ ap₂ ◌+◌ (one_or_none (budget_in (members_told id ls)) ∙ ap length (told_alone id 0 ls h)) (counted ids ls h)
    ∙ sym (length-append (members_of id ls) (flat_map (λ m. m) (map (λ i. members_of i ls) ids)))

module _ {V : Type 0} (key value : V → ℕ) where
  abbrev pub link : V → Link
  link v = record { owner = key v; member = value v }

  -- the value of the row of an id is what is told of it first
  pub value_told : (id : ℕ) (rows : List V) → option_map value (row_at key id rows) ≡ budget_in (members_told id (map link rows))
  value_told id [] = refl
  value_told id (r ∷ rows) =
      elim (key r == id) as (λ b. option_map value (cond b (Some r) (row_at key id rows)) ≡ budget_in (map (λ (l : Link). l.member) (cond b (link r ∷ filter (λ (l : Link). l.owner == id) (map link rows)) (filter (λ (l : Link). l.owner == id) (map link rows))))) [
        | true ↦ refl
        | false ↦ value_told id rows
      ]

  each_told : (ids : List ℕ) (rows : List V) → map (λ id. option_map value (row_at key id rows)) ids ≡ map (λ id. budget_in (members_told id (map link rows))) ids
  each_told [] rows = refl
  each_told (id ∷ ids) rows = ap₂ ◌∷◌ (value_told id rows) (each_told ids rows)

  -- they are whole where as many are told as there are rows
  pub values_whole : (ids : List ℕ) (rows : List V) (each : List (Option ℕ)) (W : Type 0) → AreInOrder (λ n. n) ids → AreInOrder key rows → each ≡ map (λ id. option_map value (row_at key id rows)) ids → (W ↔ (count_by is_some each ≡ length rows))
      → W ↔ IsPermutation (map link rows) (values_of ids (map link rows))
  values_whole ids rows each W h k e so =
      let ls = map link rows in
      let order = order_of_parts key link (λ (l : Link). l.owner) (λ r. refl) 0 rows k in
      let all = all_told ids ls h in
      let many : count_by is_some each ≡ length (flat_map (λ m. m) (map (λ id. members_of id ls) ids)) = ap (count_by is_some) (e ∙ each_told ids rows) ∙ counted ids ls order in
      let long : length ls ≡ length rows = length-map rows link in
      let same : values_of ids ls ≡ links_of ids ls = values_are ids ls order in (
        λ w. subst (IsPermutation ls) (sym same) (all.0 (sym many ∙ so.0 w ∙ sym long)),
        λ p. so.1 (many ∙ all.1 (subst (IsPermutation ls) same p) ∙ long),
      )

-- ---- vouchers

-- each row with its budget
pub vouchers_joined : (budgets : List BudgetRow) (heads : List VoucherRow)
    → map (λ (p : VoucherRow × Option ℕ). voucher_of p.1 p.0.voucher) (zip heads (map (λ id. option_map (λ (b : BudgetRow). b.budget) (row_at (λ (b : BudgetRow). b.voucher_id) id budgets)) (map (λ (r : VoucherRow). r.voucher.id) heads)))
    ≡ map (λ (r : VoucherRow). voucher_with (map budget_link budgets) r.voucher) heads
vouchers_joined budgets [] = refl
vouchers_joined budgets (h ∷ heads) = ap₂ ◌∷◌ (ap (λ o. voucher_of o h.voucher) (value_told (λ (b : BudgetRow). b.voucher_id) (λ (b : BudgetRow). b.budget) h.voucher.id budgets)) (vouchers_joined budgets heads)

pub voucher_links : (ls : List Link) (heads : List VoucherRow) → all_links (λ (v : Voucher). v.id) budgets_of (map (λ (r : VoucherRow). voucher_with ls r.voucher) heads) ≡ values_of (map (λ (r : VoucherRow). r.voucher.id) heads) ls
voucher_links ls [] = refl
voucher_links ls (h ∷ heads) = ap (λ more. links_to (option_to_list (budget_in (members_told h.voucher.id ls))) h.voucher.id ++ more) (voucher_links ls heads)

-- ---- order positions

or_none : (ms : List ℕ) → unwrap_or (budget_in ms) 0 ≡ discount_in ms
or_none [] = refl
or_none (m ∷ ms) = refl

pub positions_joined : (discounts : List DiscountRow) (heads : List PositionRow)
    → map (λ (p : PositionRow × Option ℕ). position_of (unwrap_or p.1 0) p.0) (zip heads (map (λ id. option_map (λ (d : DiscountRow). d.discount) (row_at (λ (d : DiscountRow). d.position_id) id discounts)) (map (λ (r : PositionRow). r.id) heads)))
    ≡ map (position_with (map discount_link discounts)) heads
positions_joined discounts [] = refl
positions_joined discounts (h ∷ heads) =
    ap₂ ◌∷◌ (ap (λ n. position_of n h) (ap (λ o. unwrap_or o 0) (value_told (λ (d : DiscountRow). d.position_id) (λ (d : DiscountRow). d.discount) h.id discounts) ∙ or_none (members_told h.id (map discount_link discounts)))) (positions_joined discounts heads)

-- a discount of 0 is none
abbrev Takes : ℕ → Type 0
Takes n = not (n == 0) ≡ true

abbrev TakesSome : Link → Type 0
TakesSome l = Takes l.member

told_takes : (id : ℕ) (ls : List Link) → AllByRecursion TakesSome ls → AllByRecursion Takes (members_told id ls)
told_takes id [] h = tt
told_takes id (l ∷ ls) h =
    elim (l.owner == id) as (λ b. AllByRecursion Takes (map (λ (k : Link). k.member) (cond b (l ∷ filter (λ (k : Link). k.owner == id) ls) (filter (λ (k : Link). k.owner == id) ls)))) [
      | true ↦ (h.0, told_takes id ls h.1)
      | false ↦ told_takes id ls h.1
    ]

same_discount : (ms : List ℕ) → AllByRecursion Takes ms → cond (discount_in ms == 0) [] (discount_in ms ∷ []) ≡ option_to_list (budget_in ms)
same_discount [] h = refl
same_discount (m ∷ ms) h = elim (m == 0) as (λ b. not b ≡ true → cond b [] (m ∷ []) ≡ m ∷ []) [
  | true ↦ λ no. absurd cc
  | false ↦ λ _. refl
] h.0

position_links : (ls : List Link) (heads : List PositionRow) → AllByRecursion TakesSome ls → all_links (λ (p : OrderPos). p.id) discounts_of (map (position_with ls) heads) ≡ values_of (map (λ (r : PositionRow). r.id) heads) ls
position_links ls [] h = refl
position_links ls (r ∷ heads) h = ap₂ (λ ms more. links_to ms r.id ++ more) (same_discount (members_told r.id ls) (told_takes r.id ls h)) (position_links ls heads h)

-- the links of positions take something
own_takes : (id n : ℕ) (b : Bool) → (n == 0) ≡ b → AllByRecursion TakesSome (links_to (cond b [] (n ∷ [])) id)
own_takes id n true e = tt
own_takes id n false e = (ap not e, tt)

takes_append : (xs ys : List Link) → AllByRecursion TakesSome xs → AllByRecursion TakesSome ys → AllByRecursion TakesSome (xs ++ ys)
takes_append [] ys h k = k
takes_append (x ∷ xs) ys h k = (h.0, takes_append xs ys h.1 k)

all_take : (positions : List OrderPos) → AllByRecursion TakesSome (all_links (λ (p : OrderPos). p.id) discounts_of positions)
all_take [] = tt
all_take (p ∷ positions) = takes_append _ _ (own_takes p.id p.discount (p.discount == 0) refl) (all_take positions)

rows_take : (rows : List DiscountRow) → AllByRecursion TakesSome (map discount_link rows) → AllByRecursion (λ (r : DiscountRow). Takes r.discount) rows
rows_take [] h = tt
rows_take (r ∷ rows) h = (h.0, rows_take rows h.1)

links_take : (rows : List DiscountRow) → AllByRecursion (λ (r : DiscountRow). Takes r.discount) rows → AllByRecursion TakesSome (map discount_link rows)
links_take [] h = tt
links_take (r ∷ rows) h = (h.0, links_take rows h.1)

abbrev OfRow : DiscountRow → Type 0
OfRow r = Takes r.discount

-- discounts are whole where each takes something and is of one of the positions
pub discounts_whole : (rows : List DiscountRow) (heads : List PositionRow) (positions : List OrderPos) (W A B : Type 0) → positions ≡ map (position_with (map discount_link rows)) heads → (W ↔ (A × B))
    → (A ↔ IsPermutation (map discount_link rows) (values_of (map (λ (r : PositionRow). r.id) heads) (map discount_link rows))) → (B ↔ All (λ (r : DiscountRow). not (r.discount == 0) ≡ true) rows)
    → W ↔ IsPermutation (map discount_link rows) (all_links (λ (p : OrderPos). p.id) discounts_of positions)
discounts_whole rows heads positions W A B are both a b =
    let ls = map discount_link rows in
    let so : AllByRecursion TakesSome ls → all_links (λ (p : OrderPos). p.id) discounts_of positions ≡ values_of (map (λ (r : PositionRow). r.id) heads) ls = λ h. ap (all_links (λ (p : OrderPos). p.id) discounts_of) are ∙ position_links ls heads h in (
      λ w.
          let it = both.0 w in
          let take = links_take rows (recursion_from_All OfRow rows (b.0 it.1)) in
          subst (IsPermutation ls) (sym (so take)) (a.0 it.0),
      λ p.
          let take : AllByRecursion TakesSome ls = recursion_from_All TakesSome ls (All-permutation TakesSome (all_links (λ (p : OrderPos). p.id) discounts_of positions) ls (IsPermutation-sym _ _ p) (All-from_recursion TakesSome _ (all_take positions))) in
          both.1 (a.1 (subst (IsPermutation ls) (so take) p), b.1 (All-from_recursion OfRow rows (rows_take rows take))),
    )

-- budgets are whole where each is of one of the vouchers
pub budgets_whole : (rows : List BudgetRow) (heads : List VoucherRow) (vouchers : List Voucher) (W : Type 0) → vouchers ≡ map (λ (r : VoucherRow). voucher_with (map budget_link rows) r.voucher) heads
    → (W ↔ IsPermutation (map budget_link rows) (values_of (map (λ (r : VoucherRow). r.voucher.id) heads) (map budget_link rows))) → W ↔ IsPermutation (map budget_link rows) (all_links (λ (v : Voucher). v.id) budgets_of vouchers)
budgets_whole rows heads vouchers W are whole =
    subst (λ ls. W ↔ IsPermutation (map budget_link rows) ls) (sym (ap (all_links (λ (v : Voucher). v.id) budgets_of) are ∙ voucher_links (map budget_link rows) heads)) whole
