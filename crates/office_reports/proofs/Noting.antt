-- Noting positions one after another counts what was sold of each item.
use Rattle.std.proofs.Common.{◌≡◌, ◌≢◌, ℕ, ◌+◌, ◌≤◌, ◌<◌, Bool, true, false, cond, eqb, List, [], ◌∷◌, map, get_or, set, length, drop, Option, Some, None, refl, sym, ap, ◌∙◌, subst, arith}
use Rattle.std.specs.Prelude.{if◌then◌else◌, ◌&&◌}
use Rattle.std.proofs.lemmas.Bool.Decides.{nat_tests}
use Rattle.std.proofs.lemmas.List.{drop_more, drop_all, map-id}
use Rattle.std.proofs.lemmas.List.Sums.{sum_by-cons}
use Rattle.base_values.specs.Money.{last_cents}
use Rattle.base_tables.specs.Tables.{row_at, InOrderFrom, AreInOrder, IsPlace}
use Rattle.model_catalogue.specs.declared.rows.Item.{Item}
use Rattle.model_rows.specs.declared.rows.Status.{Status}
use Rattle.model_rows.specs.declared.rows.Status.TheVariants.{Pending, Paid, Expired, Cancelled}
use Rattle.model_rows.specs.declared.rows.Order.{Order}
use Rattle.model_rows.specs.declared.rows.OrderPos.{OrderPos}
use Rattle.model_rows.specs.Conditions.{is_paid, is_pending}
use Rattle.model_rows.specs.Lists.{Lists, order_at}
use Rattle.office_reports.specs.declared.sales.Sales.{Sales}
use Rattle.office_reports.specs.declared.sales.ItemSales.{ItemSales}
use Rattle.office_reports.specs.Sold.{all_sales, cents_earned, is_cancelled, is_expired, is_sold, item_sales, sales_of, positions_sold, status_passes}
use Rattle.office_reports.specs.Noted.{AreFew, IsFew, sale_noted, noted_all, noted_if, unsold, with_sale}
use Rattle.base_tables.proofs.Mapped.{map_two, map_absent, map_set, mapped_in_order}

few_weaker : (n m : ℕ) (s : Sales) → n ≤ m → IsFew n s → IsFew m s
few_weaker n m s le few = record { paid = omega (arith, le, few.paid); pending = omega (arith, le, few.pending); expired = omega (arith, le, few.expired); cancelled = omega (arith, le, few.cancelled); amount = omega (arith, le, few.amount) }

pub all_few_weaker : (n m : ℕ) (rows : List ItemSales) → n ≤ m → AreFew n rows → AreFew m rows
all_few_weaker n m [] le few = tt
all_few_weaker n m (r ∷ rs) le few = (few_weaker n m r.sales le few.0, all_few_weaker n m rs le few.1)

-- before any position
pub none_few : (items : List Item) → AreFew 0 (map unsold items)
none_few [] = tt
none_few (i ∷ is) = (record { paid = omega arith; pending = omega arith; expired = omega arith; cancelled = omega arith; amount = omega arith }, none_few is)

pub none_in_order : (n : ℕ) (items : List Item) → InOrderFrom (λ i. i.id) n items → InOrderFrom (λ s. s.item) n (map unsold items)
none_in_order n items h = mapped_in_order (λ (i : Item). i.id) (λ (s : ItemSales). s.item) unsold (λ i. refl) n items h

module _ (status : Status) (item price : ℕ) where
  abbrev noted_by : Bool → ItemSales → ItemSales
  noted_by b s = if b then record s { sales = with_sale status price s.sales } else s

  pub noted_item : (s : ItemSales) → (sale_noted status item price s).item ≡ s.item
  unfolding sale_noted
  noted_item s = by_test (eqb item s.item)
    where
      by_test : (b : Bool) → (noted_by b s).item ≡ s.item
      by_test true = refl
      by_test false = refl

  noted_apart : (s : ItemSales) → s.item ≢ item → sale_noted status item price s ≡ s
  unfolding sale_noted
  noted_apart s apart = by_test (eqb item s.item) refl
    where
      by_test : (b : Bool) → eqb item s.item ≡ b → noted_by b s ≡ s
      by_test true e = absurd (apart (grind (arith, nat_tests, e)))
      by_test false e = refl

  -- at its place the item is the one that is noted
  noted_there : (s : ItemSales) → s.item ≡ item → sale_noted status item price s ≡ noted_by true s
  unfolding sale_noted
  noted_there s is = by_test (eqb item s.item) refl
    where
      by_test : (b : Bool) → eqb item s.item ≡ b → noted_by b s ≡ noted_by true s
      by_test true e = refl
      by_test false e = absurd (grind (arith, nat_tests, e, is))

  pub noted_here : (rows : List ItemSales) (i : ℕ) (d : ItemSales) → AreInOrder (λ s. s.item) rows → IsPlace (λ s. s.item) rows item i → set rows i (noted_by true (get_or rows i d)) ≡ map (sale_noted status item price) rows
  noted_here rows i d h p =
      ap (set rows i) (sym (noted_there (get_or rows i d) (p.has_id d)))
      ∙ map_set (λ (s : ItemSales). s.item) (sale_noted status item price) item noted_apart 0 rows i d h p

  pub noted_nowhere : (rows : List ItemSales) → row_at (λ s. s.item) item rows ≡ None → map (sale_noted status item price) rows ≡ rows
  noted_nowhere rows e = map_absent (λ (s : ItemSales). s.item) (sale_noted status item price) item noted_apart rows e

  pub noted_in_order : (rows : List ItemSales) → AreInOrder (λ s. s.item) rows → AreInOrder (λ s. s.item) (map (sale_noted status item price) rows)
  noted_in_order rows h = mapped_in_order (λ (s : ItemSales). s.item) (λ (s : ItemSales). s.item) (sale_noted status item price) noted_item 0 rows h

  -- one more position raises no count by more than one, and what was paid by no more than a price
  sale_few : (n : ℕ) (s : Sales) → price ≤ last_cents → IsFew n s → IsFew (n + 1) (with_sale status price s)
  sale_few n s le few = each status
    where
      each : (st : Status) → IsFew (n + 1) (with_sale st price s)
      each Pending = record { paid = omega (arith, few.paid); pending = omega (arith, few.pending); expired = omega (arith, few.expired); cancelled = omega (arith, few.cancelled); amount = omega (arith, few.amount) }
      each Paid = record { paid = omega (arith, few.paid); pending = omega (arith, few.pending); expired = omega (arith, few.expired); cancelled = omega (arith, few.cancelled); amount = omega (arith, few.amount, le) }
      each Expired = record { paid = omega (arith, few.paid); pending = omega (arith, few.pending); expired = omega (arith, few.expired); cancelled = omega (arith, few.cancelled); amount = omega (arith, few.amount) }
      each Cancelled = record { paid = omega (arith, few.paid); pending = omega (arith, few.pending); expired = omega (arith, few.expired); cancelled = omega (arith, few.cancelled); amount = omega (arith, few.amount) }

  noted_few : (n : ℕ) (s : ItemSales) → price ≤ last_cents → IsFew n s.sales → IsFew (n + 1) (sale_noted status item price s).sales
  unfolding sale_noted
  noted_few n s le few = by_test (eqb item s.item)
    where
      by_test : (b : Bool) → IsFew (n + 1) (noted_by b s).sales
      by_test true = sale_few n s.sales le few
      by_test false = few_weaker n (n + 1) s.sales (omega arith) few

  pub all_noted_few : (n : ℕ) (rows : List ItemSales) → price ≤ last_cents → AreFew n rows → AreFew (n + 1) (map (sale_noted status item price) rows)
  all_noted_few n [] le few = tt
  all_noted_few n (r ∷ rs) le few = (noted_few n r le few.0, all_noted_few n rs le few.1)

-- what one position comes to, by its order
after_one : (lists : Lists) (p : OrderPos) (ps : List OrderPos) (o : Option Order) (rows : List ItemSales) → order_at p.order lists ≡ o
    → map (noted_all lists ps) (map (noted_if o p) rows) ≡ map (noted_all lists (p ∷ ps)) rows
after_one lists p ps o rows is =
    map_two (noted_if o p) (noted_all lists ps) rows ∙ ap (λ (x : Option Order). map (λ s. noted_all lists ps (noted_if x p s)) rows) (sym is)

-- the first i positions were noted: items rise, no count is above i, and noting the others leads to what noting all does
abbrev pub Noted : Lists → List OrderPos → ℕ → List ItemSales → List ItemSales → Type 0
Noted lists all i first rows = record {
  order : AreInOrder (λ s. s.item) rows;
  few : AreFew i rows;
  rest : map (noted_all lists (drop i all)) rows ≡ map (noted_all lists all) first;
}

module _ (lists : Lists) (all : List OrderPos) (i : ℕ) (p : OrderPos) (first rows : List ItemSales) (at : i < length all) (is : p ≡ get_or all i p) (so_far : Noted lists all i first rows) where
  left : drop i all ≡ p ∷ drop (i + 1) all
  left = drop_more all i p at ∙ ap (λ (r : OrderPos). r ∷ drop (i + 1) all) (sym is)

  rest_by : (o : Option Order) → order_at p.order lists ≡ o → map (noted_all lists (drop (i + 1) all)) (map (noted_if o p) rows) ≡ map (noted_all lists all) first
  rest_by o e = after_one lists p (drop (i + 1) all) o rows e ∙ ap (λ l. map (noted_all lists l) rows) (sym left) ∙ so_far.rest

  pub noted_one : (o : Option Order) (after : List ItemSales) → order_at p.order lists ≡ o → p.price ≤ last_cents → after ≡ map (noted_if o p) rows → Noted lists all (i + 1) first after
  noted_one o after e le are = subst (λ (l : List ItemSales). Noted lists all (i + 1) first l) (sym are) (by_order o e)
    where
      by_order : (o : Option Order) → order_at p.order lists ≡ o → Noted lists all (i + 1) first (map (noted_if o p) rows)
      by_order None e = record {
        order = subst (λ (l : List ItemSales). AreInOrder (λ s. s.item) l) (sym (map-id rows)) so_far.order;
        few = subst (λ (l : List ItemSales). AreFew (i + 1) l) (sym (map-id rows)) (all_few_weaker i (i + 1) rows (omega arith) so_far.few);
        rest = rest_by None e;
      }
      by_order (Some order) e = record {
        order = noted_in_order order.status p.product.item p.price rows so_far.order;
        few = all_noted_few order.status p.product.item p.price i rows le so_far.few;
        rest = rest_by (Some order) e;
      }

-- all were noted
pub all_noted : (lists : Lists) (all : List OrderPos) (i : ℕ) (first rows : List ItemSales) → length all ≤ i → Noted lists all i first rows → rows ≡ map (noted_all lists all) first
all_noted lists all i first rows le so_far = sym (map-id rows) ∙ ap (λ l. map (noted_all lists l) rows) (sym (drop_all i all le)) ∙ so_far.rest

-- a position whose order isn't there is noted nowhere
pub noted_nowhere_if : (p : OrderPos) (o : Option Order) (rows : List ItemSales) → o ≡ None → rows ≡ map (noted_if o p) rows
noted_nowhere_if p o rows e = sym (map-id rows) ∙ ap (λ (x : Option Order). map (noted_if x p) rows) (sym e)

-- what is counted of an item over some positions
module _ (lists : Lists) (item : ℕ) where
  abbrev with_counts : ℕ → ℕ → ℕ → ℕ → ℕ → Sales
  with_counts paid pending expired cancelled amount = record { paid = paid; pending = pending; expired = expired; cancelled = cancelled; amount = amount }

  counts_alike : (a b c d e a' b' c' d' e' : ℕ) → a ≡ a' → b ≡ b' → c ≡ c' → d ≡ d' → e ≡ e' → with_counts a b c d e ≡ with_counts a' b' c' d' e'
  counts_alike a b c d e a' b' c' d' e' p q r s t =
      ap (λ x. with_counts x b c d e) p ∙ ap (λ x. with_counts a' x c d e) q ∙ ap (λ x. with_counts a' b' x d e) r ∙ ap (λ x. with_counts a' b' c' x e) s ∙ ap (λ x. with_counts a' b' c' d' x) t

  -- with the counts over these positions
  abbrev counted : List OrderPos → Sales → Sales
  counted ps s = with_counts (s.paid + positions_sold item is_paid lists ps) (s.pending + positions_sold item is_pending lists ps) (s.expired + positions_sold item is_expired lists ps) (s.cancelled + positions_sold item is_cancelled lists ps) (s.amount + cents_earned item lists ps)

  -- with one position before these, by whether it is counted in each of the columns
  abbrev counted_behind : (paid pending expired cancelled : Bool) (price : ℕ) → List OrderPos → Sales → Sales
  counted_behind paid pending expired cancelled price ps s =
      with_counts
      (s.paid + (cond paid 1 0 + positions_sold item is_paid lists ps))
      (s.pending + (cond pending 1 0 + positions_sold item is_pending lists ps))
      (s.expired + (cond expired 1 0 + positions_sold item is_expired lists ps))
      (s.cancelled + (cond cancelled 1 0 + positions_sold item is_cancelled lists ps))
      (s.amount + ((if paid then price else 0) + cents_earned item lists ps))

  none_behind : (price : ℕ) (ps : List OrderPos) (s : Sales) → counted ps s ≡ counted_behind false false false false price ps s
  none_behind price ps s = counts_alike _ _ _ _ _ _ _ _ _ _ (omega arith) (omega arith) (omega arith) (omega arith) (omega arith)

  sale_behind : (status : Status) (price : ℕ) (ps : List OrderPos) (s : Sales) → counted ps (with_sale status price s) ≡ counted_behind (is_paid status) (is_pending status) (is_expired status) (is_cancelled status) price ps s
  sale_behind Paid price ps s = counts_alike _ _ _ _ _ _ _ _ _ _ (omega arith) (omega arith) (omega arith) (omega arith) (omega arith)
  sale_behind Pending price ps s = counts_alike _ _ _ _ _ _ _ _ _ _ (omega arith) (omega arith) (omega arith) (omega arith) (omega arith)
  sale_behind Expired price ps s = counts_alike _ _ _ _ _ _ _ _ _ _ (omega arith) (omega arith) (omega arith) (omega arith) (omega arith)
  sale_behind Cancelled price ps s = counts_alike _ _ _ _ _ _ _ _ _ _ (omega arith) (omega arith) (omega arith) (omega arith) (omega arith)

  abbrev behind_by : (b : Bool) (o : Option Order) (price : ℕ) → List OrderPos → Sales → Sales
  behind_by b o price ps s = counted_behind (b && status_passes is_paid o) (b && status_passes is_pending o) (b && status_passes is_expired o) (b && status_passes is_cancelled o) price ps s

  cons_counted : (p : OrderPos) (ps : List OrderPos) (s : Sales) → behind_by (eqb p.product.item item) (order_at p.order lists) p.price ps s ≡ counted (p ∷ ps) s
  cons_counted p ps s =
      counts_alike _ _ _ _ _ _ _ _ _ _
      (ap (λ n. s.paid + n) (sym (sum_by-cons (λ y. cond (is_sold item is_paid lists y) 1 0) p ps)))
      (ap (λ n. s.pending + n) (sym (sum_by-cons (λ y. cond (is_sold item is_pending lists y) 1 0) p ps)))
      (ap (λ n. s.expired + n) (sym (sum_by-cons (λ y. cond (is_sold item is_expired lists y) 1 0) p ps)))
      (ap (λ n. s.cancelled + n) (sym (sum_by-cons (λ y. cond (is_sold item is_cancelled lists y) 1 0) p ps)))
      (ap (λ n. s.amount + n) (sym (sum_by-cons (λ y. if is_sold item is_paid lists y then y.price else 0) p ps)))

module _ (lists : Lists) where
  abbrev row_with : ℕ → Sales → ItemSales
  row_with item s = record { item = item; sales = s }

  one_behind : (p : OrderPos) (ps : List OrderPos) (o : Option Order) (s : ItemSales)
      → row_with (noted_if o p s).item (counted lists (noted_if o p s).item ps (noted_if o p s).sales) ≡ row_with s.item (behind_by lists s.item (eqb p.product.item s.item) o p.price ps s.sales)
  unfolding sale_noted
  one_behind p ps None s = by_test (eqb p.product.item s.item)
    where
      by_test : (b : Bool) → row_with s.item (counted lists s.item ps s.sales) ≡ row_with s.item (behind_by lists s.item b None p.price ps s.sales)
      by_test true = ap (row_with s.item) (none_behind lists s.item p.price ps s.sales)
      by_test false = ap (row_with s.item) (none_behind lists s.item p.price ps s.sales)
  one_behind p ps (Some order) s = by_test (eqb p.product.item s.item)
    where
      by_test : (b : Bool)
          → row_with (noted_by order.status p.product.item p.price b s).item (counted lists (noted_by order.status p.product.item p.price b s).item ps (noted_by order.status p.product.item p.price b s).sales)
          ≡ row_with s.item (behind_by lists s.item b (Some order) p.price ps s.sales)
      by_test true = ap (row_with s.item) (sale_behind lists s.item order.status p.price ps s.sales)
      by_test false = ap (row_with s.item) (none_behind lists s.item p.price ps s.sales)

  noted_all_is : (ps : List OrderPos) (s : ItemSales) → noted_all lists ps s ≡ row_with s.item (counted lists s.item ps s.sales)
  noted_all_is [] s = ap (row_with s.item) (counts_alike lists s.item _ _ _ _ _ _ _ _ _ _ (omega arith) (omega arith) (omega arith) (omega arith) (omega arith))
  noted_all_is (p ∷ ps) s = noted_all_is ps (noted_if (order_at p.order lists) p s) ∙ one_behind p ps (order_at p.order lists) s ∙ ap (row_with s.item) (cons_counted lists s.item p ps s.sales)

  sales_are : (item : Item) → noted_all lists lists.positions (unsold item) ≡ item_sales lists item
  unfolding sales_of
  sales_are item = noted_all_is lists.positions (unsold item) ∙ ap (row_with item.id) (counts_alike lists item.id _ _ _ _ _ _ _ _ _ _ (omega arith) (omega arith) (omega arith) (omega arith) (omega arith))

  each_alike : (items : List Item) → map (λ i. noted_all lists lists.positions (unsold i)) items ≡ map (item_sales lists) items
  each_alike [] = refl
  each_alike (i ∷ is) = ap (λ s. s ∷ map (λ i. noted_all lists lists.positions (unsold i)) is) (sales_are i) ∙ ap (λ l. item_sales lists i ∷ l) (each_alike is)

  -- noting all positions counts what was sold of each item
  pub all_sales_are : map (noted_all lists lists.positions) (map unsold lists.catalogue.items) ≡ all_sales lists
  all_sales_are = map_two unsold (noted_all lists lists.positions) lists.catalogue.items ∙ each_alike lists.catalogue.items
