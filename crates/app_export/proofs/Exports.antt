-- What the SELECT of order positions answers is the export of the box office.
use Rattle.std.proofs.Common.{◌≡◌, ℕ, Bool, true, false, cond, ◌==◌, List, [], ◌∷◌, ◌++◌, map, filter, Option, Some, None, is_some, unwrap_or, option_map, refl, sym, ap, subst, ◌∙◌, arith}
use Rattle.std.specs.List.{AllByRecursion, flat_map}
use Rattle.std.specs.List.Sorted.{IsPermutation, IsSorted}
use Rattle.std.proofs.lemmas.Bool.Decides.{nat_tests}
use Rattle.std.proofs.lemmas.List.Sorted.{IsPermutation-trans, IsPermutation-sym, IsPermutation-map}
use Rattle.sqlite.specs.Values.{or_null}
use Rattle.sqlite.specs.Effect.{Database, Reads}
use Rattle.sqlite.proofs.Callers.{one_permutation}
use Rattle.sqlite_value.specs.declared.value.Value.TheVariants.{Null, Text}
use Rattle.sqlite_value.specs.Order.{Row}
use Rattle.sqlite_trees.specs.Tree.{Trees}
use Rattle.sqlite_trees.proofs.ListLemmas.{map-map, flat_map-map, filter-map, pull_back, all-permutation, IsPermutation-same, IsPermutation-filter}
use Rattle.sqlite_sql.specs.Program.{overlay}
use Rattle.sqlite_sql.specs.Query.{IsAnswer, Output, output, output_cmp}
use Rattle.sqlite_schema.specs.declared.command.Command.TheVariants.{Select}
use Rattle.file_schema.specs.Tables.{schema}
use Rattle.file_schema.specs.Parts.{row_shown}
use Rattle.file_schema.specs.Shapes.{plainly}
use Rattle.file_schema.proofs.Keyed.{same_filter}
use Rattle.base_tables.specs.Tables.{AreInOrder, row_at}
use Rattle.file_meaning.proofs.Order.{rows_at, same_order}
use Rattle.file_meaning.specs.Stands.{Stand}
use Rattle.file_rows.specs.Tables.{Tables, Holds}
use Rattle.file_rows.specs.Changes.{head_of_voucher, head_of_position}
use Rattle.file_rows.specs.Rows.{position_row as row_of_position, order_row, voucher_row}
use Rattle.file_rows.specs.declared.rows.ShopRow.{ShopRow}
use Rattle.file_rows.specs.declared.rows.VoucherHead.{VoucherHead}
use Rattle.file_rows.specs.declared.rows.VoucherRow.{VoucherRow}
use Rattle.model_answers.specs.declared.kept.Kept.{Kept}
use Rattle.model_rows.specs.declared.rows.Order.{Order}
use Rattle.model_rows.specs.declared.rows.OrderPos.{OrderPos}
use Rattle.model_rows.specs.declared.rows.Voucher.{Voucher}
use Rattle.model_rows.specs.declared.rows.Status.TheVariants as statuses
use Rattle.model_rows.specs.Lists.{Lists, State, voucher_at, order_at}
use Rattle.model_rows.specs.Fits.{is_fit}
use Rattle.model_invariant.specs.Sound.{IsSound}
use Rattle.model_export.specs.declared.row.ExportRow.{ExportRow}
use Rattle.model_export.specs.Exported.{code_of, export_row, rows_exported}
use Rattle.app_export.specs.Cells.{cells}
use Rattle.app_export.proofs.Asked.{joined, names}
use Rattle.app_export.proofs.Joined.{is_of, is_named, line, lines, lines_of, lines_turned, from_trees, of_one, without_code, with_code}
use Rattle.app_export.proofs.Ordered.{key, IsNear, sorted_as, one_each, exported_same, exported_rise, exported_near, rises}
use Rattle.app_export.proofs.Partners as partner

-- ---- the order and the voucher that stand

found_id : {T : Type 0} (key : T → ℕ) (id : ℕ) (rows : List T) (r : T) → row_at key id rows ≡ Some r → (key r == id) ≡ true
found_id key id [] r at = absurd (cc)
found_id key id (x ∷ rows) r at =
    elim (key x == id) as (λ b. (key x == id) ≡ b → cond b (Some x) (row_at key id rows) ≡ Some r → (key r == id) ≡ true) [
      | true ↦ λ is found. let same : x ≡ r = cc in subst (λ y. (key y == id) ≡ true) same is
      | false ↦ λ is found. found_id key id rows r found
    ] refl at

standing : {T : Type 0} (o : Option T) → is_some o ≡ true → (r : T) × (o ≡ Some r)
standing (Some r) h = (r, refl)
standing None h = absurd (cc)

abbrev no_order : Order
no_order = record { id = 0; email = None; status = statuses.Pending; made_at = 0; expires = 0 }

abbrev position_row : OrderPos → Row
position_row p = row_of_position (head_of_position p)

abbrev order_of : Lists → OrderPos → Order
order_of lists p = unwrap_or (order_at p.order lists) no_order

abbrev line_of : Lists → OrderPos → ExportRow
line_of lists p = export_row lists (order_of lists p) p

flat_map_singles : {A B : Type 0} (f : A → List B) (g : A → B) (xs : List A) → AllByRecursion (λ x. f x ≡ g x ∷ []) xs → flat_map f xs ≡ map g xs
flat_map_singles f g [] h = refl
flat_map_singles f g (x ∷ xs) h = ap (λ l. l ++ flat_map f xs) h.0 ∙ ap (λ l. g x ∷ l) (flat_map_singles f g xs h.1)

none_passes : {A : Type 0} (xs : List A) → filter (λ x. false) xs ≡ []
none_passes [] = refl
none_passes (x ∷ xs) = none_passes xs

one_image : {A B : Type 0} (f : A → B) (xs : List A) (b : B) → map f xs ≡ b ∷ [] → (a : A) × (xs ≡ a ∷ []) × (f a ≡ b)
one_image f [] b h = absurd (cc)
one_image f (a ∷ []) b h = (a, refl, cc)
one_image f (a ∷ c ∷ xs) b h = absurd (cc)

module _ (lists : Lists) (t_orders : List Order) (t_vouchers : List VoucherRow) (orders : IsPermutation t_orders lists.orders) (vouchers : IsPermutation (map (λ (r : VoucherRow). r.voucher) t_vouchers) (map head_of_voucher lists.vouchers))
    (in_order : AreInOrder (λ (o : Order). o.id) lists.orders) (vouchers_in_order : AreInOrder (λ (v : Voucher). v.id) lists.vouchers) where
  one_order : (p : OrderPos) (o : Order) → order_at p.order lists ≡ Some o → filter (is_of (position_row p)) (map order_row t_orders) ≡ order_row o ∷ []
  one_order p o at =
      let here : rows_at (λ (o : Order). o.id) p.order t_orders ≡ o ∷ [] = one_permutation o _ (subst (λ l. IsPermutation l (rows_at (λ (o : Order). o.id) p.order t_orders)) (partner.only_one (λ (o : Order). o.id) 0 p.order lists.orders o in_order at)
      (IsPermutation-filter (λ (o : Order). o.id == p.order) lists.orders t_orders (IsPermutation-sym _ _ orders))) in
      filter-map (is_of (position_row p)) order_row t_orders ∙ ap (map order_row) (same_filter (λ o. is_of (position_row p) (order_row o)) (λ o. o.id == p.order) (partner.of_order (head_of_position p)) t_orders ∙ here)

  names_voucher : (p : OrderPos) → filter (is_named (position_row p)) (map voucher_row t_vouchers) ≡ map voucher_row (filter (partner.names p.voucher) t_vouchers)
  names_voucher p = filter-map (is_named (position_row p)) voucher_row t_vouchers ∙ ap (map voucher_row) (same_filter (λ v. is_named (position_row p) (voucher_row v)) (partner.names p.voucher) (partner.of_voucher (head_of_position p)) t_vouchers)

  one_head : (id : ℕ) (v : Voucher) → voucher_at id lists ≡ Some v → filter (λ (h : VoucherHead). h.id == id) (map head_of_voucher lists.vouchers) ≡ head_of_voucher v ∷ []
  one_head id v at = filter-map (λ (h : VoucherHead). h.id == id) head_of_voucher lists.vouchers ∙ ap (map head_of_voucher) (partner.only_one (λ (v : Voucher). v.id) 0 id lists.vouchers v vouchers_in_order at)

  one_voucher : (id : ℕ) (v : Voucher) → voucher_at id lists ≡ Some v → (r : VoucherRow) × (filter (partner.names (Some id)) t_vouchers ≡ r ∷ []) × (r.voucher ≡ head_of_voucher v)
  one_voucher id v at =
      let here = one_permutation (head_of_voucher v) _ (subst (λ l. IsPermutation l (filter (λ (h : VoucherHead). h.id == id) (map (λ (r : VoucherRow). r.voucher) t_vouchers))) (one_head id v at)
      (IsPermutation-filter (λ (h : VoucherHead). h.id == id) (map head_of_voucher lists.vouchers) _ (IsPermutation-sym _ _ vouchers))) in
      one_image (λ (r : VoucherRow). r.voucher) (filter (partner.names (Some id)) t_vouchers) (head_of_voucher v) (sym (filter-map (λ (h : VoucherHead). h.id == id) (λ (r : VoucherRow). r.voucher) t_vouchers) ∙ here)

  -- what is named, or nothing
  coded : (p : OrderPos) (o : Order) (n : Option ℕ) → is_of (position_row p) (order_row o) ≡ true → filter (is_named (position_row p)) (map voucher_row t_vouchers) ≡ map voucher_row (filter (partner.names n) t_vouchers)
      → is_fit lists p.product n ≡ true → lines_of (position_row p) (map voucher_row t_vouchers) (order_row o) ≡ line (position_row p) (order_row o) (or_null Text (code_of n lists)) ∷ []
  coded p o None is named fit = without_code (position_row p) (map voucher_row t_vouchers) (order_row o) is (named ∙ ap (map voucher_row) (none_passes t_vouchers))
  coded p o (Some id) is named fit =
      let stands = fitting (voucher_at id lists) fit in
      let one = one_voucher id stands.0 stands.1 in
      with_code (position_row p) (map voucher_row t_vouchers) (order_row o) (voucher_row one.0) is (named ∙ ap (map voucher_row) one.1)
      ∙ ap (λ c. line (position_row p) (order_row o) c ∷ []) (ap (λ (h : VoucherHead). Text h.code) one.2 ∙ sym (ap (λ f. or_null Text (option_map (λ (v : Voucher). v.code) f)) stands.1))
    where
      fitting : (f : Option Voucher) → Rattle.model_rows.specs.Fits.fits_if lists.catalogue p.product f ≡ true → (v : Voucher) × (f ≡ Some v)
      fitting (Some v) h = (v, refl)
      fitting None h = absurd (cc)

  pub one_line : (p : OrderPos) → is_some (order_at p.order lists) ≡ true → is_fit lists p.product p.voucher ≡ true
      → flat_map (lines_of (position_row p) (map voucher_row t_vouchers)) (map order_row t_orders) ≡ sorted_as (line_of lists p) ∷ []
  one_line p stands fit =
      let (o, at) = standing (order_at p.order lists) stands in
      let same : order_of lists p ≡ o = ap (λ f. unwrap_or f no_order) at in
      let id_is : (o.id == p.order) ≡ true = found_id (λ (o : Order). o.id) p.order lists.orders o at in
      let number : o.id ≡ p.order = grind (arith, nat_tests, id_is) in
      let there = one_order p o at in
      of_one (position_row p) (map voucher_row t_vouchers) (order_row o) (map order_row t_orders) there
      ∙ coded p o p.voucher (partner.of_order (head_of_position p) o ∙ id_is) (names_voucher p) fit
      ∙ ap (λ (x : Output). x ∷ []) (in_line p o number ∙ ap (λ x. sorted_as (export_row lists x p)) (sym same))
    where
      in_line : (p : OrderPos) (o : Order) → o.id ≡ p.order → line (position_row p) (order_row o) (or_null Text (code_of p.voucher lists)) ≡ sorted_as (export_row lists o p)
      in_line p o is = ap (λ n. (
        Rattle.file_rows.specs.Cells.number n ∷ Rattle.file_rows.specs.Cells.number p.positionid ∷ [],
        Rattle.file_rows.specs.Cells.number n ∷ Rattle.file_rows.specs.Cells.number p.positionid ∷ Rattle.file_rows.specs.Cells.status o.status ∷ Rattle.file_rows.specs.Cells.number p.product.item
            ∷ or_null Rattle.file_rows.specs.Cells.number p.product.variation ∷ Rattle.file_rows.specs.Cells.number p.price ∷ or_null Text (code_of p.voucher lists) ∷ Text p.secret ∷ [],
      )) (sym is)

-- ---- the whole

each_line : (lists : Lists) (t_orders : List Order) (t_vouchers : List VoucherRow) (ps : List OrderPos)
    → ((p : OrderPos) → is_some (order_at p.order lists) ≡ true → is_fit lists p.product p.voucher ≡ true → flat_map (lines_of (position_row p) (map voucher_row t_vouchers)) (map order_row t_orders) ≡ sorted_as (line_of lists p) ∷ [])
    → AllByRecursion (λ p. is_some (order_at p.order lists) ≡ true) ps → AllByRecursion (λ p. is_fit lists p.product p.voucher ≡ true) ps
    → AllByRecursion (λ p. flat_map (lines_of (position_row p) (map voucher_row t_vouchers)) (map order_row t_orders) ≡ sorted_as (line_of lists p) ∷ []) ps
each_line lists os vs [] one stand fit = tt
each_line lists os vs (p ∷ ps) one stand fit = (one p stand.0 fit.0, each_line lists os vs ps one stand.1 fit.1)

own_line : (lists : Lists) → AreInOrder (λ (o : Order). o.id) lists.orders → (ps : List OrderPos) → AllByRecursion (λ p. is_some (order_at p.order lists) ≡ true) ps
    → AllByRecursion (λ p. map (λ o. export_row lists o p) (filter (λ o. o.id == p.order) lists.orders) ≡ line_of lists p ∷ []) ps
own_line lists order [] stand = tt
own_line lists order (p ∷ ps) stand =
    let (o, at) = standing (order_at p.order lists) stand.0 in
    (ap (map (λ o. export_row lists o p)) (partner.only_one (λ (o : Order). o.id) 0 p.order lists.orders o order at) ∙ ap (λ f. export_row lists (unwrap_or f no_order) p ∷ []) (sym at), own_line lists order ps stand.1)

same_either : {A : Type 0} (b : Bool) (x : A) → cond b x x ≡ x
same_either true x = refl
same_either false x = refl

no_overlay : (db : Trees) (tree : ℕ) → overlay db [] tree ≡ db tree
no_overlay db tree = rw (same_either {A = Option (List Row)} _ None)

-- an answer puts in order what the join shows of the trees
pub in_order : (db : Trees) (d : Database) → d.trees ≡ db → (rows : List Row) (a : IsAnswer joined (overlay d.trees []) [] rows)
    → IsPermutation (lines (map (row_shown schema 12) (db 12)) (map (row_shown schema 11) (db 11)) (map (row_shown schema 8) (db 8))) a.ordered
in_order db d is rows a =
    let over = overlay d.trees [] in
    let same : (tree : ℕ) → over tree ≡ db tree = λ tree. no_overlay d.trees tree ∙ ap (λ (x : Trees). x tree) is in
    let outs : map (output joined) a.staged ≡ lines (map (row_shown schema 12) (db 12)) (map (row_shown schema 11) (db 11)) (map (row_shown schema 8) (db 8)) =
    ap (map (output joined)) a.grouped ∙ from_trees Null over []
    ∙ ap (λ l. lines (map (row_shown schema 12) l) (map (row_shown schema 11) (over 11)) (map (row_shown schema 8) (over 8))) (same 12)
    ∙ ap (λ l. lines (map (row_shown schema 12) (db 12)) (map (row_shown schema 11) l) (map (row_shown schema 8) (over 8))) (same 11)
    ∙ ap (λ l. lines (map (row_shown schema 12) (db 12)) (map (row_shown schema 11) (db 11)) (map (row_shown schema 8) l)) (same 8) in
    IsPermutation-trans _ _ _ (IsPermutation-same _ _ (sym (a.distinct ∙ outs))) a.same

module _ (db : Trees) (t : Tables) (held : Holds db t) (shop : ShopRow) (s : State) (ks : List Kept) (st : Stand shop t s ks) (so : IsSound s) where
  position_rows : IsPermutation (map position_row s.lists.positions) (map (row_shown schema 12) (db 12))
  position_rows =
      subst (λ l. IsPermutation l (map (row_shown schema 12) (db 12))) (map-map row_of_position head_of_position s.lists.positions)
      (IsPermutation-trans _ _ _ (IsPermutation-map row_of_position _ _ (IsPermutation-sym _ _ st.rows.positions)) held.1.1.1.1.1.1.1.1.1.0)

  order_rows : IsPermutation (map order_row t.orders) (map (row_shown schema 11) (db 11))
  order_rows = held.1.1.1.1.1.1.1.1.0

  voucher_rows : IsPermutation (map voucher_row t.vouchers) (map (row_shown schema 8) (db 8))
  voucher_rows = held.1.1.1.1.1.1.0

  shown_lines : lines (map position_row s.lists.positions) (map order_row t.orders) (map voucher_row t.vouchers) ≡ map (λ p. sorted_as (line_of s.lists p)) s.lists.positions
  shown_lines =
      flat_map-map (λ p. flat_map (lines_of p (map voucher_row t.vouchers)) (map order_row t.orders)) position_row s.lists.positions
      ∙ flat_map_singles (λ p. flat_map (lines_of (position_row p) (map voucher_row t.vouchers)) (map order_row t.orders)) (λ p. sorted_as (line_of s.lists p)) s.lists.positions
      (each_line s.lists t.orders t.vouchers s.lists.positions (one_line s.lists t.orders t.vouchers st.rows.orders st.rows.vouchers so.ids.orders.in_order so.ids.vouchers.in_order) so.ordered.each.stand so.fit.positions)

  own : IsPermutation (rows_exported s.lists) (map (line_of s.lists) s.lists.positions)
  own = IsPermutation-trans _ _ _ (exported_same s.lists) (one_each (export_row s.lists) (line_of s.lists) s.lists.orders s.lists.positions (own_line s.lists so.ids.orders.in_order s.lists.positions so.ordered.each.stand))

  all_lines : IsPermutation (map sorted_as (rows_exported s.lists)) (lines (map (row_shown schema 12) (db 12)) (map (row_shown schema 11) (db 11)) (map (row_shown schema 8) (db 8)))
  all_lines =
      IsPermutation-trans _ _ _ (IsPermutation-map sorted_as _ _ own)
      (IsPermutation-trans _ _ _ (IsPermutation-same _ _ (map-map sorted_as (line_of s.lists) s.lists.positions))
      (IsPermutation-trans _ _ _ (IsPermutation-same _ _ (sym shown_lines))
      (lines_turned _ _ _ _ _ _ position_rows order_rows voucher_rows)))

  -- an answer shows the lines of the export, in their order
  pub answers : (d : Database) → d.trees ≡ db → (rows : List Row) → Reads (Select (plainly joined) names) d [] rows → rows ≡ map cells (rows_exported s.lists)
  answers d is rows h =
      let a : IsAnswer joined (overlay d.trees []) [] rows = h.answer Null in
      let whole : IsPermutation (map sorted_as (rows_exported s.lists)) a.ordered = IsPermutation-trans _ _ _ all_lines (in_order db d is rows a) in
      let (es, turned, from) = pull_back sorted_as _ _ whole (rows_exported s.lists) refl in
      let near = all-permutation IsNear (rows_exported s.lists) es turned (exported_near s.lists so.ordered.whole) in
      let order = exported_rise s.lists so.ids.orders.in_order so.ordered.whole in
      let equal : rows_exported s.lists ≡ es = same_order key (rows_exported s.lists) es order (rises es (rows_exported s.lists) turned order near (subst (IsSorted (output_cmp joined)) from a.sorted)) turned in
      a.shown ∙ ap (map (λ (o : Output). o.1)) from ∙ map-map (λ (o : Output). o.1) sorted_as es ∙ ap (map cells) (sym equal)
