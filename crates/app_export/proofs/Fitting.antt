-- Of a shop whose values are within their limits each row of the export is that of a line, so an export of it isn't refused for what the file holds.
use Rattle.std.proofs.Common.{◌≡◌, ◌≢◌, ℕ, Bool, true, false, cond, List, [], ◌∷◌, ◌++◌, map, filter, Option, Some, None, IfSome, Result, Ok, Err, IsTrue, refl, sym, ap, subst, ◌∙◌, append_assoc}
use Rattle.std.specs.List.{All, AllByRecursion, flat_map}
use Rattle.std.specs.List.Sorted.{IsPermutation}
use Rattle.std.proofs.lemmas.List.Elements.{All-head, All-tail, All-filter}
use Rattle.std.proofs.lemmas.List.Sorted.{IsPermutation-trans}
use Rattle.sqlite.specs.Effect.{Database, Reads}
use Rattle.sqlite.specs.Listing.{understood}
use Rattle.sqlite.specs.State.{State as Connected, HasCleanDisk, Begins}
use Rattle.sqlite.specs.Values.{or_null}
use Rattle.sqlite_value.specs.declared.value.Value.TheVariants.{Null, Text}
use Rattle.sqlite_value.specs.Order.{Row, column}
use Rattle.sqlite_trees.specs.Tree.{Trees}
use Rattle.sqlite_trees.proofs.ListLemmas.{filter-map, all-permutation}
use Rattle.sqlite_sql.specs.Program.{overlay}
use Rattle.sqlite_sql.specs.Query.{IsAnswer, Output}
use Rattle.sqlite_schema.specs.declared.command.Command.{Command}
use Rattle.sqlite_schema.specs.declared.command.Command.TheVariants.{Select}
use Rattle.sqlite_resolve.specs.declared.compiled.Compiled.{Compiled}
use Rattle.sqlite_resolve.specs.declared.error.CompileError.{CompileError}
use Rattle.file_schema.specs.Tables.{schema}
use Rattle.file_schema.specs.Parts.{row_shown}
use Rattle.file_schema.specs.Shapes.{command_in, plainly}
use Rattle.file_schema.specs.declared.error.RowError.{RowError}
use Rattle.file_schema.specs.declared.error.RowError.TheVariants as row-errors
use Rattle.file_rows.specs.Fit.{IsFitOrder, IsFitPosition, IsFitVoucher, IsStored}
use Rattle.file_rows.specs.Rows.{position_row, order_row, voucher_row}
use Rattle.file_rows.specs.Tables.{Tables, Holds}
use Rattle.file_rows.specs.Unread.{IsUnread}
use Rattle.file_rows.specs.declared.rows.PositionRow.{PositionRow}
use Rattle.file_rows.specs.declared.rows.VoucherRow.{VoucherRow}
use Rattle.model_rows.specs.declared.rows.Order.{Order}
use Rattle.file_reads.specs.Damage.{HasMeaning, HasNoMeaning, IsFor}
use Rattle.file_scan.specs.Lawful.{AreFit}
use Rattle.file_scan.specs.Took.{TakesSome}
use Rattle.model_export.specs.declared.row.ExportRow.{ExportRow}
use Rattle.model_export.specs.declared.sink.SinkFault.{SinkFault}
use Rattle.model_export.specs.declared.sink.SinkFault.TheVariants as sinks
use Rattle.app_export.specs.Cells.{IsFitLine, cells}
use Rattle.app_export.specs.Faults.{IsOfMachine, fault_of_walk}
use Rattle.app_export.specs.Handed.{OfFitTables, StopsAt}
use Rattle.app_export.specs.declared.positions.WalkError.{WalkError}
use Rattle.app_export.specs.declared.positions.WalkError.TheVariants.{Sink, Rows}
use Rattle.app_export.proofs.Asked.{asks, joined, joined_text, names}
use Rattle.app_export.proofs.Joined.{if_of, is_named, is_of, line, lines, lines_of, lines_turned, with_codes}
use Rattle.app_export.proofs.Exports.{in_order}
use Rattle.app_export.proofs.Streamed.{goes_on, of_schema, of_trees, read}

-- ---- lists

module _ {B : Type 0} (P : B → Type 0) where
  both_hold : (xs ys : List B) → AllByRecursion P xs → AllByRecursion P ys → AllByRecursion P (xs ++ ys)
  both_hold [] ys h k = k
  both_hold (x ∷ xs) ys h k = (h.0, both_hold xs ys h.1 k)

  in_middle : (xs : List B) (x : B) (ys : List B) → AllByRecursion P (xs ++ x ∷ ys) → P x
  in_middle [] x ys h = h.0
  in_middle (y ∷ xs) x ys h = in_middle xs x ys h.1

  of_each : {A : Type 0} (f : A → B) (Q : A → Type 0) → ((a : A) → Q a → P (f a)) → (xs : List A) → AllByRecursion Q xs → AllByRecursion P (map f xs)
  of_each f Q k [] h = tt
  of_each f Q k (x ∷ xs) h = (k x h.0, of_each f Q k xs h.1)

  -- what is made of the rows of values for which this holds
  of_rows : {A : Type 0} (Q : A → Type 0) (as_row : A → Row) (f : Row → List B) → ((a : A) → Q a → AllByRecursion P (f (as_row a))) → (xs : List A) → All Q xs → AllByRecursion P (flat_map f (map as_row xs))
  of_rows Q as_row f k [] h = tt
  of_rows Q as_row f k (x ∷ xs) h = both_hold (f (as_row x)) (flat_map f (map as_row xs)) (k x (All-head Q x xs h)) (of_rows Q as_row f k xs (All-tail Q x xs h))

-- ---- the join

abbrev pub IsLine : Row → Type 0
IsLine row = (e : ExportRow) × IsFitLine e × (row ≡ cells e)

abbrev ShowsLine : Output → Type 0
ShowsLine x = IsLine x.1

-- a position with an order and with the code of a voucher, or none
one_line : (p : PositionRow) (o : Order) (code : Option (List ℕ)) → IsFitPosition p → IfSome code IsStored → ShowsLine (line (position_row p) (order_row o) (or_null Text code))
one_line p o code fit stored = (
  record { order = p.order; positionid = p.positionid; status = o.status; item = p.product.item; variation = p.product.variation; price = p.price; voucher = code; secret = p.secret },
  record { positionid = fit.positionid; price = fit.price; voucher = stored; secret = fit.secret },
  refl,
)

where_of : (b : Bool) (x : Output) → ShowsLine x → AllByRecursion ShowsLine (cond b (x ∷ []) [])
where_of true x h = (h, tt)
where_of false x h = tt

with_vouchers : (p : PositionRow) (o : Order) → IsFitPosition p → (vs : List VoucherRow) → All IsFitVoucher vs → AllByRecursion ShowsLine (with_codes (position_row p) (order_row o) (map voucher_row vs))
with_vouchers p o fit [] h = where_of (is_of (position_row p) (order_row o)) (line (position_row p) (order_row o) Null) (one_line p o None fit tt)
with_vouchers p o fit (v ∷ vs) h =
    of_rows ShowsLine IsFitVoucher voucher_row (λ w. if_of (position_row p) (order_row o) (column w 1))
    (λ v fits. where_of (is_of (position_row p) (order_row o)) (line (position_row p) (order_row o) (Text v.voucher.code)) (one_line p o (Some v.voucher.code) fit fits.code)) (v ∷ vs) h

with_order : (p : PositionRow) (o : Order) → IsFitPosition p → (vs : List VoucherRow) → All IsFitVoucher vs → AllByRecursion ShowsLine (lines_of (position_row p) (map voucher_row vs) (order_row o))
with_order p o fit vs h =
    subst (λ l. AllByRecursion ShowsLine (with_codes (position_row p) (order_row o) l)) (sym (filter-map (is_named (position_row p)) voucher_row vs))
    (with_vouchers p o fit (filter (λ v. is_named (position_row p) (voucher_row v)) vs) (All-filter (λ v. is_named (position_row p) (voucher_row v)) IsFitVoucher vs h))

all_lines : (ps : List PositionRow) (os : List Order) (vs : List VoucherRow) → All IsFitPosition ps → All IsFitOrder os → All IsFitVoucher vs
    → AllByRecursion ShowsLine (lines (map position_row ps) (map order_row os) (map voucher_row vs))
all_lines ps os vs positions orders vouchers =
    of_rows ShowsLine IsFitPosition position_row (λ p. flat_map (lines_of p (map voucher_row vs)) (map order_row os))
    (λ p fit. of_rows ShowsLine IsFitOrder order_row (lines_of (position_row p) (map voucher_row vs)) (λ o _. with_order p o fit vs vouchers) os orders) ps positions

module _ (db : Trees) (t : Tables) (held : Holds db t) (fit : AreFit t) where
  position_rows : IsPermutation (map position_row t.positions) (map (row_shown schema 12) (db 12))
  position_rows = held.1.1.1.1.1.1.1.1.1.0

  order_rows : IsPermutation (map order_row t.orders) (map (row_shown schema 11) (db 11))
  order_rows = held.1.1.1.1.1.1.1.1.0

  voucher_rows : IsPermutation (map voucher_row t.vouchers) (map (row_shown schema 8) (db 8))
  voucher_rows = held.1.1.1.1.1.1.0

  are_lines : (d : Database) → d.trees ≡ db → (rows : List Row) → Reads (Select (plainly joined) names) d [] rows → AllByRecursion IsLine rows
  are_lines d is rows h =
      let a : IsAnswer joined (overlay d.trees []) [] rows = h.answer Null in
      let turned = IsPermutation-trans _ _ _ (lines_turned _ _ _ _ _ _ position_rows order_rows voucher_rows) (in_order db d is rows a) in
      let all : AllByRecursion ShowsLine a.ordered = all-permutation ShowsLine _ a.ordered turned (all_lines t.positions t.orders t.vouchers fit.positions fit.orders fit.vouchers) in
      subst (AllByRecursion IsLine) (sym a.shown) (of_each IsLine (λ (x : Output). x.1) ShowsLine (λ x h. h) a.ordered all)

-- ---- what a connection shows

-- the row behind those that were taken is one, too
next_is_line : (old : Connected) → old.now.schema ≡ schema → (t : Tables) → Holds old.now.trees t → AreFit t → IsTrue old.is_open → (taken : List Row) (row : Row) → Begins joined_text [] old (taken ++ row ∷ []) → IsLine row
next_is_line old known t held fit o taken row h =
    let (rest, whole) = goes_on old known o (taken ++ row ∷ []) h in
    let all = are_lines old.now.trees t held fit old.now refl ((taken ++ row ∷ []) ++ rest) (read old known old ((taken ++ row ∷ []) ++ rest) whole) in
    in_middle IsLine taken row rest (subst (AllByRecursion IsLine) (append_assoc taken (row ∷ []) rest) all)

read_so : (row : Row) → IsLine row → (e : RowError) → IsUnread ((w : ExportRow) → IsFitLine w → row ≢ cells w) e → IsOfMachine (fault_of_walk (Rows e))
read_so row is row-errors.Memory h = tt
read_so row is row-errors.Foreign h = absurd h
read_so row is row-errors.Damaged h = absurd (h is.0 is.1 is.2)
read_so row is row-errors.Store h = absurd h

pub sunk : (fault : SinkFault) → IsOfMachine (fault_of_walk (Sink fault))
sunk sinks.Memory = tt
sunk sinks.Output = tt

module _ {W K : Type 0} (sink : W → K) (step : W → Row → W → Type 0) (refuses : K → ExportRow → SinkFault → K → Type 0) (old new : Connected) (before after : W) where
  -- a row that isn't taken
  pub stopped_so : (why : WalkError) → TakesSome step (λ k row n. StopsAt refuses (sink k) row why (sink n)) joined_text old new before after → OfFitTables old new (IsOfMachine (fault_of_walk why))
  stopped_so (Sink fault) h clean db at known t held fit = sunk fault
  stopped_so (Rows e) h clean db at known t held fit =
      read_so h.row (next_is_line old (of_schema db old at.now known) t (of_trees db old t at.now held) fit at.is_open h.rows h.row (h.front clean)) e h.stopped.1

-- ---- a SELECT that is refused

meant : (r : Result Compiled CompileError) (k : Command) → command_in r ≡ Some k → (c : Compiled) × (r ≡ Ok c)
meant (Ok c) k h = (c, refl)
meant (Err e) k h = absurd (cc)

has_meaning : HasMeaning schema joined_text
has_meaning = meant (understood schema joined_text) (Select (plainly joined) names) asks.0.0

asked_so : (old : Connected) → old.now.schema ≡ schema → (e : RowError) → IsFor (HasNoMeaning old.now.schema joined_text) ⊥ e → IsOfMachine (fault_of_walk (Rows e))
asked_so old known row-errors.Memory h = tt
asked_so old known row-errors.Foreign h = absurd (h has_meaning.0 (ap (λ s. understood s joined_text) known ∙ has_meaning.1))
asked_so old known row-errors.Damaged h = absurd h
asked_so old known row-errors.Store h = tt

pub refused_so : (old new : Connected) (e : RowError) → (HasCleanDisk new → IsFor (HasNoMeaning old.now.schema joined_text) ⊥ e) → OfFitTables old new (IsOfMachine (fault_of_walk (Rows e)))
refused_so old new e h clean db at known t held fit = asked_so old (of_schema db old at.now known) e (h clean)
