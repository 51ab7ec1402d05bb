-- From the rows that were taken to the lines that a sink was handed.
use Rattle.std.proofs.Common.{◌≡◌, inl, inr, ℕ, pos, List, [], ◌∷◌, ◌++◌, map, Option, Some, None, Ok, codes, bytes_eq, if◌then◌else◌, IsTrue, refl, sym, ap, subst, ◌∙◌, append_assoc}
use Rattle.std.proofs.lemmas.List.{map-append}
use Rattle.sqlite_value.specs.declared.value.Value.{Value}
use Rattle.sqlite_value.specs.declared.value.Value.TheVariants.{Null, Int, Text}
use Rattle.sqlite_value.specs.Order.{Row, column}
use Rattle.sqlite_resolve.specs.declared.compiled.Compiled.{Compiled}
use Rattle.sqlite_schema.specs.declared.command.Command.TheVariants.{Select}
use Rattle.sqlite.specs.Effect.{Database, Reads}
use Rattle.sqlite.specs.Clock.{timed}
use Rattle.sqlite.specs.Listing.{understood}
use Rattle.sqlite.specs.Values.{or_null}
use Rattle.sqlite.specs.State.{State as Connected, Shown, Begins}
use Rattle.sqlite.proofs.Callers.{EndsIn, begins_shown, reads_as}
use Rattle.file_schema.specs.Tables.{schema}
use Rattle.file_schema.specs.Shapes.{command_in, plainly}
use Rattle.file_schema.proofs.Generic.{asked}
use Rattle.file_rows.specs.Cells.{number, status}
use Rattle.file_rows.specs.Tables.{Tables, Holds}
use Rattle.file_rows.specs.declared.rows.ShopRow.{ShopRow}
use Rattle.model_answers.specs.declared.kept.Kept.{Kept}
use Rattle.model_rows.specs.declared.rows.Status.{Status}
use Rattle.model_rows.specs.declared.rows.Status.TheVariants as statuses
use Rattle.model_rows.specs.Lists.{State}
use Rattle.model_invariant.specs.Sound.{IsSound}
use Rattle.file_meaning.specs.Stands.{Stand}
use Rattle.model_export.specs.declared.row.ExportRow.{ExportRow}
use Rattle.model_export.specs.declared.sink.SinkFault.{SinkFault}
use Rattle.model_export.specs.Exported.{rows_exported}
use Rattle.app_export.specs.Cells.{cells}
use Rattle.file_schema.specs.declared.error.RowError.{RowError}
use Rattle.app_export.specs.declared.positions.WalkError.{WalkError}
use Rattle.app_export.specs.declared.positions.WalkError.TheVariants.{Sink, Rows}
use Rattle.app_export.specs.Handed.{OfOffice, IsFrontOf, HandsAll, HandsUpTo, HandsSome, StopsAt}
use Rattle.file_scan.specs.Took.{Took, TakesAll, TakesSome, BreaksOff, IsFront}
use Rattle.file_scan.proofs.Refusing.{unchanged}
use Rattle.app_export.proofs.Asked.{joined_text, joined, names, asks}
use Rattle.app_export.proofs.Exports.{answers}

-- ---- a row tells its line

abbrev number_in : Value → ℕ
number_in (Int (pos n)) = n
number_in v = 0

abbrev text_in : Value → List ℕ
text_in (Text t) = t
text_in v = []

abbrev maybe : {A : Type 0} → (Value → A) → Value → Option A
maybe f Null = None
maybe f v = Some (f v)

abbrev status_in : Value → Status
status_in v = if bytes_eq (text_in v) (codes "n") then statuses.Pending
    else (if bytes_eq (text_in v) (codes "p") then statuses.Paid
    else (if bytes_eq (text_in v) (codes "e") then statuses.Expired else statuses.Cancelled))

status_back : (s : Status) → status_in (status s) ≡ s
status_back statuses.Pending = refl
status_back statuses.Paid = refl
status_back statuses.Expired = refl
status_back statuses.Cancelled = refl

maybe_number : (o : Option ℕ) → maybe number_in (or_null number o) ≡ o
maybe_number None = refl
maybe_number (Some n) = refl

maybe_text : (o : Option (List ℕ)) → maybe text_in (or_null Text o) ≡ o
maybe_text None = refl
maybe_text (Some t) = refl

abbrev line_in : Row → ExportRow
line_in r = record { order = number_in (column r 0); positionid = number_in (column r 1); status = status_in (column r 2); item = number_in (column r 3); variation = maybe number_in (column r 4); price = number_in (column r 5); voucher = maybe text_in (column r 6); secret = text_in (column r 7) }

line_back : (e : ExportRow) → line_in (cells e) ≡ e
line_back e = rw (status_back e.status, maybe_number e.variation, maybe_text e.voucher)

lines_back : (es : List ExportRow) → map line_in (map cells es) ≡ es
lines_back [] = refl
lines_back (e ∷ es) = ap (λ x. x ∷ map line_in (map cells es)) (line_back e) ∙ ap (λ l. e ∷ l) (lines_back es)

same_lines : (es all : List ExportRow) → map cells es ≡ map cells all → es ≡ all
same_lines es all h = sym (lines_back es) ∙ ap (map line_in) h ∙ lines_back all

front_lines : (es all : List ExportRow) (tail : List Row) → map cells es ++ tail ≡ map cells all → IsFrontOf es all
front_lines es all tail h = (map line_in tail, ap (λ l. l ++ map line_in tail) (sym (lines_back es)) ∙ sym (map-append line_in (map cells es) tail) ∙ ap (map line_in) h ∙ lines_back all)

-- ---- rows that were taken as lines

module _ {W K : Type 0} (sink : W → K) (takes : K → ExportRow → K → Type 0) where
  abbrev pub ByLine : W → Row → W → Type 0
  ByLine old row new = (e : ExportRow) × (row ≡ cells e) × takes (sink old) e (sink new)

  pub record Lined (old : W) (rows : List Row) (new : W) : Type 0 where
    pub lines : List ExportRow
    pub are : rows ≡ map cells lines
    pub took : Took takes (sink old) lines (sink new)

  lined : (old new : W) (rows : List Row) → Took ByLine old rows new → Lined old rows new
  lined old new [] t = record { lines = []; are = refl; took = ap sink t }
  lined old new (row ∷ rows) (mid, step, more) =
      let rest = lined mid new rows more in
      record { lines = step.0 ∷ rest.lines; are = ap (λ r. r ∷ rows) step.1 ∙ ap (λ l. cells step.0 ∷ l) rest.are; took = (sink mid, step.2, rest.took) }

-- ---- what they are

module _ (old : Connected) (known : old.now.schema ≡ schema) where
  pub read : (other : Connected) (rows : List Row) → Shown joined_text [] old other rows → Reads (Select (plainly joined) names) old.now [] rows
  read other rows h = reads_as joined_text [] old other schema known (Select (plainly joined) names) (asked (understood schema joined_text) _ asks.0.0) asks.0.1 asks.1 rows h

  command_of : (c : Compiled) → understood old.now.schema joined_text ≡ Ok c → c.command ≡ Select (plainly joined) names
  command_of c is =
      let both : Some c.command ≡ Some (Select (plainly joined) names) = sym (ap command_in is) ∙ ap (λ k. command_in (understood k joined_text)) known ∙ asks.0.0 in cc

  -- an answer that begins with these rows goes on to its end
  pub goes_on : IsTrue old.is_open → (rows : List Row) → Begins joined_text [] old rows → (rest : List Row) × Shown joined_text [] old old (rows ++ rest)
  goes_on o rows h = begins_shown joined_text [] old old rows h (unchanged old o) (λ c db it source. subst (λ k. EndsIn k db (timed [] c.formats it.now)) (sym (command_of c it.is)) tt)

module _ (old new : Connected) (known : old.now.schema ≡ schema) (t : Tables) (held : Holds old.now.trees t) (shop : ShopRow) (s : State) (ks : List Kept) (st : Stand shop t s ks) (so : IsSound s) where
  all_are : (other : Connected) (rows : List Row) → Shown joined_text [] old other rows → rows ≡ map cells (rows_exported s.lists)
  all_are other rows h = answers old.now.trees t held shop s ks st so old.now refl rows (read old known other rows h)

  front_is : IsTrue old.is_open → (es : List ExportRow) (rows : List Row) → rows ≡ map cells es → Begins joined_text [] old rows → IsFrontOf es (rows_exported s.lists)
  front_is o es rows are h =
      let whole = goes_on old known o rows h in
      front_lines es (rows_exported s.lists) whole.0 (ap (λ l. l ++ whole.0) (sym are) ∙ all_are old (rows ++ whole.0) whole.1)

  -- so are those before the last one
  front_before : IsTrue old.is_open → (es : List ExportRow) (rows : List Row) (row : Row) → rows ≡ map cells es → Begins joined_text [] old (rows ++ row ∷ []) → IsFrontOf es (rows_exported s.lists)
  front_before o es rows row are h =
      let whole = goes_on old known o (rows ++ row ∷ []) h in
      front_lines es (rows_exported s.lists) (row ∷ whole.0) (ap (λ l. l ++ row ∷ whole.0) (sym are) ∙ sym (append_assoc rows (row ∷ []) whole.0) ∙ all_are old ((rows ++ row ∷ []) ++ whole.0) whole.1)

pub of_trees : (d : Database) (s : Connected) (t : Tables) → s.now ≡ d → Holds d.trees t → Holds s.now.trees t
of_trees d s t same held = subst (λ (x : Database). Holds x.trees t) (sym same) held

pub of_schema : (d : Database) (s : Connected) → s.now ≡ d → d.schema ≡ schema → s.now.schema ≡ schema
of_schema d s same known = ap (λ (x : Database). x.schema) same ∙ known

module _ {W K : Type 0} (sink : W → K) (takes : K → ExportRow → K → Type 0) (refuses : K → ExportRow → SinkFault → K → Type 0) (old new : Connected) (before after : W) where
  pub handed : TakesAll (ByLine sink takes) joined_text old new before after → HandsAll takes refuses (λ rows. OfOffice old new (λ lists. rows ≡ rows_exported lists)) (sink before) (sink after)
  handed h =
      let l = lined sink takes before after h.rows h.took in
      record {
        rows = l.lines;
        took = l.took;
        are = λ clean db at known t held shop s ks st so. same_lines l.lines (rows_exported s.lists) (sym l.are ∙ all_are old new (of_schema db old at.now known) t (of_trees db old t at.now held) shop s ks st so new h.rows (h.shown clean));
      }

  pub broken : BreaksOff (ByLine sink takes) joined_text old new before after → HandsAll takes refuses (λ rows. OfOffice old new (λ lists. IsFrontOf rows (rows_exported lists))) (sink before) (sink after)
  broken h =
      let l = lined sink takes before after h.rows h.took in
      record {
        rows = l.lines;
        took = l.took;
        are = λ clean db at known t held shop s ks st so. either l.lines (rows_exported s.lists) h.rows l.are
            (λ begun. front_is old new (of_schema db old at.now known) t (of_trees db old t at.now held) shop s ks st so at.is_open l.lines h.rows l.are begun) (h.front clean);
      }
    where
      either : (es all : List ExportRow) (rows : List Row) → rows ≡ map cells es → (Begins joined_text [] old rows → IsFrontOf es all) → IsFront joined_text old rows → IsFrontOf es all
      either [] all rows are k h = (all, refl)
      either (e ∷ es) all rows are k (inl none) = absurd (let no : [] ≡ cells e ∷ map cells es = sym none ∙ are in cc)
      either (e ∷ es) all rows are k (inr begun) = k begun

  pub refused : (fault : SinkFault) → TakesSome (ByLine sink takes) (λ k row n. StopsAt refuses (sink k) row (Sink fault) (sink n)) joined_text old new before after
      → HandsUpTo takes refuses (λ rows. OfOffice old new (λ lists. IsFrontOf rows (rows_exported lists))) (sink before) (sink after) fault
  refused fault h =
      let l = lined sink takes before h.mid h.rows h.took in
      let one = h.stopped in
      record {
        rows = l.lines;
        row = one.0;
        mid = sink h.mid;
        took = l.took;
        refused = one.2;
        are = λ clean db at known t held shop s ks st so. front_is old new (of_schema db old at.now known) t (of_trees db old t at.now held) shop s ks st so at.is_open (l.lines ++ one.0 ∷ []) (h.rows ++ h.row ∷ [])
            (ap (λ x. x ++ h.row ∷ []) l.are ∙ ap (λ r. map cells l.lines ++ r ∷ []) one.1 ∙ sym (map-append cells l.lines (one.0 ∷ []))) (h.front clean);
      }

  pub unread : (e : RowError) → TakesSome (ByLine sink takes) (λ k row n. StopsAt refuses (sink k) row (Rows e) (sink n)) joined_text old new before after
      → HandsAll takes refuses (λ rows. OfOffice old new (λ lists. IsFrontOf rows (rows_exported lists))) (sink before) (sink after)
  unread e h =
      let l = lined sink takes before h.mid h.rows h.took in
      record {
        rows = l.lines;
        took = subst (λ k. Took takes (sink before) l.lines k) (sym h.stopped.0) l.took;
        are = λ clean db at known t held shop s ks st so. front_before old new (of_schema db old at.now known) t (of_trees db old t at.now held) shop s ks st so at.is_open l.lines h.rows h.row l.are (h.front clean);
      }

  pub some_of : (why : WalkError) → TakesSome (ByLine sink takes) (λ k row n. StopsAt refuses (sink k) row why (sink n)) joined_text old new before after
      → HandsSome takes refuses (λ rows. OfOffice old new (λ lists. IsFrontOf rows (rows_exported lists))) (sink before) (sink after) why
  some_of (Sink fault) h = refused fault h
  some_of (Rows e) h = unread e h
