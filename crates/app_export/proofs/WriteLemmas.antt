-- What an export has written.
use Rattle.std.proofs.Common.{◌≡◌, ℕ, ◌+◌, List, [], ◌∷◌, ◌++◌, map, Result, Ok, Err, refl, sym, ap, subst, ◌∙◌, append_assoc, append-nil}
use Rattle.std.specs.List.{concat}
use Rattle.sqlite.specs.State.{State as Connected, Survives}
use Rattle.file_schema.specs.declared.error.RowError.{RowError}
use Rattle.file_schema.specs.declared.error.RowError.TheVariants as row-errors
use Rattle.file_scan.specs.Rests.{Rests}
use Rattle.file_scan.specs.Took.{Took}
use Rattle.base_devices.specs.Reported.{Adds}
use Rattle.base_devices.proofs.ToldLemmas.{Adds-nil, Adds-append}
use Rattle.web_http.specs.Written.{Page}
use Rattle.web_cli.specs.Saying.{CountsCut}
use Rattle.web_cli.specs.declared.fault.RunFault.{RunFault}
use Rattle.model_export.specs.Exported.{rows_exported}
use Rattle.model_export.specs.declared.row.ExportRow.{ExportRow}
use Rattle.model_export.specs.declared.sink.SinkFault.{SinkFault}
use Rattle.model_export.specs.declared.sink.SinkFault.TheVariants.{Memory, Output}
use Rattle.app_csv.specs.Handing.{Goes, HandsOn, IsReady, Stops, gathered_text}
use Rattle.app_csv.specs.PositionLines.{header_line, positions_text, row_line}
use Rattle.app_csv.specs.declared.positions.Lines.{Lines}
use Rattle.app_export.specs.Faults.{IsOfMachine, fault_of_walk}
use Rattle.app_export.specs.Handed.{HandsAll, HandsSome, HandsUpTo, IsFrontOf, OfFitTables, OfOffice}
use Rattle.app_export.specs.Written.{Exports}
use Rattle.app_export.specs.declared.positions.WalkError.{WalkError}
use Rattle.app_export.specs.declared.positions.WalkError.TheVariants.{Sink, Rows}
use Rattle.app_export.proofs.Fitting.{sunk}

-- ---- one text after another

goes_then : (xs ys before between after : List ℕ) (old mid new : Page) → Goes xs before between old mid → Goes ys between after mid new → Goes (xs ++ ys) before after old new
goes_then xs ys before between after old mid new (p, is, added, same) (q, then, more, still) = (
  p ++ q,
  sym (append_assoc before xs ys) ∙ ap (λ (t : List ℕ). t ++ ys) is ∙ append_assoc p between ys ∙ ap (λ (t : List ℕ). p ++ t) then ∙ sym (append_assoc p q after),
  Adds-append old.taken mid.taken new.taken p q added more,
  still ∙ same,
)

-- what was handed on of a text where its sink refused
record Cut (fault : SinkFault) (text : List ℕ) (old new : Page) : Type 0 where
  part : List ℕ
  rest : List ℕ
  whole : part ++ rest ≡ text
  added : Adds old.taken part new.taken
  counted : CountsCut (fault_of_walk (Sink fault)) old.failures new.failures

cut : (fault : SinkFault) (p z : List ℕ) (old mid new : Page) → Adds old.taken p mid.taken → mid.failures ≡ old.failures → Stops fault z mid new → Cut fault (p ++ z) old new
cut Memory p z old mid new added same stops = record {
  part = p;
  rest = z;
  whole = refl;
  added = subst (λ (k : Page). Adds old.taken p k.taken) (sym stops) added;
  counted = ap (λ (k : Page). k.failures) stops ∙ same;
}
cut Output p z old mid new added same ((q, r, is, more), failed) = record {
  part = p ++ q;
  rest = r;
  whole = append_assoc p q r ∙ ap (λ (t : List ℕ). p ++ t) (sym is);
  added = Adds-append old.taken mid.taken new.taken p q added more;
  counted = failed ∙ ap (λ (n : ℕ). n + 1) same;
}

-- a row that isn't read is no failure of the writer
unread_counts : (e : RowError) (n m : ℕ) → m ≡ n → CountsCut (fault_of_walk (Rows e)) n m
unread_counts row-errors.Memory n m same = same
unread_counts row-errors.Foreign n m same = same
unread_counts row-errors.Damaged n m same = same
unread_counts row-errors.Store n m same = same

-- ---- lines, one after another

abbrev lines_text : List ExportRow → List ℕ
lines_text rows = concat (map row_line rows)

both_texts : (xs ys : List ExportRow) → lines_text (xs ++ ys) ≡ lines_text xs ++ lines_text ys
both_texts [] ys = refl
both_texts (x ∷ xs) ys = ap (λ (t : List ℕ). row_line x ++ t) (both_texts xs ys) ∙ sym (append_assoc (row_line x) (lines_text xs) (lines_text ys))

module _ {K N : Type 0} (name : K → N) (lines : K → Lines) (page : K → Page) where
  abbrev pub Takes : K → ExportRow → K → Type 0
  Takes old row new = (name new ≡ name old) × (IsReady (lines old) → IsReady (lines new) × Goes (row_line row) (gathered_text (lines old)) (gathered_text (lines new)) (page old) (page new))

  abbrev pub Refuses : K → ExportRow → SinkFault → K → Type 0
  Refuses old row fault new = (name new ≡ name old) × (IsReady (lines old) → Stops fault (gathered_text (lines old) ++ row_line row) (page old) (page new))

  -- what the lines of these rows make of a sink
  record Taken (before after : K) (rows : List ExportRow) : Type 0 where
    same : name after ≡ name before
    ready : IsReady (lines after)
    goes : Goes (lines_text rows) (gathered_text (lines before)) (gathered_text (lines after)) (page before) (page after)

  taken : (before after : K) (rows : List ExportRow) → IsReady (lines before) → Took Takes before rows after → Taken before after rows
  taken before after [] ready t = record {
    same = ap name t;
    ready = subst (λ (k : K). IsReady (lines k)) (sym t) ready;
    goes = (
      [],
      append-nil (gathered_text (lines before)) ∙ sym (ap (λ (k : K). gathered_text (lines k)) t),
      subst (λ (k : K). Adds (page before).taken [] (page k).taken) (sym t) (Adds-nil (page before).taken),
      ap (λ (k : K). (page k).failures) t,
    );
  }
  taken before after (row ∷ rows) ready (mid, step, more) =
      let first = step.1 ready in
      let rest = taken mid after rows first.0 more in
      record {
        same = rest.same ∙ step.0;
        ready = rest.ready;
        goes = goes_then (row_line row) (lines_text rows) (gathered_text (lines before)) (gathered_text (lines mid)) (gathered_text (lines after)) (page before) (page mid) (page after) first.1 rest.goes;
      }

  -- it keeps its writer
  pub kept_all : (P : List ExportRow → Type 0) (before after : K) → IsReady (lines before) → HandsAll Takes Refuses P before after → name after ≡ name before
  kept_all P before after ready h = (taken before after h.rows ready h.took).same

  pub kept_some : (P : List ExportRow → Type 0) (fault : SinkFault) (before after : K) → IsReady (lines before) → HandsUpTo Takes Refuses P before after fault → name after ≡ name before
  kept_some P fault before after ready h = h.refused.0 ∙ (taken before h.mid h.rows ready h.took).same

  module _ (old new : Connected) (rests : Rests old new) (crash : Survives old new (λ _. ⊥)) (before mid after : K) (ready : IsReady (lines before)) (names : gathered_text (lines before) ≡ header_line) where
    -- what was handed on, and what is gathered behind it, are the names and the lines
    so_far : (end : K) (rows : List ExportRow) (t : Taken before end rows) → t.goes.0 ++ gathered_text (lines end) ≡ header_line ++ lines_text rows
    so_far end rows t = sym t.goes.1 ∙ ap (λ (g : List ℕ). g ++ lines_text rows) names

    -- all lines were taken, and then what was gathered
    pub exports_all : HandsAll Takes Refuses (λ rows. OfOffice old new (λ lists. rows ≡ rows_exported lists)) before mid → (u : Unit {0}) → HandsOn (Ok u) (gathered_text (lines mid)) (page mid) (page after)
        → (text : List ℕ) × Exports old new text (page before) (page after) (Ok u)
    exports_all h u (more, still) =
        let t = taken before mid h.rows ready h.took in
        let (p, is, added, same) = t.goes in (
          p ++ gathered_text (lines mid),
          record {
            added = Adds-append (page before).taken (page mid).taken (page after).taken p (gathered_text (lines mid)) added more;
            counted = still ∙ same;
            written = λ clean db at known tables held shop s ks stand sound. so_far mid h.rows t ∙ ap (λ (rs : List ExportRow). header_line ++ lines_text rs) (h.are clean db at known tables held shop s ks stand sound);
            cause = λ clean db at known tables held fit. tt;
            rests = rests;
            crash = crash;
          },
        )

    -- what was gathered wasn't handed on
    pub exports_ungathered : (fault : SinkFault) → HandsAll Takes Refuses (λ rows. OfOffice old new (λ lists. rows ≡ rows_exported lists)) before mid → HandsOn (Err fault) (gathered_text (lines mid)) (page mid) (page after)
        → (text : List ℕ) × Exports old new text (page before) (page after) (Err (fault_of_walk (Sink fault)))
    exports_ungathered fault h stops =
        let t = taken before mid h.rows ready h.took in
        let c = cut fault t.goes.0 (gathered_text (lines mid)) (page before) (page mid) (page after) t.goes.2 t.goes.3 stops in (
          c.part,
          record {
            added = c.added;
            counted = c.counted;
            written = λ clean db at known tables held shop s ks stand sound. (
              c.rest,
              c.whole ∙ so_far mid h.rows t ∙ ap (λ (rs : List ExportRow). header_line ++ lines_text rs) (h.are clean db at known tables held shop s ks stand sound),
            );
            cause = λ clean db at known tables held fit. sunk fault;
            rests = rests;
            crash = crash;
          },
        )

    -- a line wasn't taken
    pub exports_some : (fault : SinkFault) → HandsUpTo Takes Refuses (λ rows. OfOffice old new (λ lists. IsFrontOf rows (rows_exported lists))) before after fault
        → (text : List ℕ) × Exports old new text (page before) (page after) (Err (fault_of_walk (Sink fault)))
    exports_some fault h =
        let t = taken before h.mid h.rows ready h.took in
        let c = cut fault t.goes.0 (gathered_text (lines h.mid) ++ row_line h.row) (page before) (page h.mid) (page after) t.goes.2 t.goes.3 (h.refused.1 t.ready) in
        let one : t.goes.0 ++ (gathered_text (lines h.mid) ++ row_line h.row) ≡ header_line ++ lines_text (h.rows ++ h.row ∷ []) =
        sym (append_assoc t.goes.0 (gathered_text (lines h.mid)) (row_line h.row)) ∙ ap (λ (g : List ℕ). g ++ row_line h.row) (so_far h.mid h.rows t)
        ∙ append_assoc header_line (lines_text h.rows) (row_line h.row)
        ∙ ap (λ (g : List ℕ). header_line ++ g) (ap (λ (g : List ℕ). lines_text h.rows ++ g) (sym (append-nil (row_line h.row))) ∙ sym (both_texts h.rows (h.row ∷ []))) in (
          c.part,
          record {
            added = c.added;
            counted = c.counted;
            written = λ clean db at known tables held shop s ks stand sound.
                let front = h.are clean db at known tables held shop s ks stand sound in (
                  c.rest ++ lines_text front.0,
                  sym (append_assoc c.part c.rest (lines_text front.0)) ∙ ap (λ (g : List ℕ). g ++ lines_text front.0) (c.whole ∙ one)
                      ∙ append_assoc header_line (lines_text (h.rows ++ h.row ∷ [])) (lines_text front.0)
                      ∙ ap (λ (g : List ℕ). header_line ++ g) (sym (both_texts (h.rows ++ h.row ∷ []) front.0) ∙ ap lines_text front.1),
                );
            cause = λ clean db at known tables held fit. sunk fault;
            rests = rests;
            crash = crash;
          },
        )

    -- a row wasn't read
    pub exports_unread : (error : RowError) → OfFitTables old new (IsOfMachine (fault_of_walk (Rows error))) → HandsAll Takes Refuses (λ rows. OfOffice old new (λ lists. IsFrontOf rows (rows_exported lists))) before after
        → (text : List ℕ) × Exports old new text (page before) (page after) (Err (fault_of_walk (Rows error)))
    exports_unread error cause h =
        let t = taken before after h.rows ready h.took in (
          t.goes.0,
          record {
            added = t.goes.2;
            counted = unread_counts error (page before).failures (page after).failures t.goes.3;
            written = λ clean db at known tables held shop s ks stand sound.
                let front = h.are clean db at known tables held shop s ks stand sound in (
                  gathered_text (lines after) ++ lines_text front.0,
                  sym (append_assoc t.goes.0 (gathered_text (lines after)) (lines_text front.0)) ∙ ap (λ (g : List ℕ). g ++ lines_text front.0) (so_far after h.rows t)
                      ∙ append_assoc header_line (lines_text h.rows) (lines_text front.0)
                      ∙ ap (λ (g : List ℕ). header_line ++ g) (sym (both_texts h.rows front.0) ∙ ap lines_text front.1),
                );
            cause = cause;
            rests = rests;
            crash = crash;
          },
        )

    pub exports_broken : (error : WalkError) → OfFitTables old new (IsOfMachine (fault_of_walk error)) → HandsSome Takes Refuses (λ rows. OfOffice old new (λ lists. IsFrontOf rows (rows_exported lists))) before after error
        → (text : List ℕ) × Exports old new text (page before) (page after) (Err (fault_of_walk error))
    exports_broken (Sink fault) cause h = exports_some fault h
    exports_broken (Rows error) cause h = exports_unread error cause h

  -- it keeps its writer, too
  pub kept_broken : (P : List ExportRow → Type 0) (error : WalkError) (before after : K) → IsReady (lines before) → HandsSome Takes Refuses P before after error → name after ≡ name before
  kept_broken P (Sink fault) before after ready h = kept_some P fault before after ready h
  kept_broken P (Rows error) before after ready h = kept_all P before after ready h

-- a database of which nothing is written stays as it is
pub exports_none : (s : Connected) (page : Page) (fault : RunFault) → IsOfMachine fault → Rests s s → Survives s s (λ _. ⊥) → CountsCut fault page.failures page.failures → (text : List ℕ) × Exports s s text page page (Err fault)
exports_none s page fault cause rests crash counted = (
  [],
  record {
    added = Adds-nil page.taken;
    counted = counted;
    written = λ clean db at known tables held shop office ks stand sound. (positions_text office.lists, refl);
    cause = λ clean db at known tables held fit. cause;
    rests = rests;
    crash = crash;
  },
)
