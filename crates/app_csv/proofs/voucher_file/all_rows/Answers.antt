use Rattle.std.proofs.Common.{Bor, List, ℕ, ◌≡◌, ◌∙◌, sym, refl, inl, inr, rules, true, map, Some, ◌∷◌, []}
use Rattle.std.specs.Result.{is_ok}
use Rattle.std.proofs.lemmas.List.{map-append}
use Rattle.csv.specs.Reading.{Reached, default_config, strip_bom}
use Rattle.csv.specs.Records.{fields_of}
use Rattle.csv.specs.declared.parser.State.TheVariants as states
use Rattle.csv.proofs.ReadFacts.{rows-end, rows-more}
use Rattle.app_csv.proofs.voucher_file.all_rows.Goals as goal

pub loop-row-init : goal.loop-row-init
unfolding Reached
loop-row-init c =
    let made = c.from_reader-reader.ensures in
    let flags = c.has_headers.ensures in
    let loose = c.flexible.ensures in
    let start = c.into_iter-row-iterator.ensures.into_iter_gives ∙ refl in
    let reader = c.into_byte_records-row-items.ensures.rdr in
    let turns = c.into_byte_records-row-items.ensures.left in
    rw (start, reader, c.new-rows.ensures.items) (
      rw (loose, flags) at made.trim ∙ c.new.ensures.trim,
      inr (inr (rw (loose, flags) at made.has_headers, made.headers)),
      turns,
      rw (loose, flags) at made.config ∙ c.new.ensures.config,
      strip_bom c.args.text.now,
      made.source,
      (sym made.state, refl),
    )

pub loop-row-preserved : goal.loop-row-preserved
loop-row-preserved c =
    let inv = c.loop-row.invariant in
    let s = rw (c.in-Some.is, c.in_ok-row.was) at ((c.next.ensures.steps inv.2 inv.0).0 inv.1) in
    let row = c.in_ok-row.field-0 in
    let good : is_ok c.push.result ≡ true = search rules in
    let items = rw good at c.push.ensures.items in
    let m = rows-more (λ (s : Bor (List ℕ)). Some s.now) c.loop-row.row-iterator.rdr c.next.new.self.rdr (fields_of row) default_config states.StartRecord (strip_bom c.args.text.now) inv.4 (map fields_of c.loop-row.rows.items) inv.3 inv.5 inv.6 s.0 in
    (s.0.3 ∙ inv.0, inl s.1, s.2, s.0.2 ∙ inv.3, m.0, m.1, rw (items, map-append fields_of c.loop-row.rows.items (row ∷ [])) m.2)

pub returns-clause-done : goal.returns-clause-done
returns-clause-done c =
    let inv = c.loop-row.invariant in
    let s = rw c.in-None.is at ((c.next.ensures.steps inv.2 inv.0).0 inv.1) in
    (c.loop-row.row-iterator.rdr.state, inv.4, inv.6, rows-end (λ (s : Bor (List ℕ)). Some s.now) c.loop-row.row-iterator.rdr c.next.new.self.rdr [] default_config inv.4 inv.3 inv.5 s)
