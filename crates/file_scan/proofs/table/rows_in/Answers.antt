use Rattle.std.proofs.Common.{◌≡◌, ◌≢◌, [], ◌∷◌, ◌++◌, map, sym, ap, subst, ◌∙◌, rules}
use Rattle.std.specs.List.{All}
use Rattle.std.specs.List.Sorted.{IsPermutation}
use Rattle.sqlite.specs.Effect.{Database}
use Rattle.sqlite.specs.Held.{state}
use Rattle.sqlite.specs.State.{Shown, Begins}
use Rattle.file_schema.specs.Tables.{schema}
use Rattle.file_schema.specs.Parts.{row_shown}
use Rattle.file_reads.specs.Damage.{HasMeaning, HasNoMeaning, IsDamaged}
use Rattle.file_reads.proofs.Loads.{loads}
use Rattle.file_reads.proofs.Causes.{means_something, unread_for}
use Rattle.file_scan.proofs.Gathering.{gathers}
use Rattle.file_scan.proofs.Refusing.{begins_meaning, damaged_in}
use Rattle.file_scan.proofs.Shown.{not_damaged, where_damaged}
use Rattle.file_reads.specs.Alone.{RunsAloneIn}
use Rattle.file_reads.specs.Select.{IsSelectIn}
use Rattle.file_reads.specs.Since.{IsSince}
use Rattle.file_scan.specs.Stopped.{IsStopped}
use Rattle.file_scan.proofs.Stopping.{unread_goes_on}
use Rattle.file_scan.proofs.table.rows_in.Goals as goal

pub returns-in-Ok-taken : goal.returns-in-Ok-taken
returns-in-Ok-taken g c = record {
  loaded = λ clean db at known.
      let old = state g.S.Store c.args.conn.now in
      let new = state g.S.Store c.each_row.new.conn in
      let all = rw c.in-Ok-taken.is at c.in-Ok.ensures.whole in
      let it = gathers (λ k. k.all.items) g.T.Loaded.as_row g.T.Loaded.fits _ _ all.rows all.took in
      let none = c.new.ensures.items in
      let same : map g.T.Loaded.as_row c.each_row.new.taker.all.items ≡ all.rows = ap (map g.T.Loaded.as_row) (it.behind ∙ ap (λ l. l ++ it.more) none) ∙ it.values in
      let has : old.now.schema ≡ db.schema = ap (λ (d : Database). d.schema) at.now in
      let told = loads g.T.Loaded.text g.T.Loaded.tree (c.statement.ensures.select db.schema known) old new has all.rows (subst (λ t. Shown t [] old new all.rows) c.statement.ensures.text (all.shown clean)) in
      subst (λ (d : Database). IsPermutation (map g.T.Loaded.as_row c.each_row.new.taker.all.items) (map (row_shown schema g.T.Loaded.tree) (d.trees g.T.Loaded.tree))) at.now (subst (λ l. IsPermutation l (map (row_shown schema g.T.Loaded.tree) (old.now.trees g.T.Loaded.tree))) (sym same) told);
  limits =
      let all = rw c.in-Ok-taken.is at c.in-Ok.ensures.whole in
      let it = gathers (λ k. k.all.items) g.T.Loaded.as_row g.T.Loaded.fits _ _ all.rows all.took in
      subst (All g.T.Loaded.fits) (sym (it.behind ∙ ap (λ l. l ++ it.more) c.new.ensures.items)) it.fit;
  found = λ clean db at.
      let old = state g.S.Store c.args.conn.now in
      let new = state g.S.Store c.each_row.new.conn in
      let all = rw c.in-Ok-taken.is at c.in-Ok.ensures.whole in
      subst (λ (d : Database). HasMeaning d.schema g.T.Loaded.text) at.now (means_something g.T.Loaded.text [] old new all.rows (subst (λ t. Shown t [] old new all.rows) c.statement.ensures.text (all.shown clean)));
  refused = λ clean db at. tt;
  store = λ clean db at known. tt;
  same = λ clean. c.in-Ok.ensures.same clean;
  only = c.each_row.ensures.only;
}

pub returns-in-Err-taken : goal.returns-in-Err-taken
returns-in-Err-taken g c = record {
  loaded = λ clean db at known. tt;
  limits = tt;
  found = λ clean db at.
      let old = state g.S.Store c.args.conn.now in
      let some = rw c.in-Err-taken.is at c.in-Ok.ensures.stopped in
      let front = subst (λ t. Begins t [] old (some.rows ++ some.row ∷ [])) c.statement.ensures.text (some.front clean) in
      where_damaged c.in-Err-taken.refusal _ (subst (λ (d : Database). HasMeaning d.schema g.T.Loaded.text) at.now (begins_meaning g.T.Loaded.text old _ front));
  refused = λ clean db at.
      let old = state g.S.Store c.args.conn.now in
      let some = rw c.in-Err-taken.is at c.in-Ok.ensures.stopped in
      let text = c.statement.ensures.text in
      let front = subst (λ t. Begins t [] old (some.rows ++ some.row ∷ [])) text (some.front clean) in
      let why : ((w : g.row.T.Denot) → g.T.Loaded.fits w → some.row ≢ g.T.Loaded.as_row w) → IsSince g.T.Loaded.since db.schema → IsDamaged g.T.Loaded.as_row g.T.Loaded.fits (map (row_shown schema g.T.Loaded.tree) (db.trees g.T.Loaded.tree)) = λ bad known.
      subst (λ (d : Database). IsDamaged g.T.Loaded.as_row g.T.Loaded.fits (map (row_shown schema g.T.Loaded.tree) (d.trees g.T.Loaded.tree))) at.now
      (damaged_in g.T.Loaded.as_row g.T.Loaded.fits g.T.Loaded.text g.T.Loaded.tree (c.statement.ensures.select db.schema known) old (ap (λ (d : Database). d.schema) at.now) at.is_open some.rows some.row front bad) in
      unread_for (HasNoMeaning db.schema g.T.Loaded.text) _ _ why _ some.stopped;
  store = λ clean db at known.
      let some = rw c.in-Err-taken.is at c.in-Ok.ensures.stopped in
      let stopped = IsStopped (state g.S.Store c.args.conn.now) (state g.S.Store c.each_row.new.conn) in
      unread_goes_on ((w : g.row.T.Denot) → g.T.Loaded.fits w → some.row ≢ g.T.Loaded.as_row w) stopped c.in-Err-taken.refusal some.stopped;
  same = λ clean. where_damaged c.in-Err-taken.refusal _ (c.in-Ok.ensures.same clean);
  only = c.each_row.ensures.only;
}

pub returns-in-Err : goal.returns-in-Err
returns-in-Err g c = record {
  loaded = λ clean db at known. tt;
  limits = tt;
  found = λ clean db at. not_damaged c.in-Err.error _ _ (c.in-Err.ensures.refused clean);
  refused = search rules;
  store = λ clean db at known.
      let text = sym c.statement.ensures.text in
      c.in-Err.ensures.store clean db.schema g.T.Loaded.tree (subst (λ t. IsSelectIn db.schema t g.T.Loaded.tree []) text (c.statement.ensures.select db.schema known)) (subst (RunsAloneIn db.schema) text (c.statement.ensures.alone db.schema known)) at.is_open
      (ap (λ (d : Database). d.schema) at.now);
  same = λ clean. not_damaged c.in-Err.error _ _ (c.in-Err.ensures.refused clean);
  only = c.each_row.ensures.only;
}
