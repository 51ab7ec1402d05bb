use Rattle.std.proofs.Common.{◌≡◌, sym, subst, rules}
use Rattle.sqlite.specs.Effect.{Database}
use Rattle.sqlite.specs.Held.{state}
use Rattle.sqlite.specs.State.{HasCleanDisk, IsUnchanged}
use Rattle.file_schema.specs.Tables.{schema}
use Rattle.file_scan.specs.Rests.{IsOpenAt}
use Rattle.file_scan.specs.Causes.{IsReadable}
use Rattle.file_open.specs.Opened.{IsFaultless, IsOpened}
use Rattle.file_open.proofs.opening.open_file.Goals as goal

pub returns-in-Ok : goal.returns-in-Ok
returns-in-Ok g c =
    let old = state g.S.Store c.args.connection in
    let over = sym c.over.ensures.connection in
    record {
      opened = subst (λ h. HasCleanDisk (state g.S.Store h) → (db : Database) → IsOpenAt db old → db.schema ≡ schema
          → IsOpened db.trees c.over.result.head c.over.result.next_row c.over-office.result.state (state g.S.Store h)) over
          (rw (c.over.ensures.head, c.over.ensures.next_row, c.over-office.ensures.state) c.in-Ok.ensures.opened);
      names = search rules;
      version = search rules;
      sound = search rules;
      found = subst (λ h. HasCleanDisk (state g.S.Store h) → (db : Database) → IsOpenAt db old → IsReadable db) over c.in-Ok.ensures.found;
      whole = subst (λ h. HasCleanDisk (state g.S.Store h) → (db : Database) → IsOpenAt db old → db.schema ≡ schema → IsFaultless db) over c.in-Ok.ensures.whole;
      cause = tt;
      store = tt;
      same = subst (λ h. HasCleanDisk (state g.S.Store h) → IsUnchanged old (state g.S.Store h)) over c.in-Ok.ensures.same;
      rests = search rules;
      rests_none = tt;
      crash = search rules;
      crash_none = tt;
    }
