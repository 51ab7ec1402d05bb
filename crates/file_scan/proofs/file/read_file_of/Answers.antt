use Rattle.std.proofs.Common.{◌∙◌, sym, subst}
use Rattle.file_rows.specs.Tables.{HoldsAt}
use Rattle.file_reads.specs.Texts.{shop_text}
use Rattle.file_reads.proofs.SinceLemmas.{since_before}
use Rattle.file_scan.specs.Read.{HoldsRows, tables_of}
use Rattle.file_scan.specs.Causes.{ShowsBy, HasNoOtherVersion}
use Rattle.file_scan.proofs.FitLemmas.{read_holds, readable, held_at}
use Rattle.file_scan.proofs.ReadLemmas.{both_ok, on_always, was_some}
use Rattle.file_scan.proofs.Stopping.{never_closed}
use Rattle.file_scan.proofs.file.read_file_of.Goals as goal

pub returns-in-Ok-clause-held : goal.returns-in-Ok-clause-held
returns-in-Ok-clause-held g c clean db at known =
    let found = c.in-Ok.ensures.found clean db at in
    let own = c.args.own in
    let since = since_before 1 own c.requires.first db.schema known in
    let loaded = c.in-Ok.ensures.loaded clean db at known in
    both_ok c.whole_file.result _ _ (λ file. HoldsAt own db.trees (tables_of file)) c.whole_file.ensures.shop c.whole_file.ensures.tables
    (λ file is some.
    let rows = was_some c.in-Ok.tables file.tables (HoldsRows own db.trees) some loaded in
    held_at own c.requires.first c.requires.version db.trees file (read_holds db c.in-Ok.rows.items file since found.0 (sym c.as_slice.ensures.value ∙ is) rows.first) rows)

pub returns-in-Ok-clause-limits : goal.returns-in-Ok-clause-limits
returns-in-Ok-clause-limits g c = c.whole_file.ensures.limits c.in-Ok.ensures.limits

pub returns-in-Ok-clause-found : goal.returns-in-Ok-clause-found
returns-in-Ok-clause-found g c clean db at =
    let found = c.in-Ok.ensures.found clean db at in
    readable c.args.own c.requires.first db c.as_slice.result.now c.in-Ok.tables c.whole_file.result (subst (ShowsBy shop_text db) (sym c.as_slice.ensures.value) found.0) c.whole_file.ensures.shop c.whole_file.ensures.version c.whole_file.ensures.tables (c.whole_file.ensures.limits c.in-Ok.ensures.limits)
    found.2 (c.in-Ok.ensures.loaded clean db at)

pub returns-in-Ok-clause-cause : goal.returns-in-Ok-clause-cause
returns-in-Ok-clause-cause g c clean db at =
    let found = c.in-Ok.ensures.found clean db at in
    c.whole_file.ensures.cause db (subst (ShowsBy shop_text db) (sym c.as_slice.ensures.value) found.0) (subst (HasNoOtherVersion c.args.own) (sym c.as_slice.ensures.value) found.1) found.2 found.3

pub returns-in-Ok-clause-store : goal.returns-in-Ok-clause-store
returns-in-Ok-clause-store g c clean db at known = never_closed c.whole_file.result _ c.whole_file.ensures.never

pub returns-in-Ok-clause-same : goal.returns-in-Ok-clause-same
returns-in-Ok-clause-same g c clean = on_always c.whole_file.result _ (c.in-Ok.ensures.same clean)

pub returns-in-Err-clause-store : goal.returns-in-Err-clause-store
returns-in-Err-clause-store g c clean db at known = c.in-Err.ensures.store clean db at known
