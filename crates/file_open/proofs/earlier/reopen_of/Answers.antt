use Rattle.std.proofs.Common.{◌∙◌, arith}
use Rattle.sqlite.specs.Held.{state}
use Rattle.file_rows.specs.Tables.{Tables}
use Rattle.file_scan.specs.Read.{tables_of}
use Rattle.file_scan.proofs.ReadLemmas.{if_err, on_ok}
use Rattle.file_reads.specs.Since.{IsSince}
use Rattle.file_open.specs.Upgraded.{HoldsLacking}
use Rattle.file_open.proofs.OfVersion.{holds_shop, three_ok}
use Rattle.file_open.proofs.Reasons.{reason_as, unread_as}
use Rattle.file_open.proofs.earlier.reopen_of.Goals as goal

pub returns-in-Ok-clause-held : goal.returns-in-Ok-clause-held
returns-in-Ok-clause-held g c =
    let own = c.args.own in
    let t = tables_of c.in-Ok.file in
    let new = state g.S.Store c.read_file_of.new.conn in
    three_ok c.open_supplied.result _ _ _
    (λ it. (t : Tables) × HoldsLacking own g.S.Store c.args.connection.now c.read_file_of.new.conn it.reopened.head it.lacking.exits.items it.lacking.spents.items t (g.B.Book.state it.reopened.book))
    c.open_supplied.ensures.lacking c.open_supplied.ensures.sound (c.open_supplied.ensures.held c.in-Ok.ensures.limits)
    (λ it lacking sound stand. (
      t,
      record {
        lacking = lacking;
        held = λ clean db at known.
            let since : IsSince own db.schema = record { version = own; from = omega arith; known = c.requires.version; is = known } in
            let same = c.in-Ok.ensures.same clean in
            holds_shop own t it.reopened.head (g.B.Book.state it.reopened.book) stand.0 stand.1 sound db new same.0.is_open (same.0.now_is ∙ at.now) (same.0.committed_is ∙ at.committed) known (c.in-Ok.ensures.held clean db at since);
      },
    ))

pub returns-in-Ok-clause-found : goal.returns-in-Ok-clause-found
returns-in-Ok-clause-found g c clean db at = on_ok c.open_supplied.result _ _ c.open_supplied.ensures.head (λ it is. c.in-Ok.ensures.found clean db at)

pub returns-in-Ok-clause-cause : goal.returns-in-Ok-clause-cause
returns-in-Ok-clause-cause g c clean db at =
    let own = c.args.own in
    if_err c.open_supplied.result _ _ c.open_supplied.ensures.refused
    (λ e why. reason_as own db c.in-Ok.file (c.in-Ok.ensures.found clean db at) (λ known. c.in-Ok.ensures.held clean db at (record { version = own; from = omega arith; known = c.requires.version; is = known })) e why)

pub returns-in-Err-clause-cause : goal.returns-in-Err-clause-cause
returns-in-Err-clause-cause g c clean db at = unread_as c.args.own db c.in-Err.error (c.in-Err.ensures.cause clean db at)

pub returns-in-Ok-clause-same : goal.returns-in-Ok-clause-same
returns-in-Ok-clause-same g c clean = on_ok c.open_supplied.result _ _ c.open_supplied.ensures.head (λ it is. c.in-Ok.ensures.same clean)
