use Rattle.std.proofs.Common.{◌≡◌, rules, sym, subst}
use Rattle.sqlite.specs.Held.{state}
use Rattle.sqlite.specs.State.{HasCleanDisk, Survives, State as Connected}
use Rattle.base_values.specs.Slugs.{IsSlug}
use Rattle.file_rows.specs.declared.rows.ShopRow.{ShopRow}
use Rattle.file_schema.specs.Blank.{blank_schema}
use Rattle.file_schema.specs.Whole.{IsWritten, MayBeWritten}
use Rattle.file_tables.specs.Begun.{IsBegun}
use Rattle.file_tables.specs.Made.{first_shop, IsMade}
use Rattle.file_tables.proofs.Made.{is_made}
use Rattle.file_tables.proofs.creating.create.Goals as goal

-- the same of another row that is this one
survives_as : (first head : ShopRow) (old new : Connected) → head ≡ first → Survives old new (MayBeWritten blank_schema (λ (_ : Unit {0}) db after. IsBegun head after) old) → Survives old new (MayBeWritten blank_schema (λ (_ : Unit {0}) db after. IsBegun first after) old)
survives_as first head old new is = subst (λ (h : ShopRow). Survives old new (MayBeWritten blank_schema (λ (_ : Unit {0}) db after. IsBegun h after) old)) is

pub returns-in-Ok-clause-made : goal.returns-in-Ok-clause-made
returns-in-Ok-clause-made g c clean =
    let old = state g.S.Store c.args.connection in
    let new = state g.S.Store c.begin.new.connection in
    let first = first_shop c.args.organizer c.args.event in
    let early : HasCleanDisk new = subst (λ h. HasCleanDisk (state g.S.Store h)) c.over.ensures.connection clean in
    let written = subst (λ (h : ShopRow). IsWritten (λ db after. IsBegun h after) old new) c.first_row-head.ensures (c.in-Ok.ensures.all early) in
    let org : IsSlug c.args.organizer = search rules in
    let ev : IsSlug c.args.event = search rules in
    let made = is_made c.args.organizer c.args.event old new (λ db is_open may. g.met.S.Store.settled c.begin.new.connection.store db is_open may) org ev c.first_row-head.result c.first_row-head.ensures written in
    subst (λ h. IsMade first old c.over.result.head c.over.result.next_row (state g.S.Store h)) (sym c.over.ensures.connection) (rw (c.over.ensures.head, c.over.ensures.next_row) made)

pub returns-in-Ok-clause-crash : goal.returns-in-Ok-clause-crash
returns-in-Ok-clause-crash g c =
    let old = state g.S.Store c.args.connection in
    subst (λ h. Survives old (state g.S.Store h) (MayBeWritten blank_schema (λ (_ : Unit {0}) db after. IsBegun (first_shop c.args.organizer c.args.event) after) old)) (sym c.over.ensures.connection)
    (survives_as _ _ old (state g.S.Store c.begin.new.connection) c.first_row-head.ensures c.begin.ensures.crash)

pub returns-in-Err-clause-crash_none : goal.returns-in-Err-clause-crash_none
returns-in-Err-clause-crash_none g c = survives_as _ _ (state g.S.Store c.args.connection) (state g.S.Store c.begin.new.connection) c.first_row-head.ensures c.begin.ensures.crash
