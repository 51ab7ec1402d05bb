use Rattle.std.proofs.Common.{◌≡◌, ◌∙◌, Ok, Err, ap, sym, subst, inl, inr, refl}
use Rattle.sqlite.specs.Held.{state}
use Rattle.web_cli.specs.declared.fault.RunFault.{RunFault}
use Rattle.sqlite.specs.Effect.{Database}
use Rattle.file_schema.specs.Blank.{blank_schema}
use Rattle.file_tables.specs.declared.error.CreateError.{CreateError}
use Rattle.file_tables.specs.declared.error.CreateError.TheVariants as making
use Rattle.app_files.specs.Faults.{fault_of_making}
use Rattle.app_files.specs.Filed.{IsNotMadeFor, MakesShopIn}
use Rattle.app_files.proofs.making.make_new_shop.Goals as goal

not_made : (db : Database) (error : CreateError) → (error ≡ making.NotBlank → ¬ (db.schema ≡ blank_schema)) → IsNotMadeFor db (fault_of_making error)
not_made db making.NotBlank taken = inl (refl, taken refl)
not_made db making.Memory taken = inr (inl refl)
not_made db making.Store taken = inr (inr refl)

pub returns-in-Ok : goal.returns-in-Ok
returns-in-Ok g c =
    let tables = c.in-Ok.tables in
    let made = c.in-Ok.ensures in
    subst (λ it. MakesShopIn g.S.Store c.args.organizer c.args.event (state g.S.Store c.args.connection) it (Ok tt)) (sym c.into_connection.ensures) (record {
      made = λ clean. (tables.head, tables.next_row, made.made clean);
      none = λ clean. tt;
      blank = λ other. absurd (made.blank other);
      cause = tt;
      crash = made.crash;
    })

pub returns-in-Err : goal.returns-in-Err
returns-in-Err g c =
    let refused = c.in-Err.ensures in
    record {
      made = λ clean. tt;
      none = refused.none;
      blank = λ other. ap (λ (fault : RunFault). Err fault) (c.fault_of_making.ensures ∙ ap fault_of_making (refused.blank other));
      cause = subst (IsNotMadeFor (state g.S.Store c.args.connection).now) (sym c.fault_of_making.ensures) (not_made (state g.S.Store c.args.connection).now _ refused.taken);
      crash = refused.crash_none;
    }
