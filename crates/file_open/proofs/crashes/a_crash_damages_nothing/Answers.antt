use Rattle.sqlite.specs.Held.{state}
use Rattle.file_scan.specs.declared.error.OpenError.{OpenError}
use Rattle.file_scan.specs.declared.error.OpenError.TheVariants.{Memory, NotAShop, Version, Damaged, Store}
use Rattle.file_scan.specs.Lawful.{IsOfMachine}
use Rattle.file_tables.proofs.Told.{one_shop}
use Rattle.file_scan.proofs.FitLemmas.{of_machine}
use Rattle.file_scan.proofs.LimitLemmas.{sound_fits}
use Rattle.file_open.proofs.Least.{clear}
use Rattle.file_open.proofs.Undamaged.{undamaged}
use Rattle.file_open.proofs.Again.{found_known}
use Rattle.file_open.proofs.Damage.{leaves_some}
use Rattle.file_open.proofs.crashes.a_crash_damages_nothing.Goals as goal

-- what can't be denied of an error of the machine is so
settled : (e : OpenError) → ((IsOfMachine e → ⊥) → ⊥) → IsOfMachine e
settled Memory h = tt
settled NotAShop h = h (λ x. x)
settled (Version version) h = h (λ x. x)
settled (Damaged rule) h = h (λ x. x)
settled Store h = tt

pub returns : goal.returns
returns g c = λ house of words s r running found error why.
    let db = (state g.S.Store c.args.fresh.now).now in
    let known = found_known _ (state g.S.Store c.args.fresh.now) house of.left c.schema_known.ensures found in
    settled error (λ no. leaves_some words r (λ left. running.leaves left (record {
      clean = found.clean;
      trees = db.trees;
      may = found.may;
      only = λ head tables it held stand is.
          let good = running.leaves_sound it (record { clean = found.clean; trees = db.trees; may = found.may; only = λ other rows more holds stands _. one_shop db.trees tables rows held holds head other it.state more.state it.kept more.kept stand stands }) in
          let limits = sound_fits head tables it.state it.kept is.first is.organizer is.event is.token stand good is.rows in
          absurd (no (clear db known (of_machine db known tables held limits) (undamaged head tables it.state it.kept stand db.trees held is.numbered is.organizer is.event good) error why));
    })))
