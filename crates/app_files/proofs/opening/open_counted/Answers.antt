use Rattle.std.proofs.Common.{Err, ap}
use Rattle.app_files.proofs.opening.open_counted.Goals as goal

pub returns-in-Ok-clause-opens : goal.returns-in-Ok-clause-opens
returns-in-Ok-clause-opens g c =
    let e = c.in-Ok.ensures in
    record { opened = e.opened; organizer = e.names.0; event = e.names.1; version = e.version; sound = e.sound; same = e.same; rests = e.rests; crash = e.crash }

pub returns-in-Err-clause-stays : goal.returns-in-Err-clause-stays
returns-in-Err-clause-stays g c =
    let e = c.in-Err.ensures in
    record { error = c.in-Err.field-0.error; told = ap (λ f. Err f) c.fault_of_opening.ensures; cause = e.cause; store = e.store; rests = e.rests_none; crash = e.crash_none }
