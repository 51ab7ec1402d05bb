use Rattle.file_scan.proofs.ReadLemmas.{same_when}
use Rattle.file_scan.proofs.Stopping.{closed_by, never_closed}
use Rattle.file_scan.proofs.file.read_head.Goals as goal

pub returns-in-Ok-clause-found : goal.returns-in-Ok-clause-found
returns-in-Ok-clause-found g c clean db at =
    same_when c.tested.result c.in-Ok.rows _ _ c.tested.ensures.same c.tested.ensures.passed (λ passed. (c.in-Ok.ensures.shown clean db at, passed))

pub returns-in-Ok-clause-cause : goal.returns-in-Ok-clause-cause
returns-in-Ok-clause-cause g c clean db at = c.tested.ensures.cause db (c.in-Ok.ensures.shown clean db at)

pub returns-in-Err-clause-cause : goal.returns-in-Err-clause-cause
returns-in-Err-clause-cause g c clean db at = c.refusal.ensures.cause c.args.own db (c.in-Err.ensures.refused clean db at)

pub returns-in-Ok-clause-store : goal.returns-in-Ok-clause-store
returns-in-Ok-clause-store g c clean db at known = never_closed c.tested.result _ c.tested.ensures.never

pub returns-in-Err-clause-store : goal.returns-in-Err-clause-store
returns-in-Err-clause-store g c clean db at known = closed_by c.in-Err.error c.refusal.result _ c.refusal.ensures.store (c.in-Err.ensures.store clean db at known)
