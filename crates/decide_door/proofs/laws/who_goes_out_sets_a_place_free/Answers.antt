use Rattle.std.proofs.Common.{◌≡◌, Ok, sym, ap, ◌∙◌}
use Rattle.model_rows.specs.declared.rows.OrderPos.{OrderPos}
use Rattle.model_rows.specs.Lists.{State}
use Rattle.decide_door.specs.Scanned.{ticket_scanned}
use Rattle.decide_door.proofs.Places.{place_freed, place_taken_back, both_used}
use Rattle.decide_door.proofs.laws.who_goes_out_sets_a_place_free.Goals as goal

pub returns-clause-freed : goal.returns-clause-freed
returns-clause-freed c = λ s quota sound. place_freed s.list s.ticket s.scan s.before s.after s.position sound s.passed quota

pub returns-clause-taken_back : goal.returns-clause-taken_back
returns-clause-taken_back c = λ s quota sound. place_taken_back s.list s.ticket s.scan s.before s.after s.position sound s.passed quota

pub returns-clause-both : goal.returns-clause-both
returns-clause-both c = λ s next quota fit sound behind same gone.
    let passed : ticket_scanned next.list next.ticket next.scan s.after ≡ Ok (next.after, s.position) =
    ap (λ (state : State). ticket_scanned next.list next.ticket next.scan state) (sym behind) ∙ next.passed ∙ ap (λ (position : OrderPos). Ok (next.after, position)) same in
    both_used s.list next.list s.ticket next.ticket s.scan next.scan s.before s.after next.after s.position quota fit sound s.passed passed gone
