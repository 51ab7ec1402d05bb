use Rattle.std.proofs.Common.{◌≡◌, ◌*◌, pos, arith, ◌∙◌}
use Rattle.std.proofs.lemmas.Result.{IfOk-weaker}
use Rattle.std.proofs.lemmas.Int.{ints}
use Rattle.jiff.specs.Words.{civil_nanos}
use Rattle.base_dates.proofs.TextLemmas.{shown}
use Rattle.base_dates.proofs.writing.seconds_text.Goals as goal

pub returns : goal.returns
returns c =
    let e = c.to_datetime-clock.ensures in
    let v = c.in-Ok.ensures.value in
    let is : civil_nanos c.to_datetime-clock.result ≡ pos (c.args.second * 1000000000) = omega (arith, ints) in
    IfOk-weaker c.format.result _ _ (λ s h. h ∙ shown c.to_datetime-clock.result c.args.second c.requires is) c.format.ensures.ok
