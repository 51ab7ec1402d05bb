use Rattle.std.proofs.Common.{◌≡◌, ◌+◌, ◌==◌, position, take, sym, ap, ◌∙◌}
use Rattle.std.proofs.lemmas.List.{take_rest}
use Rattle.base_values.specs.Money.{money_of, money_at, money_by, decimals_of}
use Rattle.base_values.proofs.cents.read_cents.Goals as goal

pub returns-in-Some : goal.returns-in-Some
returns-in-Some c =
    let bytes = c.as_bytes-bytes.result.now in
    let at = c.in-Some.at in
    let behind = c.decimals_of.ensures.value ∙ ap decimals_of (take_rest bytes (at + 1)) in
    let place : c.point_of.result ≡ position (λ b. b == 46) bytes = c.point_of.ensures.place in
    c.read_parts-in-Some.ensures ∙ ap (money_by (take at bytes)) behind ∙ ap (money_at bytes) (sym c.in-Some.is ∙ place) ∙ ap money_of c.as_bytes-bytes.ensures.value
