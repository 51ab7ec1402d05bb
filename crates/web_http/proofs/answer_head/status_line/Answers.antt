use Rattle.std.proofs.Common.{◌≡◌, ◌∙◌, ap, unwrap_or, arith}
use Rattle.http.specs.StatusCode.{code_digits}
use Rattle.web_http.specs.Text.{phrase}
use Rattle.web_http.proofs.HeadTexts.{line_is, line_fits}
use Rattle.web_http.proofs.answer_head.status_line.Goals as goal

pub gather-requires : goal.gather-requires
gather-requires c =
    let same : c.in-Some.code ≡ c.args.status = ap (λ o. unwrap_or o 0) c.in-Some.ensures in
    let words = c.phrase.ensures.value ∙ ap phrase same in
    let is = line_is c.args.status _ _ (c.as_bytes.ensures.value ∙ c.as_str.ensures ∙ ap code_digits same) words in
    let fits = line_fits c.args.status _ _ c.phrase.ensures.short words is in
    omega (arith, fits)

pub returns-clause-text : goal.returns-clause-text
returns-clause-text c =
    let same : c.in-Some.code ≡ c.args.status = ap (λ o. unwrap_or o 0) c.in-Some.ensures in
    c.gather.ensures ∙ line_is c.args.status _ _ (c.as_bytes.ensures.value ∙ c.as_str.ensures ∙ ap code_digits same) (c.phrase.ensures.value ∙ ap phrase same)

pub returns-clause-short : goal.returns-clause-short
returns-clause-short c =
    let same : c.in-Some.code ≡ c.args.status = ap (λ o. unwrap_or o 0) c.in-Some.ensures in
    let words = c.phrase.ensures.value ∙ ap phrase same in
    line_fits c.args.status _ _ c.phrase.ensures.short words (c.gather.ensures ∙ line_is c.args.status _ _ (c.as_bytes.ensures.value ∙ c.as_str.ensures ∙ ap code_digits same) words)
