use Rattle.std.proofs.Common.{◌≡◌, ℕ, ◌≤◌, ◌<◌, List, Option, Some, None, [], length, unwrap_or, sym, ap, subst, ◌∙◌, arith}
use Rattle.http.specs.StatusCode.{reason_phrase}
use Rattle.web_http.specs.Text.{phrase}
use Rattle.web_http.proofs.HeadTexts.{phrase_short}
use Rattle.web_http.proofs.answer_head.phrase.Goals as goal

words : Option (List ℕ) → List ℕ
words p = unwrap_or p []

pub returns-in-Some-clause-value : goal.returns-in-Some-clause-value
unfolding phrase words
returns-in-Some-clause-value c =
    let is : Some c.in-Some.text.now ≡ reason_phrase c.args.status = c.in-Some.ensures.value in
    c.as_bytes.ensures.value ∙ ap words is

pub returns-in-Some-clause-short : goal.returns-in-Some-clause-short
unfolding phrase words
returns-in-Some-clause-short c =
    let is : Some c.in-Some.text.now ≡ reason_phrase c.args.status = c.in-Some.ensures.value in
    let below : c.args.status < 1000 = omega (arith, c.as_u16-code.ensures.value, c.as_u16-code.ensures.valid.1) in
    subst (λ (t : List ℕ). length t ≤ 31) (sym (c.as_bytes.ensures.value ∙ ap words is)) (phrase_short c.args.status below)

pub returns-in-None-clause-value : goal.returns-in-None-clause-value
unfolding phrase words
returns-in-None-clause-value c =
    let is : None ≡ reason_phrase c.args.status = c.in-None.ensures.value in
    ap words is
