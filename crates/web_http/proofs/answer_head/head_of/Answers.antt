use Rattle.std.proofs.Common.{◌∙◌}
use Rattle.web_http.proofs.HeadTexts.{head_is, head_fits}
use Rattle.web_http.proofs.answer_head.head_of.Goals as goal

pub gather-requires : goal.gather-requires
gather-requires c =
    let is = head_is c.args.status c.args.allow c.args.size c.args.closes _ _ _ _ _ (c.as_slice.ensures.value ∙ c.status_line-line.ensures.text) (c.as_slice-2.ensures.value ∙ c.content_fields-content.ensures) (c.as_slice-3.ensures.value ∙ c.challenge-challenge.ensures) (c.as_slice-4.ensures.value ∙ c.allow_field-allow.ensures) (c.as_slice-5.ensures.value ∙ c.close_field-close.ensures) in
    head_fits c.args.status c.args.allow c.args.size c.args.closes _ _ c.status_line-line.ensures.short c.status_line-line.ensures.text c.ranges.size.fits is

pub returns : goal.returns
returns c =
    let is = head_is c.args.status c.args.allow c.args.size c.args.closes _ _ _ _ _ (c.as_slice.ensures.value ∙ c.status_line-line.ensures.text) (c.as_slice-2.ensures.value ∙ c.content_fields-content.ensures) (c.as_slice-3.ensures.value ∙ c.challenge-challenge.ensures) (c.as_slice-4.ensures.value ∙ c.allow_field-allow.ensures) (c.as_slice-5.ensures.value ∙ c.close_field-close.ensures) in
    c.gather.ensures ∙ is
