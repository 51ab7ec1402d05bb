use Rattle.std.proofs.Common.{◌≡◌, ℕ, not, get_or, sym, ap, ap₂, ◌∙◌, arith}
use Rattle.std.proofs.lemmas.List.{get_or_default}
use Rattle.model_catalogue.specs.declared.rows.Quota.{Quota}
use Rattle.model_rows.specs.Lists.{Lists}
use Rattle.model_rows.specs.Total.{total}
use Rattle.model_rows.specs.Usage.{usage_of}
use Rattle.model_rows.specs.Over.{is_over, is_over_size, quota_weighed}
use Rattle.draft_counts.specs.Logs.{rows_of, rows_at}
use Rattle.draft_changes.specs.Used.{places_used, usage_raised}
use Rattle.draft_changes.proofs.Standing.{value_there}
use Rattle.draft_changes.proofs.Overs.{not_over, size_none}
use Rattle.draft_changes.proofs.over.Weighing.is_over.Goals as goal

pub is_too_much-requires : goal.is_too_much-requires
unfolding places_used
is_too_much-requires g c =
    let w = c.args.self.now in
    let log = w.overlay.now in
    let at = w.at in
    let quota = c.index-quotas-place.result in
    let here : (f : Quota → ℕ) → f (get_or w.quotas.now c.args.place quota) ≡ f quota = λ f. ap f (sym c.index-quotas-place.is) in
    let value = λ (l : Lists). value_there (places_used l at) w.quotas.now log.base.catalogue.quotas c.args.place quota w.sold c.requires c.index-quotas-place.is in
    let base : c.base_of-base.result ≡ places_used log.base at quota = c.base_of-base.ensures.value quota ∙ here (places_used log.base at) in
    omega (arith, base, c.moved-used.ensures, w.counted c.args.place, value (rows_of log), value log.base, ap₂ usage_raised c.of-after.ensures.come c.of-after.ensures.gone, ap₂ usage_raised c.of-after.ensures.gone c.of-after.ensures.come)

pub returns : goal.returns
unfolding places_used
returns g c d =
    let w = c.args.self.now in
    let log = w.overlay.now in
    let at = w.at in
    let quota = c.index-quotas-place.result in
    let before = rows_at w.count log in
    let here : (f : Quota → ℕ) → f (get_or w.quotas.now c.args.place quota) ≡ f quota = λ f. ap f (sym c.index-quotas-place.is) in
    let value = λ (l : Lists). value_there (places_used l at) w.quotas.now log.base.catalogue.quotas c.args.place quota w.sold c.requires c.index-quotas-place.is in
    let base : c.base_of-base.result ≡ places_used log.base at quota = c.base_of-base.ensures.value quota ∙ here (places_used log.base at) in
    let was : c.moved-was.result ≡ total (usage_of before at quota) = omega (arith, base, c.moved-was.ensures, w.counted_before c.args.place, value before, value log.base, ap₂ usage_raised c.at_mark-before.ensures.come c.at_mark-before.ensures.gone, ap₂ usage_raised c.at_mark-before.ensures.gone c.at_mark-before.ensures.come) in
    c.is_too_much.ensures ∙ ap (λ n. is_over_size quota.size n (quota_weighed (rows_of log) at quota w.own.now)) was
    ∙ ap (is_over before (rows_of log) at w.own.now) (c.index-quotas-place.is ∙ get_or_default w.quotas.now c.args.place quota d c.requires)

pub returns-then-is_none : goal.returns-then-is_none
returns-then-is_none g c d =
    let w = c.args.self.now in
    let log = w.overlay.now in
    let at = w.at in
    let quota = c.index-quotas-place.result in
    let before = rows_at w.count log in
    sym (size_none quota.size (total (usage_of before at quota)) (quota_weighed (rows_of log) at quota w.own.now) (c.is_none.ensures ∙ ap not c.if-is_none.true))
    ∙ ap (is_over before (rows_of log) at w.own.now) (c.index-quotas-place.is ∙ get_or_default w.quotas.now c.args.place quota d c.requires)

pub returns-then-more-less : goal.returns-then-more-less
returns-then-more-less g c d =
    let w = c.args.self.now in
    let log = w.overlay.now in
    let at = w.at in
    let quota = c.index-quotas-place.result in
    let before = rows_at w.count log in
    let value = λ (l : Lists). value_there (places_used l at) w.quotas.now log.base.catalogue.quotas c.args.place quota w.sold c.requires c.index-quotas-place.is in
    let more = ap₂ usage_raised c.of-after.ensures.come c.of-after.ensures.gone in
    let less = ap₂ usage_raised c.of-after.ensures.gone c.of-after.ensures.come in
    let more_before = ap₂ usage_raised c.at_mark-before.ensures.come c.at_mark-before.ensures.gone in
    let less_before = ap₂ usage_raised c.at_mark-before.ensures.gone c.at_mark-before.ensures.come in
    sym (not_over before (rows_of log) at w.own.now quota (omega (arith, w.counted c.args.place, w.counted_before c.args.place, value before, value (rows_of log), value log.base, more, less, more_before, less_before)))
    ∙ ap (is_over before (rows_of log) at w.own.now) (c.index-quotas-place.is ∙ get_or_default w.quotas.now c.args.place quota d c.requires)
