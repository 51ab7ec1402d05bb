use Rattle.std.proofs.Common.{◌≡◌, ◌+◌, rules, ◌∙◌, ap, min, subst₂, ℕ, ◌++◌, ◌∷◌, []}
use Rattle.base_values.specs.Moments.{last_moment}
use Rattle.web_cli.specs.FeedTicks.{feed_ticks}
use Rattle.web_cli.proofs.TickLemmas.{one_more, saturated, some_ticks, tick_of}
use Rattle.web_cli.proofs.ticks.FeedTicksTicks.tick.Goals as goal

pub returns-clause-reported : goal.returns-clause-reported
returns-clause-reported g c =
    let is : c.in-Some.number ≡ c.args.self.now.reported + 1 = search rules in
    let begins : c.args.self.now.from ≡ g.P.Pace.from = search rules in
    let goes_on : c.args.self.now.step ≡ g.P.Pace.step = search rules in
    let at = c.later-clock.ensures ∙ ap (λ s. min (c.args.self.now.from + s) last_moment) c.saturating_mul.ensures ∙ saturated c.args.self.now.from _ in
    subst₂ (λ (f s : ℕ). some_ticks (feed_ticks f s c.in-Some.number) ≡ some_ticks (feed_ticks f s c.args.self.now.reported ++ tick_of c.later-clock.result c.to_be_bytes.result ∷ [])) begins goes_on
    (one_more c.args.self.now.from c.args.self.now.step c.args.self.now.reported c.in-Some.number _ _ is at c.to_be_bytes.ensures)
