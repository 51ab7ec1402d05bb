use Rattle.std.proofs.Common.{ℕ, ◌<◌, List, eqb, ap, ◌∙◌, subst, sym, length}
use Rattle.std.specs.Option.{IfSome}
use Rattle.book_log.specs.Places.{last_place}
use Rattle.book_tally.proofs.Newest.{newest_keys, newest_within}
use Rattle.book_tally.proofs.tally.Tally.newest.Goals as goal

pub returns-clause-value : goal.returns-clause-value
returns-clause-value g c =
    rw (← c.self.view_is) (c.last.ensures ∙ ap (λ (keys : List ℕ). last_place (λ k. eqb k c.args.key) keys) c.self.invariant ∙ newest_keys c.args.key c.self.inside.counts.items)

pub returns-clause-within : goal.returns-clause-within
returns-clause-within g c =
    let journal = c.self.inside.counts.items in
    let is = c.last.ensures ∙ ap (λ (keys : List ℕ). last_place (λ k. eqb k c.args.key) keys) c.self.invariant ∙ newest_keys c.args.key journal in
    rw (← c.self.view_is) (subst (λ o. IfSome o (λ place. place < length journal)) (sym is) (newest_within c.args.key journal))
