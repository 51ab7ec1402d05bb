use Rattle.std.proofs.Common.{ℕ, eqb, List, take, get_or, ap, ap₂, ◌∙◌}
use Rattle.book_log.specs.Places.{last_place}
use Rattle.book_tally.proofs.Newest.{keys_of, keys-take, keys-get_or, newest_keys}
use Rattle.book_tally.proofs.tally.Tally.earlier.Goals as goal

pub returns : goal.returns
returns g c d =
    let journal = c.self.inside.counts.items in
    let place = c.args.place in
    rw (← c.self.view_is)
    (c.before-2.ensures d.id
    ∙ ap (λ (keys : List ℕ). last_place (λ k. eqb k (get_or keys place d.id)) (take place keys)) c.self.invariant
    ∙ ap₂ (λ (k : ℕ) (keys : List ℕ). last_place (λ j. eqb j k) keys) (keys-get_or journal place d) (keys-take place journal)
    ∙ newest_keys (get_or journal place d).id (take place journal))
