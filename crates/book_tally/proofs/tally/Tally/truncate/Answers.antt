use Rattle.std.proofs.Common.{◌≡◌, ℕ, List, take, ap, sym, ◌∙◌}
use Rattle.book_tally.specs.declared.tally.Count.{Count}
use Rattle.book_tally.proofs.Newest.{keys_of, keys-take}
use Rattle.book_tally.proofs.tally.Tally.truncate.Goals as goal

pub invariant_of-self : goal.invariant_of-self
invariant_of-self g c =
    c.truncate.ensures
    ∙ ap (λ (keys : List ℕ). take c.args.mark keys) c.self.invariant
    ∙ keys-take c.args.mark c.self.inside.counts.items
    ∙ ap (λ journal. keys_of journal) (sym c.truncate-2.ensures.items)
