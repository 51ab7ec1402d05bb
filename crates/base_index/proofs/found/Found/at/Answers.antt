use Rattle.std.proofs.Common.{◌≡◌, ◌-◌, ◌<◌, length, sym, ap, ◌∙◌, arith}
use Rattle.base_index.specs.Entries.{id_of}
use Rattle.base_index.proofs.EntryLemmas.{lent_count, lent_at}
use Rattle.base_index.proofs.found.Found.at.Goals as goal

pub overflow_add-self-inside : goal.overflow_add-self-inside
overflow_add-self-inside c =
    let f = c.self.inside in
    let count : length c.args.self.now ≡ f.end - f.first = rw (← c.self.view_is) (lent_count f.entries.now.rows f.first f.end c.self.invariant.0 c.self.invariant.1) in
    omega (arith, count, c.requires, c.self.invariant.2)

pub returns : goal.returns
returns c = λ d.
    let f = c.self.inside in
    let count : length c.args.self.now ≡ f.end - f.first = rw (← c.self.view_is) (lent_count f.entries.now.rows f.first f.end c.self.invariant.0 c.self.invariant.1) in
    let lt : c.args.place < f.end - f.first = omega (arith, count, c.requires) in
    rw (← c.self.view_is) (lent_at f.entries.now.rows f.first f.end c.args.place d c.self.invariant.0 c.self.invariant.1 lt ∙ ap id_of (c.at.ensures 0) ∙ sym c.id_of.ensures)
