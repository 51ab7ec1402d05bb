use Rattle.std.proofs.Common.{map, ap, ◌∙◌}
use Rattle.base_index.specs.Entries.{entry, id_of}
use Rattle.base_index.proofs.Cuts.{cut_is}
use Rattle.base_index.proofs.EntryLemmas.{between_is}
use Rattle.base_index.proofs.index.Index.between.Goals as goal

pub returns-clause-all : goal.returns-clause-all
returns-clause-all c =
    let low = rw c.entry.ensures at c.start_of-first.ensures in
    let high = rw c.entry-2.ensures at c.start_of-end.ensures in
    let cut = cut_is (entry c.args.from 0) (entry c.args.to 0) c.self.inside.entries.rows _ _ low high in
    rw (← c.self.view_is) (c.of.ensures.all ∙ ap (map id_of) (cut ∙ between_is c.args.from c.args.to c.self.inside.entries.rows))
