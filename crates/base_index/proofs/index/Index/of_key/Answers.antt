use Rattle.std.proofs.Common.{◌+◌, map, ap, ◌∙◌}
use Rattle.base_index.specs.Entries.{entry, id_of}
use Rattle.base_index.proofs.Cuts.{cut_is}
use Rattle.base_index.proofs.EntryLemmas.{of_key_is}
use Rattle.base_index.proofs.index.Index.of_key.Goals as goal

pub returns-clause-all : goal.returns-clause-all
returns-clause-all c =
    let low = rw c.entry.ensures at c.start_of-low.ensures in
    let high = c.start_after-high.ensures in
    let cut = cut_is (entry c.args.key 0) (entry (c.args.key + 1) 0) c.self.inside.entries.rows _ _ low high in
    rw (← c.self.view_is) (c.of.ensures.all ∙ ap (map id_of) (cut ∙ of_key_is c.args.key c.self.inside.entries.rows))
