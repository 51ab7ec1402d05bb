use Rattle.std.proofs.Common.{rules}
use Rattle.std.proofs.lemmas.List.Sorted.{answers_always}
use Rattle.base_tables.proofs.Places.{searched}
use Rattle.base_tables.proofs.rows.searched.Goals as goal

pub returns : goal.returns
returns g c =
    let facts = c.binary_search_by_key.ensures in
    let by_key = facts.position (g.T.Row.key) (answers_always _ _ _ (λ f a r h called. search rules)) in
    searched _ _ c.requires c.args.id _ facts.bound by_key
