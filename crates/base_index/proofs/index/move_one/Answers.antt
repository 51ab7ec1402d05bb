use Rattle.std.proofs.Common.{sym, ◌∙◌}
use Rattle.base_index.proofs.EntryLemmas.{passed_by, moved_up}
use Rattle.base_index.proofs.index.move_one.Goals as goal

pub returns-then-id_of-id-clause-rows : goal.returns-then-id_of-id-clause-rows
returns-then-id_of-id-clause-rows c =
    let entry = c.at-entry.result in
    passed_by c.args.id c.args.entries.now.rows c.args.kept c.args.at entry c.requires.1 (c.at-entry.ensures entry) (sym c.id_of.ensures ∙ c.if-id_of-id.true)

pub returns-clause-rows : goal.returns-clause-rows
returns-clause-rows c =
    let entry = c.at-entry.result in
    rw c.set.ensures.rows (moved_up c.args.id c.args.entries.now.rows c.args.kept c.args.at entry c.requires.1 c.requires.0 (c.at-entry.ensures entry) (λ is. c.if-id_of-id.false (c.id_of.ensures ∙ is)))
