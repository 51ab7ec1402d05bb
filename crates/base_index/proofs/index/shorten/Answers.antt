use Rattle.std.proofs.Common.{◌-◌, ◌<◌, ◌≤◌, length, take, ap, ◌∙◌, arith}
use Rattle.std.proofs.lemmas.List.Edits.{length-remove}
use Rattle.base_index.proofs.EntryLemmas.{shorter}
use Rattle.base_index.proofs.index.shorten.Goals as goal

pub back-preserved : goal.back-preserved
back-preserved c =
    let rows = c.back.entries.rows in
    let last = c.len-last.result - 1 in
    let lt : last < length rows = omega (arith, c.len-last.ensures.count, c.len.ensures.count) in
    let le : c.args.kept ≤ last = omega (arith, c.len-last.ensures.count, c.len.ensures.count) in
    let count = length-remove rows last lt in
    (rw c.remove.ensures.rows (omega (arith, count)), ap (take c.args.kept) c.remove.ensures.rows ∙ shorter c.args.kept last rows le lt ∙ c.back.invariant.1, omega (arith, c.remove.ensures.room, c.back.invariant.2))
