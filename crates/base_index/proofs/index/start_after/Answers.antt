use Rattle.std.proofs.Common.{◌≡◌, ℕ, ◌+◌, subst, arith}
use Rattle.base_index.specs.Entries.{IsStart, entry}
use Rattle.base_index.proofs.Cuts.{start_behind_place, start_behind_gap}
use Rattle.base_index.proofs.index.start_after.Goals as goal

pub returns-in-Ok : goal.returns-in-Ok
returns-in-Ok c =
    let next : c.entry.result + 1 ≡ entry (c.args.key + 1) 0 = omega arith in
    subst (λ (e : ℕ). IsStart c.args.entries.now.rows e (c.in-Ok.at + 1)) next (start_behind_place c.args.entries.now.rows c.entry.result c.in-Ok.at c.requires c.in-Ok.ensures.found)

pub returns-in-Err : goal.returns-in-Err
returns-in-Err c =
    let next : c.entry.result + 1 ≡ entry (c.args.key + 1) 0 = omega arith in
    subst (λ (e : ℕ). IsStart c.args.entries.now.rows e c.in-Err.at) next (start_behind_gap c.args.entries.now.rows c.entry.result c.in-Err.at c.in-Err.ensures.absent)
