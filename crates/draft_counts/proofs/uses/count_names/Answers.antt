use Rattle.std.proofs.Common.{sym, ◌∙◌}
use Rattle.draft_overlay.proofs.CodeKeys.{when_ok}
use Rattle.draft_counts.proofs.UseCounts.{names_more}
use Rattle.draft_counts.proofs.uses.count_names.Goals as goal

pub loop-i-preserved : goal.loop-i-preserved
loop-i-preserved c =
    let ok = sym c.is_err.ensures.value ∙ c.if-is_err.false in
    let comes = when_ok _ c.add_named.result ok c.add_named.ensures.comes in
    let goes = when_ok _ c.add_named.result ok c.add_named.ensures.goes in
    let on = when_ok _ c.add_named.result ok c.add_named.ensures.on in
    names_more c.args.force c.args.stood c.args.purchases.now c.loop-i.i c.index-purchases-i.result c.loop-i-test.true c.index-purchases-i.is c.args.uses.now c.loop-i.uses c.add_named.new.self c.loop-i.invariant
    (rw c.used_since-come.ensures at comes) (rw c.used_since-gone.ensures at goes) on
