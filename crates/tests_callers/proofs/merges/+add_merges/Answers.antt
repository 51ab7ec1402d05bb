use Rattle.std.proofs.Common.{◌∙◌}
use Rattle.tests_callers.proofs.MergeLemmas.{merges_after}
use Rattle.tests_callers.proofs.merges.+add_merges.Goals as goal

pub returns : goal.returns
returns t c = merges_after c.args.first.now c.args.one.now c.args.other.now _ _ _ _ _ _ _ _ _ c.in-Some.ensures.cases.0 c.in-Some-split_first.ensures.cases.0
    (c.as_slice.ensures.value ∙ c.in_ok-joined-3.ensures) (c.as_slice-2.ensures.value ∙ c.in_ok-joined-4.ensures)
    c.in_ok-add_merges.ensures c.in_ok-add_merges-2.ensures
