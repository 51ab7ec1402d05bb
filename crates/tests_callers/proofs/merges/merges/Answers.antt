use Rattle.tests_callers.proofs.MergeLemmas.{all_merges}
use Rattle.tests_callers.proofs.merges.merges.Goals as goal

pub returns : goal.returns
returns c = all_merges (λ v. v.items) c.args.one.now c.args.other.now c.new-all.result.items _ c.new-all.ensures.items c.in_ok-add_merges.ensures
