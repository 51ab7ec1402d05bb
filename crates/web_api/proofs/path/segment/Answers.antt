use Rattle.std.proofs.Common.{rules, tests, eqb}
use Rattle.std.proofs.lemmas.Iterator.Splits.{YieldsList-from_slice_split}
use Rattle.std.proofs.lemmas.Iterator.Consumers.{nth_from_yields_List}
use Rattle.web_api.proofs.path.segment.Goals as goal

pub returns : goal.returns
returns c =
    nth_from_yields_List _ _ c.args.n c.nth.ensures.ran
    (YieldsList-from_slice_split _ (λ b. eqb b 47) c.args.path.now c.split.ensures.rest c.split.ensures.done c.split.ensures.closure (λ x b q k. search (rules, tests)))
