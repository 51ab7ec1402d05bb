use Rattle.std.proofs.Common.{◌++◌, [], ◌∷◌, ap, ◌∙◌, arith}
use Rattle.book_tally.proofs.Newest.{blank}
use Rattle.draft_changes.proofs.HandedLemmas.{keys_more}
use Rattle.draft_changes.proofs.finish.add_keys.Goals as goal

pub loop-i-preserved : goal.loop-i-preserved
loop-i-preserved g c =
    let d = blank g.A.Amount.zero in
    c.in_ok-push.ensures.items
    ∙ ap (λ k. c.loop-i.keys.items ++ k ∷ []) (c.key.ensures d)
    ∙ keys_more c.args.keys.now.items c.args.tally.now c.loop-i.i d c.loop-i.keys.items (omega (arith, c.loop-i-test.true, c.len-i-end.ensures)) c.loop-i.invariant
