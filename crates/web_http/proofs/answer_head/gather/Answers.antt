use Rattle.web_http.proofs.HeadTexts.{gathered}
use Rattle.web_http.proofs.answer_head.gather.Goals as goal

pub loop-piece-preserved : goal.loop-piece-preserved
loop-piece-preserved c =
    gathered _ (λ p. p.now) c.args.pieces.now c.loop-piece.piece-index _ _ _ c.loop-piece-test.true c.requires c.loop-piece.invariant c.try_extend_from_slice.ensures.variant.1 c.try_extend_from_slice.ensures.ok
