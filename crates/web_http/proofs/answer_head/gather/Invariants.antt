use Rattle.std.proofs.Common.{◌≡◌, take}
use Rattle.std.specs.List.{flat_map}
use Rattle.web_http.proofs.answer_head.gather.Given as goal

abbrev pub invariant-loop-piece : goal.invariant-loop-piece
invariant-loop-piece l = l.part.items ≡ flat_map (λ p. p.now) (take l.piece-index l.pieces)
