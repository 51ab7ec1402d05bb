use Rattle.std.proofs.Common.{◌≡◌, [], replicate}
use Rattle.base_index.proofs.chain.empty_blocks.Given as goal

abbrev pub invariant-loop : goal.invariant-loop
invariant-loop l = l.blocks.items ≡ replicate l.counter []
