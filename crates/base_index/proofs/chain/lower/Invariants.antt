use Rattle.std.proofs.Common.{◌≡◌, ◌-◌, ◌++◌, length, map, take, drop}
use Rattle.base_index.proofs.chain.lower.Given as goal

abbrev pub invariant-loop-at : goal.invariant-loop-at
invariant-loop-at l = record {
  same : take l.at l.starts.items ++ map (λ s. s - 1) (drop l.at l.starts.items) ≡ take l.from l.initial.starts.items ++ map (λ s. s - 1) (drop l.from l.initial.starts.items);
  count : length l.starts.items ≡ length l.initial.starts.items;
}
