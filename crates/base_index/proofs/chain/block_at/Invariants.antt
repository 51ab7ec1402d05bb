use Rattle.std.proofs.Common.{◌+◌, ◌-◌, ◌<◌, ◌≤◌, get_or}
use Rattle.base_index.proofs.chain.block_at.Given as goal

abbrev pub invariant-halve : goal.invariant-halve
invariant-halve l = record {
  within : (l.low ≤ l.high) × (l.high ≤ l.last);
  from : 0 < l.low → get_or l.starts l.low 0 ≤ l.place;
  before : l.high < l.last → l.place < get_or l.starts (l.high + 1) 0;
}

abbrev pub decreases-halve : goal.decreases-halve
decreases-halve l = l.high - l.low
