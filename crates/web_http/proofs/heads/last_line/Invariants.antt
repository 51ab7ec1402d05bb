use Rattle.std.proofs.Common.{ℕ, ◌≤◌, length}
use Rattle.web_http.specs.Heads.{head_limit, EndsLine}
use Rattle.web_http.proofs.heads.last_line.Given as goal

abbrev pub invariant-loop-n : goal.invariant-loop-n
invariant-loop-n l = record {
  here : l.n ≤ length l.bytes;
  small : l.n ≤ head_limit;
  last : (k : ℕ) → EndsLine l.bytes k → k ≤ l.n;
}

abbrev pub decreases-loop-n : goal.decreases-loop-n
decreases-loop-n l = l.n
