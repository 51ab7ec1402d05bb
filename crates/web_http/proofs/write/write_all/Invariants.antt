use Rattle.std.proofs.Common.{◌≡◌, ◌≤◌, ◌-◌, length, take}
use Rattle.base_devices.specs.Reported.{Adds}
use Rattle.web_http.proofs.write.write_all.Given as goal

abbrev pub invariant-loop-at : goal.invariant-loop-at
invariant-loop-at g l = record {
  inside : l.at ≤ length l.bytes;
  taken : Adds (g.W.Drain.taken l.fn.writer) (take l.at l.bytes) (g.W.Drain.taken l.writer);
  well : g.W.Drain.failures l.writer ≡ g.W.Drain.failures l.fn.writer;
}

abbrev pub decreases-loop-at : goal.decreases-loop-at
decreases-loop-at g l = length l.bytes - l.at
