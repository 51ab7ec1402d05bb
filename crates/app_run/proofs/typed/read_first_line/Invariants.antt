use Rattle.std.proofs.Common.{◌≡◌, ◌+◌, ◌-◌, ◌≤◌, All, length, take}
use Rattle.base_devices.specs.Reported.{Gives}
use Rattle.app_run.proofs.typed.read_first_line.Given as goal

abbrev pub invariant-loop-len : goal.invariant-loop-len
invariant-loop-len g l = record {
  room : length l.line ≡ 256;
  fits : l.len ≤ 256;
  plain : All (λ b. ¬ (b ≡ 10)) (take l.len l.line);
  came : Gives (g.R.Source.left l.fn.reader) (take l.len l.line) (g.R.Source.left l.reader);
  well : g.R.Source.failures l.reader ≡ g.R.Source.failures l.fn.reader;
  calls : g.R.Source.calls l.reader ≡ g.R.Source.calls l.fn.reader + l.len;
}

abbrev pub decreases-loop-len : goal.decreases-loop-len
decreases-loop-len g l = 256 - l.len
