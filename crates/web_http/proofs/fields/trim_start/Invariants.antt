use Rattle.std.proofs.Common.{◌≡◌, length}
use Rattle.httparse.specs.Grammar.{skip_ows}
use Rattle.web_http.proofs.fields.trim_start.Given as goal

abbrev pub invariant-loop-s : goal.invariant-loop-s
invariant-loop-s l = skip_ows l.s ≡ skip_ows l.fn.s

abbrev pub decreases-loop-s : goal.decreases-loop-s
decreases-loop-s l = length l.s
