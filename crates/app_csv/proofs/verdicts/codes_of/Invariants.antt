use Rattle.std.proofs.Common.{◌≡◌, ◌++◌, drop}
use Rattle.app_csv.specs.VerdictLines.{codes_of}
use Rattle.app_csv.proofs.verdicts.codes_of.Given as goal

-- the codes so far, and those of the rows that are left
abbrev pub invariant-loop-new : goal.invariant-loop-new
invariant-loop-new l = (l.codes.items ++ codes_of (drop l.new-index l.vouchers) ≡ codes_of l.vouchers)
